use Rattle.std.proofs.Common.{refl, ap, ◌∙◌}
use Rattle.std.specs.FinSet as set
use Rattle.node.proofs.AskingLemmas.{all_there}
use Rattle.node.proofs.FreeLemmas.{none_taken_by, first_taken_by}
use Rattle.node.proofs.node.Node.first_taken.Goals as goal

pub returns-then-is_empty : goal.returns-then-is_empty
returns-then-is_empty g c =
    none_taken_by _ _ c.self.view_is c.args.pinned c.args.cpus.now c.reserved.result c.reserved.ensures.reserved c.reserved.ensures.present c.minus-others.result c.minus-others.ensures
    (c.if-is_empty.ensures.0 refl)

pub kept_in-kept-requires : goal.kept_in-kept-requires
kept_in-kept-requires g c = all_there _ c.self.invariant.node

pub returns : goal.returns
returns g c =
    first_taken_by _ _ c.self.view_is c.args.pinned c.args.cpus.now c.reserved.result c.reserved.ensures.reserved c.reserved.ensures.present c.minus-others.result c.minus-others.ensures
    c.kept_in-kept.result (λ cpu there. c.kept_in-kept.ensures cpu (ap (λ s. set.contains s cpu) c.of-asked.ensures ∙ there)) c.present.result c.present.ensures.union c.minus-free.result c.minus-free.ensures c.minus.result c.minus.ensures c.first.result c.first.ensures.first
