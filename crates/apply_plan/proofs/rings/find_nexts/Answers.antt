use Rattle.std.proofs.Common.{length, sym, ◌∙◌, arith}
use Rattle.apply_plan.specs.FirstHolderLemmas.{firsts_of_pinned}
use Rattle.apply_plan.proofs.rings.find_nexts.Goals as goal

pub look_nexts_up-requires-clause-owners : goal.look_nexts_up-requires-clause-owners
look_nexts_up-requires-clause-owners g c =
    firsts_of_pinned (g.K.Kernel.state c.args.kernel.now) c.args.reserved.now c.args.entries.now (sym c.are_pinned.ensures ∙ c.if-are_pinned.true)
    (length c.args.entries.now) _ _ (omega arith) c.note_holders-held.ensures.firsts
