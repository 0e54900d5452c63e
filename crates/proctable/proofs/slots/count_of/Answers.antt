use Rattle.std.proofs.Common.{◌≡◌, not, ◌&&◌, ◌∙◌, rules}
use Rattle.std.specs.Prelude.{count_by}
use Rattle.cpuset_tree.specs.Groups.{same_group}
use Rattle.proctable.proofs.PlaceLemmas.{count_live}
use Rattle.proctable.proofs.slots.count_of.Goals as goal

pub returns : goal.returns
returns c =
    let counted : c.count.result ≡ count_by (λ s. not s.ended && same_group s.process.group c.args.group) c.args.slots.now = search rules in
    counted ∙ count_live (λ p. same_group p.group c.args.group) c.args.slots.now
