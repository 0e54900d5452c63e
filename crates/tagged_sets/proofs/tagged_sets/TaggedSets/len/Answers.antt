use Rattle.std.proofs.Common.{ap, length, sym, ◌∙◌}
use Rattle.tagged_sets.proofs.Kept.{length-tagged}
use Rattle.tagged_sets.proofs.tagged_sets.TaggedSets.len.Goals as goal

pub returns : goal.returns
returns g c =
    c.len.ensures ∙ c.self.inside.heads.ok.0 ∙ sym (length-tagged c.self.inside.ranges.items 0 c.self.inside.heads.items) ∙ ap length c.self.view_is
