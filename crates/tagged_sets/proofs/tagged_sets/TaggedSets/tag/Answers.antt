use Rattle.std.proofs.Common.{ap, arith, get_or, length, sym, ◌∙◌}
use Rattle.tagged_sets.proofs.Kept.{length-tagged, tagged_at}
use Rattle.tagged_sets.proofs.tagged_sets.TaggedSets.tag.Goals as goal

pub index-requires : goal.index-requires
index-requires g c =
    omega (arith, c.self.inside.heads.ok.0, length-tagged c.self.inside.ranges.items 0 c.self.inside.heads.items, ap length c.self.view_is)

pub returns : goal.returns
returns g c d =
    ap (λ h. h.tag) c.index.ensures
    ∙ sym (ap (λ p. p.0) (tagged_at c.self.inside.ranges.items 0 c.self.inside.heads.items c.args.at d c.index.result.now (omega (arith, length-tagged c.self.inside.ranges.items 0 c.self.inside.heads.items, ap length c.self.view_is))))
    ∙ ap (λ sets. (get_or sets c.args.at d).0) c.self.view_is
