use Rattle.std.proofs.Common.{[], ap, arith, length, ◌++◌, ◌+◌, ◌∙◌, ◌∷◌, ◌≡◌}
use Rattle.tagged_sets.proofs.Kept.{kept_more, tagged_more, wide_more}
use Rattle.tagged_sets.specs.Tagged.{set_of_ranges}
use Rattle.tagged_sets.proofs.tagged_sets.TaggedSets.push_ranges.Goals as goal

pub invariant_of-self-2 : goal.invariant_of-self-2
invariant_of-self-2 g c =
    let end : c.len.result + length c.args.ranges.now ≡ length c.self.inside.ranges.items + length c.args.ranges.now =
    omega (arith, c.len.ensures, c.reserve.new.self.ok.0, ap length c.reserve.ensures.items) in
    let place : c.len-place.result ≡ length c.self.inside.heads.items = c.len-place.ensures ∙ c.reserve-2.new.self.ok.0 ∙ ap length c.reserve-2.ensures.items in
    rw (c.in_ok-push.ensures.items, c.in_ok-extend_from_slice.ensures.items, c.reserve.ensures.items, c.reserve-2.ensures.items) (
      kept_more _ _ 0 _ _ c.self.invariant.0 end c.requires,
      wide_more _ _ _ _ _ _ _ c.self.invariant.0 end c.self.invariant.1 place c.in_ok-keep_made.ensures.ok,
    )

pub returns-clause-ok : goal.returns-clause-ok
returns-clause-ok g c =
    let end : c.len.result + length c.args.ranges.now ≡ length c.self.inside.ranges.items + length c.args.ranges.now =
    omega (arith, c.len.ensures, c.reserve.new.self.ok.0, ap length c.reserve.ensures.items) in
    rw (c.in_ok-push.ensures.items, c.in_ok-extend_from_slice.ensures.items, c.reserve.ensures.items, c.reserve-2.ensures.items)
    (tagged_more _ _ 0 _ _ c.self.invariant.0 end
    ∙ ap (λ sets. sets ++ (c.args.tag, set_of_ranges c.args.ranges.now) ∷ []) c.self.view_is)
