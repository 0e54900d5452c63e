use Rattle.std.proofs.Common.{[], ap, arith, length, subst, ◌++◌, ◌+◌, ◌∙◌, ◌∷◌, ◌≡◌}
use Rattle.std.specs.FinSet as set
use Rattle.tagged_sets.proofs.Kept.{kept_more, of_one_set, one_set, tagged_more, wide_more}
use Rattle.tagged_sets.proofs.Sets.{set_again}
use Rattle.tagged_sets.specs.Tagged.{IsOfSet, MayKeep, set_of_ranges}
use Rattle.tagged_sets.proofs.tagged_sets.TaggedSets.push_from.Goals as goal

pub invariant_of-self-2 : goal.invariant_of-self-2
invariant_of-self-2 g c =
    let of : IsOfSet c.ranges-more.result.now = of_one_set c.ranges-more.result.now c.args.other.now c.args.at c.args.tag c.ranges-more.ensures.ranges c.ranges-more.ensures.in_range in
    let end : c.len.result + length c.ranges-more.result.now ≡ length c.self.inside.ranges.items + length c.ranges-more.result.now =
    omega (arith, c.len.ensures, c.reserve.new.self.ok.0, ap length c.reserve.ensures.items) in
    let place : c.len-place.result ≡ length c.self.inside.heads.items = c.len-place.ensures ∙ c.reserve-2.new.self.ok.0 ∙ ap length c.reserve-2.ensures.items in
    let same = one_set c.ranges-more.result.now c.args.other.now c.args.at c.args.tag c.ranges-more.ensures.ranges c.ranges-more.ensures.in_range in
    let may : MayKeep c.self.inside.wide.items c.keep_same.new.wide.items c.len-place.result (set_of_ranges c.ranges-more.result.now) =
    subst (MayKeep c.self.inside.wide.items c.keep_same.new.wide.items c.len-place.result) same (c.in_ok-keep_same.ensures.ok _ (c.wide.ensures (c.args.tag, set.empty))) in
    rw (c.in_ok-push.ensures.items, c.in_ok-extend_from_slice.ensures.items, c.reserve.ensures.items, c.reserve-2.ensures.items) (
      kept_more _ _ 0 _ _ c.self.invariant.0 end of,
      wide_more _ _ _ _ _ _ _ c.self.invariant.0 end c.self.invariant.1 place may,
    )

pub returns-clause-ok : goal.returns-clause-ok
returns-clause-ok g c = λ d.
    let end : c.len.result + length c.ranges-more.result.now ≡ length c.self.inside.ranges.items + length c.ranges-more.result.now =
    omega (arith, c.len.ensures, c.reserve.new.self.ok.0, ap length c.reserve.ensures.items) in
    rw (c.in_ok-push.ensures.items, c.in_ok-extend_from_slice.ensures.items, c.reserve.ensures.items, c.reserve-2.ensures.items)
    (tagged_more _ _ 0 _ _ c.self.invariant.0 end
    ∙ ap (λ sets. sets ++ (c.args.tag, set_of_ranges c.ranges-more.result.now) ∷ []) c.self.view_is
    ∙ ap (λ s. c.args.self.now ++ (c.args.tag, s) ∷ []) (ap set_of_ranges (c.ranges-more.ensures.ranges d) ∙ set_again _ (c.ranges-more.ensures.in_range d)))
