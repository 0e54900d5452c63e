use Rattle.std.proofs.Common.{[], ap, length, length-append, subst, sym, ◌++◌, ◌+◌, ◌∙◌, ◌∷◌, ◌≡◌}
use Rattle.std.specs.FinSet as set
use Rattle.tagged_sets.proofs.Kept.{if_some, kept_more, of_one_set, one_set, tagged_more, wide_more}
use Rattle.tagged_sets.proofs.Pieces.{difference_in_range}
use Rattle.tagged_sets.proofs.Sets.{are_of_set, set_again}
use Rattle.tagged_sets.specs.Tagged.{MayKeep, ranges_of_set, set_of_ranges}
use Rattle.tagged_sets.proofs.tagged_sets.TaggedSets.push_without.Goals as goal

pub add_left-requires : goal.add_left-requires
add_left-requires g c =
    record {
      of_set = of_one_set c.ranges-others.result.now c.args.other.now c.args.at c.args.tag c.ranges-others.ensures.ranges c.ranges-others.ensures.in_range;
      kept = if_some c.wide-kept.result _ _
          (λ s e. e
          ∙ one_set c.ranges-others.result.now c.args.other.now c.args.at c.args.tag c.ranges-others.ensures.ranges c.ranges-others.ensures.in_range)
          (c.wide-kept.ensures (c.args.tag, set.empty));
    }

pub invariant_of-self-2 : goal.invariant_of-self-2
invariant_of-self-2 g c =
    let rest = set.difference (set_of_ranges c.ranges-others.result.now) c.args.without.now in
    let low = difference_in_range c.ranges-others.result.now c.args.without.now in
    let end : c.len.result ≡ length c.self.inside.ranges.items + length (ranges_of_set rest) =
    c.len.ensures ∙ c.add_left.new.ranges.ok.0 ∙ ap length c.in_ok-add_left.ensures.ok ∙ length-append c.self.inside.ranges.items (ranges_of_set rest) in
    let place : c.len-place.result ≡ length c.self.inside.heads.items = c.len-place.ensures ∙ c.reserve.new.self.ok.0 ∙ ap length c.reserve.ensures.items in
    let may : MayKeep c.self.inside.wide.items c.add_left.new.wide.items c.len-place.result (set_of_ranges (ranges_of_set rest)) =
    subst (MayKeep c.self.inside.wide.items c.add_left.new.wide.items c.len-place.result) (sym (set_again rest low)) c.in_ok-add_left.ensures.kept in
    rw (c.in_ok-push.ensures.items, c.in_ok-add_left.ensures.ok, c.reserve.ensures.items) (
      kept_more _ _ 0 _ _ c.self.invariant.0 end (are_of_set rest low),
      wide_more _ _ _ _ _ _ _ c.self.invariant.0 end c.self.invariant.1 place may,
    )

pub returns-clause-ok : goal.returns-clause-ok
returns-clause-ok g c = λ d.
    let rest = set.difference (set_of_ranges c.ranges-others.result.now) c.args.without.now in
    let end : c.len.result ≡ length c.self.inside.ranges.items + length (ranges_of_set rest) =
    c.len.ensures ∙ c.add_left.new.ranges.ok.0 ∙ ap length c.in_ok-add_left.ensures.ok ∙ length-append c.self.inside.ranges.items (ranges_of_set rest) in
    rw (c.in_ok-push.ensures.items, c.in_ok-add_left.ensures.ok, c.reserve.ensures.items)
    (tagged_more _ _ 0 _ _ c.self.invariant.0 end
    ∙ ap (λ sets. sets ++ (c.args.tag, set_of_ranges (ranges_of_set rest)) ∷ []) c.self.view_is
    ∙ ap (λ s. c.args.self.now ++ (c.args.tag, s) ∷ [])
    (set_again rest (difference_in_range c.ranges-others.result.now c.args.without.now)
    ∙ ap (λ s. set.difference s c.args.without.now) (ap set_of_ranges (c.ranges-others.ensures.ranges d) ∙ set_again _ (c.ranges-others.ensures.in_range d))))
