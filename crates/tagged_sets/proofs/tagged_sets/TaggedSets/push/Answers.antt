use Rattle.std.proofs.Common.{[], ap, length, length-append, subst, sym, ◌++◌, ◌+◌, ◌∙◌, ◌∷◌, ◌≡◌}
use Rattle.tagged_sets.proofs.Kept.{kept_more, tagged_more, wide_more}
use Rattle.tagged_sets.proofs.Sets.{are_of_set, set_again}
use Rattle.tagged_sets.specs.Tagged.{MayKeep, ranges_of_set, set_of_ranges}
use Rattle.tagged_sets.proofs.tagged_sets.TaggedSets.push.Goals as goal

pub invariant_of-self-2 : goal.invariant_of-self-2
invariant_of-self-2 g c =
    let end : c.len-end.result ≡ length c.self.inside.ranges.items + length (ranges_of_set c.args.cpus.now) =
    c.len-end.ensures ∙ c.add_set.new.ranges.ok.0 ∙ ap length c.in_ok-add_set.ensures.ok ∙ length-append c.self.inside.ranges.items (ranges_of_set c.args.cpus.now) in
    let place : c.len-place.result ≡ length c.self.inside.heads.items = c.len-place.ensures ∙ c.reserve.new.self.ok.0 ∙ ap length c.reserve.ensures.items in
    let may : MayKeep c.self.inside.wide.items c.add_set.new.wide.items c.len-place.result (set_of_ranges (ranges_of_set c.args.cpus.now)) =
    subst (MayKeep c.self.inside.wide.items c.add_set.new.wide.items c.len-place.result) (sym (set_again c.args.cpus.now c.add_set.ensures.in_range)) c.in_ok-add_set.ensures.kept in
    rw (c.in_ok-push.ensures.items, c.in_ok-add_set.ensures.ok, c.reserve.ensures.items) (
      kept_more _ _ 0 _ _ c.self.invariant.0 end (are_of_set c.args.cpus.now c.add_set.ensures.in_range),
      wide_more _ _ _ _ _ _ _ c.self.invariant.0 end c.self.invariant.1 place may,
    )

pub returns-clause-ok : goal.returns-clause-ok
returns-clause-ok g c =
    let end : c.len-end.result ≡ length c.self.inside.ranges.items + length (ranges_of_set c.args.cpus.now) =
    c.len-end.ensures ∙ c.add_set.new.ranges.ok.0 ∙ ap length c.in_ok-add_set.ensures.ok ∙ length-append c.self.inside.ranges.items (ranges_of_set c.args.cpus.now) in
    rw (c.in_ok-push.ensures.items, c.in_ok-add_set.ensures.ok, c.reserve.ensures.items)
    (tagged_more _ _ 0 _ _ c.self.invariant.0 end
    ∙ ap (λ sets. sets ++ (c.args.tag, set_of_ranges (ranges_of_set c.args.cpus.now)) ∷ []) c.self.view_is
    ∙ ap (λ s. c.args.self.now ++ (c.args.tag, s) ∷ []) (set_again c.args.cpus.now c.add_set.ensures.in_range))
