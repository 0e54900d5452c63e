use Rattle.cpu_set.specs.Members.{InRange}
use Rattle.cpu_set.specs.Ranges.{in_ranges}
use Rattle.std.proofs.Common.{ap, arith, get_or, length, subst, sym, ◌<◌, ◌∙◌}
use Rattle.std.specs.Prelude.{All, slice_range}
use Rattle.tagged_sets.proofs.Kept.{IsKept, kept_from, length-tagged, set_at}
use Rattle.tagged_sets.proofs.Sets.{IsBelow, below_if_of_set, in_range-ranges}
use Rattle.tagged_sets.specs.RangeSetLaws.{in_of_set}
use Rattle.tagged_sets.specs.Tagged.{ranges_of_set}
use Rattle.std.specs.FinSet as set
use Rattle.tagged_sets.proofs.tagged_sets.TaggedSets.ranges.Goals as goal

pub start_of-start-requires : goal.start_of-start-requires
start_of-start-requires g c =
    omega (arith, c.self.inside.heads.ok.0, c.as_slice.ensures.len, length-tagged c.self.inside.ranges.items 0 c.self.inside.heads.items, ap length c.self.view_is)

pub index-requires : goal.index-requires
index-requires g c =
    omega (arith, c.self.inside.heads.ok.0, length-tagged c.self.inside.ranges.items 0 c.self.inside.heads.items, ap length c.self.view_is)

pub part_of-requires : goal.part_of-requires
part_of-requires g c =
    let kept : IsKept c.self.inside.ranges.items c.start_of-start.result c.index.result.now.end =
    kept_from c.self.inside.ranges.items c.self.inside.heads.items c.args.at c.start_of-start.result c.index.result.now c.self.invariant.0
    (omega (arith, length-tagged c.self.inside.ranges.items 0 c.self.inside.heads.items, ap length c.self.view_is))
    (rw c.as_slice.ensures.value at c.start_of-start.ensures) c.index.ensures in
    record { rising = kept.rising; within = omega (arith, kept.within, ap length c.as_slice-2.ensures.value) }

pub returns : goal.returns
returns g c =
    let lt : c.args.at < length c.self.inside.heads.items =
    omega (arith, length-tagged c.self.inside.ranges.items 0 c.self.inside.heads.items, ap length c.self.view_is) in
    let start = rw c.as_slice.ensures.value at c.start_of-start.ensures in
    let kept : IsKept c.self.inside.ranges.items c.start_of-start.result c.index.result.now.end =
    kept_from c.self.inside.ranges.items c.self.inside.heads.items c.args.at c.start_of-start.result c.index.result.now c.self.invariant.0 lt start c.index.ensures in
    record {
      ranges = λ d.
          rw (c.part_of.ensures, c.as_slice-2.ensures.value)
          (sym kept.of_set ∙ ap ranges_of_set (set_at c.self.inside.ranges.items c.self.inside.heads.items c.args.at c.start_of-start.result d c.index.result.now lt start c.index.ensures)
          ∙ ap (λ sets. ranges_of_set (get_or sets c.args.at d).1) c.self.view_is);
      members = λ d q.
          ap (λ rs. in_ranges rs q) (c.part_of.ensures ∙ ap (λ rs. slice_range rs c.start_of-start.result c.index.result.now.end) c.as_slice-2.ensures.value)
          ∙ sym (in_of_set _ kept.of_set q)
          ∙ ap (λ s. set.contains s q) (set_at c.self.inside.ranges.items c.self.inside.heads.items c.args.at c.start_of-start.result d c.index.result.now lt start c.index.ensures
          ∙ ap (λ sets. (get_or sets c.args.at d).1) c.self.view_is);
      in_range = λ d.
          subst InRange (set_at c.self.inside.ranges.items c.self.inside.heads.items c.args.at c.start_of-start.result d c.index.result.now lt start c.index.ensures
          ∙ ap (λ sets. (get_or sets c.args.at d).1) c.self.view_is)
          (in_range-ranges _);
      below = subst (All IsBelow) (sym (c.part_of.ensures ∙ ap (λ rs. slice_range rs c.start_of-start.result c.index.result.now.end) c.as_slice-2.ensures.value)) (below_if_of_set _ kept.of_set);
    }
