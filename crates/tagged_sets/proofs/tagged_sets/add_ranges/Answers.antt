use Rattle.cpu_set.specs.SetRangeLaws.{one_fewer, ranges_first}
use Rattle.std.proofs.Common.{ap, arith, is_ok, rules, true, ◌++◌, ◌≡◌}
use Rattle.std.proofs.lemmas.List.{take_all}
use Rattle.tagged_sets.proofs.Left.{added_more, left_from, left_less, still_there}
use Rattle.tagged_sets.specs.Tagged.{ranges_of_set}
use Rattle.tagged_sets.proofs.tagged_sets.add_ranges.Goals as goal

pub loop-next-init : goal.loop-next-init
unfolding ranges_of_set
loop-next-init c = (
  left_from _ _ 0 _ c.complement-absent.ensures c.first-next.ensures.first c.first-next.ensures.in_range,
  ap (λ rs. c.args.ranges.now.items ++ rs) (ranges_first _ _ c.first-next.ensures.first c.first-next.ensures.in_range),
  take_all c.len-before.result c.args.ranges.now.items (omega (arith, c.len-before.ensures, c.args.ranges.now.ok.0)),
)

pub loop-next-smaller : goal.loop-next-smaller
loop-next-smaller c =
    one_fewer _ _ _
    (left_less _ _ _ _ _ _ _ c.loop-next.invariant.0 c.in-Some.is c.next_after.ensures.first c.next_after.ensures.in_range c.unwrap_or.ensures c.next_after-next.ensures.first c.next_after-next.ensures.in_range)

pub loop-next-preserved : goal.loop-next-preserved
loop-next-preserved c =
    let ok : is_ok c.push.result ≡ true = search rules in (
      left_from _ _ _ _ c.loop-next.invariant.0.lacks c.next_after-next.ensures.first c.next_after-next.ensures.in_range,
      rw (c.push.ensures.items, ok)
          (added_more _ _ _ _ _ c.loop-next.invariant.1
          (left_less _ _ _ _ _ _ _ c.loop-next.invariant.0 c.in-Some.is c.next_after.ensures.first c.next_after.ensures.in_range c.unwrap_or.ensures c.next_after-next.ensures.first c.next_after-next.ensures.in_range)),
      rw (c.push.ensures.items, ok) (still_there _ _ _ _ c.loop-next.invariant.2 (omega (arith, c.len-before.ensures, c.args.ranges.now.ok.0))),
    )
