use Rattle.std.proofs.Common.{◌+◌, inl, inr, get_or, sym, arith}
use Rattle.std.proofs.lemmas.Bool.{cases_lt}
use Rattle.cpu_set.specs.LeastLaws.{least-none, least-some}
use Rattle.certificate.proofs.TooHigh.{range_passes, range_below, range_above, range_dear}
use Rattle.certificate.proofs.value_checks.first_in_range.Goals as goal

pub returns-then-amounts-cpu : goal.returns-then-amounts-cpu
returns-then-amounts-cpu c = sym (least-some _ c.loop-cpu.cpu (record {
  is_cpu = omega (arith, c.loop-cpu-test.true, c.requires.below);
  passes = range_passes c.args.first c.loop-cpu.cpu c.args.last (get_or c.args.amounts.now c.loop-cpu.cpu 0) c.args.amount c.loop-cpu.invariant.0 (omega (arith, c.loop-cpu-test.true)) c.if-amounts-cpu.true;
  least = λ k lt. elim (cases_lt k c.args.first) [
    | inl low ↦ range_below c.args.first k c.args.last (get_or c.args.amounts.now k 0) c.args.amount low
    | inr from ↦ range_dear c.args.first k c.args.last (get_or c.args.amounts.now k 0) c.args.amount (c.loop-cpu.invariant.1 k from lt)
  ];
}))

pub returns : goal.returns
returns c = sym (least-none _ (λ q is_cpu. elim (cases_lt q c.args.first) [
  | inl low ↦ range_below c.args.first q c.args.last (get_or c.args.amounts.now q 0) c.args.amount low
  | inr from ↦ elim (cases_lt q (c.args.last + 1)) [
    | inl lt ↦ range_dear c.args.first q c.args.last (get_or c.args.amounts.now q 0) c.args.amount (c.loop-cpu.invariant.1 q from (omega (arith, lt, c.loop-cpu-test.false)))
    | inr high ↦ range_above c.args.first q c.args.last (get_or c.args.amounts.now q 0) c.args.amount (omega (arith, high))
  ]
]))
