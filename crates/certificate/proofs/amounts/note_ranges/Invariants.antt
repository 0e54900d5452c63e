use Rattle.cpu_set.specs.Ranges.{in_ranges}
use Rattle.std.proofs.Common.{cond, get_or, length, take, ℕ, ◌<◌, ◌≡◌}
use Rattle.certificate.proofs.amounts.note_ranges.Given as goal

abbrev pub invariant-loop-range : goal.invariant-loop-range
invariant-loop-range l = record {
  long : length l.amounts ≡ length l.fn.amounts;
  noted : (c d : ℕ) → c < length l.fn.amounts → get_or l.amounts c d ≡ cond (in_ranges (take l.range-index l.ranges) c) l.amount (get_or l.fn.amounts c d);
}
