use Rattle.std.proofs.Common.{cond, get_or, length, nat_le, nat_lt, ℕ, ◌&&◌, ◌+◌, ◌<◌, ◌≡◌, ◌≤◌}
use Rattle.certificate.proofs.amounts.note_range.Given as goal

abbrev pub invariant-loop-at : goal.invariant-loop-at
invariant-loop-at l = record {
  from : l.first ≤ l.at;
  some : l.first ≤ l.last + 1 → l.at ≤ l.last + 1;
  none : l.last + 1 ≤ l.first → l.at ≡ l.first;
  long : length l.amounts ≡ length l.fn.amounts;
  noted : (c d : ℕ) → c < length l.fn.amounts → get_or l.amounts c d ≡ cond (nat_le l.first c && nat_lt c l.at) l.amount (get_or l.fn.amounts c d);
}
