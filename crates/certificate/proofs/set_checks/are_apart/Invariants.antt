use Rattle.certificate.specs.ApartTestLemmas.{is_in_one}
use Rattle.certificate.specs.Limits.{are_apart}
use Rattle.std.proofs.Common.{take, true, ℕ, ◌≡◌}
use Rattle.std.specs.FinSet as set
use Rattle.certificate.proofs.set_checks.are_apart.Given as goal

abbrev pub invariant-loop-at : goal.invariant-loop-at
invariant-loop-at g l = record {
  same : (c : ℕ) → set.contains l.seen c ≡ is_in_one (λ p. p.1) (take l.at l.sets) c;
  apart : are_apart (λ p. p.1) (take l.at l.sets) ≡ true;
}
