use Rattle.certificate.specs.Weight.{weight_in}
use Rattle.cpu_set.specs.Members.{IsCpu}
use Rattle.std.proofs.Common.{false, take, true, ℕ, ◌+◌, ◌≡◌}
use Rattle.std.specs.FinSet as set
use Rattle.twins.proofs.edges.add_edges.Given as goal

abbrev pub invariant-loop-at : goal.invariant-loop-at
invariant-loop-at l = record {
  kept : (cpu : ℕ) → set.contains l.fn.edges cpu ≡ true → set.contains l.edges cpu ≡ true;
  told : (cpu : ℕ) → IsCpu (cpu + 1) → set.contains l.edges (cpu + 1) ≡ false
      → weight_in (take l.at l.offers) cpu ≡ weight_in (take l.at l.offers) (cpu + 1);
}
