use Rattle.std.proofs.Common.{◌≡◌, ℕ, true, false}
use Rattle.std.specs.FinSet as set
use Rattle.transport.specs.Weights.{weights}
use Rattle.transport.specs.Blocks.{ArePassed, HasLabelledBlock}
use Rattle.transport.proofs.search.label_block.Given as goal

abbrev pub invariant-loop-cpu : goal.invariant-loop-cpu
invariant-loop-cpu l = record {
  labelled : HasLabelledBlock (weights l.instance) l.assignment l.scan.row l.initial.tree l.tree l.instance.firsts l.block l.left;
  within : (cpu : ℕ) → set.contains l.left cpu ≡ true → (set.contains l.block.firsts cpu ≡ true) × (set.contains l.initial.passed cpu ≡ false);
  passed : ArePassed (weights l.instance) l.assignment l.tree l.instance.firsts l.passed;
}

abbrev pub decreases-loop-cpu : goal.decreases-loop-cpu
decreases-loop-cpu l = set.len l.left
