use Rattle.std.proofs.Common.{◌≡◌, ◌++◌, drop}
use Rattle.std.specs.Prelude.{map}
use Rattle.apply_plan.specs.Targets.{ArePlaced}
use Rattle.apply_plan.specs.DueWrite.{held}
use Rattle.node.proofs.opening.requests_of.Given as goal

-- what was read so far and what the entries that are left request are what all request
abbrev pub invariant-loop-entry : goal.invariant-loop-entry
invariant-loop-entry g l =
    let k = g.K.Kernel.state l.kernel in
    record {
      requests : l.requests.items ++ map (held k) (drop l.entry-index l.entries) ≡ map (held k) l.entries;
      placed : ArePlaced k (drop l.entry-index l.entries);
    }
