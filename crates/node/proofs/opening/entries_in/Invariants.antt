use Rattle.std.proofs.Common.{◌≡◌, ◌++◌}
use Rattle.std.specs.Slice.Iter.{iter_rest}
use Rattle.node.specs.Entries.{entries_in}
use Rattle.node.specs.Viewed.{all_seen}
use Rattle.node.proofs.opening.entries_in.Given as goal

-- the entries so far and those of the containers that are left are those of all
abbrev pub invariant-loop-container : goal.invariant-loop-container
invariant-loop-container g l =
    let k = g.K.Kernel.state l.kernel in
    l.entries.items ++ entries_in k l.pool (all_seen l.container-iterator) (iter_rest l.sets) ≡ entries_in k l.pool (all_seen l.containers.entries) l.fn.sets
