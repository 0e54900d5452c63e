use Rattle.std.proofs.Common.{◌≡◌, ◌++◌}
use Rattle.node.specs.Entries.{allowed_in}
use Rattle.node.specs.Viewed.{all_seen}
use Rattle.node.proofs.opening.allowed_in.Given as goal

-- the sets so far and those of the containers that are left are those of all
abbrev pub invariant-loop-container : goal.invariant-loop-container
invariant-loop-container g l =
    let k = g.K.Kernel.state l.kernel in
    l.sets.items ++ allowed_in k (all_seen l.container-iterator) ≡ allowed_in k (all_seen l.containers.entries)
