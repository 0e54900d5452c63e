use Rattle.std.specs.Prelude.{◌≡◌, ◌≢◌, ◌≤◌, true, AllPairs}
use Rattle.std.specs.FinSet as set
use Rattle.cpu_set.specs.Ids.{IsDisjoint}
use Rattle.machine.specs.declared.TheConstants.{NODE_LIMIT}
use Rattle.machine.specs.Cores.{AreCores}
use Rattle.machine.specs.Distances.{AreEntries}
use Rattle.machine.specs.Layout.{Layout, node_count}
use Rattle.machine.specs.Present.{present}

-- What holds of each machine that is read: 1 to 128 nodes, no CPU in two, allowed distances, and cores (`AreCores`). Some
-- CPUs are reserved, and these are online at boot. Online CPUs are present.
pub record IsSound (m : Layout) : Type 0 where
  pub some : 1 ≤ node_count m
  pub few : node_count m ≤ NODE_LIMIT
  pub apart : AllPairs IsDisjoint m.nodes
  pub distances : AreEntries (node_count m) m.distances
  pub reserved_some : m.reserved ≢ set.empty
  pub reserved_online : set.is_subset m.reserved m.online ≡ true
  pub online_present : set.is_subset m.online (present m) ≡ true
  pub cores : AreCores m
