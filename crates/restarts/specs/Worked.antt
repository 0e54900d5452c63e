-- Small rows of what a run leaves and of two runs, which the definitions answer.
use Rattle.std.specs.Prelude.{ℕ, true, false, List, [], ◌∷◌, codes}
use Rattle.cgroup_tree.specs.Asked.{Asked, Locked, Written, done}
use Rattle.restarts.specs.Locks.{Timed}

-- a folder
abbrev pub folder : List ℕ
folder = codes "/sys/fs/cgroup/pinned"

-- its lock, which was had
abbrev pub lock : Asked
lock = done (Locked folder)

-- a write below it
abbrev pub write : Asked
write = done (Written (codes "/sys/fs/cgroup/pinned/numarun/web/cpuset.cpus") (codes "1-3\n"))

-- one run behind the other
abbrev pub in_turn : List Timed
in_turn = (true, lock) ∷ (true, write) ∷ (false, lock) ∷ (false, write) ∷ []
