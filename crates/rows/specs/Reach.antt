-- CPUs that can be reached. No public clause cites this module.
use Rattle.std.specs.Prelude.{◌≡◌, ℕ, ◌<◌, true}
use Rattle.std.specs.FinSet as set
use Rattle.cpu_set.specs.Ids.{Ids}
use Rattle.machine.specs.Layout.{Layout}
use Rattle.machine.specs.Present.{IsPresent}
use Rattle.machine.specs.Weight.{weight}

-- each is present, and has a way to a home
abbrev pub AreInReach : Layout → Ids → Ids → Type 0
AreInReach m homes cpus = (c : ℕ) → set.contains cpus c ≡ true → IsPresent m c × (weight m homes c < 255)
