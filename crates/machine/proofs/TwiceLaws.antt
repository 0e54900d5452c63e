-- The least CPU that two sets share.
use Rattle.std.proofs.Common.{◌≡◌, ℕ, Option, ap}
use Rattle.std.specs.Prelude.{option_map}
use Rattle.std.specs.FinSet as set
use Rattle.cpu_set.specs.Ids.{Ids, IsDisjoint, NoneFrom}
use Rattle.cpu_set.specs.LeastLaws.{IsFirstOf, least-both}
use Rattle.cpu_set.specs.SetLaws.{empty_of_none, meet_empty-IsDisjoint}
use Rattle.machine.specs.declared.fault.MachineFault.TheVariants.{CpuTwice}
use Rattle.machine.specs.NodesFault.{twice_fault}

-- it is the first of what they share
pub twice_fault-first :
    (earlier cpus : Ids) (first : Option ℕ) → IsFirstOf (set.intersection cpus earlier) first
    → twice_fault earlier cpus ≡ option_map CpuTwice first
unfolding twice_fault
twice_fault-first earlier cpus first is = ap (option_map CpuTwice) (least-both cpus earlier first is)

pub apart_of_none : (earlier cpus : Ids) → NoneFrom (set.intersection cpus earlier) 0 → IsDisjoint earlier cpus
apart_of_none earlier cpus none = λ n in_earlier in_cpus.
    meet_empty-IsDisjoint cpus earlier (empty_of_none _ none) n in_cpus in_earlier
