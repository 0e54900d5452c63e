-- What a direct hand-over keeps of each container while it is on its way.
use Rattle.std.specs.Prelude.{◌≡◌, Bool, find, Some}
use Rattle.std.specs.List.{AllByRecursion}
use Rattle.cpu_set.specs.Ids.{Ids}
use Rattle.kernel_model.specs.KernelState.{KernelState}
use Rattle.apply_plan.specs.declared.entry.Entry.{Entry}
use Rattle.apply_plan.specs.declared.scan.Write.{Write}
use Rattle.apply_plan.specs.DueWrite.{held}
use Rattle.apply_plan.specs.MayWrite.{OnWay, MayWrite, write_of}
use Rattle.apply_plan.specs.Directed.{Directed, allowed_of}

-- each container requests none but what it did at first, its target, reserved CPUs and those that it is allowed, and all of its
-- target that it did at first
abbrev pub AreOnWay : Directed → KernelState → KernelState → Type 0
AreOnWay d first k = AllByRecursion (λ e. OnWay d.targets.reserved (allowed_of d e) first e (held k e)) d.targets.entries

-- a write of the direct order: it is one of an entry's that may be made, and by which the container is on its way
pub record Makes (d : Directed) (k : KernelState) (w : Write) : Type 0 where
  pub test : Entry → Bool
  pub e : Entry
  pub cpus : Ids
  pub found : find test d.targets.entries ≡ Some e
  pub is : w ≡ write_of e cpus
  pub may : MayWrite d.targets k e cpus
  pub on_way : OnWay d.targets.reserved (allowed_of d e) k e cpus
