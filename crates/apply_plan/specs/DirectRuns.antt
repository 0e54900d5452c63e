-- What may happen while a direct hand-over is open, one event after another.
use Rattle.std.specs.Prelude.{◌≡◌, ℕ, ◌+◌, ◌-◌, ◌≤◌, List, [], ◌∷◌, Some, Result}
use Rattle.std.specs.List.{AllByRecursion}
use Rattle.faults.specs.declared.OrMemory.{OrMemory}
use Rattle.kernel_model.specs.declared.KernelFault.{KernelFault}
use Rattle.kernel_model.specs.declared.Call.{Call}
use Rattle.kernel_model.specs.declared.Reply.{Reply}
use Rattle.kernel_model.specs.KernelState.{KernelState, writes}
use Rattle.kernel_model.specs.Cases.{rise}
use Rattle.kernel_model.specs.Runs.{Step}
use Rattle.apply_plan.specs.declared.handover.Progress.{Progress}
use Rattle.apply_plan.specs.declared.scan.Write.{Write}
use Rattle.apply_plan.specs.Holders.{IsSafe}
use Rattle.apply_plan.specs.Targets.{holders_of}
use Rattle.apply_plan.specs.DueWrite.{written, missed}
use Rattle.apply_plan.specs.Runs.{IsOpen, LeavesEntries}
use Rattle.apply_plan.specs.MayWrite.{left_directly}
use Rattle.apply_plan.specs.Directed.{Directed, Least, Serves}
use Rattle.apply_plan.specs.OnWay.{AreOnWay, Makes}
use Rattle.apply_plan.specs.DirectWrite.{StepsDirectly}

-- a step of the hand-over with its answer; a write that may be made, whichever it is; one that fails, whichever it is; or a call of somebody else
-- with its reply
pub data DirectEvent : Type 0 where
  Stepped : Result Progress KernelFault → DirectEvent
  Made : Write → DirectEvent
  Missed : Write → DirectEvent
  Called : Call → Result Reply (OrMemory KernelFault) → DirectEvent

-- what an event leaves of the kernel
abbrev pub HappensDirectly : Directed → Least → KernelState → DirectEvent → KernelState → Type 0
HappensDirectly d least old (Stepped r) new = StepsDirectly d least old r new
HappensDirectly d least old (Made w) new = Makes d old w × (new ≡ written old (Some w))
HappensDirectly d least old (Missed w) new = new ≡ missed (Some w) old
HappensDirectly d least old (Called call r) new = LeavesEntries d.targets.entries call × Step old call r new

-- events, each with the kernel after it
abbrev pub AllHappenDirectly : Directed → Least → KernelState → List (DirectEvent × KernelState) → Type 0
AllHappenDirectly d least k [] = Unit {0}
AllHappenDirectly d least k (x ∷ later) = HappensDirectly d least k x.0 x.1 × AllHappenDirectly d least x.1 later

-- how many writing calls the hand-over made in an event, as the kernel counts them, beside one that failed
abbrev pub direct_writes_of : KernelState → DirectEvent → KernelState → ℕ
direct_writes_of k (Stepped r) next = writes next - writes k - rise r
direct_writes_of k (Made w) next = 1
direct_writes_of k (Missed w) next = 0
direct_writes_of k (Called call r) next = 0

-- how many writes of the hand-over succeed
abbrev pub direct_writes_in : KernelState → List (DirectEvent × KernelState) → ℕ
direct_writes_in k [] = 0
direct_writes_in k (x ∷ later) = direct_writes_of k x.0 x.1 + direct_writes_in x.1 later

-- and the kernel after the last event
abbrev pub last_directly : KernelState → List (DirectEvent × KernelState) → KernelState
last_directly k [] = k
last_directly k (x ∷ later) = last_directly x.1 later

-- whatever happens, what was safe stays safe, after each single event
abbrev pub StaysSafeDirectly : Type 0
StaysSafeDirectly =
    (d : Directed) (least : Least) (k : KernelState) (run : List (DirectEvent × KernelState)) → Serves d least → IsOpen d.targets k
    → IsSafe k d.targets.reserved (holders_of d.targets.entries) → AllHappenDirectly d least k run
    → AllByRecursion (λ x. IsSafe x.1 d.targets.reserved (holders_of d.targets.entries)) run

-- whatever happens, each container requests none but what it did at first, its target, reserved CPUs and those that it is
-- allowed, and keeps all of its target that it did
abbrev pub StaysOnWay : Type 0
StaysOnWay =
    (d : Directed) (least : Least) (k : KernelState) (run : List (DirectEvent × KernelState)) → Serves d least → IsOpen d.targets k
    → AllHappenDirectly d least k run → AllByRecursion (λ x. AreOnWay d k x.1) run

-- whatever happens between them, each write that succeeds leaves one less, and nothing leaves one more
abbrev pub EndsDirectly : Type 0
EndsDirectly =
    (d : Directed) (least : Least) (k : KernelState) (run : List (DirectEvent × KernelState)) → Serves d least → IsOpen d.targets k
    → AllHappenDirectly d least k run → direct_writes_in k run + left_directly d.targets (last_directly k run) ≤ left_directly d.targets k
