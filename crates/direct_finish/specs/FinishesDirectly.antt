-- All writes of a direct hand-over, one after another.
use Rattle.std.specs.Prelude.{◌≡◌, ◌⊎◌, Bool, true, List, [], ◌∷◌, ◌++◌, find, Some, is_none, Result, Ok, Err}
use Rattle.kernel_model.specs.declared.KernelFault.{KernelFault}
use Rattle.kernel_model.specs.declared.KernelFault.TheVariants.{Failed}
use Rattle.kernel_model.specs.KernelState.{KernelState}
use Rattle.apply_plan.specs.declared.Entry.{Entry}
use Rattle.apply_plan.specs.declared.scan.Write.{Write}
use Rattle.apply_plan.specs.Targets.{Targets}
use Rattle.apply_plan.specs.DueWrite.{must_move, written, missed}
use Rattle.apply_plan.specs.DirectWords.{may_take}
use Rattle.apply_plan.specs.MayWrite.{write_of}
use Rattle.apply_plan.specs.Directed.{Directed, Least}
use Rattle.apply_plan.specs.DirectWrite.{due_directly}
use Rattle.apply_plan.specs.Squeezes.{SqueezesOnlyStuck}

-- an entry that must move takes its target, of which no rival holds any
pub record TakesFree (h : Targets) (k : KernelState) (w : Write) : Type 0 where
  pub test : Entry → Bool
  pub e : Entry
  pub found : find test h.entries ≡ Some e
  pub is : w ≡ write_of e e.target
  pub may : may_take k h.reserved h.entries e ≡ true

-- an entry takes its free target, or the write is the one that a single step makes
abbrev pub MayFollow : Directed → Least → KernelState → Write → Type 0
MayFollow d least k w = TakesFree d.targets k w ⊎ (due_directly d least k ≡ Some w)

-- writes one after another, each of which is so when it is made
abbrev pub Follow : (KernelState → Write → Type 0) → KernelState → List Write → Type 0
Follow P k [] = Unit {0}
Follow P k (w ∷ later) = P k w × Follow P (written k (Some w)) later

-- the kernel after them
abbrev pub after : KernelState → List Write → KernelState
after k [] = k
after k (w ∷ later) = after (written k (Some w)) later

-- after the last of them nobody must move any more; or one more fails, which is told and counted, and nothing else changes
abbrev pub EndsAt : Directed → Least → KernelState → Result (Unit {0}) KernelFault → KernelState → Type 0
EndsAt d least last (Ok _) new = (new ≡ last) × (is_none (find (must_move last) d.targets.entries) ≡ true)
EndsAt d least last (Err fault) new = (fault ≡ Failed) × ((w : Write) × MayFollow d least last w × (new ≡ missed (Some w) last))

-- the writes of a direct hand-over up to its end, or to one that fails: each is one by which an entry takes its free target, or
-- the one that a single step makes
pub record FinishesDirectly (d : Directed) (least : Least) (old : KernelState) (r : Result (Unit {0}) KernelFault) (new : KernelState) : Type 0 where
  pub writes : List Write
  pub follow : Follow (MayFollow d least) old writes
  pub ends : EndsAt d least (after old writes) r new

-- the writes that it asks the kernel for, in order, and the one that fails among them
abbrev pub asked_for : (d : Directed) (least : Least) (old : KernelState) (r : Result (Unit {0}) KernelFault) (new : KernelState) → FinishesDirectly d least old r new → List Write
asked_for d least old (Ok _) new f = f.writes
asked_for d least old (Err fault) new f = f.writes ++ f.ends.1.0 ∷ []

-- and each squeezes only whoever was stuck in a ring when it was made
pub record SqueezesInRings (d : Directed) (least : Least) (old : KernelState) (r : Result (Unit {0}) KernelFault) (new : KernelState) : Type 0 where
  pub finishes : FinishesDirectly d least old r new
  pub squeezes : Follow (λ k w. SqueezesOnlyStuck d least k (written k (Some w))) old finishes.writes
