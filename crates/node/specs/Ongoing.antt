-- What holds of a hand-over while it is open.
use Rattle.std.specs.Prelude.{◌≡◌, ◌⊎◌, ℕ, Bool, true, false, List, [], ◌∷◌, Option, Some, None}
use Rattle.std.specs.List.{AllByRecursion, AllZip}
use Rattle.std.specs.FinSet as set
use Rattle.cpu_set.specs.Ids.{Ids}
use Rattle.cpu_set.specs.Members.{InRange}
use Rattle.proctable.specs.Processes.{is_alive}
use Rattle.kernel_model.specs.KernelState.{KernelState}
use Rattle.apply_plan.specs.declared.Entry.{Entry}
use Rattle.apply_plan.specs.Holders.{Holder}
use Rattle.apply_plan.specs.Kept.{kept}
use Rattle.apply_plan.specs.Targets.{holder_of, IsHandover}
use Rattle.apply_plan.specs.DueWrite.{held}
use Rattle.apply_plan.specs.Leaves.{KeepsRest}
use Rattle.apply_plan.specs.Directed.{allowed_of}
use Rattle.node.specs.declared.order.Order.{Order}
use Rattle.node.specs.declared.order.Order.TheVariants.{InTurn, Directly}
use Rattle.node.specs.NodeState.{Ongoing}
use Rattle.node.specs.Orders.{directed_of}
use Rattle.node.specs.Owners.{Owner}

-- the entry at the front is this container's, and the others are of the later ones
pub record Leads (Rest : List Entry → Type 0) (h : Holder) (entries : List Entry) : Type 0 where
  pub entry : Entry
  pub later : List Entry
  pub is : entries ≡ entry ∷ later
  pub of : holder_of entry ≡ h
  pub rest : Rest later

-- an open hand-over has an entry of each live container, in their order, and no other
abbrev pub AreOf : KernelState → List Entry → List Owner → Type 0
AreOf k entries [] = entries ≡ []
AreOf k entries (o ∷ later) =
    Leads (λ rest. AreOf k rest later) o.holder entries ⊎ ((is_alive k.table o.holder.pid ≡ false) × AreOf k entries later)

-- a container's group requests what it did at first, what it keeps of that, or its target
abbrev pub IsSince : KernelState → Ids → Entry → Ids → Type 0
IsSince k reserved e found = (held k e ≡ found) ⊎ (held k e ≡ kept reserved e.target found) ⊎ (held k e ≡ e.target)

-- a container's group requests none but CPUs that it did at first, of its target, reserved ones and those that it is allowed,
-- and all of its target that it did at first
pub record IsOnWay (k : KernelState) (reserved allowed : Ids) (e : Entry) (found : Ids) : Type 0 where
  pub keeps : (cpu : ℕ) → set.contains found cpu ≡ true → set.contains e.target cpu ≡ true → set.contains (held k e) cpu ≡ true
  pub within : (cpu : ℕ) → set.contains (held k e) cpu ≡ true
      → (set.contains found cpu ≡ true) ⊎ (set.contains e.target cpu ≡ true) ⊎ (set.contains reserved cpu ≡ true) ⊎ (set.contains allowed cpu ≡ true)

-- what each container requests since the hand-over began, by its order
abbrev pub AreSince : Order → KernelState → Ongoing → Type 0
AreSince InTurn k o = AllZip (IsSince k k.reserved) o.targets.entries o.requested_at_begin
AreSince Directly k o = AllZip (λ e found. IsOnWay k k.reserved (allowed_of (directed_of o) e) e found) o.targets.entries o.requested_at_begin

-- a hand-over of the live containers, in which each requests what it may
pub record IsOngoing (k : KernelState) (owners : List Owner) (o : Ongoing) : Type 0 where
  pub handover : IsHandover o.targets
  pub reserved : o.targets.reserved ≡ k.reserved
  pub of : AreOf k o.targets.entries owners
  pub ranged : AllByRecursion InRange o.allowed
  pub since : AreSince o.order k o

-- a hand-over is open exactly while one is underway
abbrev pub Stands : KernelState → List Owner → Bool → Option Ongoing → Type 0
Stands k owners underway (Some o) = (underway ≡ true) × IsOngoing k owners o
Stands k owners underway None = underway ≡ false

-- what a failed write leaves of a hand-over. Each of its containers requests what it did at first, what it keeps of that, or
-- its target; in the direct order, what it may on its way. Nothing else changed in the kernel but what it tells and counts.
pub record IsBroken (o : Ongoing) (old new : KernelState) : Type 0 where
  pub since : AreSince o.order new o
  pub rest : KeepsRest o.targets old new
