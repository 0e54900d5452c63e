-- What one look at all entries told of them, and how much of that still holds after some writes. No public clause cites this module.
use Rattle.std.specs.Prelude.{◌≡◌, ◌⊎◌, ℕ, ◌<◌, Bool, true, false, not, List, length, get_or, slice_index, Option, Some, None, IfSome}
use Rattle.std.specs.FinSet as set
use Rattle.cpu_set.specs.Ids.{Ids, IsDisjoint}
use Rattle.kernel_model.specs.KernelState.{KernelState}
use Rattle.apply_plan.specs.declared.Entry.{Entry}
use Rattle.apply_plan.specs.declared.overview.Overview.{Overview}
use Rattle.apply_plan.specs.declared.giving.Giving.{Giving}
use Rattle.apply_plan.specs.declared.giving.Giving.TheVariants.{Sharing, Aside, Squeezed}
use Rattle.apply_plan.specs.Targets.{Targets}
use Rattle.apply_plan.specs.DueWrite.{held, must_move, written}
use Rattle.apply_plan.specs.DirectWords.{are_free, lets_go, blocks, spare}
use Rattle.apply_plan.specs.Rings.{in_ring}
use Rattle.apply_plan.specs.NextTables.{AreNexts}
use Rattle.apply_plan.specs.Overviews.{IsOverview, all_held}
use Rattle.apply_plan.specs.MayWrite.{write_of}
use Rattle.apply_plan.specs.Directed.{Directed, allowed_of, Least}
use Rattle.apply_plan.specs.DirectWrite.{must_yield, steps_aside}
use Rattle.direct_finish.specs.declared.bounds.Bounds.{Bounds}
use Rattle.direct_finish.specs.declared.standing.Standing.{Standing}
use Rattle.direct_finish.specs.declared.since.Since.{Since}
use Rattle.direct_finish.specs.declared.standing.Standing.TheVariants.{Roomy, Full, Waits, Beside, Rests, Guarded, Moved}
use Rattle.direct_finish.specs.Follows.{IsReady}

-- outside the reserved CPUs the two sets have the same
abbrev pub AreAlike : Ids → Ids → Ids → Type 0
AreAlike reserved s t = (q : ℕ) → set.contains reserved q ≡ false → set.contains s q ≡ set.contains t q

-- how an entry stood when it was looked at, and that it does yet
module _ (d : Directed) (least : Least) (first k : KernelState) where
  -- the entries of the hand-over
  abbrev pub its_entries : List Entry
  its_entries = d.targets.entries

  -- a pinned one that stood in a ring, and must give way there. It steps aside, or it is full.
  pub record IsRinged (e : Entry) : Type 0 where
    pub stays : held k e ≡ held first e
    pub pinned : e.pinned ≡ true
    pub lets : lets_go first d.targets.reserved e ≡ true
    pub own : IsDisjoint e.target d.targets.reserved
    pub yields : must_yield first d.targets.reserved its_entries e ≡ true

  -- a pinned one that let go, and stood in no ring
  pub record IsOutside (e : Entry) : Type 0 where
    pub stays : held k e ≡ held first e
    pub pinned : e.pinned ≡ true
    pub lets : lets_go first d.targets.reserved e ≡ true
    pub none : in_ring first d.targets.reserved its_entries e ≡ false

  -- one that held nothing for which others asked
  pub record IsBeside (e : Entry) : Type 0 where
    pub stays : held k e ≡ held first e
    pub none : blocks first d.targets.reserved its_entries e ≡ false

  -- one that only grew. If it is pinned, its target had all spare CPUs.
  pub record IsGuarded (e : Entry) : Type 0 where
    pub stays : held k e ≡ held first e
    pub grows : lets_go first d.targets.reserved e ≡ false
    pub guard : e.pinned ≡ true → set.is_subset (spare first d.targets.reserved its_entries) e.target ≡ true

  -- it stood so, and does yet
  abbrev pub StandsAs : Standing → Entry → Type 0
  StandsAs Roomy e = IsRinged e × (steps_aside first d.targets.reserved its_entries (allowed_of d) least e ≡ true)
  StandsAs Full e = IsRinged e × (steps_aside first d.targets.reserved its_entries (allowed_of d) least e ≡ false)
  StandsAs Waits e = IsOutside e
  StandsAs Beside e = IsBeside e
  StandsAs Rests e = must_move k e ≡ false
  StandsAs Guarded e = IsGuarded e
  StandsAs Moved e = Unit {0}

-- what was seen when the entries were looked at, and still holds
pub record IsSeen (d : Directed) (least : Least) (k : KernelState) (o : Overview) (nexts : List ℕ) (standings : List Standing) : Type 0 where
  pub first : KernelState
  pub table : k.table ≡ first.table
  pub online : k.tree.online ≡ first.tree.online
  pub seen : IsOverview first d.targets.reserved d.targets.entries o
  pub waits_for : AreNexts first d.targets.reserved d.targets.entries nexts
  pub room : length standings ≡ length d.targets.entries
  pub stand : (i : ℕ) (e : Entry) (s : Standing) → i < length d.targets.entries → e ≡ get_or d.targets.entries i e → s ≡ get_or standings i s
      → StandsAs d least first k s e

-- what live containers hold is this, outside the reserved CPUs, where it is known
abbrev pub IsHeldNow : Targets → KernelState → Option Ids → Type 0
IsHeldNow h k now = IfSome now (λ s. AreAlike h.reserved s (all_held k h.reserved h.entries))

-- how the first of them stand, so many of them
abbrev pub StandAll : Directed → Least → KernelState → List Standing → ℕ → Type 0
StandAll d least k standings upto =
    (i : ℕ) (e : Entry) (s : Standing) → i < upto → e ≡ get_or d.targets.entries i e → s ≡ get_or standings i s → StandsAs d least k k s e

-- what is known to be held after one wrote CPUs that held some before: it is known no more where that is a shared one
abbrev pub next_held : Option Ids → Bool → Ids → Ids → Option Ids
next_held None pinned before cpus = None
next_held (Some all) true before cpus = Some (set.union (set.difference all before) cpus)
next_held (Some all) false before cpus = None

-- what holds between the writes while rings are broken
pub record IsUnderWay (d : Directed) (least : Least) (k : KernelState) (o : Overview) (nexts : List ℕ) (standings : List Standing) (now : Option Ids) (b : Bounds)
    : Type 0 where
  pub ready : IsReady d.targets k b
  pub seen : IsSeen d least k o nexts standings
  pub held : IsHeldNow d.targets k now

-- whether the entry at a place took its target
abbrev pub TakesAt : Targets → ℕ → KernelState → KernelState → Bool → Type 0
TakesAt h place old new true =
    (place < length h.entries)
    × ((e : Entry) → e ≡ get_or h.entries place e → (new ≡ written old (Some (write_of e e.target))) × (must_move old e ≡ true))
TakesAt h place old new false = Unit {0}

-- it waits yet for what it was seen to wait for
abbrev pub IsWaiting : Standing → Type 0
IsWaiting Roomy = Unit {0}
IsWaiting Full = Unit {0}
IsWaiting Waits = Unit {0}
IsWaiting Beside = Unit {0}
IsWaiting Rests = ⊥
IsWaiting Guarded = ⊥
IsWaiting Moved = ⊥

-- whom it waits for waits too
pub record LeadsOn (nexts : List ℕ) (standings : List Standing) (place : ℕ) : Type 0 where
  pub within : slice_index nexts place < length standings
  pub s : Standing
  pub is : s ≡ get_or standings (slice_index nexts place) s
  pub waits : IsWaiting s

-- some of what the one at a place lacks is held by another one
abbrev pub IsHeldUp : Targets → KernelState → ℕ → Type 0
IsHeldUp h k place = (e : Entry) → e ≡ get_or h.entries place e → are_free k h.reserved h.entries e e.target ≡ false

-- it rests or is guarded, or waits for one that waits; or it holds nothing for which others asked, and waits for anybody
abbrev pub IsCalmAt : Targets → KernelState → List ℕ → List Standing → ℕ → Standing → Type 0
IsCalmAt h k nexts standings place Roomy = LeadsOn nexts standings place
IsCalmAt h k nexts standings place Full = LeadsOn nexts standings place
IsCalmAt h k nexts standings place Waits = LeadsOn nexts standings place
IsCalmAt h k nexts standings place Beside = LeadsOn nexts standings place ⊎ IsHeldUp h k place
IsCalmAt h k nexts standings place Rests = Unit {0}
IsCalmAt h k nexts standings place Guarded = Unit {0}
IsCalmAt h k nexts standings place Moved = ⊥

-- each does
abbrev pub AreCalm : Targets → KernelState → List ℕ → List Standing → Type 0
AreCalm h k nexts standings = (i : ℕ) (s : Standing) → i < length standings → s ≡ get_or standings i s → IsCalmAt h k nexts standings i s

-- one standing was written, and no other
pub record IsStanding (old new : List Standing) (place : ℕ) (s : Standing) : Type 0 where
  pub room : length new ≡ length old
  pub here : (x : Standing) → get_or new place x ≡ s
  pub others : (q : ℕ) (x : Standing) → (q ≡ place → ⊥) → get_or new q x ≡ get_or old q x

-- it was noted that the one at a place rests, or nothing was written
abbrev pub RestsIf : List Standing → List Standing → ℕ → Bool → Type 0
RestsIf old new place true = IsStanding old new place Rests
RestsIf old new place false = new ≡ old

-- it neither waits nor gave way
abbrev pub is_quiet : Standing → Bool
is_quiet Roomy = false
is_quiet Full = false
is_quiet Waits = false
is_quiet Beside = false
is_quiet Rests = true
is_quiet Guarded = true
is_quiet Moved = false

-- whose turn it is to give way: one that steps aside, or else any that must
abbrev pub is_due : Bool → Standing → Bool
is_due aside Roomy = true
is_due aside Full = not aside
is_due aside Waits = false
is_due aside Beside = false
is_due aside Rests = false
is_due aside Guarded = false
is_due aside Moved = false

-- it is nobody's turn before this place
abbrev pub IsNobodys : Bool → List Standing → ℕ → Type 0
IsNobodys aside standings upto = (j : ℕ) (s : Standing) → j < upto → j < length standings → s ≡ get_or standings j s → is_due aside s ≡ false

-- nor before the places from which it is looked for
pub record ArePast (standings : List Standing) (c : Since) : Type 0 where
  pub roomy : IsNobodys true standings c.roomy
  pub full : IsNobodys false standings c.full

-- and it is at this one
pub record IsTurnAt (aside : Bool) (standings : List Standing) (place : ℕ) : Type 0 where
  pub within : place < length standings
  pub s : Standing
  pub is : s ≡ get_or standings place s
  pub due : is_due aside s ≡ true
  pub before : IsNobodys aside standings place

-- the first that steps aside gives way so, or where none does the first that must, by way of the reserved CPUs
abbrev pub IsNextGiving : List Standing → ℕ → Giving → Type 0
IsNextGiving standings place Sharing = ⊥
IsNextGiving standings place Aside = IsTurnAt true standings place
IsNextGiving standings place Squeezed = IsNobodys true standings (length standings) × IsTurnAt false standings place

-- the same CPUs are held as at first
abbrev pub IsHeldYet : Ids → Overview → Option Ids → Type 0
IsHeldYet reserved o None = ⊥
IsHeldYet reserved o (Some s) = AreAlike reserved s o.held

-- what was seen tells the write that is due
pub record IsCalm (h : Targets) (k : KernelState) (o : Overview) (nexts : List ℕ) (standings : List Standing) (now : Option Ids) : Type 0 where
  pub each : AreCalm h k nexts standings
  pub held : IsHeldYet h.reserved o now

-- a direct hand-over of these entries
abbrev pub directed : List Entry → Ids → List Ids → Directed
directed entries reserved allowed = record { targets = record { entries = entries; reserved = reserved }; allowed = allowed }
