-- What is known of all since they were looked at, told by the few that were written since it was known last. No public clause cites this
-- module.
use Rattle.std.specs.Prelude.{◌≡◌, ◌⊎◌, ℕ, ◌+◌, ◌<◌, ◌≤◌, Bool, true, false, List, length, get_or, slice_index, Some}
use Rattle.direct_finish.specs.declared.since.Since.{Since}
use Rattle.direct_finish.specs.declared.standing.Standing.{Standing}
use Rattle.direct_finish.specs.declared.standing.Standing.TheVariants.{Roomy, Full, Waits, Beside, Rests, Guarded, Moved}
use Rattle.direct_finish.specs.Seen.{LeadsOn, is_quiet, ArePast}

-- it neither waits nor gave way, or it waits for one that waits
abbrev pub LeadsHere : List ℕ → List Standing → ℕ → Standing → Type 0
LeadsHere nexts standings i Roomy = LeadsOn nexts standings i
LeadsHere nexts standings i Full = LeadsOn nexts standings i
LeadsHere nexts standings i Waits = LeadsOn nexts standings i
LeadsHere nexts standings i Beside = LeadsOn nexts standings i
LeadsHere nexts standings i Rests = Unit {0}
LeadsHere nexts standings i Guarded = Unit {0}
LeadsHere nexts standings i Moved = ⊥

-- so it is of all
abbrev pub LeadAll : List ℕ → List Standing → Type 0
LeadAll nexts standings = (i : ℕ) (s : Standing) → i < length standings → s ≡ get_or standings i s → LeadsHere nexts standings i s

-- it was noted that the one at a place was written
abbrev pub IsNoted : Since → ℕ → Type 0
IsNoted c q = (c.one ≡ Some q) ⊎ (c.two ≡ Some q)

-- so it is, but of those that were noted and of those that wait for them
abbrev pub IsSettledAt : List ℕ → List Standing → Since → ℕ → Standing → Type 0
IsSettledAt nexts standings c i s = LeadsHere nexts standings i s ⊎ (IsNoted c i ⊎ IsNoted c (slice_index nexts i))

-- of each one, where all that were written are noted
abbrev pub AreSettled : List ℕ → List Standing → Since → Type 0
AreSettled nexts standings c =
    c.all ≡ true → (i : ℕ) (s : Standing) → i < length standings → s ≡ get_or standings i s → IsSettledAt nexts standings c i s

-- what is known since all were looked at
pub record IsSince (nexts : List ℕ) (standings : List Standing) (c : Since) : Type 0 where
  pub past : ArePast standings c
  pub settled : AreSettled nexts standings c

-- nothing but where it is looked for whose turn it is
pub record IsSameButCursors (old new : Since) : Type 0 where
  pub one : new.one ≡ old.one
  pub two : new.two ≡ old.two
  pub all : new.all ≡ old.all

-- one more is noted, and those that were
pub record NotesOne (old new : Since) (place : ℕ) : Type 0 where
  pub all : new.all ≡ true → old.all ≡ true
  pub here : new.all ≡ true → IsNoted new place
  pub others : (q : ℕ) → IsNoted old q → IsNoted new q
  pub roomy : new.roomy ≡ old.roomy
  pub full : new.full ≡ old.full

-- one more is noted where somebody was written
abbrev pub NotesIf : Since → Since → ℕ → Bool → Type 0
NotesIf old new place true = NotesOne old new place
NotesIf old new place false = new ≡ old

-- so many of them are noted where they wait: the place behind, or past all where more than one do
abbrev pub BeforesUpto : List ℕ → List ℕ → ℕ → Type 0
BeforesUpto nexts befores upto =
    (i : ℕ) → i < upto → slice_index nexts i < length befores
    → (slice_index befores (slice_index nexts i) ≡ i + 1) ⊎ (length befores < slice_index befores (slice_index nexts i))

-- and so are all
abbrev pub AreBefores : List ℕ → List ℕ → Type 0
AreBefores nexts befores = BeforesUpto nexts befores (length nexts)

-- whoever waits for the one at a place is told, and neither waits nor gave way
pub record IsLeft (befores : List ℕ) (standings : List Standing) (place : ℕ) : Type 0 where
  pub few : slice_index befores place ≤ length befores
  pub quiet : (i : ℕ) (s : Standing) → slice_index befores place ≡ i + 1 → s ≡ get_or standings i s → is_quiet s ≡ true

-- and so does it
pub record IsDone (befores : List ℕ) (standings : List Standing) (place : ℕ) : Type 0 where
  pub within : place < length standings
  pub quiet : (s : Standing) → s ≡ get_or standings place s → is_quiet s ≡ true
  pub left : IsLeft befores standings place

-- those that were noted are all that were written, and each is so
pub record AreDone (befores : List ℕ) (standings : List Standing) (c : Since) : Type 0 where
  pub all : c.all ≡ true
  pub each : (p : ℕ) → IsNoted c p → IsDone befores standings p
