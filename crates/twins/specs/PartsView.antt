-- Sets of CPUs that rows split, kept by their places.
use Rattle.std.specs.Prelude.{◌≡◌, ℕ, ◌<◌, ◌≤◌, ◌++◌, [], ◌∷◌, true, List, All, map, length, slice_index_or, refl}
use Rattle.std.specs.Coded.{Coded, code_by, coded×}
use Rattle.certificate.specs.SetsCode.{sets_code}
use Rattle.std.specs.FinSet as set
use Rattle.cpu_set.specs.Ids.{Ids}
use Rattle.twins.specs.declared.parts.Part.{Part}

-- the sets that wait for a row to split them, and those that it has left or made
pub record PartsView : Type 0 where
  pub waiting : List Ids
  pub done : List Ids

-- both lists are stored as their pair
abbrev pub parts_code : Coded PartsView
parts_code = code_by (List Ids × List Ids) (coded× sets_code sets_code) (λ v. (v.waiting, v.done)) (λ p. record { waiting = p.0; done = p.1 }) (λ _. refl)

-- the set of a part
abbrev pub set_of : List Ids → Part → Ids
set_of sets part = slice_index_or sets part.place set.empty

-- no CPU of the set is below the one or above the other
abbrev pub AreBounds : Ids → ℕ → ℕ → Type 0
AreBounds s first last = (cpu : ℕ) → set.contains s cpu ≡ true → (first ≤ cpu) × (cpu ≤ last)

-- the set of the part is there, and its CPUs are within its bounds
pub record IsPlaced (sets : List Ids) (part : Part) : Type 0 where
  pub there : part.place < length sets
  pub bounds : AreBounds (set_of sets part) part.first part.last

pub record ArePlaced (sets : List Ids) (to_come behind : List Part) : Type 0 where
  pub waiting : All (IsPlaced sets) to_come
  pub done : All (IsPlaced sets) behind

-- the sets of both lists of parts
abbrev pub parts_view : List Ids → List Part → List Part → PartsView
parts_view sets waiting done = record { waiting = map (set_of sets) waiting; done = map (set_of sets) done }

-- one set more is done
pub record IsAdded (s : Ids) (old new : PartsView) : Type 0 where
  pub waiting : new.waiting ≡ old.waiting
  pub done : new.done ≡ old.done ++ s ∷ []
