-- CPUs whose classes are known before all rows have been looked at.
use Rattle.std.specs.Prelude.{◌≡◌, ℕ, ◌+◌, ◌<◌, ◌⊎◌, true, is_some, List, take, length}
use Rattle.std.specs.FinSet as set
use Rattle.cpu_set.specs.Ids.{Ids}
use Rattle.certificate.specs.RowView.{RowView}
use Rattle.certificate.specs.Weight.{weight_in}
use Rattle.certificate.specs.IsDealt.{AreTwins}
use Rattle.certificate.specs.declared.rows.Offer.{Offer}
use Rattle.twins.specs.AreSpans.{AreSpans}
use Rattle.twins.specs.Kinds.{offers_of}
use Rattle.twins.specs.declared.settling.Settling.{Settling}
use Rattle.twins.specs.declared.spans.Spans.{Spans}

-- all rows that have a weight for one of the CPUs have the same offers
abbrev pub AreOnce : List RowView → Ids → Type 0
AreOnce rows cpus = (cpu i j : ℕ) → set.contains cpus cpu ≡ true → i < length rows → j < length rows
    → is_some (weight_in (offers_of rows i) cpu) ≡ true → is_some (weight_in (offers_of rows j) cpu) ≡ true → offers_of rows i ≡ offers_of rows j

-- the twins of each of the CPUs to the first k rows are its twins to all rows
abbrev pub AreSettled : List RowView → ℕ → Ids → Type 0
AreSettled rows k cpus = (cpu b : ℕ) → set.contains cpus cpu ≡ true → AreTwins (take k rows) cpu b → AreTwins rows cpu b

-- what is known before row k, and what is once that row has been looked at in part
pub record IsSettling (rows : List RowView) (k : ℕ) (s : Settling) : Type 0 where
  pub once : AreOnce rows s.once
  pub settled : AreSettled rows k s.settled
  pub found : AreSettled rows (k + 1) s.found

-- a CPU more at most, where the row has a weight for it and all of a piece are of one kind of rows
pub record IsNoted (spans : Spans) (cpu : ℕ) (piece : Ids) (old new : Settling) : Type 0 where
  pub once : new.once ≡ old.once
  pub settled : new.settled ≡ old.settled
  pub found : (q : ℕ) → set.contains new.found q ≡ true
      → (set.contains old.found q ≡ true) ⊎ ((q ≡ cpu) × ((offers : List Offer) → AreSpans offers spans → is_some (weight_in offers cpu) ≡ true) × ((c : ℕ) → set.contains piece c ≡ true → set.contains old.once c ≡ true))

-- what was found is settled
pub record IsTurned (old new : Settling) : Type 0 where
  pub once : new.once ≡ old.once
  pub settled : new.settled ≡ old.found
  pub found : new.found ≡ old.found
