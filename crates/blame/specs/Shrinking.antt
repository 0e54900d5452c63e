-- A shortage, some members of which are known to be needed.
use Rattle.std.specs.Prelude.{◌≡◌, ℕ, true, List, Contains, length}
use Rattle.certificate.specs.RowView.{RowView}
use Rattle.certificate.specs.IsShortage.{IsShortage}
use Rattle.hall.specs.Needed.{IsNeeded}
use Rattle.blame.specs.Marking.{is_marked}
use Rattle.blame.specs.declared.shrinking.Marked.{Marked}

-- the marked rows are needed
pub record IsMarkedShortage (rows : List RowView) (m : Marked) : Type 0 where
  pub shortage : IsShortage rows m.members.items
  pub long : length m.known.items ≡ length rows
  pub needed : (k : ℕ) → is_marked m.known.items k ≡ true → IsNeeded rows m.members.items k

-- a member is marked
abbrev pub IsSettled : Marked → ℕ → Type 0
IsSettled m k = Contains m.members.items k → is_marked m.known.items k ≡ true
