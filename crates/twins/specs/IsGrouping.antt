-- CPUs in classes: those that are alike to all rows together in one.
use Rattle.std.specs.Prelude.{◌≡◌, ℕ, ◌<◌, List, All, AllPairs, slice_index_or}
use Rattle.std.specs.FinSet as set
use Rattle.cpu_set.specs.Ids.{Ids, IsDisjoint}
use Rattle.cpu_set.specs.Members.{InRange}
use Rattle.certificate.specs.RowView.{RowView}
use Rattle.certificate.specs.IsDealt.{AreTwins, Holds}
use Rattle.certificate.specs.IsShortage.{is_offered}
use Rattle.certificate.specs.PlanFault.{is_held}

-- the class at this place
abbrev pub class_at : List Ids → ℕ → Ids
class_at classes g = slice_index_or classes g set.empty

-- the CPUs with a weight in some row, in classes. Each is in one class, no other CPU is in any, and no class is empty. A
-- class is all the twins of each of its CPUs.
pub record IsGrouping (rows : List RowView) (classes : List Ids) : Type 0 where
  pub in_range : All InRange classes
  pub not_empty : All (λ s. 0 < set.len s) classes
  pub apart : AllPairs IsDisjoint classes
  pub whole : (cpu : ℕ) → is_held classes cpu ≡ is_offered rows cpu
  pub alike : (g a b : ℕ) → Holds classes g a → Holds classes g b → AreTwins rows a b
  pub together : (g a b : ℕ) → Holds classes g a → AreTwins rows a b → Holds classes g b
