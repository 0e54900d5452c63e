-- Numbers and marks by place: past the end of a list stand 0 and no mark.
use Rattle.std.specs.Prelude.{◌≡◌, ℕ, ◌+◌, ◌<◌, Bool, true, false, List, length}
use Rattle.std.specs.List.{count_by}
use Rattle.std.specs.Prelude.{slice_index_or}

abbrev pub number : List ℕ → ℕ → ℕ
number ns k = slice_index_or ns k 0

abbrev pub is_marked : List Bool → ℕ → Bool
is_marked bs k = slice_index_or bs k false

-- the number stands in the list
pub record IsIn (ns : List ℕ) (n : ℕ) : Type 0 where
  pub index : ℕ
  pub within : index < length ns
  pub is : number ns index ≡ n

-- a list names the marked places, each once
pub record IsListing (order : List ℕ) (marks : List Bool) : Type 0 where
  pub on : (i : ℕ) → i < length order → is_marked marks (number order i) ≡ true
  pub all : (k : ℕ) → is_marked marks k ≡ true → IsIn order k
  pub once : (i j : ℕ) → i < length order → j < length order → number order i ≡ number order j → i ≡ j
  pub counted : count_by (λ b. b) marks ≡ length order

-- the numbers at these places are raised by the same amount, and no other changes
pub record IsRaised (old new : List ℕ) (order : List ℕ) (by : ℕ) : Type 0 where
  pub long : length new ≡ length old
  pub on : (i : ℕ) → i < length order → number new (number order i) ≡ number old (number order i) + by
  pub off : (k : ℕ) → (IsIn order k → ⊥) → number new k ≡ number old k

-- no number stands in the list twice
abbrev pub IsEachOnce : List ℕ → Type 0
IsEachOnce ns = (i j : ℕ) → i < length ns → j < length ns → number ns i ≡ number ns j → i ≡ j
