-- The first fault of a text that is no list: its place and its cause, in the order bad item, too large, descending.
use Rattle.std.specs.Prelude.{◌≡◌, ℕ, ◌+◌, ◌<◌, ◌≤◌, ◌||◌, ◌⊎◌, ◌↔◌, nat_lt, nat_le, List, [], ◌∷◌, ◌++◌, length, sum_by, Option, Some, None, ◌≢◌, option_map}
use Rattle.std.specs.List.{AllByRecursion}
use Rattle.faults.specs.First.{when, first_of}
use Rattle.cpu_list.specs.declared.fault.ListError.{ListError}
use Rattle.cpu_list.specs.declared.fault.ListErrorKind.{ListErrorKind}
use Rattle.cpu_list.specs.declared.fault.ListErrorKind.TheVariants.{BadItem, TooLarge, Descending}
use Rattle.cpu_list.specs.ListText.{pieces, leading_blanks, item_of, range_of, IsItem, IsList}

-- what is wrong with a range under a limit, the first cause that stands
abbrev pub range_fault : ℕ → Option (ℕ × ℕ) → Option ListErrorKind
range_fault limit None = Some BadItem
range_fault limit (Some r) = first_of (
    when (nat_le limit r.0 || nat_le limit r.1) TooLarge
    ∷ when (nat_lt r.1 r.0) Descending
    ∷ [])

-- what is wrong with an item; an empty one is skipped
abbrev pub item_fault : ℕ → List ℕ → Option ListErrorKind
item_fault limit [] = None
item_fault limit (b ∷ bytes) = range_fault limit (range_of (b ∷ bytes))

-- the fault of a piece that begins at this place of the text
abbrev pub piece_fault : ℕ → ℕ → List ℕ → Option ListError
piece_fault limit at piece = option_map (λ kind. record { at = at + leading_blanks piece; kind = kind }) (item_fault limit (item_of piece))

-- the faults of pieces that follow one another from this place on
abbrev pub faults_from : ℕ → ℕ → List (List ℕ) → List (Option ListError)
faults_from limit at [] = []
faults_from limit at (piece ∷ more) = piece_fault limit at piece ∷ faults_from limit (at + (length piece + 1)) more

-- the place and kind of the first faulty item from the left
abbrev pub first_fault : ℕ → List ℕ → Option ListError
first_fault limit text = first_of (faults_from limit 0 (pieces text))

-- why an item may not stand in a list: no number and no range; a number that isn't below the limit; a range that descends
abbrev pub IsFaultOf : ℕ → List ℕ → ListErrorKind → Type 0
IsFaultOf limit item BadItem = (item ≢ []) × (range_of item ≡ None)
IsFaultOf limit item TooLarge = (first last : ℕ) × (range_of item ≡ Some (first, last)) × ((limit ≤ first) ⊎ (limit ≤ last))
IsFaultOf limit item Descending =
    (first last : ℕ) × (range_of item ≡ Some (first, last)) × (first < limit) × (last < limit) × (last < first)

-- the piece at this place is faulty, and none before it is
pub record IsFirstFault (limit : ℕ) (text : List ℕ) (e : ListError) : Type 0 where
  pub before : List (List ℕ)
  pub piece : List ℕ
  pub after : List (List ℕ)
  pub whole : pieces text ≡ before ++ piece ∷ after
  pub right : AllByRecursion (λ p. IsItem limit (item_of p)) before
  pub fault : IsFaultOf limit (item_of piece) e.kind
  pub place : e.at ≡ sum_by (λ p. length p + 1) before + leading_blanks piece

-- a text is a list exactly if it has no first fault
abbrev pub NoneWhereList : Type 0
NoneWhereList = (limit : ℕ) (text : List ℕ) → (first_fault limit text ≡ None) ↔ IsList limit text

-- the first fault is that of the first faulty item
abbrev pub FirstDecides : Type 0
FirstDecides = (limit : ℕ) (text : List ℕ) (e : ListError) → (first_fault limit text ≡ Some e) ↔ IsFirstFault limit text e
