-- What holds of canonical texts, whoever wrote them, and of the texts that are printed.
use Rattle.std.specs.Prelude.{◌≡◌, ℕ, ◌^◌, ◌≤◌, ◌<◌, ◌↔◌, Bool, true, false, ◌||◌, ◌==◌, List, [], All}
use Rattle.std.specs.Char.{is_ascii_digit}
use Rattle.std.specs.FinSet as set
use Rattle.std.specs.List.{list_all}
use Rattle.cpu_set.specs.Ids.{Ids}
use Rattle.cpu_set.specs.Members.{IsCpu, InRange}
use Rattle.cpu_list.specs.ListText.{is_comma, is_hyphen, IsList, IsSetOf}
use Rattle.cpu_list.specs.CanonicalList.{list_text, IsCanonical}

-- each member of the set is below a limit
abbrev pub AllBelow : ℕ → Ids → Type 0
AllBelow limit s = (n : ℕ) → set.contains s n ≡ true → n < limit

-- `list_text` gives each set of CPU numbers a canonical text
abbrev pub TextIsCanonical : Type 0
TextIsCanonical = (s : Ids) → InRange s → IsCanonical (list_text s) s

-- no set has two canonical texts
abbrev pub OneCanonicalText : Type 0
OneCanonicalText = (s : Ids) (one other : List ℕ) → IsCanonical one s → IsCanonical other s → one ≡ other

-- a canonical text is a list under each limit above its set's members, of that set and of no other
pub record ReadsAs (text : List ℕ) (limit : ℕ) (s : Ids) : Type 0 where
  pub is_list : IsList limit text
  pub members : IsSetOf text s
  pub only : (t : Ids) → IsSetOf text t → t ≡ s

-- a canonical text of a set is a list, which reads as that set, under each limit up to 2^64 above its members
abbrev pub CanonicalReadsAgain : Type 0
CanonicalReadsAgain = (s : Ids) (text : List ℕ) (limit : ℕ) → limit ≤ 2 ^ 64 → AllBelow limit s → IsCanonical text s → ReadsAs text limit s

-- a digit, a hyphen or a comma
abbrev pub is_list_byte : ℕ → Bool
is_list_byte b = is_ascii_digit b || (is_hyphen b || is_comma b)

-- a printed text has digits, hyphens and commas alone
abbrev pub TextIsPlain : Type 0
TextIsPlain = (s : Ids) → list_all is_list_byte (list_text s) ≡ true

-- a printed text has no other byte, neither a space nor a colon nor a line feed
abbrev pub TextLacks : Type 0
TextLacks = (s : Ids) (other : ℕ) → is_list_byte other ≡ false → All (λ b. (b == other) ≡ false) (list_text s)

-- a printed text is empty exactly if the set has no CPU number
abbrev pub TextIsEmpty : Type 0
TextIsEmpty = (s : Ids) → (list_text s ≡ []) ↔ ((n : ℕ) → IsCpu n → set.contains s n ≡ false)
