-- What each refusal of a plan or of a shortage means, for a reader who knows no order of checks.
use Rattle.std.specs.Prelude.{◌≡◌, ◌≢◌, ℕ, ◌+◌, ◌≤◌, ◌&&◌, true, false, List, Some, length, take, slice_get, AllPairs}
use Rattle.std.specs.List.{AllZip}
use Rattle.std.specs.FinSet as set
use Rattle.cpu_set.specs.Ids.{Ids, IsDisjoint}
use Rattle.cpu_set.specs.LeastLaws.{IsLeastThat}
use Rattle.certificate.specs.RowView.{RowView}
use Rattle.certificate.specs.PricesView.{PricesView}
use Rattle.certificate.specs.IsPlan.{Meets, IsPlan}
use Rattle.certificate.specs.Cost.{cost}
use Rattle.certificate.specs.Price.{all_prices}
use Rattle.certificate.specs.IsBound.{IsValueOf, worth}
use Rattle.certificate.specs.IsShortage.{chosen, asked, offered}
use Rattle.certificate.specs.Limits.{is_within_limits, is_shortage_within_limits}
use Rattle.certificate.specs.PlanFault.{is_not_allowed, is_held, is_too_high}
use Rattle.certificate.specs.declared.price_lists.Price.{Price}
use Rattle.certificate.specs.declared.fault.CheckFault.{CheckFault}
use Rattle.certificate.specs.declared.fault.CheckFault.TheVariants.{BadProblem, WrongCount, NotAllowed, HeldTwice, ValueTooHigh, Gap, NoShortage}

-- place k of two lists is the first at which good fails, and there bad holds
pub record IsFirstBad {A B : Type 0} (good bad : A → B → Type 0) (xs : List A) (ys : List B) (k : ℕ) : Type 0 where
  pub x : A
  pub y : B
  pub x_is : slice_get xs k ≡ Some x
  pub y_is : slice_get ys k ≡ Some y
  pub before : AllZip good (take k xs) (take k ys)
  pub here : bad x y

-- the set has not as many CPUs as the row asks for
abbrev pub IsMiscounted : RowView → Ids → Type 0
IsMiscounted row s = set.len s ≢ row.demand

-- the set has as many, and the CPU is the least of them without a weight in the row
abbrev pub HasNotAllowed : ℕ → RowView → Ids → Type 0
HasNotAllowed cpu row s =
    (set.len s ≡ row.demand) × IsLeastThat (is_not_allowed row s) cpu

-- the cause of a refusal of the rows and their sets; there is no other
abbrev pub IsRowsCause : List RowView → List Ids → CheckFault → Type 0
IsRowsCause rows sets (WrongCount k) = IsFirstBad Meets IsMiscounted rows sets k
IsRowsCause rows sets (NotAllowed k cpu) = IsFirstBad Meets (HasNotAllowed cpu) rows sets k
IsRowsCause rows sets _ = ⊥

-- the CPU is the least with a weight in the row that, with its price, is below the value
abbrev pub IsBelowAt : List Price → ℕ → RowView → ℕ → Type 0
IsBelowAt prices cpu row value = IsLeastThat (is_too_high prices row value) cpu

-- the sets before one are apart, and the CPU is the least of its own that one of those has too
pub record IsFirstShared (sets : List Ids) (cpu : ℕ) : Type 0 where
  pub k : ℕ
  pub own : Ids
  pub own_is : slice_get sets k ≡ Some own
  pub before : AllPairs IsDisjoint (take k sets)
  pub here : IsLeastThat (λ c. set.contains own c && is_held (take k sets) c) cpu

-- the cause of each refusal of a plan, and that what is checked before it is in order
abbrev pub IsCause : List RowView → List Ids → PricesView → CheckFault → Type 0
IsCause rows sets prices BadProblem = is_within_limits rows sets prices ≡ false
IsCause rows sets prices (WrongCount k) =
    (is_within_limits rows sets prices ≡ true) × IsRowsCause rows sets (WrongCount k)
IsCause rows sets prices (NotAllowed k cpu) =
    (is_within_limits rows sets prices ≡ true) × IsRowsCause rows sets (NotAllowed k cpu)
IsCause rows sets prices (HeldTwice cpu) =
    (is_within_limits rows sets prices ≡ true) × AllZip Meets rows sets × IsFirstShared sets cpu
IsCause rows sets prices (ValueTooHigh k cpu) =
    (is_within_limits rows sets prices ≡ true) × IsPlan rows sets
    × IsFirstBad (IsValueOf prices.of_cpu) (IsBelowAt prices.of_cpu cpu) rows prices.values k
IsCause rows sets prices Gap =
    (is_within_limits rows sets prices ≡ true) × IsPlan rows sets × AllZip (IsValueOf prices.of_cpu) rows prices.values
    × (worth rows prices.values ≢ cost rows sets + all_prices prices.of_cpu)
IsCause rows sets prices NoShortage = ⊥

-- the cause of each refusal of a shortage
abbrev pub IsShortageCause : List RowView → List ℕ → CheckFault → Type 0
IsShortageCause rows members BadProblem = is_shortage_within_limits rows members ≡ false
IsShortageCause rows members NoShortage =
    (is_shortage_within_limits rows members ≡ true)
    × (asked (chosen rows members) ≤ length (offered (chosen rows members)))
IsShortageCause rows members _ = ⊥
