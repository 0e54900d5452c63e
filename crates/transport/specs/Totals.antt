-- Sums over the first rows or classes.
use Rattle.std.specs.Prelude.{◌≡◌, ℕ, zero, suc, ◌+◌, ◌*◌, ◌<◌, Bool, true, cond, Option, Some, None, List}
use Rattle.transport.specs.Numbers.{number, is_marked}

-- f 0 + f 1 + .., n terms
abbrev pub total : (ℕ → ℕ) → ℕ → ℕ
total f zero = 0
total f (suc n) = f 0 + total (λ i. f (suc i)) n

-- the weight, or 0 where there is none
abbrev pub weight_or_0 : Option ℕ → ℕ
weight_or_0 None = 0
weight_or_0 (Some w) = w

-- what a row holds, and what is held of a class
abbrev pub row_total : (ℕ → ℕ → ℕ) → ℕ → ℕ → ℕ
row_total cells classes k = total (λ g. cells k g) classes

abbrev pub class_total : (ℕ → ℕ → ℕ) → ℕ → ℕ → ℕ
class_total cells rows g = total (λ k. cells k g) rows

-- what each row holds and lacks is its demand, and what is held and free of each class is its size
pub record IsShared (demands sizes : ℕ → ℕ) (rows classes : ℕ) (cells : ℕ → ℕ → ℕ) (residual deficit : List ℕ) : Type 0 where
  pub by_row : (k : ℕ) → k < rows → row_total cells classes k + number deficit k ≡ demands k
  pub by_class : (g : ℕ) → g < classes → class_total cells rows g + number residual g ≡ sizes g
  pub rows_in : (k g : ℕ) → 0 < cells k g → (k < rows) × (g < classes)

-- the worth of the values is the cost and the prices of all CPUs
abbrev pub IsBalanced : (ℕ → ℕ → Option ℕ) → (ℕ → ℕ) → (ℕ → ℕ) → List ℕ → List ℕ → (ℕ → ℕ → ℕ) → ℕ → ℕ → Type 0
IsBalanced ws demands sizes values prices cells rows classes =
    total (λ k. demands k * number values k) rows
    ≡ total (λ k. total (λ g. cells k g * weight_or_0 (ws k g)) classes) rows + total (λ g. sizes g * number prices g) classes

-- the marked rows have weights for the marked classes alone, and ask for more than all of these have
pub record IsHall (ws : ℕ → ℕ → Option ℕ) (demands sizes : ℕ → ℕ) (rows classes : ℕ) (reached taken : List Bool) : Type 0 where
  pub only : (k g w : ℕ) → is_marked reached k ≡ true → ws k g ≡ Some w → is_marked taken g ≡ true
  pub short : total (λ g. cond (is_marked taken g) (sizes g) 0) classes < total (λ k. cond (is_marked reached k) (demands k) 0) rows
