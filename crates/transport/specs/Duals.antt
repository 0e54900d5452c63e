-- Values of rows and prices of classes, beside the weights that rows have for classes and the CPUs of each that they hold.
use Rattle.std.specs.Prelude.{◌≡◌, ℕ, ◌+◌, ◌<◌, ◌≤◌, List, Option, Some}
use Rattle.transport.specs.Numbers.{number}

-- a row has a weight for a class, and its value is that weight with the price
pub record IsTight (ws : ℕ → ℕ → Option ℕ) (values prices : List ℕ) (k g : ℕ) : Type 0 where
  pub weight : ℕ
  pub its : ws k g ≡ Some weight
  pub equal : number values k ≡ weight + number prices g

-- values and prices that are below the weights, tight where CPUs are held, and 0 where a CPU is free
pub record IsDual (ws : ℕ → ℕ → Option ℕ) (values prices : List ℕ) (cells : ℕ → ℕ → ℕ) (residual : List ℕ) : Type 0 where
  pub below : (k g w : ℕ) → ws k g ≡ Some w → number values k ≤ w + number prices g
  pub tight : (k g : ℕ) → 0 < cells k g → IsTight ws values prices k g
  pub zero : (g : ℕ) → 0 < number residual g → number prices g ≡ 0
