-- The CPUs for which each row has a weight.
use Rattle.std.specs.Prelude.{◌≡◌, ℕ, zero, suc, ◌+◌, ◌<◌, ◌==◌, cond, List, is_some, length, slice_index_or}
use Rattle.std.specs.FinSet as set
use Rattle.cpu_set.specs.Ids.{Ids}
use Rattle.certificate.specs.RowView.{RowView}
use Rattle.certificate.specs.Weight.{weight_in}
use Rattle.twins.specs.Kinds.{offers_of, kind_at}

-- the CPUs that the row has a weight for
abbrev pub AreCpusOf : List RowView → ℕ → Ids → Type 0
AreCpusOf rows k cpus = (cpu : ℕ) → set.contains cpus cpu ≡ is_some (weight_in (offers_of rows k) cpu)

-- how many of the first rows are the first of their kind
abbrev pub firsts_before : List ℕ → ℕ → ℕ
firsts_before kinds zero = 0
firsts_before kinds (suc k) = firsts_before kinds k + cond (kind_at kinds k == k) 1 0

-- a set for each of the first rows that is the first of its kind, in their order, which has the row's CPUs
pub record AreRowCpus (rows : List RowView) (kinds : List ℕ) (upto : ℕ) (sets : List Ids) : Type 0 where
  pub long : length sets ≡ firsts_before kinds upto
  pub each : (k : ℕ) → k < upto → kind_at kinds k ≡ k → AreCpusOf rows k (slice_index_or sets (firsts_before kinds k) set.empty)
