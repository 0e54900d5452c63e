-- What a CPU of a class costs a row that holds it.
use Rattle.std.specs.Prelude.{◌≡◌, ℕ, List, Option, option_and_then, slice_get}
use Rattle.std.specs.FinSet as set
use Rattle.cpu_set.specs.Ids.{Ids}
use Rattle.certificate.specs.RowView.{RowView}
use Rattle.certificate.specs.Weight.{weight}
use Rattle.cpu_set.specs.Least.{least_that}
use Rattle.certificate.specs.IsDealt.{Holds}
use Rattle.twins.specs.IsGrouping.{class_at, IsGrouping}

-- the weight that row k has for the CPU; there is none where there is no such row
abbrev pub weight_at : List RowView → ℕ → ℕ → Option ℕ
weight_at rows k cpu = option_and_then (λ row. weight row cpu) (slice_get rows k)

-- what a CPU of a class costs row k: the weight of its least CPU. If a row has two offers of one weight a class may lie in
-- both, so an offer need not be whole classes.
abbrev pub class_weight : List RowView → List Ids → ℕ → ℕ → Option ℕ
class_weight rows classes k g = option_and_then (weight_at rows k) (least_that (set.contains (class_at classes g)))

-- the weight of a class is that of each of its CPUs
abbrev pub MembersWeighTheSame : Type 0
MembersWeighTheSame =
    (rows : List RowView) (classes : List Ids) → IsGrouping rows classes
    → (k g cpu : ℕ) → Holds classes g cpu → class_weight rows classes k g ≡ weight_at rows k cpu
