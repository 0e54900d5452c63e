-- Laws over the definitions alone.
use Rattle.std.specs.Prelude.{◌≡◌, ℕ, ◌≤◌, None, List, All}
use Rattle.cpu_set.specs.Ids.{Ids}
use Rattle.cpu_set.specs.Members.{InRange}
use Rattle.certificate.specs.RowView.{RowView}
use Rattle.certificate.specs.PricesView.{PricesView}
use Rattle.certificate.specs.IsPlan.{IsPlan}
use Rattle.certificate.specs.Cost.{cost}
use Rattle.certificate.specs.IsLeast.{IsLeast}
use Rattle.certificate.specs.IsBound.{IsBound}
use Rattle.certificate.specs.IsShortage.{IsShortage, HasNoPlan}
use Rattle.certificate.specs.IsProved.{IsProved}
use Rattle.certificate.specs.PlanFault.{plan_fault}
use Rattle.certificate.specs.declared.price_lists.Price.{Price}

-- no plan costs less than a bound, whatever the rows, values and prices
abbrev pub NoPlanBelowBound : Type 0
NoPlanBelowBound =
    (rows : List RowView) (values : List ℕ) (prices : List Price) (bound : ℕ) (sets : List Ids)
    → IsBound rows values prices bound → IsPlan rows sets → bound ≤ cost rows sets

-- what is proved is a plan that no plan undercuts
abbrev pub ProvedIsLeast : Type 0
ProvedIsLeast =
    (rows : List RowView) (sets : List Ids) (prices : PricesView) (total : ℕ) → IsProved rows sets prices total → IsLeast rows sets

-- if rows are short of CPUs there is no plan
abbrev pub ShortageLeavesNoPlan : Type 0
ShortageLeavesNoPlan = (rows : List RowView) (members : List ℕ) → IsShortage rows members → HasNoPlan rows

-- what is proved has no fault
abbrev pub ProvedHasNoFault : Type 0
ProvedHasNoFault =
    (rows : List RowView) (sets : List Ids) (prices : PricesView) (total : ℕ) → IsProved rows sets prices total
    → plan_fault rows sets prices ≡ None

-- sets of CPUs that have no fault are proved, at what they cost
abbrev pub FaultlessIsProved : Type 0
FaultlessIsProved =
    (rows : List RowView) (sets : List Ids) (prices : PricesView) → All InRange sets → plan_fault rows sets prices ≡ None
    → IsProved rows sets prices (cost rows sets)
