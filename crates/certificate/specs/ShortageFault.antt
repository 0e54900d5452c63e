-- What is wrong with a shortage: the checks in their order.
use Rattle.std.specs.Prelude.{ℕ, not, nat_lt, List, [], ◌∷◌, length, Option}
use Rattle.faults.specs.First.{when, first_of}
use Rattle.certificate.specs.RowView.{RowView}
use Rattle.certificate.specs.IsShortage.{chosen, asked, offered}
use Rattle.certificate.specs.Limits.{is_shortage_within_limits}
use Rattle.certificate.specs.declared.fault.CheckFault.{CheckFault}
use Rattle.certificate.specs.declared.fault.CheckFault.TheVariants.{BadProblem, NoShortage}

-- the first fault of a shortage: past the limits, or not more CPUs are asked for than are offered
unfoldable pub shortage_fault : List RowView → List ℕ → Option CheckFault
shortage_fault rows members = first_of (
    when (not (is_shortage_within_limits rows members)) BadProblem
    ∷ when (not (nat_lt (length (offered (chosen rows members))) (asked (chosen rows members)))) NoShortage
    ∷ [])
