-- The least member of one set that is not in another.
use Rattle.std.proofs.Common.{◌≡◌, ℕ, true, Some, None, sym, ◌∙◌, arith}
use Rattle.std.specs.FinSet as set
use Rattle.faults.specs.TestLaws.{without}
use Rattle.cpu_set.specs.Ids.{Ids, NoneFrom, IsFirstFrom}
use Rattle.cpu_set.specs.LeastLaws.{least-difference}
use Rattle.cpu_set.specs.Members.{IsCpu}
use Rattle.cpu_set.specs.PointwiseLaws.{contains-difference}
use Rattle.demand.specs.DemandFaultOf.{least_other}

-- none where the difference is empty
pub least_other-none : (s known : Ids) → NoneFrom (set.difference s known) 0 → least_other s known ≡ None
least_other-none s known none = least-difference s known None (none, tt)

-- else the first of the difference
pub least_other-some : (s known : Ids) (n : ℕ) → IsFirstFrom (set.difference s known) 0 n → IsCpu n → least_other s known ≡ Some n
least_other-some s known n first is_cpu = least-difference s known (Some n) (first, is_cpu)

-- where the difference is empty, each member is in the other set
pub all_known : (s known : Ids) → NoneFrom (set.difference s known) 0 → (n : ℕ) → set.contains s n ≡ true → set.contains known n ≡ true
all_known s known none n has = without _ _ (sym (contains-difference s known n) ∙ none n (omega arith)) has

pub ruleset least_others = (least_other-none, least_other-some)
