-- How many classes of twins there are.
use Rattle.std.proofs.Common.{◌≡◌, ℕ, suc, ◌<◌, ◌≤◌, cond, List, [], ◌∷◌, length, sum_by, refl, arith}
use Rattle.std.specs.Prelude.{All}
use Rattle.std.specs.FinSet as set
use Rattle.std.proofs.lemmas.List.Sums.{sum_by-cons}
use Rattle.certificate.specs.TestLaws.{one_at_most}
use Rattle.cpu_set.specs.Ids.{Ids}
use Rattle.cpu_set.specs.Members.{InRange, cpus}
use Rattle.cpu_set.specs.declared.TheConstants.{CPU_LIMIT}
use Rattle.certificate.specs.RowView.{RowView}
use Rattle.certificate.specs.PlanFault.{is_held}
use Rattle.certificate.specs.SumLaws.{sum_by-constant}
use Rattle.certificate.specs.CpuLaws.{sum_by-cpus-le, length-cpus}
use Rattle.twins.specs.IsGrouping.{IsGrouping}
use Rattle.twins.specs.IsPart.{times_in}
use Rattle.twins.proofs.Sets.{len_sum}
use Rattle.twins.proofs.ByClass.{sum_by_swap, times_of_apart}

-- sets with members have no fewer of them together than there are sets
no_more_than_members : (sets : List Ids) → All (λ s. 0 < set.len s) sets → length sets ≤ sum_by (λ s. set.len s) sets
no_more_than_members [] some = omega arith
no_more_than_members (s ∷ sets) some =
    omega (
      arith,
      sum_by-cons (λ (t : Ids). set.len t) s sets,
      some 0 s (omega arith),
      no_more_than_members sets (λ k d lt. some (suc k) d (omega arith)),
    )

members_summed : (sets : List Ids) → All InRange sets → sum_by (λ s. set.len s) sets ≡ sum_by (λ s. sum_by (λ c. cond (set.contains s c) 1 0) cpus) sets
members_summed [] in_range = refl
members_summed (s ∷ sets) in_range =
    omega (
      arith,
      sum_by-cons (λ (t : Ids). set.len t) s sets,
      sum_by-cons (λ (t : Ids). sum_by (λ c. cond (set.contains t c) 1 0) cpus) s sets,
      len_sum s (in_range 0 s (omega arith)),
      members_summed sets (λ k d lt. in_range (suc k) d (omega arith)),
    )

-- there are no more classes than CPUs
pub few_classes : (rows : List RowView) (classes : List Ids) → IsGrouping rows classes → length classes ≤ CPU_LIMIT
few_classes rows classes grouping =
    let swapped : sum_by (λ s. sum_by (λ c. cond (set.contains s c) 1 0) cpus) classes ≡ sum_by (times_in classes) cpus =
    sum_by_swap (λ (s : Ids) (c : ℕ). cond {A = ℕ} (set.contains s c) 1 0) classes cpus in
    let once : sum_by (times_in classes) cpus ≤ sum_by (λ _. 1) cpus =
    sum_by-cpus-le (times_in classes) (λ _. 1) (λ c is_cpu. omega (arith, times_of_apart classes c grouping.apart, one_at_most (is_held classes c))) in
    omega (
      arith,
      no_more_than_members classes grouping.not_empty,
      members_summed classes grouping.in_range,
      swapped,
      once,
      sum_by-constant {X = ℕ} 1 cpus,
      length-cpus,
    )
