-- Sums over all CPUs, and over the members of a set.
use Rattle.std.proofs.Common.{◌≡◌, ℕ, ◌*◌, ◌≤◌, cond, length, refl, sym, ap, ◌∙◌, sum_by, arith, not}
use Rattle.std.specs.FinSet as set
use Rattle.std.proofs.lemmas.List.Sums.{length-filter}
use Rattle.std.proofs.lemmas.List.FromFn.{length-range_with_len}
use Rattle.cpu_set.specs.LeastLaws.{cpus_from}
use Rattle.cpu_set.specs.Ids.{Ids}
use Rattle.cpu_set.specs.Members.{IsCpu, InRange, cpus}
use Rattle.cpu_set.specs.SetLaws.{length-members}
use Rattle.cpu_set.specs.declared.TheConstants.{CPU_LIMIT}
use Rattle.certificate.specs.SumLaws.{sum_by_times, sum_by-range-le}
use Rattle.std.proofs.lemmas.List.Filters.{length-filter_both}

ordered : (f g : ℕ → ℕ) (n : ℕ) → n ≡ CPU_LIMIT → ((x : ℕ) → IsCpu x → f x ≤ g x) → sum_by f cpus ≤ sum_by g cpus
ordered f g n e below = rw (cpus_from n e) (sum_by-range-le f g 0 n (λ x lt. below x (omega arith)))

-- larger terms at each CPU, a larger sum
pub sum_by-cpus-le : (f g : ℕ → ℕ) → ((x : ℕ) → IsCpu x → f x ≤ g x) → sum_by f cpus ≤ sum_by g cpus
sum_by-cpus-le f g below = ordered f g CPU_LIMIT refl below

-- as many times a number as the set has members
pub len-times : (s : Ids) (m : ℕ) → InRange s → set.len s * m ≡ sum_by (λ c. cond (set.contains s c) 1 0 * m) cpus
len-times s m in_range =
    let counted : set.len s ≡ sum_by (λ c. cond (set.contains s c) 1 0) cpus = sym (length-members s in_range) ∙ length-filter (set.contains s) cpus in
    rw counted (sym (sum_by_times (λ c. cond (set.contains s c) 1 0) m cpus))

length_at : (n : ℕ) → n ≡ CPU_LIMIT → length cpus ≡ CPU_LIMIT
length_at n e = ap length (cpus_from n e) ∙ length-range_with_len 0 n ∙ e

pub length-cpus : length cpus ≡ CPU_LIMIT
length-cpus = length_at CPU_LIMIT refl

-- a set has no more members than there are CPUs
pub len_small : (s : Ids) → InRange s → set.len s ≤ CPU_LIMIT
len_small s in_range =
    omega (
      arith,
      length-members s in_range,
      length-filter_both (set.contains s) (λ c. not (set.contains s c)) (λ c. refl) cpus,
      length-cpus,
    )
