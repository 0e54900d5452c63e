-- What is asked of a set that is written out is worked out from its list.
use Rattle.std.proofs.Common.{◌≡◌, ℕ, Bool, ◌&&◌, List, [], ◌∷◌, nat_eq, refl, sym, ap, ◌∙◌, arith}
use Rattle.std.proofs.lemmas.Bool.{both_ways}
use Rattle.std.proofs.lemmas.Bool.Decides.{nat_tests}
use Rattle.std.specs.List.{list_any}
use Rattle.std.specs.Ordering.{nat_cmp}
use Rattle.std.specs.FinSet as set
use Rattle.cpu_set.specs.Ids.{Ids}
use Rattle.cpu_set.specs.PointwiseLaws.{contains-intersection, same_members}
use Rattle.cpuset_tree.specs.GrantedLemmas.{granted_all, granted_part, granted-empty}
use Rattle.cpuset_tree.specs.Effective.{granted, effective_cpus}
use Rattle.kernel_model.specs.KernelState.{KernelState}
use Rattle.kernel_model.specs.Worked.{web}
use Rattle.kernel_model.proofs.laws.worked.Goals as goal

abbrev listed : List ℕ → Ids
listed ks = set.from_list ks

abbrev online : List ℕ
online = 0 ∷ 1 ∷ 2 ∷ 3 ∷ []

abbrev is_in : List ℕ → ℕ → Bool
is_in ks q = list_any (λ k. nat_eq k q) ks

-- those of some numbers that are online
meets : (ks js : List ℕ) → ((q : ℕ) → (is_in ks q && is_in online q) ≡ is_in js q) → set.intersection (listed ks) (listed online) ≡ listed js
meets ks js are = same_members _ _ (λ q.
    rw (contains-intersection (listed ks) (listed online) q, set.contains-from_list_nat ks q, set.contains-from_list_nat online q, set.contains-from_list_nat js q) (are q))

meets_some : set.intersection (listed (1 ∷ 2 ∷ 4 ∷ [])) (listed online) ≡ listed (1 ∷ 2 ∷ [])
meets_some = meets (1 ∷ 2 ∷ 4 ∷ []) (1 ∷ 2 ∷ []) (λ q. grind (arith, nat_tests))

meets_none : set.intersection (listed (4 ∷ [])) (listed online) ≡ set.empty
meets_none = meets (4 ∷ []) [] (λ q. grind (arith, nat_tests))

is_some : listed (1 ∷ 2 ∷ []) ≡ set.empty → ⊥
is_some none = both_ways (set.contains (listed (1 ∷ 2 ∷ [])) 1) (ap (λ (s : Ids). set.contains s 1) none ∙ set.contains-empty nat_cmp 1) (set.contains-from_list_nat (1 ∷ 2 ∷ []) 1)

pub returns-clause-in_effect : goal.returns-clause-in_effect
returns-clause-in_effect c new written =
    ap (λ (k : KernelState). effective_cpus k.tree web) written.1
    ∙ ap (λ (above : Ids). granted (listed (1 ∷ 2 ∷ 4 ∷ [])) above) (granted-empty (listed online))
    ∙ granted_part (listed (1 ∷ 2 ∷ 4 ∷ [])) (listed online) (λ none. is_some (sym meets_some ∙ none)) ∙ meets_some

pub returns-clause-none_online : goal.returns-clause-none_online
returns-clause-none_online c new written =
    ap (λ (k : KernelState). effective_cpus k.tree web) written.1
    ∙ ap (λ (above : Ids). granted (listed (4 ∷ [])) above) (granted-empty (listed online))
    ∙ granted_all (listed (4 ∷ [])) (listed online) meets_none

pub returns-clause-reserved : goal.returns-clause-reserved
returns-clause-reserved c = rw (set.contains-from_list_nat (0 ∷ 1 ∷ 2 ∷ 3 ∷ 4 ∷ []) 0, set.contains-from_list_nat (0 ∷ []) 0) refl

pub returns-clause-no_cpu : goal.returns-clause-no_cpu
returns-clause-no_cpu c = rw (set.contains-from_list_nat (0 ∷ 1 ∷ 2 ∷ 3 ∷ 4 ∷ []) 5) refl

pub returns-clause-goes : goal.returns-clause-goes
returns-clause-goes c = rw (set.contains-from_list_nat (0 ∷ 1 ∷ 2 ∷ 3 ∷ 4 ∷ []) 1, set.contains-from_list_nat (0 ∷ []) 1) refl
