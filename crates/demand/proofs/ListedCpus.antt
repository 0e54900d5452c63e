-- What is asked of sets that are written out, and of those that a text names, is computed from their lists.
use Rattle.std.proofs.Common.{◌≡◌, ℕ, Bool, true, false, not, ◌&&◌, ◌||◌, ◌==◌, nat_lt, nat_eq, List, [], ◌∷◌, Some, inl, inr, refl, sym, ap, subst, ◌∙◌, arith}
use Rattle.std.proofs.lemmas.Bool.{or_cases}
use Rattle.std.proofs.lemmas.Bool.Decides.{nat_tests}
use Rattle.std.specs.FinSet as set
use Rattle.cpu_set.specs.Least.{least_that}
use Rattle.cpu_set.specs.Those.{those}
use Rattle.cpu_set.specs.ThoseLemmas.{contains-those}
use Rattle.cpu_set.specs.PointwiseLaws.{same_members}
use Rattle.cpu_set.specs.Members.{cpus, members}
use Rattle.cpu_set.specs.ListedSetLemmas.{is_in, contains-listed, len-listed, members-listed, retain-listed, union-listed, is_subset-listed}
use Rattle.cpu_set.specs.declared.TheConstants.{CPU_LIMIT}
use Rattle.cpu_list.specs.ListText.{names}
use Rattle.machine.specs.Listed.{set_of}
use Rattle.machine.specs.Cores.{cpus_of_core, whole_in}
use Rattle.machine.specs.Present.{present}
use Rattle.machine.specs.Weight.{weight}
use Rattle.demand.specs.Allowed.{is_allowed}
use Rattle.demand.specs.Named.{named}
use Rattle.demand.specs.DemandFaultOf.{least_other}
use Rattle.demand.specs.Worked.{two_nodes}

pub those-listed : (p : ℕ → Bool) (limit : ℕ) (ks : List ℕ) → ((q : ℕ) → (nat_lt q limit && p q) ≡ is_in ks q) → those p limit ≡ set.from_list ks
those-listed p limit ks same = same_members _ _ (λ q. contains-those p limit q ∙ same q ∙ sym (set.contains-from_list_nat ks q))

pub named-listed : (text ks : List ℕ) → ((q : ℕ) → (nat_lt q CPU_LIMIT && names text q) ≡ is_in ks q) → named (Some text) ≡ set.from_list ks
unfolding named set_of
named-listed text ks same = those-listed (names text) CPU_LIMIT ks same

pub least_other-listed : (ks js : List ℕ) → least_other (set.from_list ks) (set.from_list js) ≡ least_that (λ n. is_in ks n && not (is_in js n))
least_other-listed ks js = λ i. least_that (λ n. contains-listed ks i n && not (contains-listed js i n))

pub present-listed : present two_nodes ≡ set.from_list (0 ∷ 1 ∷ 2 ∷ 3 ∷ [])
present-listed = ap (λ s. set.union s (set.from_list (2 ∷ 3 ∷ []))) (union-listed [] (0 ∷ 1 ∷ [])) ∙ union-listed (0 ∷ 1 ∷ []) (2 ∷ 3 ∷ [])

-- the core of a CPU is the CPU alone
pub core_1 : cpus_of_core two_nodes 1 ≡ set.from_list (1 ∷ [])
unfolding cpus_of_core
core_1 = rw present-listed (retain-listed (0 ∷ 1 ∷ 2 ∷ 3 ∷ []) (λ cpu. cpu == 1))

pub core_2 : cpus_of_core two_nodes 2 ≡ set.from_list (2 ∷ [])
unfolding cpus_of_core
core_2 = rw present-listed (retain-listed (0 ∷ 1 ∷ 2 ∷ 3 ∷ []) (λ cpu. cpu == 2))

pub whole_1_2 : whole_in two_nodes (set.from_list (1 ∷ 2 ∷ [])) ≡ set.from_list (1 ∷ 2 ∷ [])
unfolding whole_in
whole_1_2 =
    retain-listed (1 ∷ 2 ∷ []) (λ cpu. set.is_subset (cpus_of_core two_nodes cpu) (set.from_list (1 ∷ 2 ∷ [])))
    ∙ rw (core_1, core_2, is_subset-listed (1 ∷ []) (1 ∷ 2 ∷ []), is_subset-listed (2 ∷ []) (1 ∷ 2 ∷ [])) refl

pub whole_none : whole_in two_nodes (set.from_list []) ≡ set.from_list []
unfolding whole_in
whole_none = retain-listed [] (λ cpu. set.is_subset (cpus_of_core two_nodes cpu) (set.from_list []))

homes_1_0 : members (set.from_list (0 ∷ 1 ∷ [])) ≡ 0 ∷ 1 ∷ []
unfolding cpus
homes_1_0 = members-listed (0 ∷ 1 ∷ [])

-- each CPU is at distance 10 from one of the two nodes
weight_1 : weight two_nodes (set.from_list (0 ∷ 1 ∷ [])) 1 ≡ 10
unfolding weight
weight_1 = rw (homes_1_0, contains-listed (0 ∷ 1 ∷ [])) refl

weight_2 : weight two_nodes (set.from_list (0 ∷ 1 ∷ [])) 2 ≡ 10
unfolding weight
weight_2 = rw (homes_1_0, contains-listed (0 ∷ 1 ∷ []), contains-listed (2 ∷ 3 ∷ [])) refl

in_reach : (q : ℕ) → is_in (1 ∷ 2 ∷ []) q ≡ true → nat_lt (weight two_nodes (set.from_list (0 ∷ 1 ∷ [])) q) 255 ≡ true
in_reach q there =
    elim (or_cases (nat_eq 1 q) (is_in (2 ∷ []) q) there) [
      | inl is ↦ let at : 1 ≡ q = grind (arith, nat_tests) in subst (λ n. nat_lt (weight two_nodes (set.from_list (0 ∷ 1 ∷ [])) n) 255 ≡ true) at (rw weight_1 refl)
      | inr is ↦ let at : 2 ≡ q = grind (arith, nat_tests) in subst (λ n. nat_lt (weight two_nodes (set.from_list (0 ∷ 1 ∷ [])) n) 255 ≡ true) at (rw weight_2 refl)
    ]

abbrev free : List ℕ → ℕ → Bool
free ns q = is_in (0 ∷ 1 ∷ 2 ∷ 3 ∷ []) q && (false || is_in ns q) && not (is_in (0 ∷ []) q)

free_1_2 : (q : ℕ) (b : Bool) → (is_in (1 ∷ 2 ∷ []) q ≡ true → b ≡ true) → (nat_lt q 4096 && (free (0 ∷ 1 ∷ 2 ∷ []) q && b)) ≡ is_in (1 ∷ 2 ∷ []) q
free_1_2 q b near = grind (arith, nat_tests)

free_none : (q : ℕ) (b : Bool) → (nat_lt q 4096 && (free (0 ∷ []) q && b)) ≡ false
free_none q b = grind (arith, nat_tests)

pub allowed_1_2 : those (is_allowed two_nodes (set.from_list (0 ∷ 1 ∷ 2 ∷ [])) (set.from_list (0 ∷ 1 ∷ []))) CPU_LIMIT ≡ set.from_list (1 ∷ 2 ∷ [])
allowed_1_2 = those-listed (is_allowed two_nodes (set.from_list (0 ∷ 1 ∷ 2 ∷ [])) (set.from_list (0 ∷ 1 ∷ []))) CPU_LIMIT (1 ∷ 2 ∷ []) (λ q.
    rw (present-listed, len-listed (0 ∷ 1 ∷ 2 ∷ []), contains-listed (0 ∷ 1 ∷ 2 ∷ 3 ∷ []), contains-listed (0 ∷ 1 ∷ 2 ∷ []), contains-listed (0 ∷ []))
    (free_1_2 q (nat_lt (weight two_nodes (set.from_list (0 ∷ 1 ∷ [])) q) 255) (in_reach q)))

pub allowed_none : those (is_allowed two_nodes (set.from_list (0 ∷ [])) (set.from_list (0 ∷ 1 ∷ []))) CPU_LIMIT ≡ set.from_list []
allowed_none = those-listed (is_allowed two_nodes (set.from_list (0 ∷ [])) (set.from_list (0 ∷ 1 ∷ []))) CPU_LIMIT [] (λ q.
    rw (present-listed, len-listed (0 ∷ []), contains-listed (0 ∷ 1 ∷ 2 ∷ 3 ∷ []), contains-listed (0 ∷ []))
    (free_none q (nat_lt (weight two_nodes (set.from_list (0 ∷ 1 ∷ [])) q) 255)))
