-- Sets of which no number is in two.
use Rattle.std.proofs.Common.{◌≡◌, ℕ, suc, ◌+◌, ◌<◌, Bool, true, false, cond, ◌||◌, List, [], ◌∷◌, length, refl, sym, sum_by, arith, get_or}
use Rattle.std.proofs.lemmas.Bool.{false_from_ne_true}
use Rattle.std.specs.List.{AllPairs}
use Rattle.std.specs.FinSet as set
use Rattle.std.proofs.lemmas.List.Sums.{sum_by-cons}
use Rattle.cpu_set.specs.Ids.{Ids, IsDisjoint}
use Rattle.cpu_set.specs.Members.{cpus, members}
use Rattle.certificate.specs.PlanFault.{is_held}
use Rattle.certificate.specs.SumLaws.{sum_by_none, sum_by_same, sum_by_plus, sum_by-filter}

-- one set is apart from each of a list
abbrev pub IsApartFrom : Ids → List Ids → Type 0
IsApartFrom s more = (k : ℕ) (d : Ids) → k < length more → IsDisjoint s (get_or more k d)

pub AllPairs-tail : (s : Ids) (more : List Ids) → AllPairs IsDisjoint (s ∷ more) → AllPairs IsDisjoint more
AllPairs-tail s more apart = λ i j d lt within. apart (suc i) (suc j) d (omega arith) (omega arith)

pub AllPairs-head : (s : Ids) (more : List Ids) → AllPairs IsDisjoint (s ∷ more) → IsApartFrom s more
AllPairs-head s more apart = λ k d within. apart 0 (suc k) d (omega arith) (omega arith)

-- a member of a set that is apart from each of a list is in none of them
pub not_held : (s : Ids) (more : List Ids) → IsApartFrom s more → (c : ℕ) → set.contains s c ≡ true → is_held more c ≡ false
not_held s [] apart c member = refl
not_held s (t ∷ more) apart c member =
    let here : set.contains t c ≡ false = false_from_ne_true _ (λ both. apart 0 t (omega arith) c member both) in
    rw here (not_held s more (λ k d within. apart (suc k) d (omega arith)) c member)

apart_once : (p : ℕ) (a b : Bool) → (a ≡ true → b ≡ false) → cond a p 0 + cond b p 0 ≡ cond (a || b) p 0
apart_once p true b once = rw (once refl) (omega arith)
apart_once p false b once = omega arith

-- where no number is in two sets, what is summed over the members of each is summed over the numbers that are held
pub sums_of_sets :
    (f : ℕ → ℕ) (sets : List Ids) → AllPairs IsDisjoint sets
    → sum_by (λ s. sum_by f (members s)) sets ≡ sum_by (λ c. cond (is_held sets c) (f c) 0) cpus
sums_of_sets f [] apart = sym (sum_by_none _ cpus (λ c. refl))
sums_of_sets f (s ∷ sets) apart =
    rw (
      sum_by-cons (λ (t : Ids). sum_by f (members t)) s sets,
      sums_of_sets f sets (AllPairs-tail s sets apart),
      sum_by-filter (set.contains s) f cpus,
      ← sum_by_plus (λ c. cond (set.contains s c) (f c) 0) (λ c. cond (is_held sets c) (f c) 0) cpus,
    )
    (sum_by_same _ _ cpus (λ c. apart_once (f c) (set.contains s c) (is_held sets c) (not_held s sets (AllPairs-head s sets apart) c)))
