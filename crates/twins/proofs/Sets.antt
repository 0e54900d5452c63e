-- Sets with few members.
use Rattle.std.proofs.Common.{◌≡◌, ℕ, ◌+◌, ◌<◌, Bool, true, false, cond, not, ◌&&◌, List, length, sum_by, sym, ap, ◌∙◌, inl, inr, arith}
use Rattle.std.specs.FinSet as set
use Rattle.std.proofs.lemmas.Bool.{cases_eq, cases_lt, true≢false}
use Rattle.std.proofs.lemmas.List.{get_or_past}
use Rattle.std.proofs.lemmas.List.Sums.{length-filter}
use Rattle.cpu_set.specs.Ids.{Ids}
use Rattle.cpu_set.specs.Members.{InRange, cpus}
use Rattle.cpu_set.specs.PointwiseLaws.{contains-empty, contains-intersection, contains-difference}
use Rattle.cpu_set.specs.SetLaws.{length-members}
use Rattle.certificate.specs.SumLaws.{sum_by_same, sum_by_plus}
use Rattle.certificate.specs.TestLaws.{true_left}
use Rattle.certificate.specs.IsDealt.{Holds}

-- an empty set has no member
pub empty_contains : (s : Ids) (c : ℕ) → set.len s ≡ 0 → set.contains s c ≡ false
empty_contains s c none =
    let e : s ≡ set.empty = set.empty_of_len s none in
    ap (λ t. set.contains t c) e ∙ contains-empty c

empty_has_none : (s : Ids) (c : ℕ) → set.len s ≡ 0 → set.contains s c ≡ true → ⊥
empty_has_none s c none has =
    let e : s ≡ set.empty = set.empty_of_len s none in
    true≢false (sym has ∙ ap (λ t. set.contains t c) e ∙ contains-empty c)

-- a set with a member has one at least
pub some_of_member : (s : Ids) (c : ℕ) → set.contains s c ≡ true → 0 < set.len s
some_of_member s c has = elim (cases_eq (set.len s) 0) [ inl none ↦ absurd (empty_has_none s c none has) | inr some ↦ omega arith ]

-- as many members as there are CPUs in the set
pub len_sum : (s : Ids) → InRange s → set.len s ≡ sum_by (λ c. cond (set.contains s c) 1 0) cpus
len_sum s in_range = sym (length-members s in_range) ∙ length-filter (set.contains s) cpus

one_of_two : (a b : Bool) → cond {A = ℕ} a 1 0 ≡ cond {A = ℕ} (a && b) 1 0 + cond {A = ℕ} (a && not b) 1 0
one_of_two true true = omega arith
one_of_two true false = omega arith
one_of_two false b = omega arith

-- a set has the members that are in another set, and those that are not
pub len_split : (s t : Ids) → InRange s → set.len s ≡ set.len (set.intersection s t) + set.len (set.difference s t)
len_split s t in_range =
    let met : InRange (set.intersection s t) = λ n here. in_range n (true_left _ _ (sym (contains-intersection s t n) ∙ here)) in
    let left : InRange (set.difference s t) = λ n here. in_range n (true_left _ _ (sym (contains-difference s t n) ∙ here)) in
    rw (len_sum s in_range, len_sum (set.intersection s t) met, len_sum (set.difference s t) left)
    (sum_by_same _ _ cpus (λ c.
    one_of_two (set.contains s c) (set.contains t c)
    ∙ ap (λ b. cond {A = ℕ} b 1 0 + cond {A = ℕ} (set.contains s c && not (set.contains t c)) 1 0) (sym (contains-intersection s t c))
    ∙ ap (λ b. cond {A = ℕ} (set.contains (set.intersection s t) c) 1 0 + cond {A = ℕ} b 1 0) (sym (contains-difference s t c)))
    ∙ sum_by_plus (λ c. cond {A = ℕ} (set.contains (set.intersection s t) c) 1 0) (λ c. cond {A = ℕ} (set.contains (set.difference s t) c) 1 0) cpus)

-- a set that has a CPU stands in the list
pub there : (sets : List Ids) (g c : ℕ) → Holds sets g c → g < length sets
there sets g c holds =
    elim (cases_lt g (length sets)) [
      | inl lt ↦ lt
      | inr past ↦ absurd (true≢false (sym holds ∙ ap (λ t. set.contains t c) (get_or_past sets g set.empty past) ∙ contains-empty c))
    ]
