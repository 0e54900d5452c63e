-- What `least_that` answers: the least CPU that passes, and none only if none passes. For a set it is the first member.
use Rattle.std.proofs.Common.{◌≡◌, ℕ, zero, suc, ◌+◌, ◌<◌, ◌≤◌, Bool, true, false, cond, not, ◌&&◌, Option, Some, None, MatchOption, IfSome, refl, sym, ap, ◌∙◌, inl, inr, arith}
use Rattle.std.specs.Prelude.{find}
use Rattle.std.specs.List.{range_with_len}
use Rattle.std.specs.FinSet as set
use Rattle.std.proofs.lemmas.Bool.{cases_eq}
use Rattle.cpu_set.specs.Ids.{Ids, NoneFrom, IsFirstFrom}
use Rattle.cpu_set.specs.Members.{IsCpu, cpus}
use Rattle.cpu_set.specs.PointwiseLaws.{contains-intersection, contains-difference}
use Rattle.cpu_set.specs.Least.{least_that}
use Rattle.cpu_set.specs.declared.TheConstants.{CPU_LIMIT}

-- a CPU that passes, where no lesser one does
pub record IsLeastThat (test : ℕ → Bool) (n : ℕ) : Type 0 where
  pub is_cpu : IsCpu n
  pub passes : test n ≡ true
  pub least : (k : ℕ) → k < n → test k ≡ false

-- no CPU passes
abbrev pub NonePasses : (ℕ → Bool) → Type 0
NonePasses test = (n : ℕ) → IsCpu n → test n ≡ false

-- a CPU that passes while no lesser one does is the answer
abbrev pub LeastIsLeast : Type 0
LeastIsLeast = (test : ℕ → Bool) (n : ℕ) → IsLeastThat test n → least_that test ≡ Some n

-- an answer passes and no lesser CPU does; if none is answered, no CPU passes
abbrev pub LeastPasses : Type 0
LeastPasses = (test : ℕ → Bool) → MatchOption (least_that test) (NonePasses test) (IsLeastThat test)

-- if no CPU passes, none is answered
abbrev pub NoneWhereNone : Type 0
NoneWhereNone = (test : ℕ → Bool) → NonePasses test → least_that test ≡ None

-- what a walk of a set answers as its first member
abbrev pub IsFirstOf : Ids → Option ℕ → Type 0
IsFirstOf s first = MatchOption first (NoneFrom s 0) (λ n. IsFirstFrom s 0 n) × IfSome first (λ n. IsCpu n)

-- of the CPUs of a set the least is its first member
abbrev pub LeastIsFirst : Type 0
LeastIsFirst = (s : Ids) (test : ℕ → Bool) (first : Option ℕ) → ((n : ℕ) → IsCpu n → set.contains s n ≡ test n) → IsFirstOf s first → least_that test ≡ first

-- of the CPUs in one set and not in another the least is the first member of the difference
abbrev pub LeastOfDifference : Type 0
LeastOfDifference = (s t : Ids) (first : Option ℕ) → IsFirstOf (set.difference s t) first → least_that (λ n. set.contains s n && not (set.contains t n)) ≡ first

-- of the CPUs in both sets the least is the first member of what they share
abbrev pub LeastOfBoth : Type 0
LeastOfBoth = (s t : Ids) (first : Option ℕ) → IsFirstOf (set.intersection s t) first → least_that (λ n. set.contains s n && set.contains t n) ≡ first

none_in_range : (test : ℕ → Bool) (a n : ℕ) → ((k : ℕ) → k < a + n → test k ≡ false) → find test (range_with_len a n) ≡ None
none_in_range test a zero none = refl
none_in_range test a (suc n) none =
    rw (none a (omega arith)) (none_in_range test (a + 1) n (λ k lt. none k (omega arith)))

some_in_range :
    (test : ℕ → Bool) (a n k : ℕ) → a ≤ k → k < a + n → test k ≡ true → ((j : ℕ) → j < k → test j ≡ false)
    → find test (range_with_len a n) ≡ Some k
some_in_range test a zero k from below here before = absurd (omega arith)
some_in_range test a (suc n) k from below here before =
    elim (cases_eq a k) [
      | inl same ↦ let passes : test a ≡ true = ap test same ∙ here in rw passes (ap Some same)
      | inr other ↦
          let fails : test a ≡ false = before a (omega arith) in
          rw fails (some_in_range test (a + 1) n k (omega arith) (omega arith) here before)
    ]

none_passes :
    (test : ℕ → Bool) (a n : ℕ) → find test (range_with_len a n) ≡ None → (k : ℕ) → a ≤ k → k < a + n → test k ≡ false
none_passes test a zero none k from below = absurd (omega arith)
none_passes test a (suc n) none k from below =
    let p : (test a ≡ false) × (find test (range_with_len (a + 1) n) ≡ None) = first_fails (test a) a _ none in
    elim (cases_eq a k) [
      | inl same ↦ ap test (sym same) ∙ p.0
      | inr other ↦ none_passes test (a + 1) n p.1 k (omega arith) (omega arith)
    ]
  where
    first_fails : (b : Bool) (x : ℕ) (rest : Option ℕ) → cond b (Some x) rest ≡ None → (b ≡ false) × (rest ≡ None)
    first_fails true x rest e = absurd (cc)
    first_fails false x rest e = (refl, e)

some_passes :
    (test : ℕ → Bool) (a n k : ℕ) → find test (range_with_len a n) ≡ Some k
    → (k < a + n) × (test k ≡ true) × ((j : ℕ) → a ≤ j → j < k → test j ≡ false)
some_passes test a zero k found = absurd (cc)
some_passes test a (suc n) k found = by_cases (test a) refl found (some_passes test (a + 1) n k)
  where
    by_cases :
        (b : Bool) → test a ≡ b → cond b (Some a) (find test (range_with_len (a + 1) n)) ≡ Some k
        → (find test (range_with_len (a + 1) n) ≡ Some k → (k < a + 1 + n) × (test k ≡ true) × ((j : ℕ) → a + 1 ≤ j → j < k → test j ≡ false))
        → (k < a + suc n) × (test k ≡ true) × ((j : ℕ) → a ≤ j → j < k → test j ≡ false)
    by_cases true e found rest =
        let same : a ≡ k = cc in
        (omega arith, ap test (sym same) ∙ e, λ j from lt. absurd (omega arith))
    by_cases false e found rest =
        let r = rest found in
        (omega (arith, r.0), r.1, λ j from lt. elim (cases_eq a j) [ inl same ↦ ap test (sym same) ∙ e | inr other ↦ r.2 j (omega arith) lt ])

-- all CPUs, as a range of any length that is theirs
pub cpus_from : (n : ℕ) → n ≡ CPU_LIMIT → cpus ≡ range_with_len 0 n
unfolding cpus
cpus_from n e = ap (λ k. range_with_len 0 k) (sym e)

some_at : (test : ℕ → Bool) (n k : ℕ) → n ≡ CPU_LIMIT → least_that test ≡ Some k → IsLeastThat test k
some_at test n k e found =
    let r = some_passes test 0 n k (ap (find test) (sym (cpus_from n e)) ∙ found) in
    record { is_cpu = omega (arith, r.0); passes = r.1; least = λ j lt. r.2 j (omega arith) lt }

least_none_at : (test : ℕ → Bool) (n : ℕ) → n ≡ CPU_LIMIT → NonePasses test → least_that test ≡ None
least_none_at test n e none = rw (cpus_from n e) (none_in_range test 0 n (λ k lt. none k (omega arith)))

least_some_at : (test : ℕ → Bool) (n k : ℕ) → n ≡ CPU_LIMIT → IsLeastThat test k → least_that test ≡ Some k
least_some_at test n k e is =
    let is_cpu : IsCpu k = is.is_cpu in
    rw (cpus_from n e) (some_in_range test 0 n k (omega arith) (omega arith) is.passes is.least)

none_at : (test : ℕ → Bool) (n : ℕ) → n ≡ CPU_LIMIT → least_that test ≡ None → NonePasses test
none_at test n e none k is_cpu =
    let none_there : find test (range_with_len 0 n) ≡ None = ap (find test) (sym (cpus_from n e)) ∙ none in
    none_passes test 0 n none_there k (omega arith) (omega arith)

-- where no CPU passes there is none
pub least-none : NoneWhereNone
least-none test none = least_none_at test CPU_LIMIT refl none

-- one that passes, where no lesser one does
pub least-some : LeastIsLeast
least-some test n is = least_some_at test CPU_LIMIT n refl is

-- where there is none no CPU passes
pub least-none_says : (test : ℕ → Bool) → least_that test ≡ None → NonePasses test
least-none_says test none = none_at test CPU_LIMIT refl none

-- the one that is answered passes, and no lesser one does
pub least-some_says : (test : ℕ → Bool) (n : ℕ) → least_that test ≡ Some n → IsLeastThat test n
least-some_says test n found = some_at test CPU_LIMIT n refl found

says : (test : ℕ → Bool) (found : Option ℕ) → least_that test ≡ found → MatchOption found (NonePasses test) (IsLeastThat test)
says test None is = least-none_says test is
says test (Some n) is = least-some_says test n is

pub least-passes : LeastPasses
least-passes test = says test _ refl

-- what is below a CPU number is one
pub is_cpu_below : (k n : ℕ) → k < n → IsCpu n → IsCpu k
is_cpu_below k n lt is_cpu = omega arith

pub least-first : LeastIsFirst
least-first s test None same first = least-none test (λ k is_cpu. sym (same k is_cpu) ∙ first.0 k (omega arith))
least-first s test (Some n) same first =
    least-some test n (record {
      is_cpu = first.1;
      passes = sym (same n first.1) ∙ first.0.member;
      least = λ k lt. sym (same k (is_cpu_below k n lt first.1)) ∙ first.0.least k (omega arith) lt;
    })

pub least-difference : LeastOfDifference
least-difference s t first is = least-first (set.difference s t) _ first (λ n _. contains-difference s t n) is

pub least-both : LeastOfBoth
least-both s t first is = least-first (set.intersection s t) _ first (λ n _. contains-intersection s t n) is
