-- Marked rows that ask for more CPUs than they may have are a shortage.
use Rattle.std.proofs.Common.{◌≡◌, ℕ, zero, suc, ◌+◌, ◌<◌, ◌≤◌, Bool, true, false, cond, ◌||◌, Option, Some, None, List, [], ◌∷◌, length, get_or, filter, slice_get, is_some, sum_by, refl, sym, ap, ◌∙◌, arith}
use Rattle.std.specs.Prelude.{All, option_and_then}
use Rattle.std.specs.List.{range_with_len, cons_option}
use Rattle.std.specs.List.Sorted.{IsStrictlyIncreasing}
use Rattle.std.specs.FinSet as set
use Rattle.std.proofs.lemmas.Bool.{false≢true}
use Rattle.std.proofs.lemmas.List.FromFn.{length-range_with_len, get_or-range_with_len}
use Rattle.std.proofs.lemmas.List.Elements.{All-cons, All-nil}
use Rattle.std.proofs.lemmas.List.Kept.{IsStrictlyIncreasing-filter}
use Rattle.std.proofs.lemmas.List.Sums.{length-filter}
use Rattle.cpu_set.specs.Members.{IsCpu, InRange, cpus, members}
use Rattle.cpu_set.specs.Those.{those}
use Rattle.cpu_set.specs.ThoseLemmas.{contains-those}
use Rattle.cpu_set.specs.SetLaws.{length-members}
use Rattle.cpu_set.specs.declared.TheConstants.{CPU_LIMIT}
use Rattle.certificate.specs.RowView.{RowView}
use Rattle.certificate.specs.Weight.{weight}
use Rattle.certificate.specs.IsShortage.{chosen, asked, is_offered, offered, IsShortage}
use Rattle.certificate.specs.CpuLaws.{sum_by-cpus-le}
use Rattle.hall.specs.Asking.{demand_at, may_have}
use Rattle.hall.specs.AskingLaws.{asked_one}
use Rattle.hall.specs.CountingLaws.{count, one_at_most}
use Rattle.hall.proofs.Sums.{total, total_same}
use Rattle.hall.proofs.Serving.{of_marked, is_open, open_by, AreShort}
use Rattle.std.proofs.lemmas.Bool.{and_parts, and_from, ltb-true, lt-ltb}
use Rattle.std.specs.Prelude.{nat_lt}

-- CPUs that pass a test are no more than those that pass another, where each passes that too
passing_few : (p q : ℕ → Bool) → ((c : ℕ) → IsCpu c → p c ≡ true → q c ≡ true) → length (filter p cpus) ≤ count q CPU_LIMIT
passing_few p q within =
    let low : InRange (those q CPU_LIMIT) =
    λ n member. ltb-true n CPU_LIMIT (and_parts (nat_lt n CPU_LIMIT) (q n) (sym (contains-those q CPU_LIMIT n) ∙ member)).0 in
    let its : length (members (those q CPU_LIMIT)) ≡ set.len (those q CPU_LIMIT) = length-members (those q CPU_LIMIT) low in
    let terms : sum_by (λ c. cond {A = ℕ} (p c) 1 0) cpus ≤ sum_by (λ c. cond {A = ℕ} (set.contains (those q CPU_LIMIT) c) 1 0) cpus =
    sum_by-cpus-le _ _ (λ c is_cpu. one_at_most (p c) (set.contains (those q CPU_LIMIT) c) (λ on. in_those c is_cpu (within c is_cpu on))) in
    omega (arith, its, terms, length-filter p cpus, length-filter (set.contains (those q CPU_LIMIT)) cpus)
  where
    in_those : (c : ℕ) → IsCpu c → q c ≡ true → set.contains (those q CPU_LIMIT) c ≡ true
    in_those c is_cpu on = contains-those q CPU_LIMIT c ∙ and_from (nat_lt c CPU_LIMIT) (q c) (lt-ltb c CPU_LIMIT is_cpu) on

module _ (rows : List RowView) (marks : ℕ → Bool) where
  -- the marked rows from one number on
  abbrev pub marked_from : ℕ → ℕ → List ℕ
  marked_from a n = filter marks (range_with_len a n)

  -- each is marked, and one of the range
  passing : (a n : ℕ) → All (λ k. (marks k ≡ true) × (k < a + n)) (marked_from a n)
  passing a zero = All-nil (λ k. (marks k ≡ true) × (k < a + zero))
  passing a (suc n) = by_test (marks a) refl (wider (passing (a + 1) n))
    where
      wider :
          All (λ k. (marks k ≡ true) × (k < a + 1 + n)) (marked_from (a + 1) n)
          → All (λ k. (marks k ≡ true) × (k < a + suc n)) (marked_from (a + 1) n)
      wider all k d lt =
          let h = all k d lt in
          (h.0, omega (arith, h.1))

      by_test :
          (b : Bool) → marks a ≡ b → All (λ k. (marks k ≡ true) × (k < a + suc n)) (marked_from (a + 1) n)
          → All (λ k. (marks k ≡ true) × (k < a + suc n)) (cond b (a ∷ marked_from (a + 1) n) (marked_from (a + 1) n))
      by_test true on more = All-cons (λ k. (marks k ≡ true) × (k < a + suc n)) a (marked_from (a + 1) n) (on, omega arith) more
      by_test false off more = more

  rising : (a n : ℕ) → IsStrictlyIncreasing (range_with_len a n)
  rising a n k lt =
      let long = length-range_with_len a n in
      let here : get_or (range_with_len a n) k 0 ≡ a + k = get_or-range_with_len a n k 0 (omega (arith, long)) in
      let next : get_or (range_with_len a n) (k + 1) 0 ≡ a + (k + 1) = get_or-range_with_len a n (k + 1) 0 (omega (arith, long)) in
      omega (arith, here, next)

  -- what the marked rows ask for
  asked_from : (a n : ℕ) → asked (chosen rows (marked_from a n)) ≡ total (λ i. of_marked marks (demand_at rows) (a + i)) n
  asked_from a zero = refl
  asked_from a (suc n) = by_test (marks a) refl (asked_from (a + 1) n)
    where
      shifted : total (λ i. of_marked marks (demand_at rows) (a + 1 + i)) n ≡ total (λ i. of_marked marks (demand_at rows) (a + suc i)) n
      shifted = total_same _ _ n (λ i lt. let e : a + 1 + i ≡ a + suc i = omega arith in ap (of_marked marks (demand_at rows)) e)

      first : (b : Bool) → marks a ≡ b → of_marked marks (demand_at rows) (a + 0) ≡ cond b (demand_at rows a) 0
      first b e =
          let plus : a + 0 ≡ a = omega arith in
          ap (of_marked marks (demand_at rows)) plus ∙ ap (λ t. cond t (demand_at rows a) 0) e

      by_test :
          (b : Bool) → marks a ≡ b
          → asked (chosen rows (marked_from (a + 1) n)) ≡ total (λ i. of_marked marks (demand_at rows) (a + 1 + i)) n
          → asked (chosen rows (cond b (a ∷ marked_from (a + 1) n) (marked_from (a + 1) n)))
          ≡ of_marked marks (demand_at rows) (a + 0) + total (λ i. of_marked marks (demand_at rows) (a + suc i)) n
      by_test true on rest =
          let one = asked_one rows a (marked_from (a + 1) n) in
          omega (arith, one, rest, shifted, first true on)
      by_test false off rest = omega (arith, rest, shifted, first false off)

  -- a CPU that one of these rows may have
  offered_open :
      (ks : List ℕ) (c : ℕ) → All (λ k. (marks k ≡ true) × (k < length rows)) ks → is_offered (chosen rows ks) c ≡ true
      → is_open CPU_LIMIT (length rows) (may_have rows) marks c ≡ true
  offered_open [] c all on = absurd (false≢true on)
  offered_open (k ∷ ks) c all on = by_row (slice_get rows k) refl on (offered_open ks c (λ i d lt. all (suc i) d (omega (arith, lt))))
    where
      here : (k < length rows) × (marks k ≡ true)
      here = (let h = all 0 k (omega arith) in (h.1, h.0))

      by_weight :
          (row : RowView) → slice_get rows k ≡ Some row → (b : Bool) → is_some (weight row c) ≡ b → (b || is_offered (chosen rows ks) c) ≡ true
          → (is_offered (chosen rows ks) c ≡ true → is_open CPU_LIMIT (length rows) (may_have rows) marks c ≡ true)
          → is_open CPU_LIMIT (length rows) (may_have rows) marks c ≡ true
      by_weight row is true can offered rest =
          open_by CPU_LIMIT (length rows) (may_have rows) marks k c here.0 here.1
          (ap (λ found. is_some (option_and_then (λ (r : RowView). weight r c) found)) is ∙ can)
      by_weight row is false can offered rest = rest offered

      by_row :
          (found : Option RowView) → slice_get rows k ≡ found → is_offered (cons_option found (chosen rows ks)) c ≡ true
          → (is_offered (chosen rows ks) c ≡ true → is_open CPU_LIMIT (length rows) (may_have rows) marks c ≡ true)
          → is_open CPU_LIMIT (length rows) (may_have rows) marks c ≡ true
      by_row None is offered rest = rest offered
      by_row (Some row) is offered rest = by_weight row is (is_some (weight row c)) refl offered rest

  pub shortage_of_marks :
      AreShort CPU_LIMIT (length rows) (may_have rows) (demand_at rows) marks → IsShortage rows (marked_from 0 (length rows))
  shortage_of_marks short =
      let all = passing 0 (length rows) in
      let each : All (λ k. (marks k ≡ true) × (k < length rows)) (marked_from 0 (length rows)) =
      λ k d lt. (let h = all k d lt in (h.0, omega (arith, h.1))) in
      record {
        rising = IsStrictlyIncreasing-filter marks (range_with_len 0 (length rows)) (rising 0 (length rows));
        there = λ k d lt. (each k d lt).1;
        short =
            let few : length (offered (chosen rows (marked_from 0 (length rows)))) ≤ count (is_open CPU_LIMIT (length rows) (may_have rows) marks) CPU_LIMIT = fewer each in
            let asks = asked_from 0 (length rows) in
            let same = total_same (λ i. of_marked marks (demand_at rows) (0 + i)) (of_marked marks (demand_at rows)) (length rows) (λ i lt. let e : 0 + i ≡ i = omega arith in ap (of_marked marks (demand_at rows)) e) in
            omega (arith, few, asks, same, short);
      }
    where
      fewer :
          All (λ k. (marks k ≡ true) × (k < length rows)) (marked_from 0 (length rows))
          → length (offered (chosen rows (marked_from 0 (length rows)))) ≤ count (is_open CPU_LIMIT (length rows) (may_have rows) marks) CPU_LIMIT
      fewer each =
          passing_few (is_offered (chosen rows (marked_from 0 (length rows)))) (is_open CPU_LIMIT (length rows) (may_have rows) marks)
          (λ c is_cpu on. offered_open (marked_from 0 (length rows)) c each on)
