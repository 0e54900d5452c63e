-- Sums over the first numbers, beside sums over lists.
use Rattle.std.proofs.Common.{◌≡◌, ℕ, zero, suc, ◌+◌, ◌<◌, Bool, cond, List, [], ◌∷◌, length, get_or, sum_by, refl, sym, ap, ◌∙◌, inl, inr, arith}
use Rattle.std.specs.List.{range_with_len, count_by}
use Rattle.std.proofs.lemmas.Bool.{cases_eq, eq-eqb, ne_eqb}
use Rattle.std.proofs.lemmas.List.Sums.{sum_by-cons, length-filter}
use Rattle.std.specs.Prelude.{◌==◌}
use Rattle.twins.specs.Holdings.{share_of, shared_out}
use Rattle.twins.specs.declared.holders.Share.{Share}
use Rattle.transport.specs.Numbers.{is_marked}
use Rattle.transport.specs.Places.{marked_places}
use Rattle.transport.specs.Totals.{total}
use Rattle.transport.proofs.Sums.{total_same, total_add, total_zero}

-- over a list
pub total_of_list : {X : Type 0} (f : X → ℕ) (xs : List X) (d : X) → total (λ i. f (get_or xs i d)) (length xs) ≡ sum_by f xs
total_of_list f [] d = refl
total_of_list f (x ∷ xs) d = let rest = total_of_list f xs d in omega (arith, sum_by-cons f x xs, rest)

-- over numbers from a on
pub total_of_range : (f : ℕ → ℕ) (a n : ℕ) → sum_by f (range_with_len a n) ≡ total (λ i. f (a + i)) n
total_of_range f a zero = refl
total_of_range f a (suc n) =
    let rest = total_of_range f (a + 1) n in
    let first : f (a + 0) ≡ f a = (let e : a + 0 ≡ a = omega arith in ap f e) in
    let shifted = total_same (λ i. f (a + 1 + i)) (λ i. f (a + suc i)) n (λ i lt. let e : a + 1 + i ≡ a + suc i = omega arith in ap f e) in
    omega (arith, sum_by-cons f a (range_with_len (a + 1) n), rest, first, shifted)

pub total_of_range_0 : (f : ℕ → ℕ) (n : ℕ) → sum_by f (range_with_len 0 n) ≡ total f n
total_of_range_0 f n = total_of_range f 0 n ∙ total_same (λ i. f (0 + i)) f n (λ i lt. let e : 0 + i ≡ i = omega arith in ap f e)

-- one term alone is not 0
total_one : (k m n : ℕ) → k < n → total (λ i. cond (k == i) m 0) n ≡ m
total_one k m zero lt = absurd (omega arith)
total_one zero m (suc n) lt =
    let rest = total_same (λ i. cond (0 == suc i) m 0) (λ _. 0) n (λ i lt. ap (λ b. cond b m 0) (ne_eqb 0 (suc i) (λ e. absurd (omega (arith, e))))) in
    omega (arith, rest, total_zero n, ap (λ b. cond b m 0) (eq-eqb 0 0 refl))
total_one (suc k) m (suc n) lt =
    let first : cond (suc k == 0) m 0 ≡ 0 = ap (λ b. cond b m 0) (ne_eqb (suc k) 0 (λ e. absurd (omega (arith, e)))) in
    let rest = total_one k m n (omega arith) in
    let same = total_same (λ i. cond (suc k == suc i) m 0) (λ i. cond (k == i) m 0) n (λ i lt. ap (λ b. cond b m 0) (again i)) in
    omega (arith, first, rest, same)
  where
    again : (i : ℕ) → (suc k == suc i) ≡ (k == i)
    again i = elim (cases_eq k i) [
      | inl e ↦ eq-eqb (suc k) (suc i) (omega (arith, e)) ∙ sym (eq-eqb k i e)
      | inr ne ↦ ne_eqb (suc k) (suc i) (λ e. ne (omega (arith, e))) ∙ sym (ne_eqb k i ne)
    ]

-- the shares of all rows are what is shared out
pub shares_of_rows :
    (shares : List Share) (rows : ℕ) → ((i : ℕ) (d : Share) → i < length shares → (get_or shares i d).row < rows)
    → total (λ k. share_of k shares) rows ≡ shared_out shares
shares_of_rows [] rows below = total_zero rows
shares_of_rows (s ∷ shares) rows below =
    let rest = shares_of_rows shares rows (λ i d lt. below (suc i) d (omega arith)) in
    let here = total_one s.row s.amount rows (below 0 s (omega arith)) in
    let split = total_same (λ k. share_of k (s ∷ shares)) (λ k. cond (s.row == k) s.amount 0 + share_of k shares) rows (λ k lt. sum_by-cons (λ (t : Share). cond (t.row == k) t.amount 0) s shares) in
    let both = total_add (λ k. cond (s.row == k) s.amount 0) (λ k. share_of k shares) rows in
    omega (arith, rest, here, split, both, sum_by-cons (λ (t : Share). t.amount) s shares)

pub count_total : (marks : List Bool) → total (λ i. cond {A = ℕ} (is_marked marks i) 1 0) (length marks) ≡ count_by (λ b. b) marks
count_total [] = refl
count_total (b ∷ marks) = let rest = count_total marks in omega (arith, sum_by-cons (λ (t : Bool). cond {A = ℕ} t 1 0) b marks, rest)

-- there are as many places as marks
pub places_counted : (marks : List Bool) → length (marked_places marks) ≡ count_by (λ b. b) marks
places_counted marks =
    length-filter (is_marked marks) (range_with_len 0 (length marks))
    ∙ total_of_range_0 (λ i. cond {A = ℕ} (is_marked marks i) 1 0) (length marks)
    ∙ count_total marks
