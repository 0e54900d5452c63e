-- How many of the first numbers pass a test.
use Rattle.std.proofs.Common.{◌≡◌, ℕ, zero, suc, ◌+◌, ◌<◌, ◌≤◌, Bool, true, false, cond, refl, sym, ap, ◌∙◌, inl, inr, ◌⊎◌, arith}
use Rattle.std.specs.FinSet as set
use Rattle.std.proofs.lemmas.Bool.{cases_eq, cases_Bool}
use Rattle.std.proofs.Math.Numerals.{add-one}
use Rattle.cpu_set.specs.Those.{those}
use Rattle.cpu_set.specs.SetLaws.{len-those_more, len-those_none}

-- how many numbers below n pass
abbrev pub count : (ℕ → Bool) → ℕ → ℕ
count p n = set.len (those p n)

pub count_suc : (p : ℕ → Bool) (n : ℕ) → count p (suc n) ≡ count p n + cond (p n) 1 0
count_suc p n = rw (← add-one n) (len-those_more p n)

pub count_same : (p q : ℕ → Bool) (n : ℕ) → ((i : ℕ) → i < n → p i ≡ q i) → count p n ≡ count q n
count_same p q zero same = len-those_none p ∙ sym (len-those_none q)
count_same p q (suc n) same =
    omega (
      arith,
      count_suc p n,
      count_suc q n,
      count_same p q n (λ i lt. same i (omega arith)),
      ap (λ b. cond {A = ℕ} b 1 0) (same n (omega arith)),
    )

pub count_nothing : (p : ℕ → Bool) (n : ℕ) → ((i : ℕ) → i < n → p i ≡ false) → count p n ≡ 0
count_nothing p zero none = len-those_none p
count_nothing p (suc n) none =
    omega (arith, count_suc p n, count_nothing p n (λ i lt. none i (omega arith)), ap (λ b. cond {A = ℕ} b 1 0) (none n (omega arith)))

-- one test changes
pub count_change :
    (p q : ℕ → Bool) (n k : ℕ) → k < n → ((i : ℕ) → (i ≡ k → ⊥) → p i ≡ q i)
    → count p n + cond (q k) 1 0 ≡ count q n + cond (p k) 1 0
count_change p q zero k lt same = absurd (omega arith)
count_change p q (suc n) k lt same = elim (cases_eq n k) [
  | inl e ↦
      let below = count_same p q n (λ i lt. same i (λ is. absurd (omega (arith, is, e)))) in
      let at_p : cond {A = ℕ} (p n) 1 0 ≡ cond (p k) 1 0 = ap (λ m. cond {A = ℕ} (p m) 1 0) e in
      let at_q : cond {A = ℕ} (q n) 1 0 ≡ cond (q k) 1 0 = ap (λ m. cond {A = ℕ} (q m) 1 0) e in
      omega (arith, count_suc p n, count_suc q n, below, at_p, at_q)
  | inr ne ↦
      let rest = count_change p q n k (omega (arith, ne)) same in
      let here : cond {A = ℕ} (p n) 1 0 ≡ cond (q n) 1 0 = ap (λ b. cond {A = ℕ} b 1 0) (same n ne) in
      omega (arith, count_suc p n, count_suc q n, rest, here)
]

-- one that passes is counted
pub count_some : (p : ℕ → Bool) (n k : ℕ) → k < n → p k ≡ true → 0 < count p n
count_some p zero k lt on = absurd (omega arith)
count_some p (suc n) k lt on = elim (cases_eq n k) [
  | inl e ↦
      let here : cond {A = ℕ} (p n) 1 0 ≡ 1 = ap (λ m. cond {A = ℕ} (p m) 1 0) e ∙ ap (λ b. cond {A = ℕ} b 1 0) on in
      omega (arith, count_suc p n, here)
  | inr ne ↦ omega (arith, count_suc p n, count_some p n k (omega (arith, ne)) on)
]

-- one of the first numbers passes, or none does
pub one_or_none : (p : ℕ → Bool) (n : ℕ) → ((i : ℕ) × (i < n) × (p i ≡ true)) ⊎ ((i : ℕ) → i < n → p i ≡ false)
one_or_none p zero = inr (λ i lt. absurd (omega arith))
one_or_none p (suc n) = elim (one_or_none p n) [
  | inl found ↦ inl (found.0, omega (arith, found.1), found.2)
  | inr none ↦ elim (cases_Bool (p n)) [
    | inl on ↦ inl (n, omega arith, on)
    | inr off ↦ inr (λ i lt. at_last i (cases_eq i n) lt off none)
  ]
]
  where
    at_last : (i : ℕ) → (i ≡ n) ⊎ (i ≡ n → ⊥) → i < suc n → p n ≡ false → ((i : ℕ) → i < n → p i ≡ false) → p i ≡ false
    at_last i (inl e) lt off none = ap p e ∙ off
    at_last i (inr ne) lt off none = none i (omega (arith, ne))

-- the same of pairs
pub pair_or_none :
    (p : ℕ → ℕ → Bool) (m n : ℕ)
    → ((i : ℕ) × (j : ℕ) × (i < m) × (j < n) × (p i j ≡ true)) ⊎ ((i j : ℕ) → i < m → j < n → p i j ≡ false)
pair_or_none p zero n = inr (λ i j lt _. absurd (omega arith))
pair_or_none p (suc m) n = elim (pair_or_none p m n) [
  | inl found ↦ inl (found.0, found.1, omega (arith, found.2), found.3, found.4)
  | inr none ↦ elim (one_or_none (p m) n) [
    | inl here ↦ inl (m, here.0, omega arith, here.1, here.2)
    | inr off ↦ inr (λ i j lt j_lt. at_last i j (cases_eq i m) lt j_lt off none)
  ]
]
  where
    at_last :
        (i j : ℕ) → (i ≡ m) ⊎ (i ≡ m → ⊥) → i < suc m → j < n → ((j : ℕ) → j < n → p m j ≡ false)
        → ((i j : ℕ) → i < m → j < n → p i j ≡ false) → p i j ≡ false
    at_last i j (inl e) lt j_lt off none = ap (λ k. p k j) e ∙ off j j_lt
    at_last i j (inr ne) lt j_lt off none = none i j (omega (arith, ne)) j_lt

-- two tests that pass at different numbers, at each of which a third passes
pub count_apart :
    (p q t : ℕ → Bool) (n : ℕ) → ((i : ℕ) → i < n → cond {A = ℕ} (p i) 1 0 + cond {A = ℕ} (q i) 1 0 ≤ cond {A = ℕ} (t i) 1 0)
    → count p n + count q n ≤ count t n
count_apart p q t zero within = omega (arith, len-those_none p, len-those_none q)
count_apart p q t (suc n) within =
    omega (
      arith,
      count_suc p n,
      count_suc q n,
      count_suc t n,
      count_apart p q t n (λ i lt. within i (omega arith)),
      within n (omega arith),
    )

pub one_at_most : (a b : Bool) → (a ≡ true → b ≡ true) → cond {A = ℕ} a 1 0 ≤ cond {A = ℕ} b 1 0
one_at_most true b f = let e : cond {A = ℕ} b 1 0 ≡ 1 = ap (λ t. cond {A = ℕ} t 1 0) (f refl) in omega (arith, e)
one_at_most false b f = omega arith

-- a test that passes wherever another does
pub count_le : (p q : ℕ → Bool) (n : ℕ) → ((i : ℕ) → i < n → p i ≡ true → q i ≡ true) → count p n ≤ count q n
count_le p q zero within = omega (arith, len-those_none p)
count_le p q (suc n) within =
    omega (
      arith,
      count_suc p n,
      count_suc q n,
      count_le p q n (λ i lt. within i (omega arith)),
      one_at_most (p n) (q n) (within n (omega arith)),
    )
