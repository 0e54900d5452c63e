-- Sums over the first rows.
use Rattle.std.proofs.Common.{◌≡◌, ℕ, zero, suc, ◌+◌, ◌<◌, ◌≤◌, refl, arith}

-- f 0 + f 1 + .., n terms
abbrev pub total : (ℕ → ℕ) → ℕ → ℕ
total f zero = 0
total f (suc n) = f 0 + total (λ i. f (suc i)) n

pub total_same : (f g : ℕ → ℕ) (n : ℕ) → ((i : ℕ) → i < n → f i ≡ g i) → total f n ≡ total g n
total_same f g zero same = refl
total_same f g (suc n) same =
    omega (arith, same 0 (omega arith), total_same (λ i. f (suc i)) (λ i. g (suc i)) n (λ i lt. same (suc i) (omega arith)))

pub total_le : (f g : ℕ → ℕ) (n : ℕ) → ((i : ℕ) → i < n → f i ≤ g i) → total f n ≤ total g n
total_le f g zero within = omega arith
total_le f g (suc n) within =
    omega (arith, within 0 (omega arith), total_le (λ i. f (suc i)) (λ i. g (suc i)) n (λ i lt. within (suc i) (omega arith)))

-- one term is less
pub total_lt : (f g : ℕ → ℕ) (n k : ℕ) → ((i : ℕ) → i < n → f i ≤ g i) → k < n → f k < g k → total f n < total g n
total_lt f g zero k within lt less = absurd (omega arith)
total_lt f g (suc n) zero within lt less =
    omega (arith, less, total_le (λ i. f (suc i)) (λ i. g (suc i)) n (λ i lt. within (suc i) (omega arith)))
total_lt f g (suc n) (suc k) within lt less =
    omega (
      arith,
      within 0 (omega arith),
      total_lt (λ i. f (suc i)) (λ i. g (suc i)) n k (λ i lt. within (suc i) (omega arith)) (omega arith) less,
    )

pub total_zero : (n : ℕ) → total (λ _. 0) n ≡ 0
total_zero zero = refl
total_zero (suc n) = omega (arith, total_zero n)

pub total_add : (f g : ℕ → ℕ) (n : ℕ) → total (λ i. f i + g i) n ≡ total f n + total g n
total_add f g zero = refl
total_add f g (suc n) = omega (arith, total_add (λ i. f (suc i)) (λ i. g (suc i)) n)

-- one term changes
pub total_change :
    (f g : ℕ → ℕ) (n k : ℕ) → k < n → ((i : ℕ) → i < n → (i ≡ k → ⊥) → f i ≡ g i) → total f n + g k ≡ total g n + f k
total_change f g zero k lt same = absurd (omega arith)
total_change f g (suc n) zero lt same =
    let rest =
    total_same (λ i. f (suc i)) (λ i. g (suc i)) n (λ i i_lt. same (suc i) (omega arith) (λ e. absurd (omega (arith, e)))) in
    omega (arith, rest)
total_change f g (suc n) (suc k) lt same =
    let first = same 0 (omega arith) (λ e. absurd (omega (arith, e))) in
    let rest =
    total_change (λ i. f (suc i)) (λ i. g (suc i)) n k (omega arith)
    (λ i i_lt ne. same (suc i) (omega arith) (λ e. ne (omega (arith, e)))) in
    omega (arith, first, rest)
