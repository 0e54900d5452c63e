-- CPUs that rows hold, and one of them that moves.
use Rattle.std.proofs.Common.{◌≡◌, ℕ, ◌+◌, ◌<◌, cond, refl, ap, arith}
use Rattle.std.specs.Prelude.{◌==◌}
use Rattle.std.proofs.lemmas.Bool.{eq-eqb, ne_eqb}
use Rattle.hall.specs.CountingLaws.{count, count_change}

-- row k holds so many of the first n CPUs
abbrev pub held : ℕ → (ℕ → ℕ) → ℕ → ℕ
held n own k = count (λ c. own c == k) n

-- a CPU changes its holder
abbrev pub move : (ℕ → ℕ) → ℕ → ℕ → ℕ → ℕ
move own c k x = cond (x == c) k (own x)

pub move_here : (own : ℕ → ℕ) (c k : ℕ) → move own c k c ≡ k
move_here own c k = ap (λ b. cond {A = ℕ} b k (own c)) (eq-eqb c c refl)

pub move_other : (own : ℕ → ℕ) (c k x : ℕ) → (x ≡ c → ⊥) → move own c k x ≡ own x
move_other own c k x ne = ap (λ b. cond {A = ℕ} b k (own x)) (ne_eqb x c ne)

pub is_own : (a b : ℕ) → a ≡ b → cond {A = ℕ} (a == b) 1 0 ≡ 1
is_own a b e = ap (λ t. cond {A = ℕ} t 1 0) (eq-eqb a b e)

pub is_not_own : (a b : ℕ) → (a ≡ b → ⊥) → cond {A = ℕ} (a == b) 1 0 ≡ 0
is_not_own a b ne = ap (λ t. cond {A = ℕ} t 1 0) (ne_eqb a b ne)

-- what a row holds after a move, beside what it held
pub held_moved :
    (n : ℕ) (own : ℕ → ℕ) (c k j : ℕ) → c < n
    → held n (move own c k) j + cond (own c == j) 1 0 ≡ held n own j + cond (k == j) 1 0
held_moved n own c k j lt =
    let change = count_change (λ x. move own c k x == j) (λ x. own x == j) n c lt (λ x ne. ap (λ y. y == j) (move_other own c k x ne)) in
    let here : cond {A = ℕ} (move own c k c == j) 1 0 ≡ cond (k == j) 1 0 = ap (λ y. cond {A = ℕ} (y == j) 1 0) (move_here own c k) in
    omega (arith, change, here)
