-- How often sets have a CPU.
use Rattle.std.proofs.Common.{◌≡◌, ℕ, zero, suc, ◌+◌, ◌<◌, ◌≤◌, Bool, true, false, cond, ◌||◌, List, [], ◌∷◌, length, get_or, refl, sym, ap, ◌∙◌, inl, inr, arith}
use Rattle.std.specs.FinSet as set
use Rattle.std.specs.List.{AllPairs}
use Rattle.std.proofs.lemmas.List.Sums.{sum_by-cons, sum_by_push}
use Rattle.certificate.specs.TestLaws.{one_at_most}
use Rattle.cpu_set.specs.Ids.{Ids, IsDisjoint}
use Rattle.certificate.specs.PlanFault.{is_held}
use Rattle.twins.specs.IsPart.{times_in, IsPutTo}

has_one : (b : Bool) → b ≡ true → cond {A = ℕ} b 1 0 ≡ 1
has_one b e = ap (λ t. cond {A = ℕ} t 1 0) e

at_least_once : (sets : List Ids) (c k : ℕ) (d : Ids) → k < length sets → set.contains (get_or sets k d) c ≡ true → 1 ≤ times_in sets c
at_least_once [] c k d lt has = absurd (omega arith)
at_least_once (s ∷ sets) c zero d lt has =
    omega (arith, sum_by-cons (λ (t : Ids). cond (set.contains t c) 1 0) s sets, has_one _ has)
at_least_once (s ∷ sets) c (suc k) d lt has =
    omega (arith, sum_by-cons (λ (t : Ids). cond (set.contains t c) 1 0) s sets, at_least_once sets c k d (omega arith) has)

twice : (sets : List Ids) (c i j : ℕ) (d : Ids) → i < j → j < length sets → set.contains (get_or sets i d) c ≡ true → set.contains (get_or sets j d) c ≡ true → 2 ≤ times_in sets c
twice [] c i j d lt within has_i has_j = absurd (omega arith)
twice (s ∷ sets) c i zero d lt within has_i has_j = absurd (omega arith)
twice (s ∷ sets) c zero (suc j) d lt within has_i has_j =
    omega (arith, sum_by-cons (λ (t : Ids). cond (set.contains t c) 1 0) s sets, has_one _ has_i, at_least_once sets c j d (omega arith) has_j)
twice (s ∷ sets) c (suc i) (suc j) d lt within has_i has_j =
    omega (arith, sum_by-cons (λ (t : Ids). cond (set.contains t c) 1 0) s sets, twice sets c i j d (omega arith) (omega arith) has_i has_j)

-- sets that have each CPU at most once are apart
pub apart_of_times : (sets : List Ids) (offered : ℕ → Bool) → ((c : ℕ) → times_in sets c ≡ cond (offered c) 1 0) → AllPairs IsDisjoint sets
apart_of_times sets offered once i j d lt within c has_i has_j =
    absurd (omega (arith, twice sets c i j d lt within has_i has_j, once c, one_at_most (offered c)))

held_of_times : (sets : List Ids) (c : ℕ) (b : Bool) → times_in sets c ≡ cond b 1 0 → is_held sets c ≡ b
held_of_times [] c true once = absurd (omega arith)
held_of_times [] c false once = refl
held_of_times (s ∷ sets) c b once = by_cases (set.contains s c) b (sym (sum_by-cons (λ (t : Ids). cond (set.contains t c) 1 0) s sets) ∙ once) (held_of_times sets c)
  where
    by_cases :
        (here b : Bool) → cond here 1 0 + times_in sets c ≡ cond b 1 0
        → ((b : Bool) → times_in sets c ≡ cond b 1 0 → is_held sets c ≡ b) → (here || is_held sets c) ≡ b
    by_cases true true e rest = refl
    by_cases true false e rest = absurd (omega arith)
    by_cases false b e rest = rest b (omega arith)

-- and a CPU is in one of them where it is once
pub is_held_of_times : (sets : List Ids) (offered : ℕ → Bool) → ((c : ℕ) → times_in sets c ≡ cond (offered c) 1 0) → (c : ℕ) → is_held sets c ≡ offered c
is_held_of_times sets offered once c = held_of_times sets c (offered c) (once c)

-- a CPU of one of the sets is in them at least once
pub in_times : (sets : List Ids) (c k : ℕ) (d : Ids) → k < length sets → set.contains (get_or sets k d) c ≡ true → (b : Bool) → times_in sets c ≡ cond b 1 0 → b ≡ true
in_times sets c k d lt has true once = refl
in_times sets c k d lt has false once = absurd (omega (arith, at_least_once sets c k d lt has))

-- a set that is put to either list is there once more
pub times_put :
    (edges piece : Ids) (parts alone parts_new alone_new : List Ids) → IsPutTo edges piece parts alone parts_new alone_new
    → (c : ℕ) → times_in parts_new c + times_in alone_new c ≡ times_in parts c + times_in alone c + cond (set.contains piece c) 1 0
times_put edges piece parts alone parts_new alone_new (inl more) c =
    rw (more.0, more.1) (omega (arith, sum_by_push (λ (t : Ids). cond (set.contains t c) 1 0) parts piece))
times_put edges piece parts alone parts_new alone_new (inr lone) c =
    rw (lone.0, lone.1) (omega (arith, sum_by_push (λ (t : Ids). cond (set.contains t c) 1 0) alone piece))
