-- Who holds which CPU, set by set.
use Rattle.std.proofs.Common.{◌≡◌, ℕ, ◌+◌, ◌<◌, Bool, true, false, cond, not, ◌&&◌, List, length, get_or, set, replicate, refl, sym, ap, ◌∙◌, subst, inl, inr, ◌⊎◌, arith}
use Rattle.std.specs.Prelude.{◌==◌}
use Rattle.std.specs.FinSet as ids
use Rattle.std.proofs.lemmas.Bool.{cases_eq, cases_Bool, both_ways, ne_eqb}
use Rattle.std.proofs.lemmas.List.{get_or-replicate, get_or-set_same, get_or-set_other}
use Rattle.cpu_set.specs.Ids.{Ids}
use Rattle.cpu_set.specs.Members.{IsCpu}
use Rattle.cpu_set.specs.PointwiseLaws.{contains-remove}
use Rattle.cpu_set.specs.declared.TheConstants.{CPU_LIMIT}
use Rattle.blame.specs.Marking.{owner}
use Rattle.blame.specs.Parts.{number_at, set_at, AreOwners}

-- ---- the CPUs of one set

-- what is left is of the set; the CPUs of the set that are not left are the row's
pub record IsNoted (cpus left : Ids) (row : ℕ) (before own : List ℕ) : Type 0 where
  pub within : (c : ℕ) → ids.contains left c ≡ true → ids.contains cpus c ≡ true
  pub done : (c : ℕ) → IsCpu c → ids.contains left c ≡ false → owner own c ≡ cond (ids.contains cpus c) row (owner before c)

pub noted_first : (cpus left : Ids) (row : ℕ) (own : List ℕ) → left ≡ cpus → IsNoted cpus left row own own
noted_first cpus left row own is = record {
  within = λ c on. subst (λ s. ids.contains s c ≡ true) is on;
  done = λ c is_cpu off. sym (ap (λ b. cond b row (owner own c)) (subst (λ s. ids.contains s c ≡ false) is off));
}

pub noted_more :
    (cpus left less : Ids) (row cpu : ℕ) (before own : List ℕ) → IsNoted cpus left row before own → ids.contains left cpu ≡ true → cpu < length own
    → less ≡ ids.remove left cpu → IsNoted cpus less row before (set own cpu row)
noted_more cpus left less row cpu before own noted on lt is = record {
  within = λ c member. noted.within c (kept c (sym (ap (λ s. ids.contains s c) is) ∙ member));
  done = λ c is_cpu off. at c (cases_eq c cpu) is_cpu off;
}
  where
    kept_by : (c : ℕ) (a b : Bool) → (not a && b) ≡ true → b ≡ true
    kept_by c true b h = absurd (both_ways false refl h)
    kept_by c false b h = h

    kept : (c : ℕ) → ids.contains (ids.remove left cpu) c ≡ true → ids.contains left c ≡ true
    kept c member = kept_by c (c == cpu) (ids.contains left c) (sym (contains-remove left cpu c) ∙ member)

    at : (c : ℕ) → (c ≡ cpu) ⊎ (c ≡ cpu → ⊥) → IsCpu c → ids.contains less c ≡ false → owner (set own cpu row) c ≡ cond (ids.contains cpus c) row (owner before c)
    at c (inl e) is_cpu off =
        let here : owner (set own cpu row) c ≡ row = ap (owner (set own cpu row)) e ∙ get_or-set_same own cpu row 0 lt in
        let its : ids.contains cpus c ≡ true = ap (ids.contains cpus) e ∙ noted.within cpu on in
        here ∙ sym (ap (λ b. cond b row (owner before c)) its)
    at c (inr ne) is_cpu off =
        let gone : ids.contains left c ≡ false =
        sym (ap (λ b. not b && ids.contains left c) (ne_eqb c cpu ne)) ∙ sym (contains-remove left cpu c) ∙ sym (ap (λ s. ids.contains s c) is) ∙ off in
        get_or-set_other own cpu c row 0 ne ∙ noted.done c is_cpu gone

-- ---- the sets one after another

-- who holds the CPUs of the first n sets
pub record AreOwnersUpTo (numbers : List ℕ) (sets : List Ids) (nobody n : ℕ) (own : List ℕ) : Type 0 where
  pub held : (i c : ℕ) → i < n → IsCpu c → ids.contains (set_at sets i) c ≡ true → owner own c ≡ number_at numbers i
  pub holds :
      (c : ℕ) → IsCpu c
      → (owner own c ≡ nobody) ⊎ ((i : ℕ) × (i < n) × (owner own c ≡ number_at numbers i) × (ids.contains (set_at sets i) c ≡ true))

pub owners_none : (numbers : List ℕ) (sets : List Ids) (nobody : ℕ) (own : List ℕ) → own ≡ replicate CPU_LIMIT nobody → AreOwnersUpTo numbers sets nobody 0 own
owners_none numbers sets nobody own is = record {
  held = λ i c lt. absurd (omega (arith, lt));
  holds = λ c is_cpu. inl (ap (λ xs. get_or xs c 0) is ∙ get_or-replicate CPU_LIMIT c nobody 0 is_cpu);
}

pub owners_more :
    (numbers : List ℕ) (sets : List Ids) (nobody n : ℕ) (cpus : Ids) (row : ℕ) (before own : List ℕ)
    → AreOwnersUpTo numbers sets nobody n before → cpus ≡ set_at sets n → row ≡ number_at numbers n
    → ((i j c : ℕ) → i < length sets → j < length sets → ids.contains (set_at sets i) c ≡ true → ids.contains (set_at sets j) c ≡ true → i ≡ j) → n < length sets
    → ((c : ℕ) → IsCpu c → owner own c ≡ cond (ids.contains cpus c) row (owner before c)) → AreOwnersUpTo numbers sets nobody (n + 1) own
owners_more numbers sets nobody n cpus row before own so_far cpus_are row_is apart lt noted = record {
  held = λ i c i_lt is_cpu member. held_at i c (cases_eq i n) i_lt is_cpu member;
  holds = λ c is_cpu. holds_at c (cases_Bool (ids.contains cpus c)) is_cpu;
}
  where
    mine : (c : ℕ) → IsCpu c → ids.contains cpus c ≡ true → owner own c ≡ number_at numbers n
    mine c is_cpu on = noted c is_cpu ∙ ap (λ b. cond b row (owner before c)) on ∙ row_is

    other : (c : ℕ) → IsCpu c → ids.contains cpus c ≡ false → owner own c ≡ owner before c
    other c is_cpu off = noted c is_cpu ∙ ap (λ b. cond b row (owner before c)) off

    in_last : (c : ℕ) → ids.contains cpus c ≡ true → ids.contains (set_at sets n) c ≡ true
    in_last c on = sym (ap (λ s. ids.contains s c) cpus_are) ∙ on

    held_at : (i c : ℕ) → (i ≡ n) ⊎ (i ≡ n → ⊥) → i < n + 1 → IsCpu c → ids.contains (set_at sets i) c ≡ true → owner own c ≡ number_at numbers i
    held_at i c (inl e) i_lt is_cpu member =
        mine c is_cpu (ap (λ s. ids.contains s c) (cpus_are ∙ ap (set_at sets) (sym e)) ∙ member) ∙ ap (number_at numbers) (sym e)
    held_at i c (inr ne) i_lt is_cpu member =
        let early : i < n = omega (arith, i_lt, ne) in
        elim (cases_Bool (ids.contains cpus c)) [
          | inl on ↦ absurd (omega (arith, early, apart i n c (omega (arith, early, lt)) lt member (in_last c on)))
          | inr off ↦ other c is_cpu off ∙ so_far.held i c early is_cpu member
        ]

    wider :
        (c : ℕ) → owner own c ≡ owner before c
        → (owner before c ≡ nobody) ⊎ ((i : ℕ) × (i < n) × (owner before c ≡ number_at numbers i) × (ids.contains (set_at sets i) c ≡ true))
        → (owner own c ≡ nobody) ⊎ ((i : ℕ) × (i < n + 1) × (owner own c ≡ number_at numbers i) × (ids.contains (set_at sets i) c ≡ true))
    wider c same (inl none) = inl (same ∙ none)
    wider c same (inr found) = inr (found.0, omega (arith, found.1), same ∙ found.2, found.3)

    holds_at :
        (c : ℕ) → (ids.contains cpus c ≡ true) ⊎ (ids.contains cpus c ≡ false) → IsCpu c
        → (owner own c ≡ nobody) ⊎ ((i : ℕ) × (i < n + 1) × (owner own c ≡ number_at numbers i) × (ids.contains (set_at sets i) c ≡ true))
    holds_at c (inl on) is_cpu = inr (n, omega arith, mine c is_cpu on, in_last c on)
    holds_at c (inr off) is_cpu = wider c (other c is_cpu off) (so_far.holds c is_cpu)

pub owners_whole :
    (numbers : List ℕ) (sets : List Ids) (nobody n : ℕ) (own : List ℕ) → AreOwnersUpTo numbers sets nobody n own → n ≡ length sets
    → AreOwners numbers sets nobody own
owners_whole numbers sets nobody n own so_far all = record {
  held = λ i c lt. so_far.held i c (omega (arith, lt, all));
  holds = λ c is_cpu. elim (so_far.holds c is_cpu) [
    | inl none ↦ inl none
    | inr found ↦ inr (found.0, omega (arith, found.1, all), found.2, found.3)
  ];
}
