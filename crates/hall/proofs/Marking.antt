-- Who can't be left out: a row that holds as many CPUs as are lacking, of those that such rows may have.
use Rattle.std.proofs.Common.{◌≡◌, ℕ, ◌+◌, ◌<◌, ◌≤◌, Bool, true, false, cond, ◌&&◌, not, nat_lt, refl, sym, ap, subst, inl, inr, arith}
use Rattle.std.specs.Prelude.{◌==◌}
use Rattle.std.proofs.lemmas.Bool.{cases_Bool, eq-eqb, eqb-true, ne_eqb, both_ways, and_parts, and_from, not-true, false_from_ne_true}
use Rattle.hall.specs.CountingLaws.{count, count_apart}
use Rattle.hall.proofs.Sums.{total_change}
use Rattle.hall.proofs.Moving.{held}
use Rattle.hall.proofs.Searching.{IsAllowed}
use Rattle.hall.proofs.Serving.{of_marked, is_mine, is_open, open_by, opener, mine_counted, mine_open, AreShort, Served, served_not_short, served_or_short}

-- these rows but for one
abbrev pub without : (ℕ → Bool) → ℕ → ℕ → Bool
without who k j = who j && not (j == k)

without_it : (who : ℕ → Bool) (k : ℕ) → without who k k ≡ true → ⊥
without_it who k on = both_ways (k == k) (not-true (k == k) (and_parts (who k) (not (k == k)) on).1) (eq-eqb k k refl)

pub in_without : (who : ℕ → Bool) (k j : ℕ) → who j ≡ true → (j ≡ k → ⊥) → without who k j ≡ true
in_without who k j on ne = and_from (who j) (not (j == k)) on (ap not (ne_eqb j k ne))

module _ (cpus rows : ℕ) (may : ℕ → ℕ → Bool) (demands : ℕ → ℕ) (who : ℕ → Bool) where
  -- each of some rows but the root holds what it asks for, and the root lacks so many CPUs
  pub record IsAllButSome (own : ℕ → ℕ) (root lacking : ℕ) : Type 0 where
    pub allowed : IsAllowed cpus rows may own
    pub there : root < rows
    pub met : (k : ℕ) → k < rows → who k ≡ true → (k ≡ root → ⊥) → held cpus own k ≡ demands k
    pub lacks : held cpus own root + lacking ≡ demands root

  -- without any one of the known rows, the others can be served
  pub record AreKnown (root : ℕ) (known : ℕ → Bool) : Type 0 where
    pub root_known : known root ≡ true
    pub within : (k : ℕ) → known k ≡ true → who k ≡ true
    pub served : (k : ℕ) → k < rows → known k ≡ true → Served cpus rows may demands (without who k)

  module _ (own : ℕ → ℕ) (root lacking : ℕ) (known : ℕ → Bool) (some : IsAllButSome own root lacking) (k_are : AreKnown root known) (m : ℕ)
      (enough : lacking ≤ count (λ c. (own c == m) && is_open cpus rows may known c) cpus) where
    -- short rows without m would have all known rows among them, and hold too much
    none_short : (marks : ℕ → Bool) → ((k : ℕ) → marks k ≡ true → without who m k ≡ true) → AreShort cpus rows may demands marks → ⊥
    none_short marks within short =
        let off : marks m ≡ false = false_from_ne_true (marks m) (λ on. without_it who m (within m on)) in
        let counted = mine_counted cpus rows may marks own cpus in
        let apart = count_apart (is_mine cpus rows may marks own) (λ c. (own c == m) && is_open cpus rows may known c) (is_open cpus rows may marks) cpus (λ c lt. one c lt off) in
        let change = total_change (of_marked marks demands) (of_marked marks (held cpus own)) rows root some.there (λ k lt ne. each k lt ne (marks k) refl) in
        let asks : of_marked marks demands root ≡ demands root = ap (λ b. cond {A = ℕ} b (demands root) 0) (all root some.there k_are.root_known) in
        let holds : of_marked marks (held cpus own) root ≡ held cpus own root = ap (λ b. cond {A = ℕ} b (held cpus own root) 0) (all root some.there k_are.root_known) in
        absurd (omega (arith, short, enough, counted, apart, change, asks, holds, some.lacks))
      where
        all : (k : ℕ) → k < rows → known k ≡ true → marks k ≡ true
        all k lt on = elim (cases_Bool (marks k)) [
          | inl in_it ↦ in_it
          | inr off ↦ absurd (
              served_not_short cpus rows may demands (without who k) marks (k_are.served k lt on)
              (λ j j_lt marked. in_without who k j (and_parts (who j) _ (within j marked)).0 (λ e. both_ways (marks k) off (subst (λ i. marks i ≡ true) e marked))) short
              )
        ]

        each : (k : ℕ) → k < rows → (k ≡ root → ⊥) → (b : Bool) → marks k ≡ b → cond {A = ℕ} b (demands k) 0 ≡ cond {A = ℕ} b (held cpus own k) 0
        each k lt ne true on = sym (some.met k lt (and_parts (who k) _ (within k on)).0 ne)
        each k lt ne false off = refl

        by_tests : (a b t : Bool) → (a ≡ true → t ≡ true) → (b ≡ true → t ≡ true) → (a ≡ true → b ≡ true → ⊥) → cond {A = ℕ} a 1 0 + cond {A = ℕ} b 1 0 ≤ cond {A = ℕ} t 1 0
        by_tests true true t f g never = absurd (never refl refl)
        by_tests true false t f g never = let e : cond {A = ℕ} t 1 0 ≡ 1 = ap (λ x. cond {A = ℕ} x 1 0) (f refl) in omega (arith, e)
        by_tests false true t f g never = let e : cond {A = ℕ} t 1 0 ≡ 1 = ap (λ x. cond {A = ℕ} x 1 0) (g refl) in omega (arith, e)
        by_tests false false t f g never = omega arith

        one :
            (c : ℕ) → c < cpus → marks m ≡ false
            → cond {A = ℕ} (is_mine cpus rows may marks own c) 1 0 + cond {A = ℕ} ((own c == m) && is_open cpus rows may known c) 1 0 ≤ cond {A = ℕ} (is_open cpus rows may marks c) 1 0
        one c lt off =
            by_tests (is_mine cpus rows may marks own c) ((own c == m) && is_open cpus rows may known c) (is_open cpus rows may marks c)
            (λ mine. mine_open cpus rows may marks own some.allowed c lt mine)
            (λ its. wider (opener cpus rows may known c (and_parts (own c == m) _ its).1))
            (λ mine its. both_ways (marks m) off (subst (λ i. marks i ≡ true) (eqb-true (own c) m (and_parts (own c == m) _ its).0) (and_parts (nat_lt (own c) rows) _ mine).1))
          where
            wider : (k : ℕ) × (k < rows) × (known k ≡ true) × (may k c ≡ true) → is_open cpus rows may marks c ≡ true
            wider by = open_by cpus rows may marks by.0 c by.1 (all by.0 by.1 by.2) by.3

    -- without m the others can be served
    pub marked_is_needed : Served cpus rows may demands (without who m)
    marked_is_needed = elim (served_or_short cpus rows may demands (without who m)) [
      | inl served ↦ served
      | inr found ↦ absurd (none_short found.0 found.1 found.2)
    ]
