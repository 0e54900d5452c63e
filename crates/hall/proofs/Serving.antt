-- Rows that can be served together, or some of them that ask for more CPUs than they may have.
use Rattle.std.proofs.Common.{◌≡◌, ℕ, zero, suc, ◌+◌, ◌<◌, ◌≤◌, Bool, true, false, cond, ◌&&◌, nat_lt, refl, sym, ap, ◌∙◌, inl, inr, ◌⊎◌, arith}
use Rattle.std.specs.Prelude.{◌==◌}
use Rattle.std.proofs.lemmas.Bool.{cases_lt, eq-eqb, ne_eqb, and_parts, and_from, and_left, lt-ltb, ltb-true, le-ltb}
use Rattle.cpu_set.specs.SetLaws.{len-those_none}
use Rattle.hall.specs.CountingLaws.{count, count_suc, count_le, count_some, count_nothing, one_or_none}
use Rattle.hall.proofs.Sums.{total, total_same, total_lt, total_zero, total_add, total_change}
use Rattle.hall.proofs.Moving.{held}
use Rattle.hall.proofs.Searching.{IsAllowed}
use Rattle.hall.proofs.Filling.{AreFilled, AreStopped, all_or_stopped}

-- what the marked rows have of some numbers, one for each row
abbrev pub of_marked : (ℕ → Bool) → (ℕ → ℕ) → ℕ → ℕ
of_marked marks f k = cond (marks k) (f k) 0

-- one row holds a CPU, or none does
one_holder :
    (rows : ℕ) (marks : ℕ → Bool) (o : ℕ)
    → total (of_marked marks (λ k. cond {A = ℕ} (o == k) 1 0)) rows ≡ cond {A = ℕ} (nat_lt o rows && marks o) 1 0
one_holder rows marks o = elim (cases_lt o rows) [
  | inl lt ↦
      let change = total_change (of_marked marks (λ k. cond {A = ℕ} (o == k) 1 0)) (λ _. 0) rows o lt (λ i i_lt ne. no_other i ne) in
      let here : cond {A = ℕ} (marks o) (cond {A = ℕ} (o == o) 1 0) 0 ≡ cond {A = ℕ} (marks o) 1 0 =
      ap (λ b. cond {A = ℕ} (marks o) (cond {A = ℕ} b 1 0) 0) (eq-eqb o o refl) in
      let whole : cond {A = ℕ} (nat_lt o rows && marks o) 1 0 ≡ cond {A = ℕ} (marks o) 1 0 =
      ap (λ b. cond {A = ℕ} (b && marks o) 1 0) (lt-ltb o rows lt) in
      omega (arith, change, here, whole, total_zero rows)
  | inr past ↦
      let none = total_same (of_marked marks (λ k. cond {A = ℕ} (o == k) 1 0)) (λ _. 0) rows (λ i i_lt. no_other i (λ e. absurd (omega (arith, e, i_lt, past)))) in
      let whole : cond {A = ℕ} (nat_lt o rows && marks o) 1 0 ≡ 0 = ap (λ b. cond {A = ℕ} b 1 0) (and_left (nat_lt o rows) (marks o) (le-ltb o rows past)) in
      omega (arith, none, whole, total_zero rows)
]
  where
    nothing : (b : Bool) → cond {A = ℕ} b 0 0 ≡ 0
    nothing true = refl
    nothing false = refl

    no_other : (i : ℕ) → (i ≡ o → ⊥) → of_marked marks (λ k. cond {A = ℕ} (o == k) 1 0) i ≡ 0
    no_other i ne = ap (λ b. cond {A = ℕ} (marks i) (cond {A = ℕ} b 1 0) 0) (ne_eqb o i (λ e. ne (sym e))) ∙ nothing (marks i)

-- each row asks for so many CPUs
module _ (cpus rows : ℕ) (may : ℕ → ℕ → Bool) where
  -- a marked row holds the CPU
  abbrev pub is_mine : (ℕ → Bool) → (ℕ → ℕ) → ℕ → Bool
  is_mine marks own c = nat_lt (own c) rows && marks (own c)

  -- a marked row may have the CPU
  abbrev pub is_open : (ℕ → Bool) → ℕ → Bool
  is_open marks c = nat_lt 0 (count (λ k. marks k && may k c) rows)

  pub open_by : (marks : ℕ → Bool) (k c : ℕ) → k < rows → marks k ≡ true → may k c ≡ true → is_open marks c ≡ true
  open_by marks k c lt on can = lt-ltb 0 _ (count_some (λ j. marks j && may j c) rows k lt (and_from (marks k) (may k c) on can))

  pub opener : (marks : ℕ → Bool) (c : ℕ) → is_open marks c ≡ true → (k : ℕ) × (k < rows) × (marks k ≡ true) × (may k c ≡ true)
  opener marks c on = elim (one_or_none (λ k. marks k && may k c) rows) [
    | inl found ↦ (let parts = and_parts _ _ found.2 in (found.0, found.1, parts.0, parts.1))
    | inr none ↦ absurd (no_one none (ltb-true 0 _ on))
  ]
    where
      no_one : ((k : ℕ) → k < rows → (marks k && may k c) ≡ false) → 0 < count (λ k. marks k && may k c) rows → ⊥
      no_one none some = absurd (omega (arith, count_nothing (λ k. marks k && may k c) rows none, some))

  -- what marked rows hold, CPU by CPU and row by row
  pub mine_counted : (marks : ℕ → Bool) (own : ℕ → ℕ) (n : ℕ) → count (is_mine marks own) n ≡ total (of_marked marks (held n own)) rows
  mine_counted marks own zero =
      let none = total_same (of_marked marks (held 0 own)) (λ _. 0) rows (λ i lt. nothing (marks i) (held 0 own i) (len-those_none (λ c. own c == i))) in
      omega (arith, none, total_zero rows, len-those_none (is_mine marks own))
    where
      nothing : (b : Bool) (n : ℕ) → n ≡ 0 → cond {A = ℕ} b n 0 ≡ 0
      nothing true n e = e
      nothing false n e = refl
  mine_counted marks own (suc n) =
      let one = one_holder rows marks (own n) in
      let split = total_same (of_marked marks (held (suc n) own)) (λ k. of_marked marks (held n own) k + of_marked marks (λ j. cond {A = ℕ} (own n == j) 1 0) k) rows (λ k lt. more (marks k) (held (suc n) own k) (held n own k) _ (count_suc (λ c. own c == k) n)) in
      let both = total_add (of_marked marks (held n own)) (of_marked marks (λ j. cond {A = ℕ} (own n == j) 1 0)) rows in
      omega (arith, count_suc (is_mine marks own) n, mine_counted marks own n, one, split, both)
    where
      more : (b : Bool) (x y z : ℕ) → x ≡ y + z → cond {A = ℕ} b x 0 ≡ cond {A = ℕ} b y 0 + cond {A = ℕ} b z 0
      more true x y z e = e
      more false x y z e = refl

  -- what rows hold they may have
  pub mine_open : (marks : ℕ → Bool) (own : ℕ → ℕ) → IsAllowed cpus rows may own → (c : ℕ) → c < cpus → is_mine marks own c ≡ true → is_open marks c ≡ true
  mine_open marks own allowed c lt mine =
      let parts = and_parts (nat_lt (own c) rows) (marks (own c)) mine in
      let there : own c < rows = ltb-true (own c) rows parts.0 in
      open_by marks (own c) c there parts.1 (allowed c lt there)

  module _ (demands : ℕ → ℕ) where
    -- marked rows ask together for more CPUs than they may have
    abbrev pub AreShort : (ℕ → Bool) → Type 0
    AreShort marks = count (is_open marks) cpus < total (of_marked marks demands) rows

    -- each row of some holds what it asks for
    pub record IsServed (who : ℕ → Bool) (own : ℕ → ℕ) : Type 0 where
      pub allowed : IsAllowed cpus rows may own
      pub met : (k : ℕ) → k < rows → who k ≡ true → held cpus own k ≡ demands k

    abbrev pub Served : (ℕ → Bool) → Type 0
    Served who = (own : ℕ → ℕ) × IsServed who own

    -- rows that are served have no short ones among them
    pub served_not_short :
        (who marks : ℕ → Bool) → Served who → ((k : ℕ) → k < rows → marks k ≡ true → who k ≡ true) → AreShort marks → ⊥
    served_not_short who marks served within short =
        let its = served.1 in
        let same = total_same (of_marked marks demands) (of_marked marks (held cpus served.0)) rows (λ k lt. each k lt (marks k) refl) in
        let counted = mine_counted marks served.0 cpus in
        let few = count_le (is_mine marks served.0) (is_open marks) cpus (λ c lt mine. mine_open marks served.0 its.allowed c lt mine) in
        absurd (omega (arith, short, same, counted, few))
      where
        each : (k : ℕ) → k < rows → (b : Bool) → marks k ≡ b → cond {A = ℕ} b (demands k) 0 ≡ cond {A = ℕ} b (held cpus served.0 k) 0
        each k lt true on = sym (served.1.met k lt (within k lt on))
        each k lt false off = refl

    stopped_short : (own : ℕ → ℕ) (marks : ℕ → Bool) → AreStopped cpus rows may demands own marks → AreShort marks
    stopped_short own marks stop =
        let less = total_lt (of_marked marks (held cpus own)) (of_marked marks demands) rows stop.root (λ k lt. each k lt (marks k)) stop.there at_root in
        let counted = mine_counted marks own cpus in
        let few = count_le (is_open marks) (is_mine marks own) cpus (λ c lt on. held_by c lt (opener marks c on)) in
        omega (arith, less, counted, few)
      where
        each : (k : ℕ) → k < rows → (b : Bool) → cond {A = ℕ} b (held cpus own k) 0 ≤ cond {A = ℕ} b (demands k) 0
        each k lt true = stop.few k lt
        each k lt false = omega arith

        at_root : of_marked marks (held cpus own) stop.root < of_marked marks demands stop.root
        at_root =
            let was : of_marked marks (held cpus own) stop.root ≡ held cpus own stop.root = ap (λ b. cond {A = ℕ} b (held cpus own stop.root) 0) stop.stopped.root in
            let asks : of_marked marks demands stop.root ≡ demands stop.root = ap (λ b. cond {A = ℕ} b (demands stop.root) 0) stop.stopped.root in
            omega (arith, was, asks, stop.lacks)

        held_by : (c : ℕ) → c < cpus → (k : ℕ) × (k < rows) × (marks k ≡ true) × (may k c ≡ true) → is_mine marks own c ≡ true
        held_by c lt by =
            let h = stop.stopped.full by.0 c by.2 lt by.3 in
            and_from (nat_lt (own c) rows) (marks (own c)) (lt-ltb (own c) rows h.0) h.1

    pub served_or_short_all : ((own : ℕ → ℕ) × AreFilled cpus rows may demands own rows) ⊎ ((marks : ℕ → Bool) × AreShort marks)
    served_or_short_all = elim (all_or_stopped cpus rows may demands) [
      | inl full ↦ inl full
      | inr stop ↦ inr (stop.1, stopped_short stop.0 stop.1 stop.2)
    ]

  -- Hall's theorem for some of the rows
  pub served_or_short :
      (demands : ℕ → ℕ) (who : ℕ → Bool)
      → Served demands who ⊎ ((marks : ℕ → Bool) × ((k : ℕ) → marks k ≡ true → who k ≡ true) × AreShort demands marks)
  served_or_short demands who = elim (served_or_short_all (of_marked who demands)) [
    | inl full ↦ inl (full.0, record { allowed = full.1.allowed; met = λ k lt on. full.1.met k lt ∙ ap (λ b. cond {A = ℕ} b (demands k) 0) on })
    | inr found ↦ inr ((λ k. found.0 k && who k), (λ k on. (and_parts (found.0 k) (who k) on).1), short found.0 found.1)
  ]
    where
      short : (marks : ℕ → Bool) → AreShort (of_marked who demands) marks → AreShort demands (λ k. marks k && who k)
      short marks less =
          let few = count_le (is_open (λ k. marks k && who k)) (is_open marks) cpus (λ c lt on. wider c (opener (λ k. marks k && who k) c on)) in
          let same = total_same (of_marked marks (of_marked who demands)) (of_marked (λ k. marks k && who k) demands) rows (λ k lt. each (marks k) (who k) (demands k)) in
          omega (arith, less, few, same)
        where
          each : (a b : Bool) (n : ℕ) → cond {A = ℕ} a (cond {A = ℕ} b n 0) 0 ≡ cond {A = ℕ} (a && b) n 0
          each true b n = refl
          each false b n = refl

          wider : (c : ℕ) → (k : ℕ) × (k < rows) × ((marks k && who k) ≡ true) × (may k c ≡ true) → is_open marks c ≡ true
          wider c by = open_by marks by.0 c by.1 (and_parts (marks by.0) (who by.0) by.2).0 by.3
