-- A row that lacks CPUs gets one more, or the rows that it reaches hold all that they may have.
use Rattle.std.proofs.Common.{◌≡◌, ℕ, zero, suc, ◌+◌, ◌<◌, ◌≤◌, Bool, true, false, cond, ◌||◌, ◌&&◌, not, nat_lt, refl, sym, ap, ◌∙◌, subst, inl, inr, ◌⊎◌, arith}
use Rattle.std.specs.Prelude.{◌==◌}
use Rattle.std.proofs.lemmas.Bool.{cases_eq, cases_lt, eq-eqb, eqb-true, ne_eqb, both_ways, and_parts, and_cases, or_cases, or_left, or_right, not-true, not-false, lt-ltb, ltb-true}
use Rattle.hall.specs.CountingLaws.{count, count_change, pair_or_none}
use Rattle.hall.proofs.Moving.{held, move, move_here, move_other, held_moved, is_own, is_not_own}

-- so many CPUs and rows, and which row may have which CPU. `own c` is the row that holds CPU c, or no row.
module _ (cpus rows : ℕ) (may : ℕ → ℕ → Bool) where
  -- what is held is allowed
  abbrev pub IsAllowed : (ℕ → ℕ) → Type 0
  IsAllowed own = (c : ℕ) → c < cpus → own c < rows → may (own c) c ≡ true

  -- row r holds one CPU more, and the others hold as many
  pub record IsGain (r : ℕ) (old new : ℕ → ℕ) : Type 0 where
    pub allowed : IsAllowed new
    pub more : held cpus new r ≡ held cpus old r + 1
    pub others : (k : ℕ) → k < rows → (k ≡ r → ⊥) → held cpus new k ≡ held cpus old k

  abbrev pub CanGain : ℕ → (ℕ → ℕ) → Type 0
  CanGain r own = (new : ℕ → ℕ) × IsGain r own new

  -- the CPUs that marked rows hold are held by the same rows
  abbrev pub IsSameOf : (ℕ → Bool) → (ℕ → ℕ) → (ℕ → ℕ) → Type 0
  IsSameOf reached own other = (c : ℕ) → c < cpus → own c < rows → reached (own c) ≡ true → other c ≡ own c

  -- if a marked row could have one more free CPU, row r could get one more
  abbrev pub IsReach : ℕ → (ℕ → ℕ) → (ℕ → Bool) → Type 0
  IsReach r own reached = (k : ℕ) → reached k ≡ true
      → (k < rows) × ((other : ℕ → ℕ) → IsAllowed other → IsSameOf reached own other → (c : ℕ) → c < cpus → rows ≤ other c → may k c ≡ true → CanGain r other)

  module _ (r : ℕ) (there : r < rows) where
    gain_at_root : (own : ℕ → ℕ) → IsAllowed own → (c : ℕ) → c < cpus → rows ≤ own c → may r c ≡ true → IsGain r own (move own c r)
    gain_at_root own allowed c lt free can = record {
      allowed = λ x x_lt mine. at x x_lt mine (cases_eq x c);
      more = omega (arith, held_moved cpus own c r r lt, is_own r r refl, is_not_own (own c) r (λ e. absurd (omega (arith, e))));
      others = λ k k_lt ne. omega (arith, held_moved cpus own c r k lt, is_not_own r k (λ e. ne (sym e)), is_not_own (own c) k (λ e. absurd (omega (arith, e))));
    }
      where
        at : (x : ℕ) → x < cpus → move own c r x < rows → (x ≡ c) ⊎ (x ≡ c → ⊥) → may (move own c r x) x ≡ true
        at x x_lt mine (inl e) = subst (λ y. may (move own c r y) y ≡ true) (sym e) (ap (λ k. may k c) (move_here own c r) ∙ can)
        at x x_lt mine (inr ne) =
            let same = move_other own c r x ne in
            ap (λ k. may k x) same ∙ allowed x x_lt (omega (arith, same, mine))

    pub root_reached : (own : ℕ → ℕ) → IsReach r own (λ k. k == r)
    root_reached own k on =
        let is : k ≡ r = eqb-true k r on in
        (omega (arith, is), λ other allowed same c lt free can. (move other c r, gain_at_root other allowed c lt free (ap (λ j. may j c) (sym is) ∙ can)))

    -- the holder of a CPU that a marked row may have is marked too
    module _ (own : ℕ → ℕ) (reached : ℕ → Bool) (reach : IsReach r own reached) (k c : ℕ) (on : reached k ≡ true) (lt : c < cpus) (can : may k c ≡ true)
        (holds : own c < rows) (off : reached (own c) ≡ false) where
      -- row `own c` takes CPU b, and lets CPU c go
      handed : (ℕ → ℕ) → ℕ → ℕ → ℕ
      handed other b = move (move other b (own c)) c rows

      module _ (other : ℕ → ℕ) (b : ℕ) (b_lt : b < cpus) (free : rows ≤ other b) (is : other c ≡ own c) where
        apart : c ≡ b → ⊥
        apart e = absurd (omega (arith, ap other e, is, holds, free))

        handed_c : handed other b c ≡ rows
        unfolding handed
        handed_c = move_here (move other b (own c)) c rows

        handed_b : handed other b b ≡ own c
        unfolding handed
        handed_b = move_other (move other b (own c)) c rows b (λ e. apart (sym e)) ∙ move_here other b (own c)

        handed_other : (x : ℕ) → (x ≡ c → ⊥) → (x ≡ b → ⊥) → handed other b x ≡ other x
        unfolding handed
        handed_other x not_c not_b = move_other (move other b (own c)) c rows x not_c ∙ move_other other b (own c) x not_b

        handed_held : (j : ℕ) → j < rows → held cpus (handed other b) j ≡ held cpus other j
        unfolding handed
        handed_held j j_lt =
            let first = held_moved cpus other b (own c) j b_lt in
            let second = held_moved cpus (move other b (own c)) c rows j lt in
            let at_c : cond {A = ℕ} (move other b (own c) c == j) 1 0 ≡ cond (own c == j) 1 0 =
            ap (λ y. cond {A = ℕ} (y == j) 1 0) (move_other other b (own c) c apart ∙ is) in
            omega (
              arith,
              first,
              second,
              at_c,
              is_not_own (other b) j (λ e. absurd (omega (arith, e))),
              is_not_own rows j (λ e. absurd (omega (arith, e))),
            )

        handed_allowed : IsAllowed other → may (own c) b ≡ true → IsAllowed (handed other b)
        handed_allowed allowed may_b x x_lt mine = at (cases_eq x c) (cases_eq x b)
          where
            at : (x ≡ c) ⊎ (x ≡ c → ⊥) → (x ≡ b) ⊎ (x ≡ b → ⊥) → may (handed other b x) x ≡ true
            at (inl e) either = absurd (omega (arith, ap (handed other b) e, handed_c, mine))
            at (inr not_c) (inl e) = subst (λ y. may (handed other b y) y ≡ true) (sym e) (ap (λ j. may j b) handed_b ∙ may_b)
            at (inr not_c) (inr not_b) =
                let same = handed_other x not_c not_b in
                ap (λ j. may j x) same ∙ allowed x x_lt (omega (arith, same, mine))

        handed_same : IsSameOf reached own other → IsSameOf reached own (handed other b)
        handed_same same x x_lt mine marked =
            let kept = same x x_lt mine marked in
            let not_c : x ≡ c → ⊥ = λ e. both_ways (reached (own c)) off (subst (λ y. reached (own y) ≡ true) e marked) in
            let not_b : x ≡ b → ⊥ = λ e. absurd (omega (arith, ap other e, kept, mine, free)) in
            handed_other x not_c not_b ∙ kept

      pub marks_more : ℕ → Bool
      marks_more x = reached x || (x == own c)

      more_reached : (j : ℕ) → (j ≡ own c) ⊎ (reached j ≡ true)
          → (j < rows) × ((other : ℕ → ℕ) → IsAllowed other → IsSameOf marks_more own other → (b : ℕ) → b < cpus → rows ≤ other b → may j b ≡ true → CanGain r other)
      unfolding marks_more
      more_reached j (inr before) =
          let h = reach j before in
          (h.0, λ other allowed same b b_lt free can_b. h.1 other allowed (λ x x_lt mine marked. same x x_lt mine (or_left _ _ marked)) b b_lt free can_b)
      more_reached j (inl is) = (omega (arith, is), new)
        where
          new : (other : ℕ → ℕ) → IsAllowed other → IsSameOf (λ x. reached x || (x == own c)) own other → (b : ℕ) → b < cpus → rows ≤ other b → may j b ≡ true → CanGain r other
          new other allowed same b b_lt free can_b =
              let kept : other c ≡ own c = same c lt holds (or_right (reached (own c)) (own c == own c) (eq-eqb (own c) (own c) refl)) in
              let may_b : may (own c) b ≡ true = ap (λ i. may i b) (sym is) ∙ can_b in
              let found : CanGain r (handed other b) =
              (reach k on).1 (handed other b) (handed_allowed other b b_lt free kept allowed may_b)
              (handed_same other b b_lt free kept (λ x x_lt mine marked. same x x_lt mine (or_left _ _ marked)))
              c lt (omega (arith, handed_c other b b_lt free kept)) can in (
                found.0,
                record {
                  allowed = found.1.allowed;
                  more = omega (arith, found.1.more, handed_held other b b_lt free kept r there);
                  others = λ i i_lt ne. omega (arith, found.1.others i i_lt ne, handed_held other b b_lt free kept i i_lt);
                },
              )

      pub reach_more : IsReach r own marks_more
      unfolding marks_more
      reach_more j on_j = more_reached j (elim (or_cases (reached j) (j == own c) on_j) [
        | inl before ↦ inr before
        | inr now ↦ inl (eqb-true j (own c) now)
      ])

    -- the marked rows hold all that they may have
    pub record IsStopped (own : ℕ → ℕ) (marks : ℕ → Bool) : Type 0 where
      pub root : marks r ≡ true
      pub within : (k : ℕ) → marks k ≡ true → k < rows
      pub full : (k c : ℕ) → marks k ≡ true → c < cpus → may k c ≡ true → (own c < rows) × (marks (own c) ≡ true)

    -- no marked row holds a CPU that this marked row may have
    open_end : (ℕ → ℕ) → (ℕ → Bool) → ℕ → ℕ → Bool
    open_end own marks k c = marks k && (may k c && not (nat_lt (own c) rows && marks (own c)))

    -- what an open end is
    record IsOpen (own : ℕ → ℕ) (marks : ℕ → Bool) (k c : ℕ) : Type 0 where
      pub on : marks k ≡ true
      pub can : may k c ≡ true
      pub off : own c < rows → marks (own c) ≡ false

    opens : (own : ℕ → ℕ) (marks : ℕ → Bool) (k c : ℕ) → open_end own marks k c ≡ true → IsOpen own marks k c
    unfolding open_end
    opens own marks k c h =
        let first = and_parts (marks k) _ h in
        let second = and_parts (may k c) _ first.1 in
        record {
          on = first.0;
          can = second.0;
          off = λ lt. elim (and_cases _ _ (not-true _ second.1)) [
            | inl past ↦ absurd (both_ways _ past (lt-ltb (own c) rows lt))
            | inr off ↦ off
          ];
        }

    not_open : (own : ℕ → ℕ) (marks : ℕ → Bool) (k c : ℕ) → open_end own marks k c ≡ false → marks k ≡ true → may k c ≡ true → (own c < rows) × (marks (own c) ≡ true)
    unfolding open_end
    not_open own marks k c h on can =
        let both : (nat_lt (own c) rows && marks (own c)) ≡ true = elim (and_cases (marks k) _ h) [
          | inl off ↦ absurd (both_ways _ off on)
          | inr rest ↦ elim (and_cases (may k c) _ rest) [
            | inl never ↦ absurd (both_ways _ never can)
            | inr shut ↦ not-false _ shut
          ]
        ] in
        let parts = and_parts _ _ both in
        (ltb-true (own c) rows parts.0, parts.1)

    -- one row more is marked
    fewer :
        (own : ℕ → ℕ) (marks : ℕ → Bool) (reach : IsReach r own marks) (k c : ℕ) (on : marks k ≡ true) (lt : c < cpus) (can : may k c ≡ true)
        (holds : own c < rows) (off : marks (own c) ≡ false)
        → count (λ x. not (marks_more own marks reach k c on lt can holds off x)) rows + 1 ≡ count (λ x. not (marks x)) rows
    unfolding marks_more
    fewer own marks reach k c on lt can holds off =
        let change = count_change (λ x. not (marks x || (x == own c))) (λ x. not (marks x)) rows (own c) holds (λ x ne. same x ne) in
        let was : cond {A = ℕ} (not (marks (own c))) 1 0 ≡ 1 = ap (λ b. cond {A = ℕ} (not b) 1 0) off in
        let now : cond {A = ℕ} (not (marks (own c) || (own c == own c))) 1 0 ≡ 0 =
        ap (λ b. cond {A = ℕ} (not b) 1 0) (or_right (marks (own c)) (own c == own c) (eq-eqb (own c) (own c) refl)) in
        omega (arith, change, was, now)
      where
        or_false : (a b : Bool) → b ≡ false → (a || b) ≡ a
        or_false true b e = refl
        or_false false b e = e

        same : (x : ℕ) → (x ≡ own c → ⊥) → not (marks x || (x == own c)) ≡ not (marks x)
        same x ne = ap not (or_false (marks x) (x == own c) (ne_eqb x (own c) ne))

    -- row r can get a CPU more, or marked rows hold all that they may have
    abbrev pub Found : (ℕ → ℕ) → Type 0
    Found own = CanGain r own ⊎ ((marks : ℕ → Bool) × IsStopped own marks)

    -- what a search comes to from marks of which one more is taken up
    abbrev Again : ℕ → (ℕ → ℕ) → Type 0
    Again n own = (marks : ℕ → Bool) → IsReach r own marks → marks r ≡ true → count (λ k. not (marks k)) rows + 1 ≤ n → Found own

    kept :
        (own : ℕ → ℕ) (marks : ℕ → Bool) (reach : IsReach r own marks) (k c : ℕ) (on : marks k ≡ true) (lt : c < cpus) (can : may k c ≡ true)
        (holds : own c < rows) (off : marks (own c) ≡ false)
        → marks r ≡ true → marks_more own marks reach k c on lt can holds off r ≡ true
    unfolding marks_more
    kept own marks reach k c on lt can holds off root = or_left (marks r) (r == own c) root

    at_open :
        (n : ℕ) (own : ℕ → ℕ) (marks : ℕ → Bool) → IsAllowed own → IsReach r own marks → marks r ≡ true → count (λ k. not (marks k)) rows ≤ n
        → Again n own → (k c : ℕ) → c < cpus → IsOpen own marks k c → Found own
    at_open n own marks allowed reach root few again k c lt at = elim (cases_lt (own c) rows) [
      | inr free ↦ inl ((reach k at.on).1 own allowed (λ x x_lt mine marked. refl) c lt free at.can)
      | inl holds ↦
          let off = at.off holds in
          let less = fewer own marks reach k c at.on lt at.can holds off in
          again (marks_more own marks reach k c at.on lt at.can holds off) (reach_more own marks reach k c at.on lt at.can holds off)
          (kept own marks reach k c at.on lt at.can holds off root) (omega (arith, less, few))
    ]

    step :
        (n : ℕ) (own : ℕ → ℕ) (marks : ℕ → Bool) → IsAllowed own → IsReach r own marks → marks r ≡ true → count (λ k. not (marks k)) rows ≤ n
        → Again n own → Found own
    step n own marks allowed reach root few again = elim (pair_or_none (open_end own marks) rows cpus) [
      | inr none ↦ inr (
        marks,
        record {
          root = root;
          within = λ k on. (reach k on).0;
          full = λ k c on lt can. not_open own marks k c (none k c (reach k on).0 lt) on can;
        },
      )
      | inl found ↦ at_open n own marks allowed reach root few again found.0 found.1 found.3 (opens own marks found.0 found.1 found.4)
    ]

    -- with so many rows unmarked at most
    pub search :
        (n : ℕ) (own : ℕ → ℕ) (marks : ℕ → Bool) → IsAllowed own → IsReach r own marks → marks r ≡ true → count (λ k. not (marks k)) rows ≤ n
        → Found own
    search zero own marks allowed reach root few =
        step zero own marks allowed reach root few (λ more reach_it on less. absurd (omega (arith, less)))
    search (suc n) own marks allowed reach root few =
        step (suc n) own marks allowed reach root few (λ more reach_it on less. search n own more allowed reach_it on (omega (arith, less)))

    -- with the row alone marked
    pub search_from_root : (own : ℕ → ℕ) → IsAllowed own → Found own
    search_from_root own allowed =
        search (count (λ k. not (k == r)) rows) own (λ k. k == r) allowed (root_reached own) (eq-eqb r r refl) (omega arith)

    -- so many searches for the row: it holds as many CPUs more, or one of them was stopped
    pub record IsFilled (own new : ℕ → ℕ) (wanted : ℕ) : Type 0 where
      pub allowed : IsAllowed new
      pub filled : held cpus new r ≡ wanted
      pub others : (k : ℕ) → k < rows → (k ≡ r → ⊥) → held cpus new k ≡ held cpus own k

    pub record IsLacking (own new : ℕ → ℕ) (marks : ℕ → Bool) (wanted : ℕ) : Type 0 where
      pub stopped : IsStopped new marks
      pub lacks : held cpus new r < wanted
      pub others : (k : ℕ) → k < rows → (k ≡ r → ⊥) → held cpus new k ≡ held cpus own k

    abbrev pub FilledOrLacking : (ℕ → ℕ) → ℕ → Type 0
    FilledOrLacking own wanted = ((new : ℕ → ℕ) × IsFilled own new wanted) ⊎ ((new : ℕ → ℕ) × (marks : ℕ → Bool) × IsLacking own new marks wanted)

    gained : (own new : ℕ → ℕ) (wanted : ℕ) → IsGain r own new → FilledOrLacking new wanted → FilledOrLacking own wanted
    gained own new wanted gain (inl end) = inl (
      end.0,
      record {
        allowed = end.1.allowed;
        filled = end.1.filled;
        others = λ k lt ne. end.1.others k lt ne ∙ gain.others k lt ne;
      },
    )
    gained own new wanted gain (inr end) = inr (
      end.0,
      end.1,
      record {
        stopped = end.2.stopped;
        lacks = end.2.lacks;
        others = λ k lt ne. end.2.others k lt ne ∙ gain.others k lt ne;
      },
    )

    pub fill : (n : ℕ) (own : ℕ → ℕ) (wanted : ℕ) → IsAllowed own → held cpus own r + n ≡ wanted → FilledOrLacking own wanted
    fill zero own wanted allowed e = inl (own, record { allowed = allowed; filled = omega (arith, e); others = λ k lt ne. refl })
    fill (suc n) own wanted allowed e = elim (search_from_root own allowed) [
      | inl gain ↦ gained own gain.0 wanted gain.1 (fill n gain.0 wanted gain.1.allowed (omega (arith, gain.1.more, e)))
      | inr stop ↦ inr (own, stop.0, record { stopped = stop.1; lacks = omega (arith, e); others = λ k lt ne. refl })
    ]
