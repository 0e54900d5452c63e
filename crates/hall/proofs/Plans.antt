-- Plans of some of the rows, and who holds which CPU.
use Rattle.std.proofs.Common.{◌≡◌, ℕ, zero, suc, ◌+◌, ◌<◌, ◌≤◌, Bool, true, false, cond, nat_lt, Some, List, [], ◌∷◌, length, get_or, map, slice_get, is_some, refl, sym, ap, ◌∙◌, subst, inl, inr, ◌⊎◌, arith}
use Rattle.std.specs.Prelude.{◌==◌, All, Contains, option_and_then}
use Rattle.std.specs.List.{AllZip, AllPairs}
use Rattle.std.specs.List.Sorted.{IsStrictlyIncreasing}
use Rattle.std.specs.FinSet as set
use Rattle.std.proofs.lemmas.Bool.{cases_eq, eq-eqb, eqb-true, ne_eqb, and_parts, ltb-true, false_from_ne_true}
use Rattle.std.proofs.lemmas.List.{get_or-map, length-map}
use Rattle.std.proofs.lemmas.List.Elements.{All-contains}
use Rattle.std.proofs.lemmas.List.Kept.{AllPairs-from_increasing}
use Rattle.std.proofs.lemmas.Option.{slice_get-get_or}
use Rattle.cpu_set.specs.Ids.{Ids, IsDisjoint}
use Rattle.cpu_set.specs.Those.{those}
use Rattle.cpu_set.specs.ThoseLemmas.{contains-those}
use Rattle.cpu_set.specs.SetLaws.{those-contains}
use Rattle.cpu_set.specs.declared.TheConstants.{CPU_LIMIT}
use Rattle.certificate.specs.RowView.{RowView}
use Rattle.certificate.specs.Weight.{weight}
use Rattle.certificate.specs.IsPlan.{Meets, IsPlan}
use Rattle.certificate.specs.IsShortage.{chosen}
use Rattle.certificate.specs.ApartLemmas.{AllPairs-tail, AllPairs-head}
use Rattle.hall.specs.Asking.{demand_of, demand_at, may_have}
use Rattle.hall.specs.AskingLaws.{some_weight, weight_some}
use Rattle.hall.specs.CountingLaws.{count_same}
use Rattle.hall.proofs.Moving.{held}
use Rattle.hall.proofs.Serving.{IsServed, Served}

no_row : RowView
no_row = record { id = []; demand = 0; offers = [] }

-- some of the rows are served, by these numbers
abbrev pub AreServed : List RowView → (ℕ → Bool) → Type 0
AreServed rows who = Served CPU_LIMIT (length rows) (may_have rows) (demand_at rows) who

-- the CPUs that a row holds
abbrev pub set_of : (ℕ → ℕ) → ℕ → Ids
set_of own k = those (λ c. own c == k) CPU_LIMIT

-- ---- from who holds which CPU to a plan
module _ (rows : List RowView) (who : ℕ → Bool) (own : ℕ → ℕ) (served : IsServed CPU_LIMIT (length rows) (may_have rows) (demand_at rows) who own) where
  in_set : (k c : ℕ) → set.contains (set_of own k) c ≡ true → (c < CPU_LIMIT) × (own c ≡ k)
  in_set k c member =
      let parts = and_parts (nat_lt c CPU_LIMIT) (own c == k) (sym (contains-those (λ x. own x == k) CPU_LIMIT c) ∙ member) in
      (ltb-true c CPU_LIMIT parts.0, eqb-true (own c) k parts.1)

  meets : (k : ℕ) (row : RowView) → k < length rows → who k ≡ true → slice_get rows k ≡ Some row → Meets row (set_of own k)
  meets k row lt on is = record {
    in_range = λ c member. (in_set k c member).0;
    size = served.met k lt on ∙ ap demand_of is;
    allowed = λ c member.
        let at = in_set k c member in
        let mine : own c < length rows = omega (arith, at.1, lt) in
        some_weight (weight row c) (sym (ap (λ found. is_some (option_and_then (λ (r : RowView). weight r c) found)) is) ∙ ap (λ j. may_have rows j c) (sym at.1) ∙ served.allowed c at.0 mine);
  }

  met_all :
      (ks : List ℕ) → All (λ k. k < length rows) ks → All (λ k. who k ≡ true) ks
      → AllZip Meets (chosen rows ks) (map (set_of own) ks)
  met_all [] there on = tt
  met_all (k ∷ ks) there on =
      let lt : k < length rows = there 0 k (omega arith) in
      let is : slice_get rows k ≡ Some (get_or rows k no_row) = slice_get-get_or rows k no_row lt in
      rw is
      (meets k (get_or rows k no_row) lt (on 0 k (omega arith)) is, met_all ks (λ i d h. there (suc i) d (omega arith)) (λ i d h. on (suc i) d (omega arith)))

  apart_all : (ks : List ℕ) → IsStrictlyIncreasing ks → AllPairs IsDisjoint (map (set_of own) ks)
  apart_all ks rising i j d lt within =
      let long = length-map ks (set_of own) in
      let in_ks : j < length ks = omega (arith, long, within) in
      let less : get_or ks i 0 < get_or ks j 0 = AllPairs-from_increasing ks rising i j 0 lt in_ks in
      rw (get_or-map (set_of own) ks i 0 d (omega (arith, lt, in_ks)), get_or-map (set_of own) ks j 0 d in_ks)
      (λ c first second. absurd (omega (arith, (in_set (get_or ks i 0) c first).1, (in_set (get_or ks j 0) c second).1, less)))

  pub plan_of_served :
      (ks : List ℕ) → IsStrictlyIncreasing ks → All (λ k. k < length rows) ks → All (λ k. who k ≡ true) ks
      → IsPlan (chosen rows ks) (map (set_of own) ks)
  plan_of_served ks rising there on = record { met = met_all ks there on; apart = apart_all ks rising }

-- ---- from a plan to who holds which CPU

-- the first row whose set has the CPU, or none
holder : ℕ → List ℕ → List Ids → ℕ → ℕ
holder nobody [] sets c = nobody
holder nobody (k ∷ ks) [] c = nobody
holder nobody (k ∷ ks) (s ∷ sets) c = cond (set.contains s c) k (holder nobody ks sets c)

-- a CPU is held by a row of the list, or by nobody
holder_in : (nobody : ℕ) (ks : List ℕ) (sets : List Ids) (c k : ℕ) → holder nobody ks sets c ≡ k → (k ≡ nobody) ⊎ Contains ks k
unfolding holder
holder_in nobody [] sets c k e = inl (sym e)
holder_in nobody (j ∷ ks) [] c k e = inl (sym e)
holder_in nobody (j ∷ ks) (s ∷ sets) c k e = by_test (set.contains s c) refl (holder_in nobody ks sets c k)
  where
    by_test : (b : Bool) → set.contains s c ≡ b → (holder nobody ks sets c ≡ k → (k ≡ nobody) ⊎ Contains ks k) → (k ≡ nobody) ⊎ Contains (j ∷ ks) k
    by_test true on rest = inr (0, omega arith, sym (ap (λ t. cond t j (holder nobody ks sets c)) on) ∙ e)
    by_test false off rest = elim (rest (sym (ap (λ t. cond t j (holder nobody ks sets c)) off) ∙ e)) [
      | inl none ↦ inl none
      | inr found ↦ inr (suc found.0, omega (arith, found.1), found.2)
    ]

-- nobody holds a CPU that is in no set
holder_none : (nobody : ℕ) (ks : List ℕ) (sets : List Ids) (c : ℕ) → ((i : ℕ) (d : Ids) → i < length sets → set.contains (get_or sets i d) c ≡ false) → holder nobody ks sets c ≡ nobody
unfolding holder
holder_none nobody [] sets c none = refl
holder_none nobody (k ∷ ks) [] c none = refl
holder_none nobody (k ∷ ks) (s ∷ sets) c none =
    ap (λ t. cond t k (holder nobody ks sets c)) (none 0 s (omega arith)) ∙ holder_none nobody ks sets c (λ i d lt. none (suc i) d (omega (arith, lt)))

rising_tail : (k : ℕ) (ks : List ℕ) → IsStrictlyIncreasing (k ∷ ks) → IsStrictlyIncreasing ks
rising_tail k ks rising i lt =
    let h = rising (suc i) (omega (arith, lt)) in
    let next : suc i + 1 ≡ suc (i + 1) = omega arith in
    subst (λ n. get_or (k ∷ ks) (suc i) 0 < get_or (k ∷ ks) n 0) next h

-- a row of a list, with its set in the other list
module _ (rows : List RowView) (nobody : ℕ) (past : length rows ≤ nobody) where
  allowed_by :
      (ks : List ℕ) (sets : List Ids) → All (λ k. k < length rows) ks → AllZip Meets (chosen rows ks) sets
      → (c : ℕ) → holder nobody ks sets c < length rows → may_have rows (holder nobody ks sets c) c ≡ true
  unfolding holder
  allowed_by [] sets there met c lt = absurd (omega (arith, past, lt))
  allowed_by (k ∷ ks) [] there met c lt = absurd (omega (arith, past, lt))
  allowed_by (k ∷ ks) (s ∷ sets) there met c lt =
      by_test (set.contains s c) refl (λ met_tail. allowed_by ks sets (λ i d h. there (suc i) d (omega arith)) met_tail c)
    where
      is : slice_get rows k ≡ Some (get_or rows k no_row)
      is = slice_get-get_or rows k no_row (there 0 k (omega arith))

      both : Meets (get_or rows k no_row) s × AllZip Meets (chosen rows ks) sets
      both = rw is at met

      by_test :
          (b : Bool) → set.contains s c ≡ b
          → (AllZip Meets (chosen rows ks) sets → holder nobody ks sets c < length rows → may_have rows (holder nobody ks sets c) c ≡ true)
          → may_have rows (cond (set.contains s c) k (holder nobody ks sets c)) c ≡ true
      by_test true on rest =
          ap (λ t. may_have rows (cond t k (holder nobody ks sets c)) c) on
          ∙ ap (λ found. is_some (option_and_then (λ (r : RowView). weight r c) found)) is
          ∙ weight_some (weight (get_or rows k no_row) c) (both.0.allowed c on)
      by_test false off rest =
          let same : cond (set.contains s c) k (holder nobody ks sets c) ≡ holder nobody ks sets c = ap (λ t. cond t k (holder nobody ks sets c)) off in
          ap (λ j. may_have rows j c) same ∙ rest both.1 (omega (arith, same, lt))

  -- each row of the list holds its set
  held_by :
      (ks : List ℕ) (sets : List Ids) → All (λ k. k < length rows) ks → IsStrictlyIncreasing ks → AllZip Meets (chosen rows ks) sets → AllPairs IsDisjoint sets
      → (k : ℕ) → Contains ks k → held CPU_LIMIT (holder nobody ks sets) k ≡ demand_at rows k
  unfolding holder
  held_by [] sets there rising met apart k here = absurd (omega (arith, here.1))
  held_by (j ∷ ks) [] there rising met apart k here = absurd ((rw (slice_get-get_or rows j no_row (there 0 j (omega arith))) at met))
  held_by (j ∷ ks) (s ∷ sets) there rising met apart k here =
      by_row (cases_eq k j)
      (λ met_tail found. held_by ks sets (λ i d h. there (suc i) d (omega arith)) (rising_tail j ks rising) met_tail (AllPairs-tail s sets apart) k found)
    where
      is : slice_get rows j ≡ Some (get_or rows j no_row)
      is = slice_get-get_or rows j no_row (there 0 j (omega arith))

      both : Meets (get_or rows j no_row) s × AllZip Meets (chosen rows ks) sets
      both = rw is at met

      there_tail : All (λ i. i < length rows) ks
      there_tail i d h = there (suc i) d (omega arith)

      later : (i : ℕ) → Contains ks i → j < i
      later i found =
          let less : j < get_or ks found.0 i = AllPairs-from_increasing (j ∷ ks) rising 0 (suc found.0) i (omega arith) (omega (arith, found.1)) in
          omega (arith, less, found.2)

      at_head : (c : ℕ) → c < CPU_LIMIT → (cond (set.contains s c) j (holder nobody ks sets c) == j) ≡ set.contains s c
      at_head c lt = by_test (set.contains s c) refl
        where
          by_test : (b : Bool) → set.contains s c ≡ b → (cond (set.contains s c) j (holder nobody ks sets c) == j) ≡ set.contains s c
          by_test true on = ap (λ t. cond t j (holder nobody ks sets c) == j) on ∙ eq-eqb j j refl ∙ sym on
          by_test false off =
              ap (λ t. cond t j (holder nobody ks sets c) == j) off
              ∙ ne_eqb (holder nobody ks sets c) j (λ e. elim (holder_in nobody ks sets c j e) [
                | inl none ↦ absurd (omega (arith, none, past, there 0 j (omega arith)))
                | inr found ↦ absurd (omega (arith, later j found))
              ])
              ∙ sym off

      at_tail : (i : ℕ) → (i ≡ j → ⊥) → i < length rows → (c : ℕ) → c < CPU_LIMIT → (cond (set.contains s c) j (holder nobody ks sets c) == i) ≡ (holder nobody ks sets c == i)
      at_tail i ne lt c c_lt = by_test (set.contains s c) refl
        where
          by_test : (b : Bool) → set.contains s c ≡ b → (cond (set.contains s c) j (holder nobody ks sets c) == i) ≡ (holder nobody ks sets c == i)
          by_test false off = ap (λ t. cond t j (holder nobody ks sets c) == i) off
          by_test true on =
              let none : holder nobody ks sets c ≡ nobody = holder_none nobody ks sets c (λ x d x_lt. false_from_ne_true _ (λ member. AllPairs-head s sets apart x d x_lt c on member)) in
              ap (λ t. cond t j (holder nobody ks sets c) == i) on
              ∙ ne_eqb j i (λ e. ne (sym e))
              ∙ sym (ne_eqb (holder nobody ks sets c) i (λ e. absurd (omega (arith, e, none, past, lt))))

      in_tail : (k ≡ j → ⊥) → Contains (j ∷ ks) k → Contains ks k
      in_tail ne (zero, lt, e) = absurd (ne (sym e))
      in_tail ne (suc i, lt, e) = (i, omega (arith, lt), e)

      by_row :
          (k ≡ j) ⊎ (k ≡ j → ⊥) → (AllZip Meets (chosen rows ks) sets → Contains ks k → held CPU_LIMIT (holder nobody ks sets) k ≡ demand_at rows k)
          → held CPU_LIMIT (λ c. cond (set.contains s c) j (holder nobody ks sets c)) k ≡ demand_at rows k
      by_row (inl e) rest =
          ap (held CPU_LIMIT (λ c. cond (set.contains s c) j (holder nobody ks sets c))) e ∙ count_same (λ c. cond (set.contains s c) j (holder nobody ks sets c) == j) (set.contains s) CPU_LIMIT at_head
          ∙ ap set.len (those-contains s CPU_LIMIT both.0.in_range) ∙ both.0.size ∙ sym (ap demand_of is) ∙ ap (demand_at rows) (sym e)
      by_row (inr ne) rest =
          let found = in_tail ne here in
          count_same (λ c. cond (set.contains s c) j (holder nobody ks sets c) == k) (λ c. holder nobody ks sets c == k) CPU_LIMIT (at_tail k ne (All-contains (λ i. i < length rows) ks k there_tail found))
          ∙ rest both.1 found

-- the rows of a list that has a plan are served
pub served_of_plan :
    (rows : List RowView) (who : ℕ → Bool) (ks : List ℕ) (sets : List Ids) → All (λ k. k < length rows) ks → IsStrictlyIncreasing ks
    → IsPlan (chosen rows ks) sets → ((k : ℕ) → who k ≡ true → Contains ks k) → AreServed rows who
served_of_plan rows who ks sets there rising plan within = (
  holder (length rows) ks sets,
  record {
    allowed = λ c lt mine. allowed_by rows (length rows) (omega arith) ks sets there plan.met c mine;
    met = λ k lt on. held_by rows (length rows) (omega arith) ks sets there rising plan.met plan.apart k (within k on);
  },
)
