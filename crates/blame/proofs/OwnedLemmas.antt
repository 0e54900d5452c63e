-- Sets of the members, of which the root asks for fewer CPUs, say who holds which CPU.
use Rattle.std.proofs.Common.{◌≡◌, ℕ, ◌+◌, ◌<◌, true, false, List, length, refl, sym, ap, ◌∙◌, subst, inl, inr, ◌⊎◌, arith}
use Rattle.std.specs.Prelude.{◌==◌, All, Contains}
use Rattle.std.specs.List.Sorted.{IsStrictlyIncreasing}
use Rattle.std.specs.FinSet as ids
use Rattle.std.proofs.lemmas.Bool.{cases_eq, cases_order, cases_Bool, both_ways, cond_both, eq-eqb, eqb-true, ne_eqb}
use Rattle.std.proofs.lemmas.List.{get_or_default}
use Rattle.std.proofs.lemmas.List.Elements.{All-contains, Contains-get_or}
use Rattle.std.proofs.lemmas.List.Kept.{AllPairs-from_increasing}
use Rattle.cpu_set.specs.Ids.{Ids}
use Rattle.cpu_set.specs.Members.{IsCpu}
use Rattle.cpu_set.specs.SetLaws.{those-contains}
use Rattle.cpu_set.specs.declared.TheConstants.{CPU_LIMIT}
use Rattle.certificate.specs.RowView.{RowView}
use Rattle.hall.specs.Asking.{demand_at, may_have}
use Rattle.hall.specs.CountingLaws.{count_same, count_nothing}
use Rattle.hall.specs.Needed.{others, held_by}
use Rattle.hall.specs.OthersLaws.{others_rise, others_all, in_others, of_others, not_in_others}
use Rattle.blame.specs.Marking.{owner, IsOwned}
use Rattle.blame.specs.Parts.{number_at, set_at, asked_at, askers, AreSetsOf, AreOwners}
use Rattle.blame.proofs.PartLemmas.{asked_root, asked_other}

-- ---- who asks for CPUs

module _ (members : List ℕ) (root lowered : ℕ) where
  by_askers : (P : List ℕ → Type 0) → P (others members root) → P members → P (askers members root lowered)
  by_askers P less all = cond_both (lowered == 0) (others members root) members P (λ _. less) (λ _. all)

  pub askers_rise : IsStrictlyIncreasing members → IsStrictlyIncreasing (askers members root lowered)
  askers_rise rising = by_askers IsStrictlyIncreasing (others_rise members root rising) rising

  pub askers_all : (P : ℕ → Type 0) → All P members → All P (askers members root lowered)
  askers_all P all = by_askers (All P) (others_all P members root all) all

  pub of_askers : (k : ℕ) → Contains (askers members root lowered) k → Contains members k
  of_askers k = by_askers (λ ks. Contains ks k → Contains members k) (of_others members root k) (λ here. here)

  pub in_askers : (k : ℕ) → (k ≡ root → ⊥) → Contains members k → Contains (askers members root lowered) k
  in_askers k ne = by_askers (λ ks. Contains members k → Contains ks k) (λ here. in_others members root k here ne) (λ here. here)

  pub root_asks : (lowered ≡ 0 → ⊥) → Contains members root → Contains (askers members root lowered) root
  root_asks some here = cond_both (lowered == 0) (others members root) members (λ ks. Contains ks root) (λ e. absurd (some (eqb-true lowered 0 e))) (λ _. here)

  pub root_asks_not : lowered ≡ 0 → Contains (askers members root lowered) root → ⊥
  root_asks_not none =
      cond_both (lowered == 0) (others members root) members (λ ks. Contains ks root → ⊥)
      (λ _. not_in_others members root) (λ e here. both_ways (lowered == 0) e (eq-eqb lowered 0 none))

-- ---- places of numbers that rise

pub place_of : (ks : List ℕ) (k : ℕ) → Contains ks k → (i : ℕ) × (i < length ks) × (number_at ks i ≡ k)
place_of ks k (i, lt, e) = (i, lt, get_or_default ks i 0 k lt ∙ e)

pub one_place : (ks : List ℕ) (i j : ℕ) → IsStrictlyIncreasing ks → i < length ks → j < length ks → number_at ks i ≡ number_at ks j → i ≡ j
one_place ks i j rising i_lt j_lt same = elim (cases_order i j) [
  | inl e ↦ e
  | inr (inl lt) ↦ absurd (omega (arith, same, AllPairs-from_increasing ks rising i j 0 lt j_lt))
  | inr (inr lt) ↦ absurd (omega (arith, same, AllPairs-from_increasing ks rising j i 0 lt i_lt))
]

-- ---- who holds which CPU

module _ (rows : List RowView) (numbers : List ℕ) (root demand : ℕ) (sets : List Ids) (own : List ℕ) (rising : IsStrictlyIncreasing numbers)
    (there : All (λ k. k < length rows) numbers) (its : AreSetsOf rows numbers root demand sets) (owners : AreOwners numbers sets (length rows) own) where
  in_numbers : (i : ℕ) → i < length sets → i < length numbers
  in_numbers i lt = omega (arith, lt, its.long)

  -- the holder's place
  pub holder : (c : ℕ) → IsCpu c → owner own c < length rows → (i : ℕ) × (i < length sets) × (owner own c ≡ number_at numbers i) × (ids.contains (set_at sets i) c ≡ true)
  holder c is_cpu lt = elim (owners.holds c is_cpu) [ inl none ↦ absurd (omega (arith, none, lt)) | inr found ↦ found ]

  pub holder_asks : (c : ℕ) → IsCpu c → owner own c < length rows → Contains numbers (owner own c)
  holder_asks c is_cpu lt =
      let at = holder c is_cpu lt in
      subst (Contains numbers) (sym at.2) (Contains-get_or numbers at.0 0 (in_numbers at.0 at.1))

  pub holder_may : (c : ℕ) → IsCpu c → owner own c < length rows → may_have rows (owner own c) c ≡ true
  holder_may c is_cpu lt =
      let at = holder c is_cpu lt in
      ap (λ k. may_have rows k c) at.2 ∙ its.allowed at.0 c at.1 at.3

  is_holder : (i c : ℕ) → i < length sets → c < CPU_LIMIT → (owner own c == number_at numbers i) ≡ ids.contains (set_at sets i) c
  is_holder i c lt is_cpu = elim (cases_Bool (ids.contains (set_at sets i) c)) [
    | inl on ↦ eq-eqb (owner own c) (number_at numbers i) (owners.held i c lt is_cpu on) ∙ sym on
    | inr off ↦ ne_eqb (owner own c) (number_at numbers i) (λ e. other e off) ∙ sym off
  ]
    where
      other : owner own c ≡ number_at numbers i → ids.contains (set_at sets i) c ≡ false → ⊥
      other e off =
          let at = holder c is_cpu (omega (arith, e, there i 0 (in_numbers i lt))) in
          let same = one_place numbers at.0 i rising (in_numbers at.0 at.1) (in_numbers i lt) (sym at.2 ∙ e) in
          both_ways (ids.contains (set_at sets i) c) off (ap (λ j. ids.contains (set_at sets j) c) (sym same) ∙ at.3)

  pub held_set : (i : ℕ) → i < length sets → held_by (owner own) (number_at numbers i) ≡ asked_at rows root demand (number_at numbers i)
  held_set i lt =
      count_same (λ c. owner own c == number_at numbers i) (ids.contains (set_at sets i)) CPU_LIMIT (λ c is_cpu. is_holder i c lt is_cpu)
      ∙ ap ids.len (those-contains (set_at sets i) CPU_LIMIT (its.in_range i lt)) ∙ its.size i lt

  pub held_number : (k : ℕ) → Contains numbers k → held_by (owner own) k ≡ asked_at rows root demand k
  held_number k here =
      let at = place_of numbers k here in
      subst (λ j. held_by (owner own) j ≡ asked_at rows root demand j) at.2 (held_set at.0 (omega (arith, at.1, its.long)))

  pub held_none : (k : ℕ) → k < length rows → (Contains numbers k → ⊥) → held_by (owner own) k ≡ 0
  held_none k lt absent = count_nothing (λ c. owner own c == k) CPU_LIMIT (λ c is_cpu. ne_eqb (owner own c) k (λ e. other c is_cpu e))
    where
      other : (c : ℕ) → IsCpu c → owner own c ≡ k → ⊥
      other c is_cpu e = absent (subst (Contains numbers) e (holder_asks c is_cpu (omega (arith, e, lt))))

pub owned_of_sets :
    (rows : List RowView) (members numbers : List ℕ) (root lowered lacking demand : ℕ) (sets : List Ids) (own : List ℕ)
    → IsStrictlyIncreasing members → All (λ k. k < length rows) members → Contains members root → numbers ≡ askers members root lowered
    → lowered + lacking ≡ demand_at rows root → ((lowered ≡ 0 → ⊥) → demand ≡ lowered)
    → AreSetsOf rows numbers root demand sets → AreOwners numbers sets (length rows) own → IsOwned rows members own root lacking
owned_of_sets rows members numbers root lowered lacking demand sets own rising there has are whole as_asked its owners = record {
  rising = rising;
  there = there;
  part = record {
    allowed = λ c is_cpu lt. holder_may rows numbers root demand sets own n_rise n_there its owners c is_cpu lt;
    there = has;
    met = λ k here ne.
        held_number rows numbers root demand sets own n_rise n_there its owners k
        (subst (λ ks. Contains ks k) (sym are) (in_askers members root lowered k ne here)) ∙ asked_other rows root demand k ne;
    lacks = by_root (cases_eq lowered 0);
  };
  holders = λ c is_cpu lt.
      of_askers members root lowered (owner own c)
      (subst (λ ks. Contains ks (owner own c)) are (holder_asks rows numbers root demand sets own n_rise n_there its owners c is_cpu lt));
}
  where
    n_rise : IsStrictlyIncreasing numbers
    n_rise = subst IsStrictlyIncreasing (sym are) (askers_rise members root lowered rising)

    n_there : All (λ k. k < length rows) numbers
    n_there = subst (λ ks. All (λ k. k < length rows) ks) (sym are) (askers_all members root lowered (λ k. k < length rows) there)

    by_root : (lowered ≡ 0) ⊎ (lowered ≡ 0 → ⊥) → held_by (owner own) root + lacking ≡ demand_at rows root
    by_root (inl none) =
        let absent : Contains numbers root → ⊥ = λ here. root_asks_not members root lowered none (subst (λ ks. Contains ks root) are here) in
        let nothing = held_none rows numbers root demand sets own n_rise n_there its owners root (All-contains (λ k. k < length rows) members root there has) absent in
        omega (arith, nothing, none, whole)
    by_root (inr some) =
        let here = subst (λ ks. Contains ks root) (sym are) (root_asks members root lowered some has) in
        let held = held_number rows numbers root demand sets own n_rise n_there its owners root here in
        omega (arith, held, asked_root rows root demand root refl, as_asked some, whole)
