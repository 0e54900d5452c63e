-- A problem of some of the rows: how it is made, and what a plan of it is.
use Rattle.std.proofs.Common.{◌≡◌, ℕ, zero, suc, ◌+◌, ◌<◌, ◌≤◌, true, cond, Some, List, [], ◌∷◌, ◌++◌, length, get_or, slice_get, is_some, refl, sym, ap, ◌∙◌, inl, inr, ◌⊎◌, arith}
use Rattle.std.specs.Prelude.{All}
use Rattle.std.specs.List.{AllZip, AllPairs}
use Rattle.std.specs.FinSet as ids
use Rattle.std.proofs.lemmas.Bool.{cases_eq, cases_order, eq-eqb, ne_eqb}
use Rattle.std.proofs.lemmas.List.{get_or_append_left, get_or_push, get_or_default, length_push}
use Rattle.std.proofs.lemmas.List.Elements.{All-push}
use Rattle.std.proofs.lemmas.Option.{slice_get-get_or}
use Rattle.cpu_set.specs.Ids.{Ids, IsDisjoint}
use Rattle.certificate.specs.AreWithin.{AreRowsWithin, IsRowWithin}
use Rattle.certificate.specs.IsPlan.{Meets, IsPlan}
use Rattle.certificate.specs.IsShortage.{chosen}
use Rattle.certificate.specs.RowView.{RowView}
use Rattle.certificate.specs.Weight.{weight}
use Rattle.certificate.specs.declared.limits.TheConstants.{MAX_DEMAND}
use Rattle.hall.specs.Asking.{demand_of, demand_at, may_have}
use Rattle.hall.specs.AskingLaws.{may, demand_here, may_here, some_weight, weight_some}
use Rattle.hall.specs.HallsTheorem.{HasPlan}
use Rattle.blame.specs.Parts.{number_at, set_at, asked_at, IsPart, AreSetsOf}

pub no_row : RowView
no_row = record { id = []; demand = 0; offers = [] }

-- ---- what a row asks for

pub asked_root : (rows : List RowView) (root demand k : ℕ) → k ≡ root → asked_at rows root demand k ≡ demand
asked_root rows root demand k e = ap (λ b. cond b demand (demand_at rows k)) (eq-eqb k root e)

pub asked_other : (rows : List RowView) (root demand k : ℕ) → (k ≡ root → ⊥) → asked_at rows root demand k ≡ demand_at rows k
asked_other rows root demand k ne = ap (λ b. cond b demand (demand_at rows k)) (ne_eqb k root ne)

pub row_within : (rows : List RowView) (k : ℕ) → AreRowsWithin rows → k < length rows → (1 ≤ demand_at rows k) × (demand_at rows k ≤ MAX_DEMAND)
row_within rows k fit lt =
    let row = fit.each k no_row lt in
    let its = demand_here rows k no_row lt in
    (omega (arith, its, row.some), omega (arith, its, row.demand))

pub asked_within :
    (rows : List RowView) (root demand k : ℕ) → AreRowsWithin rows → k < length rows → 1 ≤ demand → demand ≤ demand_at rows root
    → (1 ≤ asked_at rows root demand k) × (asked_at rows root demand k ≤ MAX_DEMAND)
asked_within rows root demand k fit lt some less =
    let row = row_within rows k fit lt in
    elim (cases_eq k root) [
      | inl e ↦
          let its = asked_root rows root demand k e in
          let same : demand_at rows k ≡ demand_at rows root = ap (demand_at rows) e in
          (omega (arith, its, some), omega (arith, its, less, same, row.1))
      | inr ne ↦
          let its = asked_other rows root demand k ne in
          (omega (arith, its, row.0), omega (arith, its, row.1))
    ]

pub asked_less : (rows : List RowView) (root demand k : ℕ) → demand ≤ demand_at rows root → asked_at rows root demand k ≤ demand_at rows k
asked_less rows root demand k less = elim (cases_eq k root) [
  | inl e ↦
      let same : demand_at rows k ≡ demand_at rows root = ap (demand_at rows) e in
      omega (arith, asked_root rows root demand k e, less, same)
  | inr ne ↦ omega (arith, asked_other rows root demand k ne)
]

-- ---- row by row

push_before : (xs : List RowView) (x : RowView) (i : ℕ) → i < length xs → slice_get (xs ++ x ∷ []) i ≡ slice_get xs i
push_before xs x i lt =
    slice_get-get_or (xs ++ x ∷ []) i x (omega (arith, lt, length_push xs x))
    ∙ ap Some (get_or_append_left xs (x ∷ []) x i lt) ∙ sym (slice_get-get_or xs i x lt)

push_at : (xs : List RowView) (x : RowView) (i : ℕ) → length xs ≡ i → slice_get (xs ++ x ∷ []) i ≡ Some x
push_at xs x i long =
    slice_get-get_or (xs ++ x ∷ []) i x (omega (arith, long, length_push xs x)) ∙ ap Some (get_or_push xs x x i long)

-- the rows of the first n numbers
pub record IsPartUpTo (rows : List RowView) (numbers : List ℕ) (root demand n : ℕ) (part : List RowView) : Type 0 where
  pub long : length part ≡ n
  pub asks : (i : ℕ) → i < n → demand_at part i ≡ asked_at rows root demand (number_at numbers i)
  pub may : (i c : ℕ) → i < n → may_have part i c ≡ may_have rows (number_at numbers i) c
  pub within : All IsRowWithin part

pub part_none : (rows : List RowView) (numbers : List ℕ) (root demand : ℕ) → IsPartUpTo rows numbers root demand 0 []
part_none rows numbers root demand = record {
  long = refl;
  asks = λ i lt. absurd (omega (arith, lt));
  may = λ i c lt. absurd (omega (arith, lt));
  within = λ i d lt. absurd (omega (arith, lt));
}

pub part_more :
    (rows : List RowView) (numbers : List ℕ) (root demand n : ℕ) (part : List RowView) (k : ℕ) (row alike : RowView)
    → IsPartUpTo rows numbers root demand n part → k ≡ number_at numbers n → k < length rows → row ≡ get_or rows k row
    → alike.demand ≡ asked_at rows root demand k → ((c : ℕ) → is_some (weight alike c) ≡ is_some (weight row c)) → IsRowWithin alike
    → IsPartUpTo rows numbers root demand (n + 1) (part ++ alike ∷ [])
part_more rows numbers root demand n part k row alike so_far its lt is asks may_same fits = record {
  long = omega (arith, length_push part alike, so_far.long);
  asks = λ i i_lt. asks_at i (cases_eq i n) i_lt;
  may = λ i c i_lt. may_at i c (cases_eq i n) i_lt;
  within = All-push IsRowWithin part alike so_far.within fits;
}
  where
    asks_at : (i : ℕ) → (i ≡ n) ⊎ (i ≡ n → ⊥) → i < n + 1 → demand_at (part ++ alike ∷ []) i ≡ asked_at rows root demand (number_at numbers i)
    asks_at i (inl e) i_lt =
        ap demand_of (push_at part alike i (so_far.long ∙ sym e)) ∙ asks ∙ ap (asked_at rows root demand) (its ∙ ap (number_at numbers) (sym e))
    asks_at i (inr ne) i_lt =
        let early : i < n = omega (arith, i_lt, ne) in
        ap demand_of (push_before part alike i (omega (arith, early, so_far.long))) ∙ so_far.asks i early

    may_at : (i c : ℕ) → (i ≡ n) ⊎ (i ≡ n → ⊥) → i < n + 1 → may_have (part ++ alike ∷ []) i c ≡ may_have rows (number_at numbers i) c
    may_at i c (inl e) i_lt =
        ap (may c) (push_at part alike i (so_far.long ∙ sym e)) ∙ may_same c ∙ ap (λ (r : RowView). is_some (weight r c)) is
        ∙ sym (may_here rows k c row lt) ∙ ap (λ j. may_have rows j c) (its ∙ ap (number_at numbers) (sym e))
    may_at i c (inr ne) i_lt =
        let early : i < n = omega (arith, i_lt, ne) in
        ap (may c) (push_before part alike i (omega (arith, early, so_far.long))) ∙ so_far.may i c early

pub part_whole :
    (rows : List RowView) (numbers : List ℕ) (root demand n : ℕ) (part : List RowView) → IsPartUpTo rows numbers root demand n part → n ≡ length numbers
    → IsPart rows numbers root demand part
part_whole rows numbers root demand n part so_far all = record {
  long = so_far.long ∙ all;
  asks = λ i lt. so_far.asks i (omega (arith, lt, all));
  may = λ i c lt. so_far.may i c (omega (arith, lt, all));
}

-- ---- a plan of some rows, set by set

met_long : (part : List RowView) (sets : List Ids) → AllZip Meets part sets → length sets ≡ length part
met_long [] [] met = refl
met_long [] (s ∷ sets) met = absurd met
met_long (row ∷ part) [] met = absurd met
met_long (row ∷ part) (s ∷ sets) met = ap suc (met_long part sets met.1)

met_at : (part : List RowView) (sets : List Ids) (i : ℕ) → AllZip Meets part sets → i < length part → Meets (get_or part i no_row) (set_at sets i)
met_at [] sets i met lt = absurd (omega (arith, lt))
met_at (row ∷ part) [] i met lt = absurd met
met_at (row ∷ part) (s ∷ sets) zero met lt = met.0
met_at (row ∷ part) (s ∷ sets) (suc i) met lt = met_at part sets i met.1 (omega (arith, lt))

pub sets_of_plan :
    (rows : List RowView) (numbers : List ℕ) (root demand : ℕ) (part : List RowView) (sets : List Ids)
    → IsPart rows numbers root demand part → IsPlan part sets → AreSetsOf rows numbers root demand sets
sets_of_plan rows numbers root demand part sets its plan = record {
  long = long ∙ its.long;
  in_range = λ i lt. (met i lt).in_range;
  size = λ i lt. (met i lt).size ∙ sym (demand_here part i no_row (in_part i lt)) ∙ its.asks i (in_numbers i lt);
  allowed = λ i c lt member.
      sym (its.may i c (in_numbers i lt)) ∙ may_here part i c no_row (in_part i lt)
      ∙ weight_some (weight (get_or part i no_row) c) ((met i lt).allowed c member);
  apart = λ i j c i_lt j_lt here there. same i j c (cases_order i j) i_lt j_lt here there;
}
  where
    long : length sets ≡ length part
    long = met_long part sets plan.met

    in_part : (i : ℕ) → i < length sets → i < length part
    in_part i lt = omega (arith, lt, long)

    in_numbers : (i : ℕ) → i < length sets → i < length numbers
    in_numbers i lt = omega (arith, lt, long, its.long)

    met : (i : ℕ) → i < length sets → Meets (get_or part i no_row) (set_at sets i)
    met i lt = met_at part sets i plan.met (in_part i lt)

    same :
        (i j c : ℕ) → (i ≡ j) ⊎ ((i < j) ⊎ (j < i)) → i < length sets → j < length sets
        → ids.contains (set_at sets i) c ≡ true → ids.contains (set_at sets j) c ≡ true → i ≡ j
    same i j c (inl e) i_lt j_lt here there = e
    same i j c (inr (inl lt)) i_lt j_lt here there = absurd (plan.apart i j ids.empty lt j_lt c here there)
    same i j c (inr (inr lt)) i_lt j_lt here there = absurd (plan.apart j i ids.empty lt i_lt c there here)

-- ---- sets of rows among which the root is not are a plan of theirs

module _ (rows : List RowView) where
  met_all :
      (ks : List ℕ) (sets : List Ids) → length sets ≡ length ks → All (λ k. k < length rows) ks
      → ((i : ℕ) → i < length sets → Meets (get_or rows (number_at ks i) no_row) (set_at sets i)) → AllZip Meets (chosen rows ks) sets
  met_all [] [] long there each = tt
  met_all [] (s ∷ sets) long there each = absurd (omega (arith, long))
  met_all (k ∷ ks) [] long there each = absurd (omega (arith, long))
  met_all (k ∷ ks) (s ∷ sets) long there each =
      let is : slice_get rows k ≡ Some (get_or rows k no_row) = slice_get-get_or rows k no_row (there 0 k (omega arith)) in
      rw is
      (each 0 (omega arith), met_all ks sets (omega (arith, long)) (λ i d lt. there (suc i) d (omega (arith, lt))) (λ i lt. each (suc i) (omega (arith, lt))))

pub plan_of_sets :
    (rows : List RowView) (numbers : List ℕ) (root demand : ℕ) (sets : List Ids)
    → AreSetsOf rows numbers root demand sets → All (λ k. k < length rows) numbers
    → ((i : ℕ) → i < length numbers → number_at numbers i ≡ root → ⊥) → HasPlan (chosen rows numbers)
plan_of_sets rows numbers root demand sets its there absent =
    (sets, record { met = met_all rows numbers sets its.long there meets; apart = apart })
  where
    meets : (i : ℕ) → i < length sets → Meets (get_or rows (number_at numbers i) no_row) (set_at sets i)
    meets i lt =
        let in_numbers : i < length numbers = omega (arith, lt, its.long) in
        let below : number_at numbers i < length rows = there i 0 in_numbers in
        record {
          in_range = its.in_range i lt;
          size =
              its.size i lt ∙ asked_other rows root demand (number_at numbers i) (absent i in_numbers)
              ∙ demand_here rows (number_at numbers i) no_row below;
          allowed = λ c member.
              some_weight _ (sym (may_here rows (number_at numbers i) c no_row below) ∙ its.allowed i c lt member);
        }

    apart : AllPairs IsDisjoint sets
    apart i j d lt within c here there =
        let in_i : ids.contains (set_at sets i) c ≡ true = ap (λ s. ids.contains s c) (get_or_default sets i ids.empty d (omega (arith, lt, within))) ∙ here in
        let in_j : ids.contains (set_at sets j) c ≡ true = ap (λ s. ids.contains s c) (get_or_default sets j ids.empty d within) ∙ there in
        let same = its.apart i j c (omega (arith, lt, within)) within in_i in_j in
        absurd (omega (arith, lt, same))
