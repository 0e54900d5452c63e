-- Each fault has its cause.
use Rattle.std.proofs.Common.{◌≡◌, ◌⊎◌, ℕ, zero, suc, ◌<◌, Bool, true, false, not, ◌&&◌, Option, Some, None, option_and_then, List, [], ◌∷◌, length, take, get_or, refl, sym, ◌∙◌, subst, inl, inr, arith, All, slice_get, nat_eq}
use Rattle.std.specs.List.{AllZip, AllPairs}
use Rattle.std.specs.Option.{option_or, option_zip}
use Rattle.std.specs.FinSet as set
use Rattle.std.proofs.lemmas.Bool.{eqb-true, eqb-false}
use Rattle.std.proofs.lemmas.Option.{slice_get-get_or, slice_get_read, get_or_from_slice_get}
use Rattle.std.proofs.lemmas.List.{get_or-take, length-take}
use Rattle.faults.specs.First.{when, first_below}
use Rattle.faults.specs.TestLaws.{passed, none_below, mapped}
use Rattle.cpu_set.specs.Ids.{Ids, IsDisjoint}
use Rattle.cpu_set.specs.Members.{InRange}
use Rattle.cpu_set.specs.Least.{least_that}
use Rattle.cpu_set.specs.LeastLaws.{least-some_says}
use Rattle.certificate.specs.RowView.{RowView}
use Rattle.certificate.specs.PricesView.{PricesView}
use Rattle.certificate.specs.IsPlan.{Meets, IsPlan}
use Rattle.certificate.specs.IsBound.{IsValueOf}
use Rattle.certificate.specs.Limits.{is_within_limits}
use Rattle.certificate.specs.PlanFault.{is_not_allowed, row_fault, at_both, is_held, twice_fault, apart_fault, is_too_high, value_fault, values_fault}
use Rattle.certificate.specs.IsCause.{IsMiscounted, HasNotAllowed, IsRowsCause, IsBelowAt, IsCause}
use Rattle.certificate.specs.declared.price_lists.Price.{Price}
use Rattle.certificate.specs.declared.fault.CheckFault.{CheckFault}
use Rattle.certificate.specs.declared.fault.CheckFault.TheVariants.{WrongCount, NotAllowed, HeldTwice, ValueTooHigh}
use Rattle.certificate.proofs.LimitFacts.{limit_facts}
use Rattle.certificate.proofs.Exact.{all_zip, at_both_is, row_fault-says, apart_below, value_fault-says}

-- ---- which fault it is

pub first_or_rest : {A : Type 0} (a b : Option A) (x : A) → option_or a b ≡ Some x → (a ≡ Some x) ⊎ ((a ≡ None) × (b ≡ Some x))
first_or_rest None b x e = inr (refl, e)
first_or_rest (Some y) b x e = inl e

pub only : {A : Type 0} (a : Option A) (x : A) → option_or a None ≡ Some x → a ≡ Some x
only None x e = e
only (Some y) x e = e

pub failed : {A : Type 0} (b : Bool) (fault found : A) → when (not b) fault ≡ Some found → (b ≡ false) × (fault ≡ found)
failed true fault found e = absurd (cc)
failed false fault found e = (refl, cc)

some_below :
    {A : Type 0} (n : ℕ) (f : ℕ → Option A) (x : A) → first_below n f ≡ Some x
    → (k : ℕ) × (k < n) × ((j : ℕ) → j < k → f j ≡ None) × (f k ≡ Some x)
unfolding first_below
some_below zero f x e = absurd (cc)
some_below (suc n) f x e =
    elim (first_or_rest (first_below n f) (f n) x e) [
      | inl before ↦ let r = some_below n f x before in (r.0, omega (arith, r.1), r.2, r.3)
      | inr last ↦ (n, omega arith, λ j lt. none_below n f last.0 j lt, last.1)
    ]

both_there :
    {A B : Type 0} (f : A → B → Option CheckFault) (a : Option A) (b : Option B) (e : CheckFault)
    → option_and_then (λ p. f p.0 p.1) (option_zip a b) ≡ Some e
    → (x : A) × (y : B) × (a ≡ Some x) × (b ≡ Some y) × (f x y ≡ Some e)
both_there f None b e found = absurd (cc)
both_there f (Some x) None e found = absurd (cc)
both_there f (Some x) (Some y) e found = (x, y, refl, refl, found)

in_front : {A : Type 0} (n : ℕ) (xs : List A) (j : ℕ) (x : A) → slice_get (take n xs) j ≡ Some x → (j < n) × (slice_get xs j ≡ Some x)
in_front zero xs j x e = absurd (cc)
in_front (suc n) [] j x e = absurd (cc)
in_front (suc n) (a ∷ xs) zero x e = (omega arith, e)
in_front (suc n) (a ∷ xs) (suc j) x e = let r = in_front n xs j x e in (omega (arith, r.0), r.1)

-- the places before one at which nothing is wrong
good_before :
    {A B : Type 0} (good : A → B → Type 0) (f : ℕ → A → B → Option CheckFault) (xs : List A) (ys : List B) (k : ℕ)
    → length ys ≡ length xs → ((j : ℕ) (x : A) (y : B) → j < k → slice_get xs j ≡ Some x → slice_get ys j ≡ Some y → f j x y ≡ None → good x y)
    → ((j : ℕ) → j < k → at_both (f j) xs ys j ≡ None) → AllZip good (take k xs) (take k ys)
good_before good f xs ys k same says none =
    all_zip good (take k xs) (take k ys) (rw (length-take k xs, length-take k ys, same) refl) (λ j x y x_is y_is.
    let p = in_front k xs j x x_is in
    let q = in_front k ys j y y_is in
    says j x y p.0 p.1 q.1 (sym (at_both_is (f j) xs ys j x y p.1 q.1) ∙ none j p.0))

-- ---- the rows and their sets

abbrev RowCause : ℕ → RowView → Ids → CheckFault → Type 0
RowCause k row s fault = ((IsMiscounted row s) × (WrongCount k ≡ fault)) ⊎ ((cpu : ℕ) × (HasNotAllowed cpu row s) × (NotAllowed k cpu ≡ fault))

row_cause : (k : ℕ) (row : RowView) (s : Ids) (fault : CheckFault) → row_fault k row s ≡ Some fault → RowCause k row s fault
unfolding row_fault
row_cause k row s fault found =
    elim (first_or_rest (when (not (nat_eq (set.len s) row.demand)) (WrongCount k)) _ fault found) [
      | inl counted ↦
          let r = failed (nat_eq (set.len s) row.demand) (WrongCount k) fault counted in
          inl (eqb-false _ _ r.0, r.1)
      | inr rest ↦
          let size : set.len s ≡ row.demand = eqb-true _ _ (passed (nat_eq (set.len s) row.demand) (WrongCount k) rest.0) in
          let r = mapped (NotAllowed k) (least_that (is_not_allowed row s)) fault (only _ fault rest.1) in
          inr (r.0, (size, least-some_says (is_not_allowed row s) r.0 r.1), r.2)
    ]

-- the first row with a fault, where the sets before it were counted
pub rows_cause :
    (rows : List RowView) (sets : List Ids) (k : ℕ) (row : RowView) (s : Ids) (fault : CheckFault) → length sets ≡ length rows
    → k < length rows → row ≡ get_or rows k row → s ≡ get_or sets k s
    → ((j : ℕ) → j < k → at_both (row_fault j) rows sets j ≡ None) → All InRange (take k sets) → row_fault k row s ≡ Some fault
    → IsRowsCause rows sets fault
rows_cause rows sets k row s fault same lt row_is s_is none in_range found =
    let x_is : slice_get rows k ≡ Some row = slice_get_read rows (length rows) k row refl lt row_is in
    let y_is : slice_get sets k ≡ Some s = slice_get_read sets (length sets) k s refl (omega arith) s_is in
    let before : AllZip Meets (take k rows) (take k sets) =
    good_before Meets row_fault rows sets k same in_front_of_it none in
    elim (row_cause k row s fault found) [
      | inl wrong ↦
          subst (λ f. IsRowsCause rows sets f) wrong.1
          (record { x = row; y = s; x_is = x_is; y_is = y_is; before = before; here = wrong.0 })
      | inr other ↦
          subst (λ f. IsRowsCause rows sets f) other.2
          (record { x = row; y = s; x_is = x_is; y_is = y_is; before = before; here = other.1 })
    ]
  where
    set_in_range : (j : ℕ) (b : Ids) → j < k → slice_get sets j ≡ Some b → InRange b
    set_in_range j b below b_is =
        subst InRange (get_or-take k sets j b below ∙ get_or_from_slice_get sets j b b b_is)
        (in_range j b (rw length-take (omega arith)))

    in_front_of_it :
        (j : ℕ) (a : RowView) (b : Ids) → j < k → slice_get rows j ≡ Some a → slice_get sets j ≡ Some b → row_fault j a b ≡ None → Meets a b
    in_front_of_it j a b below a_is b_is good = row_fault-says j a b (set_in_range j b below b_is) good

pub rows_cause_is :
    (rows : List RowView) (sets : List Ids) (prices : PricesView) (fault : CheckFault) → is_within_limits rows sets prices ≡ true
    → IsRowsCause rows sets fault → IsCause rows sets prices fault
rows_cause_is rows sets prices (WrongCount k) limits cause = (limits, cause)
rows_cause_is rows sets prices (NotAllowed k cpu) limits cause = (limits, cause)
rows_cause_is rows sets prices _ limits cause = absurd cause

-- ---- sets that are apart

pub twice_cause :
    (rows : List RowView) (sets : List Ids) (prices : PricesView) (fault : CheckFault) → is_within_limits rows sets prices ≡ true
    → All InRange sets → AllZip Meets rows sets → apart_fault sets ≡ Some fault → IsCause rows sets prices fault
unfolding apart_fault
twice_cause rows sets prices fault limits in_range met found =
    let at = some_below (length sets) (twice_fault sets) fault found in
    let test : ℕ → Bool = λ cpu. set.contains (get_or sets at.0 set.empty) cpu && is_held (take at.0 sets) cpu in
    let r = mapped HeldTwice (least_that test) fault at.3 in
    subst (λ f. IsCause rows sets prices f) r.2 (
      limits,
      met,
      record {
        k = at.0;
        own = get_or sets at.0 set.empty;
        own_is = slice_get-get_or sets at.0 set.empty at.1;
        before = apart_in_front at.0 at.1 at.2;
        here = least-some_says test r.0 r.1;
      },
    )
  where
    apart_in_front : (k : ℕ) → k < length sets → ((j : ℕ) → j < k → twice_fault sets j ≡ None) → AllPairs IsDisjoint (take k sets)
    apart_in_front k within_sets none = λ i j d lt below.
        let in_take : j < k = omega (arith, simp length-take at below) in
        rw (get_or-take k sets i d (omega arith), get_or-take k sets j d in_take)
        (apart_below sets k (omega arith) in_range none i j d lt in_take)

-- ---- the rows and their values

value_cause :
    (prices : List Price) (k : ℕ) (row : RowView) (value : ℕ) (fault : CheckFault) → value_fault prices k row value ≡ Some fault
    → (cpu : ℕ) × (IsBelowAt prices cpu row value) × (ValueTooHigh k cpu ≡ fault)
value_cause prices k row value fault found =
    let r = mapped (ValueTooHigh k) (least_that (is_too_high prices row value)) fault found in
    (r.0, least-some_says (is_too_high prices row value) r.0 r.1, r.2)

pub values_cause :
    (rows : List RowView) (sets : List Ids) (prices : PricesView) (fault : CheckFault) → is_within_limits rows sets prices ≡ true
    → IsPlan rows sets → values_fault rows prices.values prices.of_cpu ≡ Some fault → IsCause rows sets prices fault
unfolding values_fault
values_cause rows sets prices fault limits plan found =
    let at = some_below (length rows) (λ k. at_both (value_fault prices.of_cpu k) rows prices.values k) fault found in
    let pair = both_there (value_fault prices.of_cpu at.0) (slice_get rows at.0) (slice_get prices.values at.0) fault at.3 in
    let same : length prices.values ≡ length rows = (limit_facts rows sets prices limits).same_values in
    let before : AllZip (IsValueOf prices.of_cpu) (take at.0 rows) (take at.0 prices.values) =
    good_before (IsValueOf prices.of_cpu) (value_fault prices.of_cpu) rows prices.values at.0 same
    (λ j row value lt row_is value_is none. value_fault-says prices.of_cpu j row value none) at.2 in
    let r = value_cause prices.of_cpu at.0 pair.0 pair.1 fault pair.4 in
    subst (λ f. IsCause rows sets prices f) r.2
    (limits, plan, record { x = pair.0; y = pair.1; x_is = pair.2; y_is = pair.3; before = before; here = r.1 })
