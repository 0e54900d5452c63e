-- What is proved has no fault, and what has none is proved.
use Rattle.std.proofs.Common.{◌≡◌, ℕ, zero, suc, ◌+◌, ◌<◌, ◌≤◌, Bool, true, false, not, ◌&&◌, Option, Some, None, option_map, is_some, Result, Ok, Err, IfOk, OnOk, List, [], ◌∷◌, length, take, get_or, refl, sym, ap, ◌∙◌, subst, arith, All, slice_get, nat_eq, nat_lt}
use Rattle.std.specs.List.{AllZip, AllPairs}
use Rattle.std.specs.Option.{option_map_or}
use Rattle.std.specs.Result.{result_err}
use Rattle.std.specs.FinSet as set
use Rattle.std.proofs.lemmas.Bool.{eq-eqb, eqb-true, ltb-false, le-ltb, both_ways, and_from}
use Rattle.std.proofs.lemmas.Option.{get_or_from_slice_get}
use Rattle.std.proofs.lemmas.List.{get_or_default, get_or-take, length-take}
use Rattle.std.proofs.lemmas.List.Folds.{list_any_at, Any-from_list_any}
use Rattle.faults.specs.First.{when}
use Rattle.faults.specs.FirstLaws.{first_below-none}
use Rattle.faults.specs.TestLaws.{never_both, without, none_left, none_of_both, unmapped, passed, none_below}
use Rattle.cpu_set.specs.Ids.{Ids, IsDisjoint}
use Rattle.cpu_set.specs.Members.{InRange}
use Rattle.cpu_set.specs.Least.{least_that}
use Rattle.cpu_set.specs.LeastLaws.{least-none, least-none_says}
use Rattle.certificate.specs.RowView.{RowView}
use Rattle.certificate.specs.PricesView.{PricesView}
use Rattle.certificate.specs.Weight.{weight}
use Rattle.certificate.specs.IsPlan.{Meets}
use Rattle.certificate.specs.Cost.{cost}
use Rattle.certificate.specs.Price.{price, all_prices}
use Rattle.certificate.specs.IsBound.{IsValueOf}
use Rattle.certificate.specs.IsLeast.{IsLeast}
use Rattle.certificate.specs.IsProved.{IsProved}
use Rattle.certificate.specs.Limits.{is_within_limits}
use Rattle.certificate.specs.PlanFault.{is_not_allowed, row_fault, at_both, rows_fault, is_held, twice_fault, apart_fault, is_too_high, value_fault, values_fault, is_tight, plan_fault}
use Rattle.certificate.specs.declared.price_lists.Price.{Price}
use Rattle.certificate.specs.declared.fault.CheckFault.{CheckFault}
use Rattle.certificate.specs.declared.fault.CheckFault.TheVariants.{BadProblem, WrongCount, NotAllowed, HeldTwice, ValueTooHigh, Gap}
use Rattle.certificate.proofs.LimitFacts.{limit_facts}
use Rattle.certificate.proofs.Duality.{no_plan_below_bound}

-- ---- no fault, in parts

no_when : {A : Type 0} (b : Bool) (fault : A) → b ≡ true → when (not b) fault ≡ None
no_when b fault e = rw e refl

-- ---- two lists, place by place

module _ {A B : Type 0} (R : A → B → Type 0) where
  pub all_zip : (xs : List A) (ys : List B) → length ys ≡ length xs → ((k : ℕ) (x : A) (y : B) → slice_get xs k ≡ Some x → slice_get ys k ≡ Some y → R x y) → AllZip R xs ys
  all_zip [] [] same each = tt
  all_zip [] (y ∷ ys) same each = absurd (omega arith)
  all_zip (x ∷ xs) [] same each = absurd (omega arith)
  all_zip (x ∷ xs) (y ∷ ys) same each =
      (each 0 x y refl refl, all_zip xs ys (omega arith) (λ k a b p q. each (suc k) a b p q))

  no_fault_at : (f : A → B → Option CheckFault) (xs : List A) (ys : List B) → ((x : A) (y : B) → R x y → f x y ≡ None) → AllZip R xs ys → (k : ℕ) → at_both f xs ys k ≡ None
  no_fault_at f [] [] none all k = refl
  no_fault_at f [] (y ∷ ys) none all k = absurd all
  no_fault_at f (x ∷ xs) [] none all k = absurd all
  no_fault_at f (x ∷ xs) (y ∷ ys) none all zero = none x y all.0
  no_fault_at f (x ∷ xs) (y ∷ ys) none all (suc k) = no_fault_at f xs ys none all.1 k

pub at_both_is :
    {A B : Type 0} (f : A → B → Option CheckFault) (xs : List A) (ys : List B) (k : ℕ) (x : A) (y : B)
    → slice_get xs k ≡ Some x → slice_get ys k ≡ Some y → at_both f xs ys k ≡ f x y
at_both_is f xs ys k x y x_is y_is = rw (x_is, y_is) refl

pub within : {A : Type 0} (xs : List A) (k : ℕ) (x : A) → slice_get xs k ≡ Some x → k < length xs
within [] k x e = absurd (cc)
within (a ∷ xs) zero x e = omega arith
within (a ∷ xs) (suc k) x e = omega (arith, within xs k x e)

-- ---- a row and its set

pub row_fault-says : (k : ℕ) (row : RowView) (s : Ids) → InRange s → row_fault k row s ≡ None → Meets row s
unfolding row_fault
row_fault-says k row s in_range none =
    let first = none_of_both (when (not (nat_eq (set.len s) row.demand)) (WrongCount k)) _ none in
    let second = none_of_both (option_map (NotAllowed k) (least_that (is_not_allowed row s))) None first.1 in
    record {
      in_range = in_range;
      size = eqb-true _ _ (passed (nat_eq (set.len s) row.demand) (WrongCount k) first.0);
      allowed = λ c member. without (set.contains s c) (is_some (weight row c)) (least-none_says (is_not_allowed row s) (unmapped (NotAllowed k) _ second.0) c (in_range c member)) member;
    }

row_fault-none : (k : ℕ) (row : RowView) (s : Ids) → Meets row s → row_fault k row s ≡ None
unfolding row_fault
row_fault-none k row s meets =
    rw (eq-eqb (set.len s) row.demand meets.size, least-none (is_not_allowed row s) (λ c is_cpu. none_left (set.contains s c) (is_some (weight row c)) (meets.allowed c)))
    refl

pub rows_fault-says : (rows : List RowView) (sets : List Ids) → length sets ≡ length rows → All InRange sets → rows_fault rows sets ≡ None → AllZip Meets rows sets
unfolding rows_fault
rows_fault-says rows sets same in_range none =
    all_zip Meets rows sets same (λ k row s row_is s_is.
    row_fault-says k row s (subst InRange (get_or_from_slice_get sets k s s s_is) (in_range k s (within sets k s s_is)))
    (sym (at_both_is (row_fault k) rows sets k row s row_is s_is) ∙ none_below (length rows) (λ j. at_both (row_fault j) rows sets j) none k (within rows k row row_is)))

rows_fault-none : (rows : List RowView) (sets : List Ids) → AllZip Meets rows sets → rows_fault rows sets ≡ None
unfolding rows_fault
rows_fault-none rows sets met =
    first_below-none (length rows) (λ k. at_both (row_fault k) rows sets k)
    (λ k lt. no_fault_at Meets (row_fault k) rows sets (row_fault-none k) met k)

-- ---- sets that are apart

-- as far as no set has a fault, each two are disjoint
pub apart_below :
    (sets : List Ids) (n : ℕ) → n ≤ length sets → All InRange sets → ((j : ℕ) → j < n → twice_fault sets j ≡ None)
    → (i j : ℕ) (d : Ids) → i < j → j < n → IsDisjoint (get_or sets i d) (get_or sets j d)
apart_below sets n few in_range none i j d lt below c one other =
    let in_sets : j < length sets = omega arith in
    let never : (set.contains (get_or sets j set.empty) c && is_held (take j sets) c) ≡ false =
    least-none_says (λ cpu. set.contains (get_or sets j set.empty) cpu && is_held (take j sets) cpu) (unmapped HeldTwice _ (none j below)) c (in_range j d in_sets c other) in
    let has : set.contains (get_or sets j set.empty) c ≡ true = ap (λ s. set.contains s c) (get_or_default sets j set.empty d in_sets) ∙ other in
    let held : is_held (take j sets) c ≡ true =
    list_any_at (λ s. set.contains s c) (take j sets) i d (rw length-take (omega arith)) (ap (λ s. set.contains s c) (get_or-take j sets i d lt) ∙ one) in
    both_ways _ never (and_from _ _ has held)

pub apart_fault-says : (sets : List Ids) → All InRange sets → apart_fault sets ≡ None → AllPairs IsDisjoint sets
unfolding apart_fault
apart_fault-says sets in_range none =
    apart_below sets (length sets) (omega arith) in_range (none_below (length sets) (twice_fault sets) none)

apart_fault-none : (sets : List Ids) → AllPairs IsDisjoint sets → apart_fault sets ≡ None
unfolding apart_fault
apart_fault-none sets apart =
    first_below-none (length sets) (twice_fault sets)
    (λ k lt. ap (option_map HeldTwice) (least-none _ (λ c is_cpu. never_both _ _ (λ here held. meets_none k lt c here held))))
  where
    meets_none : (k : ℕ) → k < length sets → (c : ℕ) → set.contains (get_or sets k set.empty) c ≡ true → is_held (take k sets) c ≡ true → ⊥
    meets_none k lt c here held =
        let one = Any-from_list_any (λ s. set.contains s c) (take k sets) held in
        let before : one.0 < k = omega (arith, simp length-take at one.2) in
        let has : set.contains (get_or sets one.0 set.empty) c ≡ true =
        ap (λ s. set.contains s c) (get_or_default sets one.0 set.empty one.1 (omega arith) ∙ sym (get_or-take k sets one.0 one.1 before) ∙ one.3) ∙ one.4 in
        apart one.0 k set.empty before lt c has here

-- ---- a row and its value

pub value_fault-says : (prices : List Price) (k : ℕ) (row : RowView) (value : ℕ) → value_fault prices k row value ≡ None → IsValueOf prices row value
value_fault-says prices k row value none = λ c w is_cpu w_is.
    ltb-false _ _ (rw w_is at (least-none_says (is_too_high prices row value) (unmapped (ValueTooHigh k) _ none) c is_cpu))

low : (a : Option ℕ) (p value : ℕ) → ((w : ℕ) → a ≡ Some w → value ≤ w + p) → option_map_or (λ w. nat_lt (w + p) value) a false ≡ false
low None p value below = refl
low (Some w) p value below = le-ltb (w + p) value (below w refl)

value_fault-none : (prices : List Price) (k : ℕ) (row : RowView) (value : ℕ) → IsValueOf prices row value → value_fault prices k row value ≡ None
value_fault-none prices k row value is_value =
    ap (option_map (ValueTooHigh k)) (least-none (is_too_high prices row value) (λ c is_cpu. low (weight row c) (price prices c) value (λ w e. is_value c w is_cpu e)))

pub values_fault-says : (rows : List RowView) (values : List ℕ) (prices : List Price) → length values ≡ length rows → values_fault rows values prices ≡ None → AllZip (IsValueOf prices) rows values
unfolding values_fault
values_fault-says rows values prices same none =
    all_zip (IsValueOf prices) rows values same (λ k row value row_is value_is.
    value_fault-says prices k row value
    (sym (at_both_is (value_fault prices k) rows values k row value row_is value_is) ∙ none_below (length rows) (λ j. at_both (value_fault prices j) rows values j) none k (within rows k row row_is)))

values_fault-none : (rows : List RowView) (values : List ℕ) (prices : List Price) → AllZip (IsValueOf prices) rows values → values_fault rows values prices ≡ None
unfolding values_fault
values_fault-none rows values prices below =
    first_below-none (length rows) (λ k. at_both (value_fault prices k) rows values k)
    (λ k lt. no_fault_at (IsValueOf prices) (value_fault prices k) rows values (value_fault-none prices k) below k)

-- ---- the whole

-- sets of CPUs that have no fault are a plan that is proved
pub plan_fault-says :
    (rows : List RowView) (sets : List Ids) (prices : PricesView) → All InRange sets → plan_fault rows sets prices ≡ None
    → IsProved rows sets prices (cost rows sets)
unfolding plan_fault
plan_fault-says rows sets prices in_range none =
    let first = none_of_both (when (not (is_within_limits rows sets prices)) BadProblem) _ none in
    let second = none_of_both (rows_fault rows sets) _ first.1 in
    let third = none_of_both (apart_fault sets) _ second.1 in
    let fourth = none_of_both (values_fault rows prices.values prices.of_cpu) _ third.1 in
    let fifth = none_of_both (when (not (is_tight rows sets prices)) Gap) None fourth.1 in
    let limits : is_within_limits rows sets prices ≡ true = passed _ BadProblem first.0 in
    let facts = limit_facts rows sets prices limits in
    record {
      limits = limits;
      plan = record { met = rows_fault-says rows sets facts.same_sets in_range second.0; apart = apart_fault-says sets in_range third.0 };
      costs = refl;
      bound = record {
        below = values_fault-says rows prices.values prices.of_cpu facts.same_values fourth.0;
        sum = eqb-true _ _ (passed (is_tight rows sets prices) Gap fifth.0);
      };
    }

-- a plan that is proved has no fault
pub plan_fault-none :
    (rows : List RowView) (sets : List Ids) (prices : PricesView) (total : ℕ) → IsProved rows sets prices total
    → plan_fault rows sets prices ≡ None
unfolding plan_fault
plan_fault-none rows sets prices total proved =
    let tight : is_tight rows sets prices ≡ true = eq-eqb _ _ (proved.bound.sum ∙ ap (λ n. n + all_prices prices.of_cpu) (sym proved.costs)) in
    rw (
      proved.limits,
      rows_fault-none rows sets proved.plan.met,
      apart_fault-none sets proved.plan.apart,
      values_fault-none rows prices.values prices.of_cpu proved.bound.below,
      tight,
    )
    refl

-- a plan that is proved is least
pub proved_is_least : (rows : List RowView) (sets : List Ids) (prices : PricesView) (total : ℕ) → IsProved rows sets prices total → IsLeast rows sets
proved_is_least rows sets prices total proved = record {
  plan = proved.plan;
  least = λ others is_plan. rw proved.costs (no_plan_below_bound rows prices.values prices.of_cpu total others proved.bound is_plan);
}

-- ---- what the check answers, from its fault and its cost

module _ (rows : List RowView) (sets : List Ids) (prices : PricesView) where
  pub answer_is_proved :
      (r : Result ℕ CheckFault) → plan_fault rows sets prices ≡ result_err r → IfOk r (λ t. t ≡ cost rows sets) → OnOk r (All InRange sets)
      → IfOk r (λ t. IsProved rows sets prices t)
  answer_is_proved (Ok t) none is in_range =
      subst (λ n. IsProved rows sets prices n) (sym is) (plan_fault-says rows sets prices in_range none)
  answer_is_proved (Err e) fault is in_range = tt

  pub answer_is_least :
      (r : Result ℕ CheckFault) → plan_fault rows sets prices ≡ result_err r → OnOk r (All InRange sets) → OnOk r (IsLeast rows sets)
  answer_is_least (Ok t) none in_range =
      proved_is_least rows sets prices (cost rows sets) (plan_fault-says rows sets prices in_range none)
  answer_is_least (Err e) fault in_range = tt

  pub answer_is_complete :
      (r : Result ℕ CheckFault) → plan_fault rows sets prices ≡ result_err r → IfOk r (λ t. t ≡ cost rows sets)
      → (total : ℕ) → IsProved rows sets prices total → r ≡ Ok total
  answer_is_complete (Ok t) none is total proved = ap Ok (is ∙ proved.costs)
  answer_is_complete (Err e) fault is total proved =
      let none : None ≡ Some e = sym (plan_fault-none rows sets prices total proved) ∙ fault in
      absurd (cc)
