-- What rows cost and are worth, one after another.
use Rattle.std.proofs.Common.{◌≡◌, ℕ, zero, suc, ◌+◌, ◌*◌, ◌<◌, ◌≤◌, Bool, true, false, cond, ◌&&◌, Option, Some, None, option_map, unwrap_or, is_some, List, [], ◌∷◌, length, take, get_or, sum_by, zip, refl, sym, ap, ◌∙◌, arith, nat_le}
use Rattle.std.specs.Prelude.{find}
use Rattle.std.specs.List.{list_all}
use Rattle.std.specs.Option.{option_or}
use Rattle.std.specs.FinSet as set
use Rattle.std.proofs.Math.Numerals.{add-one}
use Rattle.std.proofs.Math.Nat.{mul-le-mul}
use Rattle.std.proofs.lemmas.Bool.{leb-true, both_ways, and_from}
use Rattle.std.proofs.lemmas.List.{take_more}
use Rattle.std.proofs.lemmas.List.Folds.{find-append}
use Rattle.std.proofs.lemmas.List.Sums.{sum_by-cons, AllPass-from_list_all}
use Rattle.cpu_set.specs.Ids.{Ids}
use Rattle.cpu_set.specs.Members.{InRange, cpus, members}
use Rattle.cpu_set.specs.PointwiseLaws.{contains-intersection}
use Rattle.cpu_set.specs.declared.TheConstants.{CPU_LIMIT}
use Rattle.certificate.specs.RowView.{RowView}
use Rattle.certificate.specs.Weight.{weight_in}
use Rattle.certificate.specs.Limits.{offers_fit, row_fits, values_fit}
use Rattle.certificate.specs.declared.rows.Offer.{Offer}
use Rattle.certificate.specs.declared.limits.TheConstants.{MAX_DEMAND, MAX_WEIGHT, MAX_AMOUNT}
use Rattle.certificate.specs.TestLaws.{true_left, true_right}
use Rattle.certificate.specs.SumLaws.{sum_by_none, sum_by_same, sum_by_plus, sum_by-filter, sum_by-constant}
use Rattle.certificate.specs.CpuLaws.{sum_by-cpus-le, len-times, length-cpus}
use Rattle.certificate.specs.ApartTestLemmas.{apart_at}
use Rattle.certificate.specs.OfferLemmas.{is_some-find}
use Rattle.certificate.specs.OfferLaws.{passes_at, offers_apart}

module _ {A B : Type 0} (f : A × B → ℕ) where
  sum_zip_suc :
      (xs : List A) (ys : List B) (k : ℕ) (x : A) (y : B) → k < length xs → k < length ys → x ≡ get_or xs k x → y ≡ get_or ys k y
      → sum_by f (zip (take (suc k) xs) (take (suc k) ys)) ≡ sum_by f (zip (take k xs) (take k ys)) + f (x, y)
  sum_zip_suc [] ys k x y in_xs in_ys x_is y_is = absurd (omega arith)
  sum_zip_suc (a ∷ xs) [] k x y in_xs in_ys x_is y_is = absurd (omega arith)
  sum_zip_suc (a ∷ xs) (b ∷ ys) zero x y in_xs in_ys x_is y_is = rw (x_is, y_is) refl
  sum_zip_suc (a ∷ xs) (b ∷ ys) (suc k) x y in_xs in_ys x_is y_is =
      let rest : sum_by f (zip (take (suc k) xs) (take (suc k) ys)) ≡ sum_by f (zip (take k xs) (take k ys)) + f (x, y) =
      sum_zip_suc xs ys k x y (omega arith) (omega arith) x_is y_is in
      omega (arith, sum_by-cons f (a, b) (zip (take (suc k) xs) (take (suc k) ys)), sum_by-cons f (a, b) (zip (take k xs) (take k ys)), rest)

  -- one place more of two lists
  pub sum_zip_more :
      (xs : List A) (ys : List B) (k : ℕ) (x : A) (y : B) → k < length xs → k < length ys → x ≡ get_or xs k x → y ≡ get_or ys k y
      → sum_by f (zip (take (k + 1) xs) (take (k + 1) ys)) ≡ sum_by f (zip (take k xs) (take k ys)) + f (x, y)
  sum_zip_more xs ys k x y in_xs in_ys x_is y_is = rw add-one (sum_zip_suc xs ys k x y in_xs in_ys x_is y_is)

pub list_all-take : {A : Type 0} (p : A → Bool) (k : ℕ) (xs : List A) → list_all p xs ≡ true → list_all p (take k xs) ≡ true
list_all-take p zero xs all = refl
list_all-take p (suc k) [] all = refl
list_all-take p (suc k) (x ∷ xs) all = and_from _ _ (true_left _ _ all) (list_all-take p k xs (true_right _ _ all))

pub demand_small : (row : RowView) → row_fits row ≡ true → row.demand ≤ MAX_DEMAND
unfolding row_fits
demand_small row fit = leb-true _ _ (true_left _ _ (true_right _ _ fit))

-- what one row is worth is within the limits' product
pub worth_small :
    (rows : List RowView) (values : List ℕ) (k : ℕ) (row : RowView) → list_all row_fits rows ≡ true → values_fit values ≡ true
    → length values ≡ length rows → k < length rows → row ≡ get_or rows k row
    → row.demand * get_or values k 0 ≤ MAX_DEMAND * MAX_AMOUNT
worth_small rows values k row fit values_are same lt is =
    let small : get_or values k 0 ≤ MAX_AMOUNT =
    leb-true _ _ (AllPass-from_list_all (λ v. nat_le v MAX_AMOUNT) values values_are k 0 (omega arith)) in
    mul-le-mul (demand_small row (passes_at row_fits rows k row fit lt is)) small

weight_small : (offers : List Offer) (c m : ℕ) → list_all (λ (o : Offer). nat_le o.weight m) offers ≡ true → unwrap_or (weight_in offers c) 0 ≤ m
weight_small [] c m small = omega arith
weight_small (o ∷ offers) c m small =
    either (set.contains o.cpus c) (leb-true _ _ (true_left _ _ small)) (weight_small offers c m (true_right _ _ small))
  where
    either :
        (b : Bool) → o.weight ≤ m → unwrap_or (weight_in offers c) 0 ≤ m
        → unwrap_or (option_map (λ (p : Offer). p.weight) (cond b (Some o) (find (λ (p : Offer). set.contains p.cpus c) offers))) 0 ≤ m
    either true here rest = here
    either false here rest = rest

weights_small : (offers : List Offer) → offers_fit offers ≡ true → list_all (λ (o : Offer). nat_le o.weight MAX_WEIGHT) offers ≡ true
unfolding offers_fit
weights_small offers fit = true_left _ _ fit

part_of : (w m : ℕ) (b : Bool) → w ≤ m → cond b w 0 ≤ m
part_of w m true small = small
part_of w m false small = omega arith

-- the weights of a set's CPUs, by the first of some offers
abbrev pub cost_so_far : List Offer → ℕ → Ids → ℕ
cost_so_far offers k held = sum_by (λ c. unwrap_or (weight_in (take k offers) c) 0) (members held)

pub cost_small : (offers : List Offer) (k : ℕ) (held : Ids) → offers_fit offers ≡ true → cost_so_far offers k held ≤ CPU_LIMIT * MAX_WEIGHT
cost_small offers k held fit =
    let small : (c : ℕ) → unwrap_or (weight_in (take k offers) c) 0 ≤ MAX_WEIGHT =
    λ c. weight_small (take k offers) c MAX_WEIGHT (list_all-take _ k offers (weights_small offers fit)) in
    omega (
      arith,
      sum_by-filter (set.contains held) (λ c. unwrap_or (weight_in (take k offers) c) 0) cpus,
      sum_by-cpus-le (λ c. cond (set.contains held c) (unwrap_or (weight_in (take k offers) c) 0) 0) (λ _. MAX_WEIGHT)
          (λ c is_cpu. part_of _ MAX_WEIGHT (set.contains held c) (small c)),
      sum_by-constant {X = ℕ} MAX_WEIGHT cpus,
      length-cpus,
    )

pub cost_none : (offers : List Offer) (held : Ids) → cost_so_far offers 0 held ≡ 0
cost_none offers held = sum_by_none _ (members held) (λ c. refl)

one_weighed :
    (o : Offer) (b : Bool) (before : Option Offer) → (b ≡ true → is_some before ≡ false)
    → unwrap_or (option_map (λ (p : Offer). p.weight) (option_or before (cond b (Some o) None))) 0
    ≡ unwrap_or (option_map (λ (p : Offer). p.weight) before) 0 + cond b o.weight 0
one_weighed o true None apart = omega arith
one_weighed o true (Some p) apart = absurd (both_ways _ (apart refl) refl)
one_weighed o false None apart = omega arith
one_weighed o false (Some p) apart = omega arith

both_held : (w : ℕ) (a b : Bool) → cond a (cond b w 0) 0 ≡ cond (a && b) 1 0 * w
both_held w true true = omega arith
both_held w true false = omega arith
both_held w false b = omega arith

-- one offer more, by how many CPUs of the set it has
pub cost_more :
    (offers : List Offer) (k : ℕ) (o : Offer) (held : Ids) → k < length offers → o ≡ get_or offers k o → offers_fit offers ≡ true
    → InRange (set.intersection held o.cpus)
    → cost_so_far offers (k + 1) held ≡ cost_so_far offers k held + o.weight * set.len (set.intersection held o.cpus)
cost_more offers k o held lt is fit in_range =
    sum_by_same _ _ (members held) each
    ∙ sum_by_plus (λ c. unwrap_or (weight_in (take k offers) c) 0) (λ c. cond (set.contains o.cpus c) o.weight 0) (members held)
    ∙ ap (λ n. cost_so_far offers k held + n) here
  where
    each : (c : ℕ) → unwrap_or (weight_in (take (k + 1) offers) c) 0 ≡ unwrap_or (weight_in (take k offers) c) 0 + cond (set.contains o.cpus c) o.weight 0
    each c =
        rw (take_more offers k o lt, ← is, find-append (λ (p : Offer). set.contains p.cpus c) (take k offers) (o ∷ []))
        (one_weighed o (set.contains o.cpus c) _ (λ has.
        is_some-find (λ (p : Offer). set.contains p.cpus c) (take k offers) ∙ apart_at (λ (p : Offer). p.cpus) offers k o lt is (offers_apart offers fit) c has))

    here : sum_by (λ c. cond (set.contains o.cpus c) o.weight 0) (members held) ≡ o.weight * set.len (set.intersection held o.cpus)
    here =
        sum_by-filter (set.contains held) (λ c. cond (set.contains o.cpus c) o.weight 0) cpus
        ∙ sum_by_same _ _ cpus (λ c. both_held o.weight (set.contains held c) (set.contains o.cpus c) ∙ ap (λ b. cond b 1 0 * o.weight) (sym (contains-intersection held o.cpus c)))
        ∙ omega (arith, len-times (set.intersection held o.cpus) o.weight in_range)
