-- Sums over rows and classes.
use Rattle.std.proofs.Common.{◌≡◌, ℕ, zero, suc, ◌+◌, ◌*◌, ◌<◌, ◌≤◌, Bool, true, false, cond, Option, Some, List, refl, sym, ap, ◌∙◌, inl, inr, arith}
use Rattle.std.proofs.lemmas.Bool.{cases_lt}
use Rattle.transport.specs.Numbers.{number, is_marked}
use Rattle.transport.specs.Duals.{IsTight}
use Rattle.transport.specs.Totals.{total, weight_or_0, row_total, class_total, IsShared, IsBalanced, IsHall}

pub total_same : (f g : ℕ → ℕ) (n : ℕ) → ((i : ℕ) → i < n → f i ≡ g i) → total f n ≡ total g n
total_same f g zero h = refl
total_same f g (suc n) h =
    let a = h 0 (omega arith) in
    let b = total_same (λ i. f (suc i)) (λ i. g (suc i)) n (λ i lt. h (suc i) (omega arith)) in
    omega (arith, a, b)

pub total_le : (f g : ℕ → ℕ) (n : ℕ) → ((i : ℕ) → i < n → f i ≤ g i) → total f n ≤ total g n
total_le f g zero h = omega arith
total_le f g (suc n) h =
    let a = h 0 (omega arith) in
    let b = total_le (λ i. f (suc i)) (λ i. g (suc i)) n (λ i lt. h (suc i) (omega arith)) in
    omega (arith, a, b)

pub total_lt : (f g : ℕ → ℕ) (n k : ℕ) → ((i : ℕ) → i < n → f i ≤ g i) → k < n → f k < g k → total f n < total g n
total_lt f g zero k h lt less = absurd (omega arith)
total_lt f g (suc n) zero h lt less =
    let b = total_le (λ i. f (suc i)) (λ i. g (suc i)) n (λ i lt. h (suc i) (omega arith)) in
    omega (arith, less, b)
total_lt f g (suc n) (suc k) h lt less =
    let a = h 0 (omega arith) in
    let b = total_lt (λ i. f (suc i)) (λ i. g (suc i)) n k (λ i lt. h (suc i) (omega arith)) (omega arith) less in
    omega (arith, a, b)

pub total_add : (f g : ℕ → ℕ) (n : ℕ) → total (λ i. f i + g i) n ≡ total f n + total g n
total_add f g zero = refl
total_add f g (suc n) = let a = total_add (λ i. f (suc i)) (λ i. g (suc i)) n in omega (arith, a)

pub total_zero : (n : ℕ) → total (λ _. 0) n ≡ 0
total_zero zero = refl
total_zero (suc n) = let a = total_zero n in omega (arith, a)

pub total_swap : (f : ℕ → ℕ → ℕ) (m n : ℕ) → total (λ i. total (f i) n) m ≡ total (λ j. total (λ i. f i j) m) n
total_swap f zero n = sym (total_zero n)
total_swap f (suc m) n =
    ap (λ x. total (f 0) n + x) (total_swap (λ i. f (suc i)) m n) ∙ sym (total_add (f 0) (λ j. total (λ i. f (suc i) j) m) n)

pub total_scale : (f : ℕ → ℕ) (c n : ℕ) → total (λ i. f i * c) n ≡ total f n * c
total_scale f c zero = omega arith
total_scale f c (suc n) = let a = total_scale (λ i. f (suc i)) c n in omega (arith, a)

-- one term changes
pub total_change : (f g : ℕ → ℕ) (n k : ℕ) → k < n → ((i : ℕ) → (i ≡ k → ⊥) → f i ≡ g i) → total f n + g k ≡ total g n + f k
total_change f g zero k lt h = absurd (omega arith)
total_change f g (suc n) zero lt h =
    let b = total_same (λ i. f (suc i)) (λ i. g (suc i)) n (λ i lt. h (suc i) (λ e. absurd (omega (arith, e)))) in
    omega (arith, b)
total_change f g (suc n) (suc k) lt h =
    let a = h 0 (λ e. absurd (omega (arith, e))) in
    let b = total_change (λ i. f (suc i)) (λ i. g (suc i)) n k (omega arith) (λ i ne. h (suc i) (λ e. ne (omega (arith, e)))) in
    omega (arith, a, b)

pub total_at_least : (f : ℕ → ℕ) (n k : ℕ) → k < n → f k ≤ total f n
total_at_least f zero k lt = absurd (omega arith)
total_at_least f (suc n) zero lt = omega arith
total_at_least f (suc n) (suc k) lt = let a = total_at_least (λ i. f (suc i)) n k (omega arith) in omega (arith, a)

cond_zero : (b : Bool) (n : ℕ) → cond b n 0 ≤ n
cond_zero true n = omega arith
cond_zero false n = omega arith

-- what the marked rows hold of the marked classes
module _ (ws : ℕ → ℕ → Option ℕ) (demands sizes : ℕ → ℕ) (rows classes : ℕ) (cells : ℕ → ℕ → ℕ) (residual deficit : List ℕ) (reached taken : List Bool) (root : ℕ)
    (s : IsShared demands sizes rows classes cells residual deficit)
    (only : (k g w : ℕ) → is_marked reached k ≡ true → ws k g ≡ Some w → is_marked taken g ≡ true)
    (full : (g : ℕ) → is_marked taken g ≡ true → number residual g ≡ 0)
    (holders : (k g : ℕ) → is_marked taken g ≡ true → 0 < cells k g → is_marked reached k ≡ true)
    (in_rows : root < rows) (on : is_marked reached root ≡ true) (lacks : 0 < number deficit root) where
  part : ℕ → ℕ → ℕ
  part k g = cond (is_marked taken g) (cells k g) 0

  class_part : (g : ℕ) → g < classes → cond (is_marked taken g) (sizes g) 0 ≡ total (λ k. part k g) rows
  unfolding part
  class_part g lt = go (is_marked taken g) refl
    where
      go : (b : Bool) → is_marked taken g ≡ b → cond b (sizes g) 0 ≡ total (λ k. cond b (cells k g) 0) rows
      go true e = omega (arith, s.by_class g lt, full g e)
      go false e = sym (total_zero rows)

  row_part : (k : ℕ) → k < rows → total (part k) classes ≤ cond (is_marked reached k) (row_total cells classes k) 0
  unfolding part
  row_part k lt = go (is_marked reached k) refl
    where
      none : (b : Bool) (g : ℕ) → is_marked taken g ≡ b → is_marked reached k ≡ false → cond b (cells k g) 0 ≤ 0
      none true g e off = elim (cases_lt 0 (cells k g)) [
        | inl some ↦ absurd (differ (is_marked reached k) (holders k g e some) off)
        | inr le ↦ le
      ]
        where
          differ : (b : Bool) → b ≡ true → b ≡ false → ⊥
          differ b x y = let no : true ≡ false = sym x ∙ y in cc
      none false g e off = omega arith

      go : (b : Bool) → is_marked reached k ≡ b → total (part k) classes ≤ cond b (row_total cells classes k) 0
      go true e = total_le (part k) (λ g. cells k g) classes (λ g h. cond_zero (is_marked taken g) (cells k g))
      go false e = omega (arith, total_le (part k) (λ _. 0) classes (λ g h. none (is_marked taken g) g refl e), total_zero classes)

  row_less : (k : ℕ) → k < rows → cond (is_marked reached k) (row_total cells classes k) 0 ≤ cond (is_marked reached k) (demands k) 0
  row_less k lt = go (is_marked reached k)
    where
      go : (b : Bool) → cond b (row_total cells classes k) 0 ≤ cond b (demands k) 0
      go true = omega (arith, s.by_row k lt)
      go false = omega arith

  root_less : cond (is_marked reached root) (row_total cells classes root) 0 < cond (is_marked reached root) (demands root) 0
  root_less = rw on (omega (arith, s.by_row root in_rows, lacks))

  pub hall : IsHall ws demands sizes rows classes reached taken
  hall = record {
    only = only;
    short =
        let a = total_same (λ g. cond (is_marked taken g) (sizes g) 0) (λ g. total (λ k. part k g) rows) classes class_part in
        let b = total_swap part rows classes in
        let c = total_le (λ k. total (part k) classes) (λ k. cond (is_marked reached k) (row_total cells classes k) 0) rows row_part in
        let d = total_lt (λ k. cond (is_marked reached k) (row_total cells classes k) 0) (λ k. cond (is_marked reached k) (demands k) 0) rows root row_less in_rows root_less in
        omega (arith, a, b, c, d);
  }

-- worth, cost and prices
module _ (ws : ℕ → ℕ → Option ℕ) (demands sizes : ℕ → ℕ) (rows classes : ℕ) (values prices : List ℕ) (cells : ℕ → ℕ → ℕ) (residual deficit : List ℕ)
    (s : IsShared demands sizes rows classes cells residual deficit)
    (tight : (k g : ℕ) → 0 < cells k g → IsTight ws values prices k g)
    (zero_price : (g : ℕ) → 0 < number residual g → number prices g ≡ 0)
    (met : (k : ℕ) → k < rows → number deficit k ≡ 0) where
  at_cell : (k g : ℕ) → cells k g * number values k ≡ cells k g * weight_or_0 (ws k g) + cells k g * number prices g
  at_cell k g = elim (cases_lt 0 (cells k g)) [
    | inl some ↦ (let t = tight k g some in go t.weight t.its t.equal)
    | inr le ↦ none (cells k g) (omega (arith, le))
  ]
    where
      go : (w : ℕ) → ws k g ≡ Some w → number values k ≡ w + number prices g → cells k g * number values k ≡ cells k g * weight_or_0 (ws k g) + cells k g * number prices g
      go w its e = rw (its, e) (omega arith)

      none : (c : ℕ) → c ≡ 0 → c * number values k ≡ c * weight_or_0 (ws k g) + c * number prices g
      none c e = rw e (omega arith)

  at_row : (k : ℕ) → k < rows → demands k * number values k ≡ total (λ g. cells k g * weight_or_0 (ws k g)) classes + total (λ g. cells k g * number prices g) classes
  at_row k lt =
      let e : row_total cells classes k ≡ demands k = omega (arith, s.by_row k lt, met k lt) in
      ap (λ x. x * number values k) (sym e)
      ∙ sym (total_scale (λ g. cells k g) (number values k) classes)
      ∙ total_same _ (λ g. cells k g * weight_or_0 (ws k g) + cells k g * number prices g) classes (λ g h. at_cell k g)
      ∙ total_add _ _ classes

  at_class : (g : ℕ) → g < classes → total (λ k. cells k g * number prices g) rows ≡ sizes g * number prices g
  at_class g lt = total_scale (λ k. cells k g) (number prices g) rows ∙ elim (cases_lt 0 (number residual g)) [
    | inl some ↦ rw (zero_price g some) (omega arith)
    | inr le ↦ ap (λ x. x * number prices g) (sized (omega (arith, le)))
  ]
    where
      sized : number residual g ≡ 0 → class_total cells rows g ≡ sizes g
      sized e = omega (arith, s.by_class g lt, e)

  pub balanced : IsBalanced ws demands sizes values prices cells rows classes
  balanced =
      let a = total_same (λ k. demands k * number values k) (λ k. total (λ g. cells k g * weight_or_0 (ws k g)) classes + total (λ g. cells k g * number prices g) classes) rows at_row in
      let b = total_add (λ k. total (λ g. cells k g * weight_or_0 (ws k g)) classes) (λ k. total (λ g. cells k g * number prices g) classes) rows in
      let c = total_swap (λ k g. cells k g * number prices g) rows classes in
      let d = total_same (λ g. total (λ k. cells k g * number prices g) rows) (λ g. sizes g * number prices g) classes at_class in
      omega (arith, a, b, c, d)
