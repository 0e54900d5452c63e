-- CPUs moved along the path from the root to a class with a free CPU, row by row.
use Rattle.std.proofs.Common.{◌≡◌, ℕ, ◌+◌, ◌<◌, ◌≤◌, true, cond, List, Option, Some, refl, sym, ap, ◌∙◌, subst, inl, inr, arith}
use Rattle.std.proofs.lemmas.Bool.{cases_eq, eq-eqb, ne_eqb}
use Rattle.transport.specs.ReachedRows.{is_reached, bottleneck, index}
use Rattle.transport.specs.Duals.{IsTight}
use Rattle.transport.specs.Totals.{row_total, class_total}
use Rattle.transport.specs.Augmenting.{IsAugmenting, IsGiven, IsGivenUp, in_hand}
use Rattle.transport.specs.declared.tree.ReachedRows.{ReachedRows}
use Rattle.transport.specs.declared.labels.Label.{Label}
use Rattle.transport.proofs.Sums.{total_change, total_same}

-- at the start, the free end's class is in hand
pub augmenting_start : (ws : ℕ → ℕ → Option ℕ) (values prices : List ℕ) (q : ReachedRows) (cells : ℕ → ℕ → ℕ) (rows classes row g amount : ℕ)
    → ((k h : ℕ) → 0 < cells k h → IsTight ws values prices k h) → is_reached q row ≡ true → IsTight ws values prices row g → amount ≤ bottleneck q row
    → IsAugmenting ws values prices q cells cells rows classes row g g amount
augmenting_start ws values prices q cells rows classes row g amount tight on link less = record {
  on = on;
  link = link;
  less = less;
  same = λ k h there upto. refl;
  tight = tight;
  by_row = λ k lt. refl;
  by_class = λ h lt. refl;
}

in_hand_own : (g amount : ℕ) → in_hand g amount g ≡ amount
in_hand_own g amount = ap (λ b. cond b amount 0) (eq-eqb g g refl)

in_hand_other : (g amount h : ℕ) → (h ≡ g → ⊥) → in_hand g amount h ≡ 0
in_hand_other g amount h ne = ap (λ b. cond b amount 0) (ne_eqb h g ne)

-- sums after some CPUs of a class were given to a row
given_row : (old new : ℕ → ℕ → ℕ) (k g amount classes : ℕ) → IsGiven old new k g amount → g < classes → row_total new classes k ≡ row_total old classes k + amount
given_row old new k g amount classes m lt =
    let e = total_change (λ h. new k h) (λ h. old k h) classes g lt (λ h ne. m.others k h (λ a b. ne b)) in
    omega (arith, e, m.given)

given_class : (old new : ℕ → ℕ → ℕ) (k g amount rows : ℕ) → IsGiven old new k g amount → k < rows → class_total new rows g ≡ class_total old rows g + amount
given_class old new k g amount rows m lt =
    let e = total_change (λ i. new i g) (λ i. old i g) rows k lt (λ i ne. m.others i g (λ a b. ne a)) in
    omega (arith, e, m.given)

given_up_row : (old new : ℕ → ℕ → ℕ) (k g amount classes : ℕ) → IsGivenUp old new k g amount → g < classes → row_total new classes k + amount ≡ row_total old classes k
given_up_row old new k g amount classes m lt =
    let e = total_change (λ h. new k h) (λ h. old k h) classes g lt (λ h ne. m.others k h (λ a b. ne b)) in
    omega (arith, e, m.given_up)

given_up_class : (old new : ℕ → ℕ → ℕ) (k g amount rows : ℕ) → IsGivenUp old new k g amount → k < rows → class_total new rows g + amount ≡ class_total old rows g
given_up_class old new k g amount rows m lt =
    let e = total_change (λ i. new i g) (λ i. old i g) rows k lt (λ i ne. m.others i g (λ a b. ne a)) in
    omega (arith, e, m.given_up)

row_kept : (old new : ℕ → ℕ → ℕ) (k j classes : ℕ) → ((h : ℕ) → new j h ≡ old j h) → row_total new classes j ≡ row_total old classes j
row_kept old new k j classes h = total_same (λ g. new j g) (λ g. old j g) classes (λ g lt. h g)

class_kept : (old new : ℕ → ℕ → ℕ) (g rows : ℕ) → ((k : ℕ) → new k g ≡ old k g) → class_total new rows g ≡ class_total old rows g
class_kept old new g rows h = total_same (λ k. new k g) (λ k. old k g) rows (λ k lt. h k)

-- the row takes the class in hand and gives up the class through which it was reached, which goes on to the row before it
module _ (ws : ℕ → ℕ → Option ℕ) (values prices : List ℕ) (q : ReachedRows) (start cells mid new : ℕ → ℕ → ℕ) (rows classes row g h first amount : ℕ) (n : Label)
    (p : IsAugmenting ws values prices q start cells rows classes row g first amount)
    (fit : (k j w : ℕ) → ws k j ≡ Some w → j < classes) (in_rows : row < rows)
    (before : index q n.row < index q row) (there : is_reached q n.row ≡ true) (link : IsTight ws values prices n.row h) (less : bottleneck q row ≤ bottleneck q n.row)
    (give : IsGiven cells mid row g amount) (take : IsGivenUp mid new row h amount) where
  g_in : g < classes
  g_in = fit row g p.link.weight p.link.its

  h_in : h < classes
  h_in = fit n.row h link.weight link.its

  kept_row : (k j : ℕ) → (k ≡ row → ⊥) → new k j ≡ cells k j
  kept_row k j ne = take.others k j (λ a b. ne a) ∙ give.others k j (λ a b. ne a)

  tight_mid : (k j : ℕ) → 0 < mid k j → IsTight ws values prices k j
  tight_mid k j some = elim (cases_eq k row) [
    | inl a ↦ elim (cases_eq j g) [
      | inl b ↦ subst (λ x. IsTight ws values prices x j) (sym a) (subst (λ y. IsTight ws values prices row y) (sym b) p.link)
      | inr nb ↦ p.tight k j (subst (λ x. 0 < x) (give.others k j (λ c d. nb d)) some)
    ]
    | inr na ↦ p.tight k j (subst (λ x. 0 < x) (give.others k j (λ c d. na c)) some)
  ]

  tight_new : (k j : ℕ) → 0 < new k j → IsTight ws values prices k j
  tight_new k j some = tight_mid k j (elim (cases_eq k row) [
    | inl a ↦ elim (cases_eq j h) [
      | inl b ↦ at_own a b
      | inr nb ↦ subst (λ x. 0 < x) (take.others k j (λ c d. nb d)) some
    ]
    | inr na ↦ subst (λ x. 0 < x) (take.others k j (λ c d. na c)) some
  ])
    where
      at_own : k ≡ row → j ≡ h → 0 < mid k j
      at_own a b =
          let now : 0 < new row h = subst (λ x. 0 < new x h) a (subst (λ y. 0 < new k y) b some) in
          rw (a, b) (omega (arith, now, take.given_up))

  rows_new : (k : ℕ) → k < rows → row_total new classes k ≡ row_total start classes k
  rows_new k lt = elim (cases_eq k row) [
    | inl a ↦ rw a (omega (arith, given_row cells mid row g amount classes give g_in, given_up_row mid new row h amount classes take h_in, p.by_row row in_rows))
    | inr na ↦ row_kept cells new k k classes (λ j. kept_row k j na) ∙ p.by_row k lt
  ]

  mid_class : (j : ℕ) → class_total mid rows j ≡ class_total cells rows j + in_hand g amount j
  mid_class j = elim (cases_eq j g) [
    | inl b ↦ rw b (omega (arith, given_class cells mid row g amount rows give in_rows, in_hand_own g amount))
    | inr nb ↦ omega (arith, class_kept cells mid j rows (λ k. give.others k j (λ c d. nb d)), in_hand_other g amount j nb)
  ]

  new_class : (j : ℕ) → class_total new rows j + in_hand h amount j ≡ class_total mid rows j
  new_class j = elim (cases_eq j h) [
    | inl b ↦ rw b (omega (arith, given_up_class mid new row h amount rows take in_rows, in_hand_own h amount))
    | inr nb ↦ omega (arith, class_kept mid new j rows (λ k. take.others k j (λ c d. nb d)), in_hand_other h amount j nb)
  ]

  pub augmenting_more : IsAugmenting ws values prices q start new rows classes n.row h first amount
  augmenting_more = record {
    on = there;
    link = link;
    less = omega (arith, p.less, less);
    same = λ k j on upto. kept_row k j (λ e. far k upto e) ∙ p.same k j on (omega (arith, upto, before));
    tight = tight_new;
    by_row = rows_new;
    by_class = λ j lt. omega (arith, mid_class j, new_class j, p.by_class j lt);
  }
    where
      far : (k : ℕ) → index q k ≤ index q n.row → k ≡ row → ⊥
      far k upto e = let same = ap (λ x. index q x) e in omega (arith, same, upto, before)

-- at the root the class in hand stays
module _ (ws : ℕ → ℕ → Option ℕ) (values prices : List ℕ) (q : ReachedRows) (start cells new : ℕ → ℕ → ℕ) (rows classes row g first amount : ℕ)
    (p : IsAugmenting ws values prices q start cells rows classes row g first amount)
    (fit : (k j w : ℕ) → ws k j ≡ Some w → j < classes) (in_rows : row < rows) (give : IsGiven cells new row g amount) where
  pub end_tight : (k j : ℕ) → 0 < new k j → IsTight ws values prices k j
  end_tight k j some = elim (cases_eq k row) [
    | inl a ↦ elim (cases_eq j g) [
      | inl b ↦ subst (λ x. IsTight ws values prices x j) (sym a) (subst (λ y. IsTight ws values prices row y) (sym b) p.link)
      | inr nb ↦ p.tight k j (subst (λ x. 0 < x) (give.others k j (λ c d. nb d)) some)
    ]
    | inr na ↦ p.tight k j (subst (λ x. 0 < x) (give.others k j (λ c d. na c)) some)
  ]

  pub end_row : row_total new classes row ≡ row_total start classes row + amount
  end_row = omega (arith, given_row cells new row g amount classes give (fit row g p.link.weight p.link.its), p.by_row row in_rows)

  pub end_others : (k : ℕ) → k < rows → (k ≡ row → ⊥) → row_total new classes k ≡ row_total start classes k
  end_others k lt ne = row_kept cells new k k classes (λ j. give.others k j (λ a b. ne a)) ∙ p.by_row k lt

  pub end_class : (j : ℕ) → j < classes → class_total new rows j ≡ class_total start rows j + in_hand first amount j
  end_class j lt = elim (cases_eq j g) [
    | inl b ↦ rw b (omega (arith, given_class cells new row g amount rows give in_rows, in_hand_own g amount, rw b at (p.by_class j lt)))
    | inr nb ↦ omega (arith, class_kept cells new j rows (λ k. give.others k j (λ c d. nb d)), in_hand_other g amount j nb, p.by_class j lt)
  ]
