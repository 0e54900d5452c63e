-- The path from the root to a free end, as CPUs move along it.
use Rattle.std.proofs.Common.{◌≡◌, ℕ, ◌+◌, ◌-◌, ◌<◌, ◌≤◌, ◌^◌, cond, List, length, get_or, set, Option, Some, refl, sym, ap, ◌∙◌, subst, inl, inr, arith}
use Rattle.std.proofs.lemmas.Bool.{cases_eq, eq-eqb, ne_eqb}
use Rattle.transport.specs.Numbers.{number}
use Rattle.transport.specs.ReachedRows.{parent_class, bottleneck, index}
use Rattle.transport.specs.Duals.{IsTight}
use Rattle.transport.specs.Searches.{label_of, IsEntered}
use Rattle.transport.specs.States.{shares_of, cell, IsRunning, IsNoHolder}
use Rattle.transport.specs.Answers.{IsFound}
use Rattle.transport.specs.Totals.{class_total}
use Rattle.transport.specs.Augmenting.{IsAugmenting, IsGiven, IsGivenUp, in_hand}
use Rattle.transport.specs.declared.labels.Label.{Label}
use Rattle.transport.specs.declared.labels.FreeEnd.{FreeEnd}
use Rattle.transport.specs.declared.assignment.Assignment.{Assignment}
use Rattle.transport.specs.declared.tree.SearchTree.{SearchTree}
use Rattle.transport.proofs.Numbers.{read_number}
use Rattle.transport.proofs.ReachedRowsLemmas.{marked_below}
use Rattle.transport.proofs.Sums.{total_at_least}
use Rattle.transport.proofs.Holders.{share_none}
use Rattle.transport.proofs.Augmentation.{augmenting_start, augmenting_more}

pub path_start : (ws : ℕ → ℕ → Option ℕ) (s : Assignment) (t : SearchTree) (e : FreeEnd) (amount : ℕ) → IsFound ws s t e → amount ≤ bottleneck t.reached_rows e.label.row
    → IsAugmenting ws s.values.items s.prices.items t.reached_rows (cell s.holdings.items) (cell s.holdings.items) (length s.values.items) (length s.prices.items) e.label.row e.class e.class amount
path_start ws s t e amount h less =
    let x = h.running.search.free_end e h.its in
    augmenting_start ws s.values.items s.prices.items t.reached_rows (cell s.holdings.items) _ _ e.label.row e.class amount h.running.search.dual.tight x.there
    (record { weight = e.label.weight; its = x.weighs; equal = h.equal }) less

module _ (ws : ℕ → ℕ → Option ℕ) (s : Assignment) (t : SearchTree) (row g first amount : ℕ) (cells : ℕ → ℕ → ℕ) (h : IsRunning ws s t)
    (p : IsAugmenting ws s.values.items s.prices.items t.reached_rows (cell s.holdings.items) cells (length s.values.items) (length s.prices.items) row g first amount) where
  pub path_row : row < length s.values.items
  path_row = omega (arith, marked_below t.reached_rows.reached.items row p.on, h.search.reached_rows.reached_long)

  pub path_class : g < length s.prices.items
  path_class = h.fit.class row g p.link.weight p.link.its

  -- what the row is given fits
  pub path_fits : amount ≤ number s.residual.items first → class_total (cell s.holdings.items) (length s.values.items) g + number s.residual.items g < 2 ^ 32 → cells row g + amount < 2 ^ 32
  path_fits enough small =
      let own : in_hand g amount g ≡ amount = ap (λ b. cond b amount 0) (eq-eqb g g refl) in
      omega (arith, total_at_least (λ k. cells k g) (length s.values.items) row path_row, p.by_class g path_class, own, from_first, small)
    where
      from_first : in_hand first amount g ≤ number s.residual.items g
      from_first = elim (cases_eq g first) [
        | inl e ↦ (let all : in_hand first amount g ≡ amount = ap (λ b. cond b amount 0) (eq-eqb g first e) in
            omega (arith, all, enough, ap (λ x. number s.residual.items x) e))
        | inr ne ↦ (let none : in_hand first amount g ≡ 0 = ap (λ b. cond b amount 0) (ne_eqb g first ne) in omega (arith, none))
      ]

  module _ (deep : 0 < index t.reached_rows row) where
    path_entered : IsEntered (cell s.holdings.items) t.reached_rows t.labels t.tree_classes row
    path_entered = h.search.entries row p.on deep

    -- a row that holds nothing is not on the path
    pub path_holds : (k : ℕ) → IsNoHolder k s.holdings.items → k ≡ row → ⊥
    path_holds k none e =
        let held : 0 < cell s.holdings.items row (parent_class t.reached_rows row) = omega (arith, path_entered.held, h.search.bottlenecks row p.on) in
        let no : cell s.holdings.items k (parent_class t.reached_rows row) ≡ 0 = share_none k (shares_of s.holdings.items (parent_class t.reached_rows row)) (none (parent_class t.reached_rows row)) in
        omega (arith, held, no, ap (λ j. cell s.holdings.items j (parent_class t.reached_rows row)) e)

    pub path_label : Label
    path_label = path_entered.label

    pub path_label_of : label_of t.labels (parent_class t.reached_rows row) ≡ Some path_label
    unfolding path_label
    path_label_of = path_entered.its

    pub path_before : index t.reached_rows path_label.row < index t.reached_rows row
    unfolding path_label
    path_before = path_entered.before

    pub path_parent : parent_class t.reached_rows row < length s.prices.items
    path_parent = let o = h.search.labelled (parent_class t.reached_rows row) path_entered.label path_entered.its in h.fit.class _ _ _ o.weighs

    path_link : IsTight ws s.values.items s.prices.items path_label.row (parent_class t.reached_rows row)
    unfolding path_label
    path_link =
        let l = h.search.linked (parent_class t.reached_rows row) path_entered.taken in
        let o = h.search.labelled (parent_class t.reached_rows row) path_entered.label path_entered.its in
        let same : l.label ≡ path_entered.label = (let both : Some l.label ≡ Some path_entered.label = sym l.its ∙ path_entered.its in cc) in
        record {
          weight = path_entered.label.weight;
          its = o.weighs;
          equal = subst (λ (n : Label). number s.values.items n.row ≡ n.weight + number s.prices.items (parent_class t.reached_rows row)) same l.equal;
        }

    -- the row holds as much of the class that it gives up
    pub path_held : (mid : ℕ → ℕ → ℕ) → IsGiven cells mid row g amount → amount ≤ mid row (parent_class t.reached_rows row)
    path_held mid give = elim (cases_eq (parent_class t.reached_rows row) g) [
      | inl e ↦ (let f = ap (λ x. mid row x) e in omega (arith, f, give.given))
      | inr ne ↦ omega (arith, give.others row (parent_class t.reached_rows row) (λ a b. ne b), p.same row (parent_class t.reached_rows row) p.on (omega arith), path_entered.held, p.less)
    ]

    pub path_more : (mid new : ℕ → ℕ → ℕ) → IsGiven cells mid row g amount → IsGivenUp mid new row (parent_class t.reached_rows row) amount
        → IsAugmenting ws s.values.items s.prices.items t.reached_rows (cell s.holdings.items) new (length s.values.items) (length s.prices.items) path_label.row (parent_class t.reached_rows row) first amount
    unfolding path_label
    path_more mid new give take =
        augmenting_more ws s.values.items s.prices.items t.reached_rows (cell s.holdings.items) cells mid new (length s.values.items) (length s.prices.items) row g (parent_class t.reached_rows row) first amount path_entered.label
        p h.fit.class path_row path_entered.before (h.search.labelled (parent_class t.reached_rows row) path_entered.label path_entered.its).there path_link path_entered.less give take

    pub path_held_of : (mid : ℕ → ℕ → ℕ) (v : ℕ) → v ≡ parent_class t.reached_rows row → IsGiven cells mid row g amount → amount ≤ mid row v
    path_held_of mid v e give = let f = ap (λ x. mid row x) e in omega (arith, f, path_held mid give)

    pub path_parent_of : (v : ℕ) → v ≡ parent_class t.reached_rows row → v < length s.prices.items
    path_parent_of v e = omega (arith, e, path_parent)

    next_row : (v r : ℕ) → v ≡ parent_class t.reached_rows row → ((n : Label) → label_of t.labels v ≡ Some n → r ≡ n.row) → r ≡ path_label.row
    next_row v r e f = f path_label (subst (λ x. label_of t.labels x ≡ Some path_label) (sym e) path_label_of)

    pub path_smaller : (v r : ℕ) → v ≡ parent_class t.reached_rows row → ((n : Label) → label_of t.labels v ≡ Some n → r ≡ n.row) → index t.reached_rows r < index t.reached_rows row
    path_smaller v r e f = let x = ap (λ k. index t.reached_rows k) (next_row v r e f) in omega (arith, x, path_before)

    pub path_step : (mid new : ℕ → ℕ → ℕ) (v r : ℕ) → v ≡ parent_class t.reached_rows row → ((n : Label) → label_of t.labels v ≡ Some n → r ≡ n.row) → IsGiven cells mid row g amount → IsGivenUp mid new row v amount
        → IsAugmenting ws s.values.items s.prices.items t.reached_rows (cell s.holdings.items) new (length s.values.items) (length s.prices.items) r v first amount
    path_step mid new v r e f give take =
        let P = λ (x y : ℕ). IsAugmenting ws s.values.items s.prices.items t.reached_rows (cell s.holdings.items) new (length s.values.items) (length s.prices.items) x y first amount in
        subst (λ x. P x v) (sym (next_row v r e f)) (subst (λ y. P path_label.row y) (sym e) (path_more mid new give (subst (λ y. IsGivenUp mid new row y amount) e take)))

pub set_as : (xs ys : List ℕ) (i n x a : ℕ) → xs ≡ ys → i < n → length xs ≡ n → x ≡ get_or xs i x → set xs i (x - a) ≡ set ys i (number ys i - a)
set_as xs ys i n x a e lt long is = ap (λ z. set xs i (z - a)) (sym (read_number xs i n x lt long is)) ∙ ap (λ (zs : List ℕ). set zs i (number zs i - a)) e
