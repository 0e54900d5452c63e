-- One search for a row: what it leaves, where CPUs were moved and where no class was found.
use Rattle.std.proofs.Common.{◌≡◌, ℕ, zero, suc, ◌+◌, ◌-◌, ◌*◌, ◌<◌, ◌≤◌, ◌^◌, min, Bool, true, false, cond, List, length, set, Option, Some, None, Vec, Global, refl, sym, ap, ◌∙◌, subst, inl, inr, arith}
use Rattle.std.proofs.Math.Nat.{mul-le-mul}
use Rattle.std.proofs.lemmas.List.{length-set, get_or-set_same, get_or-set_other}
use Rattle.std.proofs.lemmas.List.Sums.{count_by-le-length}
use Rattle.std.proofs.lemmas.Bool.{cases_eq, cases_lt, cases_Bool, eq-eqb, ne_eqb}
use Rattle.certificate.specs.declared.rows.Offer.{Offer}
use Rattle.transport.specs.Numbers.{number}
use Rattle.transport.specs.ReachedRows.{is_reached, index, bottleneck, row_at}
use Rattle.transport.specs.Searches.{is_taken}
use Rattle.transport.specs.Totals.{row_total, class_total}
use Rattle.transport.specs.SortedArcs.{IsSortedArcs}
use Rattle.transport.specs.Scans.{arc_at}
use Rattle.twins.specs.Kinds.{offers_of}
use Rattle.transport.specs.Weights.{weights, AreSortedArcs}
use Rattle.transport.specs.States.{cell, IsRunning}
use Rattle.transport.specs.Answers.{IsClosed, IsFound, IsAnswer, IsSameRest}
use Rattle.transport.specs.Augmenting.{in_hand}
use Rattle.transport.specs.Augmented.{IsAugmented}
use Rattle.transport.specs.Settled.{IsTreeOf}
use Rattle.transport.specs.Assigning.{IsHandedOut, CanAssign, IsAssigning, IsAtEnd, a_search}
use Rattle.transport.specs.declared.labels.FreeEnd.{FreeEnd}
use Rattle.transport.specs.declared.assignment.Assignment.{Assignment}
use Rattle.transport.specs.declared.instance.Instance.{Instance}
use Rattle.transport.specs.declared.tree.SearchTree.{SearchTree}
use Rattle.transport.specs.declared.arcs.SortedArcs.{SortedArcs}
use Rattle.transport.proofs.ReachedRowsLemmas.{marked_below}
use Rattle.transport.proofs.Starting.{count_less, tidy_running}
use Rattle.transport.proofs.Settling.{settled_augmented}

-- sorted arcs stay so where no more CPUs are free
sorted_free : (ws : ℕ → Option ℕ) (offers : List Offer) (firsts residual less : List ℕ) (l : SortedArcs) → IsSortedArcs ws offers firsts residual l → length less ≡ length residual
    → ((g : ℕ) → number less g ≤ number residual g) → IsSortedArcs ws offers firsts less l
sorted_free ws offers firsts residual less l h long down = record {
  order = h.order;
  opened_in = h.opened_in;
  arcs = h.arcs;
  blocks = h.blocks;
  blocked_in = h.blocked_in;
  cursor_in = h.cursor_in;
  full = λ i lt. omega (arith, h.full i lt, down (arc_at l.arcs.items i).class);
  hits = h.hits;
  classes = h.classes;
  firsts_in = omega (arith, h.firsts_in, long);
}

pub all_sorted_free : (t : Instance) (residual less : List ℕ) (arcs_by_kind : List SortedArcs) → AreSortedArcs t residual arcs_by_kind → length less ≡ length residual → ((g : ℕ) → number less g ≤ number residual g) → AreSortedArcs t less arcs_by_kind
all_sorted_free t residual less arcs_by_kind h long down = record {
  long = h.long;
  kinds = h.kinds;
  each = λ k l is first. sorted_free (weights t k) (offers_of t.rows.now k) t.firsts residual less l (h.each k l is first) long down;
}

-- no row has a greater bottleneck than the root
bottleneck_here : (ws : ℕ → ℕ → Option ℕ) (s : Assignment) (t : SearchTree) (k : ℕ) → IsRunning ws s t → is_reached t.reached_rows k ≡ true → index t.reached_rows k ≡ 0 → bottleneck t.reached_rows k ≤ bottleneck t.reached_rows (row_at t.reached_rows 0)
bottleneck_here ws s t k h on e =
    let same : row_at t.reached_rows 0 ≡ k = ap (λ i. row_at t.reached_rows i) (sym e) ∙ h.search.reached_rows.placed k on in
    omega (arith, ap (λ j. bottleneck t.reached_rows j) same)

bottleneck_below : (ws : ℕ → ℕ → Option ℕ) (s : Assignment) (t : SearchTree) → IsRunning ws s t → (n k : ℕ) → index t.reached_rows k ≤ n → is_reached t.reached_rows k ≡ true → bottleneck t.reached_rows k ≤ bottleneck t.reached_rows (row_at t.reached_rows 0)
bottleneck_below ws s t h zero k le on = bottleneck_here ws s t k h on (omega (arith, le))
bottleneck_below ws s t h (suc n) k le on = elim (cases_lt 0 (index t.reached_rows k)) [
  | inl deep ↦ step deep (bottleneck_below ws s t h n)
  | inr root ↦ bottleneck_here ws s t k h on (omega (arith, root))
]
  where
    step : 0 < index t.reached_rows k → ((k : ℕ) → index t.reached_rows k ≤ n → is_reached t.reached_rows k ≡ true → bottleneck t.reached_rows k ≤ bottleneck t.reached_rows (row_at t.reached_rows 0)) → bottleneck t.reached_rows k ≤ bottleneck t.reached_rows (row_at t.reached_rows 0)
    step deep before =
        let e = h.search.entries k on deep in
        omega (arith, e.less, before e.label.row (omega (arith, e.before, le)) (h.search.labelled _ e.label e.its).there)

pub bottleneck_root : (ws : ℕ → ℕ → Option ℕ) (s : Assignment) (t : SearchTree) (k : ℕ) → IsRunning ws s t → is_reached t.reached_rows k ≡ true → bottleneck t.reached_rows k ≤ bottleneck t.reached_rows (row_at t.reached_rows 0)
bottleneck_root ws s t k h on = bottleneck_below ws s t h (index t.reached_rows k) k (omega arith) on

-- rows and classes that are taken up are few
pub rows_few : (ws : ℕ → ℕ → Option ℕ) (s : Assignment) (t : SearchTree) → IsRunning ws s t → length t.reached_rows.order.items ≤ length s.values.items
rows_few ws s t h = let q = h.search.reached_rows in omega (arith, q.counted, q.reached_long, count_by-le-length {X = Bool} (λ b. b) t.reached_rows.reached.items)

pub classes_few : (ws : ℕ → ℕ → Option ℕ) (s : Assignment) (t : SearchTree) → IsRunning ws s t → length t.tree_classes.order.items ≤ length s.prices.items
classes_few ws s t h = omega (arith, h.search.listing.counted, h.search.taken_long, count_by-le-length {X = Bool} (λ b. b) t.tree_classes.taken.items)

pub taken_full : (ws : ℕ → ℕ → Option ℕ) (s : Assignment) (t : SearchTree) (g : ℕ) → IsRunning ws s t → is_taken t.tree_classes g ≡ true → number s.residual.items g ≡ 0
taken_full ws s t g h on = let l = h.search.linked g on in (h.search.labelled g l.label l.its).full

-- one class fewer where a free end was found
pub classes_fewer : (ws : ℕ → ℕ → Option ℕ) (s : Assignment) (t : SearchTree) (e : FreeEnd) → IsFound ws s t e → length t.tree_classes.order.items < length s.prices.items
classes_fewer ws s t e f =
    let x = f.running.search.free_end e f.its in
    let lt = f.running.fit.class _ _ _ x.weighs in
    omega (arith, f.running.search.listing.counted, f.running.search.taken_long, count_less t.tree_classes.taken.items e.class (omega (arith, lt, f.running.search.taken_long)) not_taken)
  where
    not_taken : is_taken t.tree_classes e.class ≡ false
    not_taken = elim (cases_Bool (is_taken t.tree_classes e.class)) [
      | inl on ↦ (let x = f.running.search.free_end e f.its in absurd (omega (arith, x.some_free, taken_full ws s t e.class f.running on)))
      | inr off ↦ off
    ]

-- a product that grows
one_more : (v u a : ℕ) → v < u → v * a + a ≤ u * a
one_more v u a lt =
    let up : v + 1 ≤ u = omega (arith, lt) in
    let same : a ≤ a = omega arith in
    let le : (v + 1) * a ≤ u * a = mul-le-mul up same in
    omega (arith, le)

-- a search: `old` is the assignment before it, `mid` after it
module _ (ws : ℕ → ℕ → Option ℕ) (old mid : Assignment) (t : SearchTree) (root : ℕ) (running : IsRunning ws mid t) (residual_long : length old.residual.items ≡ length old.prices.items)
    (values_long : length mid.values.items ≡ length old.values.items) (rest : IsSameRest old mid) (root_at : row_at t.reached_rows 0 ≡ root) where
  pub prices_long : length mid.prices.items ≡ length old.prices.items
  prices_long = omega (arith, running.search.residual_long, ap (λ (v : Vec ℕ Global). length v.items) rest.residual, residual_long)

  -- all is as it was, except for values and prices
  handed_none : IsHandedOut root old mid
  handed_none = record {
    values_long = values_long;
    prices_long = prices_long;
    deficit_long = ap (λ (v : Vec ℕ Global). length v.items) rest.deficit;
    by_row = λ k lt. rw (rest.holdings, rest.deficit) refl;
    by_class = λ g lt. rw (rest.holdings, rest.residual) refl;
    others = λ k ne. rw rest.deficit refl;
    none = λ k ne none. rw rest.holdings none;
  }

  root_on : is_reached t.reached_rows root ≡ true
  root_on = subst (λ k. is_reached t.reached_rows k ≡ true) root_at (running.search.reached_rows.on 0 running.search.rooted)

  -- CPUs were moved from the root to the free end
  module _ (new : Assignment) (e : FreeEnd) (amount : ℕ) (p : IsAugmented mid new t e amount) (f : IsFound ws mid t e)
      (deficit_long : length old.deficit.items ≡ length old.values.items) (in_rows : root < length old.values.items)
      (less : amount ≤ number old.deficit.items root) (few : amount ≤ number mid.residual.items e.class) where
    free_end_in : e.class < length mid.residual.items
    free_end_in = let x = running.search.free_end e f.its in omega (arith, running.fit.class _ _ _ x.weighs, running.search.residual_long)

    deficit_is : new.deficit.items ≡ set old.deficit.items root (number old.deficit.items root - amount)
    deficit_is = p.deficit ∙ rw (rest.deficit, root_at) refl

    pub deficit_root : number new.deficit.items root ≡ number old.deficit.items root - amount
    deficit_root = rw deficit_is (get_or-set_same old.deficit.items root _ 0 (omega (arith, deficit_long, in_rows)))

    deficit_other : (k : ℕ) → (k ≡ root → ⊥) → number new.deficit.items k ≡ number old.deficit.items k
    deficit_other k ne = rw deficit_is (get_or-set_other old.deficit.items root k _ 0 ne)

    free_same : number new.residual.items e.class ≡ number mid.residual.items e.class - amount
    free_same = rw p.residual (get_or-set_same mid.residual.items e.class _ 0 free_end_in)

    free_other : (g : ℕ) → (g ≡ e.class → ⊥) → number new.residual.items g ≡ number mid.residual.items g
    free_other g ne = rw p.residual (get_or-set_other mid.residual.items e.class g _ 0 ne)

    pub free_down : (g : ℕ) → number new.residual.items g ≤ number mid.residual.items g
    free_down g = elim (cases_eq g e.class) [
      | inl same ↦ subst (λ h. number new.residual.items h ≤ number mid.residual.items h) (sym same) (omega (arith, free_same))
      | inr ne ↦ omega (arith, free_other g ne)
    ]

    pub new_residual_long : length new.residual.items ≡ length mid.residual.items
    new_residual_long = ap length p.residual ∙ length-set _ _ _

    row_root : row_total (cell new.holdings.items) (length old.prices.items) root ≡ row_total (cell old.holdings.items) (length old.prices.items) root + amount
    row_root = rw (← rest.holdings, ← prices_long, ← root_at) p.by_root

    row_other : (k : ℕ) → k < length old.values.items → (k ≡ root → ⊥) → row_total (cell new.holdings.items) (length old.prices.items) k ≡ row_total (cell old.holdings.items) (length old.prices.items) k
    row_other k lt ne = rw (← rest.holdings, ← prices_long) (p.by_others k (omega (arith, lt, values_long)) (λ x. ne (x ∙ root_at)))

    class_is : (g : ℕ) → g < length old.prices.items → class_total (cell new.holdings.items) (length old.values.items) g ≡ class_total (cell old.holdings.items) (length old.values.items) g + in_hand e.class amount g
    class_is g lt = rw (← rest.holdings, ← values_long) (p.by_class g (omega (arith, lt, prices_long)))

    by_row : (k : ℕ) → k < length old.values.items
        → row_total (cell new.holdings.items) (length old.prices.items) k + number new.deficit.items k ≡ row_total (cell old.holdings.items) (length old.prices.items) k + number old.deficit.items k
    by_row k lt = elim (cases_eq k root) [
      | inl same ↦ subst (λ j. row_total (cell new.holdings.items) (length old.prices.items) j + number new.deficit.items j ≡ row_total (cell old.holdings.items) (length old.prices.items) j + number old.deficit.items j)
          (sym same) (omega (arith, row_root, deficit_root, less))
      | inr ne ↦ omega (arith, row_other k lt ne, deficit_other k ne)
    ]

    hand_here : in_hand e.class amount e.class ≡ amount
    hand_here = ap (λ b. cond b amount 0) (eq-eqb e.class e.class refl)

    hand_other : (g : ℕ) → (g ≡ e.class → ⊥) → in_hand e.class amount g ≡ 0
    hand_other g ne = ap (λ b. cond b amount 0) (ne_eqb g e.class ne)

    free_old : (g : ℕ) → number mid.residual.items g ≡ number old.residual.items g
    free_old g = rw rest.residual refl

    by_class : (g : ℕ) → g < length old.prices.items
        → class_total (cell new.holdings.items) (length old.values.items) g + number new.residual.items g ≡ class_total (cell old.holdings.items) (length old.values.items) g + number old.residual.items g
    by_class g lt = elim (cases_eq g e.class) [
      | inl same ↦ (let c = class_is g lt in
          let h : in_hand e.class amount g ≡ amount = ap (in_hand e.class amount) same ∙ hand_here in
          let f : number new.residual.items g ≡ number mid.residual.items e.class - amount = ap (number new.residual.items) same ∙ free_same in
          let m : number mid.residual.items e.class ≡ number old.residual.items g = free_old e.class ∙ ap (number old.residual.items) (sym same) in
          omega (arith, c, h, f, m, few))
      | inr ne ↦ omega (arith, class_is g lt, hand_other g ne, free_other g ne, free_old g)
    ]

    pub handed_augmented : IsHandedOut root old new
    handed_augmented = record {
      values_long = ap (λ (v : Vec ℕ Global). length v.items) p.values ∙ values_long;
      prices_long = ap (λ (v : Vec ℕ Global). length v.items) p.prices ∙ prices_long;
      deficit_long = ap length deficit_is ∙ length-set _ _ _;
      by_row = by_row;
      by_class = by_class;
      others = deficit_other;
      none = λ k ne none. p.none k (λ e. ne (e ∙ root_at)) (rw rest.holdings none);
    }

pub answer_running : (ws : ℕ → ℕ → Option ℕ) (s : Assignment) (t : SearchTree) (found : Option FreeEnd) → IsAnswer ws s t found → IsRunning ws s t
answer_running ws s t None a = a.running
answer_running ws s t (Some e) a = a.running

-- the search's end in the words of `augment_once`: `arcs_by_kind` are those after the search
module _ (tb : Instance) (root : ℕ) (old mid : Assignment) (t : SearchTree) (before : List SortedArcs) (arcs_by_kind : List SortedArcs) (turns : ℕ) (can : CanAssign tb root old before turns) (lacks : 0 < number old.deficit.items root)
    (running : IsRunning (weights tb) mid t) (rows : length tb.rows.now ≡ length mid.values.items) (rest : IsSameRest old mid) (root_at : row_at t.reached_rows 0 ≡ root)
    (bottleneck_is : bottleneck t.reached_rows root ≡ number old.deficit.items root) (are : AreSortedArcs tb mid.residual.items arcs_by_kind) where
  values_long : length mid.values.items ≡ length old.values.items
  values_long = sym rows ∙ can.rows

  prices_are : length mid.prices.items ≡ length old.prices.items
  prices_are = prices_long (weights tb) old mid t root running can.settled.residual_long values_long rest root_at

  on_root : is_reached t.reached_rows root ≡ true
  on_root = root_on (weights tb) old mid t root running can.settled.residual_long values_long rest root_at

  a_row : a_search old ≤ number old.deficit.items root * a_search old
  a_row = let e = one_more 0 (number old.deficit.items root) (a_search old) lacks in omega (arith, e)

  pub taken_up : length t.reached_rows.order.items + length t.tree_classes.order.items ≤ a_search old
  taken_up = omega (arith, rows_few (weights tb) mid t running, classes_few (weights tb) mid t running, values_long, prices_are)

  pub turns_fit : turns + (length t.reached_rows.order.items + length t.tree_classes.order.items) < 2 ^ 64
  turns_fit = omega (arith, taken_up, a_row, can.fits)

  pub no_free_end : (after : ℕ) → after ≡ turns + (length t.reached_rows.order.items + length t.tree_classes.order.items) → IsClosed (weights tb) mid t → IsAtEnd tb root old mid t turns after
  no_free_end after is closed = record {
    closed = closed;
    root_at = root_at;
    on = on_root;
    lacks = rw rest.deficit lacks;
    handed = handed_none (weights tb) old mid t root running can.settled.residual_long values_long rest root_at;
    most = omega (arith, taken_up, a_row, is);
    least = omega (arith, is);
  }

  module _ (e : FreeEnd) (f : IsFound (weights tb) mid t e) where
    pub taken_up_free_end : length t.reached_rows.order.items + length t.tree_classes.order.items + 1 ≤ a_search old
    taken_up_free_end = omega (arith, rows_few (weights tb) mid t running, classes_fewer (weights tb) mid t e f, values_long, prices_are)

    pub turns_fit_free_end : turns + (length t.reached_rows.order.items + length t.tree_classes.order.items) + 1 < 2 ^ 64
    turns_fit_free_end = omega (arith, taken_up_free_end, a_row, can.fits)

    there : is_reached t.reached_rows e.label.row ≡ true
    there = (running.search.free_end e f.its).there

    pub free_end_row : e.label.row < length t.reached_rows.bottleneck.items
    free_end_row = omega (arith, marked_below t.reached_rows.reached.items e.label.row there, running.search.reached_rows.reached_long, running.search.reached_rows.bottleneck_long)

    pub free_end_class : e.class < length mid.residual.items
    free_end_class = omega (arith, running.fit.class _ _ _ (running.search.free_end e f.its).weighs, running.search.residual_long)

    pub bottleneck_deficit : bottleneck t.reached_rows e.label.row ≤ number mid.deficit.items (row_at t.reached_rows 0)
    bottleneck_deficit =
        let a = bottleneck_root (weights tb) mid t e.label.row running there in
        let b : bottleneck t.reached_rows (row_at t.reached_rows 0) ≡ number old.deficit.items root = ap (bottleneck t.reached_rows) root_at ∙ bottleneck_is in
        let d : number mid.deficit.items (row_at t.reached_rows 0) ≡ number old.deficit.items root = rw (rest.deficit, root_at) refl in
        omega (arith, a, b, d)

    pub deficit_long : length mid.deficit.items ≡ length mid.values.items
    deficit_long = omega (arith, ap (λ (v : Vec ℕ Global). length v.items) rest.deficit, can.deficit_long, values_long)

    pub sizes_fit : (g : ℕ) → class_total (cell mid.holdings.items) (length mid.values.items) g + number mid.residual.items g < 2 ^ 32
    sizes_fit = rw (rest.holdings, rest.residual, values_long) can.sizes

    module _ (new : Assignment) (amount : ℕ) (p : IsAugmented mid new t e amount) (is : amount ≡ min (bottleneck t.reached_rows e.label.row) (number mid.residual.items e.class)) where
      less : amount ≤ number old.deficit.items root
      less = let d : number mid.deficit.items (row_at t.reached_rows 0) ≡ number old.deficit.items root = rw (rest.deficit, root_at) refl in omega (arith, bottleneck_deficit, d, is)

      few : amount ≤ number mid.residual.items e.class
      few = omega (arith, is)

      some : 0 < amount
      some = omega (arith, is, running.search.bottlenecks e.label.row there, (running.search.free_end e f.its).some_free)

      root_now : number new.deficit.items root ≡ number old.deficit.items root - amount
      root_now = deficit_root (weights tb) old mid t root running can.settled.residual_long values_long rest root_at new e amount p f can.deficit_long can.in_rows less few

      pub fewer : number new.deficit.items root < number old.deficit.items root
      fewer = omega (arith, root_now, some, less)

      pub augmented : (after : ℕ) → after ≡ turns + (length t.reached_rows.order.items + length t.tree_classes.order.items) + 1 → IsAssigning tb root old new arcs_by_kind turns after
      augmented after after_is = record {
        settled = settled_augmented (weights tb) mid new t e amount f p;
        sorted = all_sorted_free tb mid.residual.items new.residual.items arcs_by_kind are
            (new_residual_long (weights tb) old mid t root running can.settled.residual_long values_long rest root_at new e amount p f can.deficit_long can.in_rows less few)
            (free_down (weights tb) old mid t root running can.settled.residual_long values_long rest root_at new e amount p f can.deficit_long can.in_rows less few);
        handed = handed_augmented (weights tb) old mid t root running can.settled.residual_long values_long rest root_at new e amount p f can.deficit_long can.in_rows less few;
        kept = omega (arith, after_is);
        fewer = omega (arith, fewer);
        unsought = λ same. absurd (omega (arith, same, fewer));
        most = omega (arith, taken_up_free_end, one_more (number new.deficit.items root) (number old.deficit.items root) (a_search old) fewer, after_is);
        least = λ lt. omega (arith, running.search.rooted, after_is);
      }

      pub tree_left : IsTreeOf new t
      tree_left = rw (p.values, p.prices) (tidy_running (weights tb) mid t running)
