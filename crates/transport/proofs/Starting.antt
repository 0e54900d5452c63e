-- A search at its start, and the bounds after it has found a free end.
use Rattle.std.proofs.Common.{◌≡◌, ℕ, zero, suc, ◌<◌, ◌≤◌, Bool, true, false, cond, List, [], ◌∷◌, length, get_or, replicate, Option, Some, None, refl, sym, ap, ◌∙◌, subst, inl, inr, arith}
use Rattle.std.specs.List.{count_by}
use Rattle.std.proofs.lemmas.Bool.{cases_Bool, cases_lt, both_ways}
use Rattle.std.proofs.lemmas.List.{length_push, length-replicate, get_or-replicate, get_or_past, get_or-set_same}
use Rattle.std.proofs.lemmas.List.Sums.{sum_by-cons, count_by-le-length}
use Rattle.certificate.specs.declared.limits.TheConstants.{MAX_ROWS}
use Rattle.transport.specs.Numbers.{number, is_marked}
use Rattle.transport.specs.ReachedRows.{IsReachedRows, IsUnreached, IsAtRoot, IsReached, is_reached, index, bottleneck, row_at}
use Rattle.transport.specs.Searches.{is_taken, never, IsSearch, IsClose, most}
use Rattle.transport.specs.States.{cell, IsRunning}
use Rattle.transport.specs.Answers.{IsFound}
use Rattle.transport.specs.Settled.{IsSettled, IsFresh, IsTidy, IsTreeOf}
use Rattle.transport.specs.declared.labels.Label.{Label}
use Rattle.transport.specs.declared.labels.FreeEnd.{FreeEnd}
use Rattle.transport.specs.declared.assignment.Assignment.{Assignment}
use Rattle.transport.specs.declared.tree.SearchTree.{SearchTree}
use Rattle.transport.proofs.ReachedRowsLemmas.{reached_reached}
use Rattle.transport.proofs.Running.{listed_below}
use Rattle.transport.specs.declared.tree.ReachedRows.{ReachedRows}

pub count_none : (bs : List Bool) → ((k : ℕ) → is_marked bs k ≡ false) → count_by (λ b. b) bs ≡ 0
count_none [] h = refl
count_none (b ∷ bs) h =
    let here : ◌≡◌ {A = ℕ} (cond b 1 0) 0 = ap (λ x. cond {A = ℕ} x 1 0) (h 0) in
    omega (arith, sum_by-cons (λ x. cond {A = ℕ} x 1 0) b bs, here, count_none bs (λ k. h (suc k)))

pub count_less : (bs : List Bool) (k : ℕ) → k < length bs → is_marked bs k ≡ false → count_by (λ b. b) bs < length bs
count_less [] k lt off = absurd (omega arith)
count_less (b ∷ bs) zero lt off =
    let here : ◌≡◌ {A = ℕ} (cond b 1 0) 0 = ap (λ x. cond {A = ℕ} x 1 0) off in
    omega (arith, sum_by-cons (λ x. cond {A = ℕ} x 1 0) b bs, here, count_by-le-length {X = Bool} (λ x. x) bs)
count_less (b ∷ bs) (suc k) lt off =
    omega (arith, sum_by-cons (λ x. cond {A = ℕ} x 1 0) b bs, cond_one b, count_less bs k (omega arith) off)
  where
    cond_one : (b : Bool) → cond {A = ℕ} b 1 0 ≤ 1
    cond_one true = omega arith
    cond_one false = omega arith

pub replicate_default : {X : Type 0} (n i : ℕ) (a : X) → get_or (replicate n a) i a ≡ a
replicate_default n i a = elim (cases_lt i n) [
  | inl lt ↦ get_or-replicate n i a a lt
  | inr past ↦ get_or_past (replicate n a) i a (omega (arith, length-replicate n a, past))
]

-- no row is reached
pub reached_none : (rows : ℕ) (q : ReachedRows) → IsUnreached rows q → IsReachedRows rows q
reached_none rows q h = record {
  reached_long = h.reached_long;
  parent_class_long = h.parent_class_long;
  bottleneck_long = h.bottleneck_long;
  index_long = h.index_long;
  on = λ i lt. absurd (omega (arith, lt, ap length h.order));
  at = λ i lt. absurd (omega (arith, lt, ap length h.order));
  within = λ k on. absurd (both_ways _ (h.none k) on);
  placed = λ k on. absurd (both_ways _ (h.none k) on);
  counted = count_none q.reached.items h.none ∙ sym (ap length h.order);
}

-- a tree before the first search
pub tidy_none : (rows classes : ℕ) (t : SearchTree) → IsUnreached rows t.reached_rows → t.labels.of_class.items ≡ replicate classes None → t.labels.labelled.items ≡ []
    → t.labels.due.items ≡ replicate classes never → t.tree_classes.taken.items ≡ replicate classes false → t.tree_classes.order.items ≡ [] → IsTidy rows classes t
tidy_none rows classes t reached_rows of_class labelled due taken order = record {
  reached_rows = reached_none rows t.reached_rows reached_rows;
  labels_long = ap length of_class ∙ length-replicate {A = Option Label} classes None;
  labelled = record {
    due_long = ap length due ∙ length-replicate {A = ℕ} classes never ∙ sym (ap length of_class ∙ length-replicate {A = Option Label} classes None);
    unlabelled = λ g lt _. ap (λ xs. number xs g) due ∙ get_or-replicate classes g never 0 (omega (arith, lt, ap length of_class, length-replicate {A = Option Label} classes None));
    all = λ g n is. (let no_label : Some n ≡ None = sym is ∙ ap (λ ns. get_or ns g None) of_class ∙ replicate_default classes g None in cc);
    labelled_in = λ i lt. absurd (omega (arith, lt, ap length labelled));
    taken_in = λ i lt. absurd (omega (arith, lt, ap length order));
  };
  taken_long = ap length taken ∙ length-replicate classes false;
  taken = record {
    on = λ i lt. absurd (omega (arith, lt, ap length order));
    all = λ k on. absurd (both_ways _ (none k) on);
    once = λ i j lt. absurd (omega (arith, lt, ap length order));
    counted = count_none t.tree_classes.taken.items none ∙ sym (ap length order);
  };
}
  where
    none : (g : ℕ) → is_taken t.tree_classes g ≡ false
    none g = ap (λ bs. is_marked bs g) taken ∙ replicate_default classes g false

-- and the one in which the first row is
module _ (rows root amount : ℕ) (old new : ReachedRows) (in_rows : root < rows) (h : IsUnreached rows old) (r : IsReached old new root 0 amount) where
  now : IsReachedRows rows new
  now = reached_reached rows old new root 0 amount (reached_none rows old h) in_rows (h.none root) r

  one_row : length new.order.items ≡ 1
  one_row = omega (arith, ap length r.order, length_push old.order.items root, ap length h.order)

  first_row : row_at new 0 ≡ root
  first_row = rw (r.order, h.order) refl

  only_root : (k : ℕ) → is_reached new k ≡ true → k ≡ root
  only_root k on =
      let p : index new k ≡ 0 = omega (arith, now.within k on, one_row) in
      sym (now.placed k on) ∙ ap (λ i. row_at new i) p ∙ first_row

  pub reached_at_root : IsAtRoot rows root amount new
  reached_at_root = record {
    reached_rows = now;
    one = one_row;
    root_at = first_row;
    only = only_root;
    some_bottleneck = rw r.bottlenecks (get_or-set_same old.bottleneck.items root amount 0 (omega (arith, in_rows, h.bottleneck_long)));
  }

-- all that a search marked and labelled is named by its lists
pub tidy_running : (ws : ℕ → ℕ → Option ℕ) (s : Assignment) (t : SearchTree) → IsRunning ws s t → IsTreeOf s t
tidy_running ws s t h = record {
  reached_rows = h.search.reached_rows;
  labels_long = h.search.labels_long;
  labelled = record {
    due_long = h.search.due_long ∙ sym h.search.labels_long;
    unlabelled = h.search.unlabelled;
    all = λ g n is. elim (cases_Bool (is_taken t.tree_classes g)) [
      | inl on ↦ inr (h.search.listing.all g on)
      | inr off ↦ inl (h.search.listed g n is off)
    ];
    labelled_in = λ i lt. omega (arith, h.search.labelled_in i lt, h.search.labels_long);
    taken_in = λ i lt. omega (arith, listed_below t.tree_classes.order.items t.tree_classes.taken.items (length s.prices.items) h.search.listing h.search.taken_long i lt, h.search.labels_long);
  };
  taken_long = h.search.taken_long;
  taken = h.search.listing;
}

module _ (ws : ℕ → ℕ → Option ℕ) (s : Assignment) (t : SearchTree) (root amount : ℕ) (h : IsSettled ws s) (f : IsFresh (length s.values.items) (length s.prices.items) root amount t) (some : 0 < amount) where
  no_taken : (g : ℕ) → is_taken t.tree_classes g ≡ true → ⊥
  no_taken g on = both_ways _ (f.tree_classes.taken g) on

  at_root : index t.reached_rows root ≡ 0
  at_root = ap (λ k. index t.reached_rows k) (sym f.at_root.root_at) ∙ f.at_root.reached_rows.at 0 (omega (arith, f.at_root.one))

  close_root : IsClose s.values.items t.reached_rows root
  close_root =
      let e : number s.values.items (row_at t.reached_rows 0) ≡ number s.values.items root = ap (λ k. number s.values.items k) f.at_root.root_at in
      record { up = omega (arith, e, at_root); down = omega (arith, e, at_root) }

  search_start : IsSearch ws (cell s.holdings.items) s.values.items s.prices.items s.residual.items t.reached_rows t.labels t.tree_classes
  search_start = record {
    reached_rows = f.at_root.reached_rows;
    listing = record {
      on = λ i lt. absurd (omega (arith, lt, ap length f.tree_classes.order));
      all = λ k on. absurd (no_taken k on);
      once = λ i j lt. absurd (omega (arith, lt, ap length f.tree_classes.order));
      counted = count_none t.tree_classes.taken.items f.tree_classes.taken ∙ sym (ap length f.tree_classes.order);
    };
    taken_long = f.tree_classes.taken_long;
    labels_long = f.labels.labels_long;
    due_long = f.labels.due_long;
    residual_long = h.residual_long;
    dual = h.dual;
    rooted = omega (arith, f.at_root.one);
    entries = λ k on deep. (let e = ap (λ x. index t.reached_rows x) (f.at_root.only k on) in absurd (omega (arith, e, deep, at_root)));
    bottlenecks = λ k on. (let e = ap (λ x. bottleneck t.reached_rows x) (f.at_root.only k on) in omega (arith, e, f.at_root.some_bottleneck, some));
    labelled = λ g n is. (let no_label : Some n ≡ None = sym is ∙ f.labels.of_class g in cc);
    listed = λ g n is. (let no_label : Some n ≡ None = sym is ∙ f.labels.of_class g in cc);
    labelled_in = λ i lt. absurd (omega (arith, lt, ap length f.labels.labelled));
    unlabelled = f.labels.due;
    seen = λ i lt. absurd (omega (arith, lt, ap length f.labels.labelled));
    due = λ g n is. (let no_label : Some n ≡ None = sym is ∙ f.labels.of_class g in cc);
    linked = λ g on. absurd (no_taken g on);
    holders = λ k g on. absurd (no_taken g on);
    free_end = λ e is. (let no_free_end : Some e ≡ None = sym is ∙ f.labels.free_end in cc);
    close = λ k on. subst (IsClose s.values.items t.reached_rows) (sym (f.at_root.only k on)) close_root;
    others_low = λ k off. h.values_low k;
    prices_low = λ g off. h.prices_low g;
    values_fit = λ k. omega (arith, h.values_low k);
    prices_fit = λ g. omega (arith, h.prices_low g);
  }

  pub running_start : IsRunning ws s t
  running_start = record { fit = h.fit; search = search_start; holdings = h.holdings }

-- once a free end is at slack 0 all values and prices are low again
module _ (ws : ℕ → ℕ → Option ℕ) (s : Assignment) (t : SearchTree) (e : FreeEnd) (h : IsFound ws s t e) where
  few : (k : ℕ) → is_reached t.reached_rows k ≡ true → index t.reached_rows k < MAX_ROWS
  few k on =
      let q = h.running.search.reached_rows in
      omega (arith, q.within k on, q.counted, count_by-le-length {X = Bool} (λ b. b) t.reached_rows.reached.items, q.reached_long, h.running.fit.few)

  reached_low : (k : ℕ) → is_reached t.reached_rows k ≡ true → number s.values.items k ≤ most
  reached_low k on =
      let x = h.running.search.free_end e h.its in
      let a = h.running.search.close k on in
      let b = h.running.search.close e.label.row x.there in
      omega (arith, a.up, b.down, few k on, few e.label.row x.there, h.equal, h.running.search.dual.zero e.class x.some_free, h.running.fit.low e.label.row e.class e.label.weight x.weighs)

  pub found_values_low : (k : ℕ) → number s.values.items k ≤ most
  found_values_low k = elim (cases_Bool (is_reached t.reached_rows k)) [
    | inl on ↦ reached_low k on
    | inr off ↦ h.running.search.others_low k off
  ]

  pub found_prices_low : (g : ℕ) → number s.prices.items g ≤ most
  found_prices_low g = elim (cases_Bool (is_taken t.tree_classes g)) [
    | inl on ↦ (let l = h.running.search.linked g on in omega (arith, l.equal, found_values_low l.label.row))
    | inr off ↦ h.running.search.prices_low g off
  ]
