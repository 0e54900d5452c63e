-- A scan of a row: the free end, and the classes that are nearer.
use Rattle.std.proofs.Common.{◌≡◌, ℕ, ◌+◌, ◌<◌, ◌≤◌, true, false, List, length, get_or, set, Option, Some, None, slice_get, refl, sym, ap, ◌∙◌, subst, inl, inr, arith}
use Rattle.std.proofs.lemmas.Bool.{cases_eq, cases_lt}
use Rattle.std.proofs.lemmas.List.{get_or_read, length-set, get_or-set_same, get_or-set_other}
use Rattle.std.proofs.lemmas.Option.{slice_get-get_or, get_or_from_slice_get, slice_get_within}
use Rattle.certificate.specs.declared.rows.Offer.{Offer}
use Rattle.transport.specs.Numbers.{number}
use Rattle.transport.specs.ReachedRows.{is_reached, index, row_at}
use Rattle.transport.specs.Searches.{is_taken, IsCovered}
use Rattle.transport.specs.States.{IsRunning, HasScanned}
use Rattle.transport.specs.Scans.{IsPast, IsLimit, CanLimit, CanLabelArcs, IsBetter, HasLabelled, IsSeen, IsFreeEndLabelled, arc_at}
use Rattle.transport.specs.SortedArcs.{weight_of, IsArc, IsSortedArcs, IsScanned, IsFoundFreeEnd}
use Rattle.twins.specs.Kinds.{offers_of, kind_at, IsKindOf}
use Rattle.transport.specs.Weights.{weights, AreSortedArcs}
use Rattle.transport.specs.declared.instance.Instance.{Instance}
use Rattle.transport.specs.declared.labels.FreeEnd.{FreeEnd}
use Rattle.transport.specs.declared.assignment.Assignment.{Assignment}
use Rattle.transport.specs.declared.tree.SearchTree.{SearchTree}
use Rattle.transport.specs.declared.arcs.Arc.{Arc}
use Rattle.transport.specs.declared.arcs.SortedArcs.{SortedArcs}
use Rattle.transport.proofs.ReachedRowsLemmas.{marked_below}
use Rattle.transport.proofs.Labelling.{better_more, better_free_end, covered_past, scanned_better, past_rise}

row_below : (ws : ℕ → ℕ → Option ℕ) (s : Assignment) (t : SearchTree) (k : ℕ) → IsRunning ws s t → is_reached t.reached_rows k ≡ true → k < length s.values.items
row_below ws s t k h on = omega (arith, marked_below t.reached_rows.reached.items k on, h.search.reached_rows.reached_long)

pub can_limit : (ws : ℕ → ℕ → Option ℕ) (s : Assignment) (t : SearchTree) (k : ℕ) → IsRunning ws s t → is_reached t.reached_rows k ≡ true → CanLimit s.values.items k t.labels.free_end
can_limit ws s t k h on = record {
  row = row_below ws s t k h on;
  fits = h.search.values_fit k;
  free_end_row = λ e is. row_below ws s t e.label.row h (h.search.free_end e is).there;
  above = λ e is. (let x = h.search.free_end e is in omega (arith, h.search.dual.below e.label.row e.class e.label.weight x.weighs, h.search.dual.zero e.class x.some_free));
  light = λ e is. h.fit.low e.label.row e.class e.label.weight (h.search.free_end e is).weighs;
}

limit_once : (values : List ℕ) (k : ℕ) (e : Option FreeEnd) (a b : Option ℕ) → IsLimit values k e a → IsLimit values k e b → a ≡ b
limit_once values k None None None x y = refl
limit_once values k None None (Some b) x y = absurd y
limit_once values k None (Some a) b x y = absurd x
limit_once values k (Some e) None b x y = absurd x
limit_once values k (Some e) (Some a) None x y = absurd y
limit_once values k (Some e) (Some a) (Some b) x y = let same : a ≡ b = omega (arith, x, y) in ap Some same

pub below_limit : (values : List ℕ) (k w : ℕ) (o : FreeEnd) (limit : Option ℕ) → IsLimit values k (Some o) limit → (IsPast limit w → ⊥) → w + number values o.label.row ≤ o.label.weight + number values k
below_limit values k w o None l below = absurd l
below_limit values k w o (Some x) l below = elim (cases_lt w x) [ inl lt ↦ omega (arith, l, lt) | inr le ↦ absurd (below le) ]

-- what is known once the free end is labelled
module _ (ws : ℕ → ℕ → Option ℕ) (s : Assignment) (t new : SearchTree) (k : ℕ) (l : SortedArcs) (limit : Option ℕ) (h : IsRunning ws s t) (on : is_reached t.reached_rows k ≡ true)
    (at : IsLimit s.values.items k t.labels.free_end limit) (reached_rows : new.reached_rows ≡ t.reached_rows) (tree_classes : new.tree_classes ≡ t.tree_classes) where
  pub free_end_better : (found : Option Arc) → IsFoundFreeEnd (ws k) s.residual.items limit l found → IsFreeEndLabelled t.labels new.labels k found → IsBetter ws s t new
  free_end_better None f x = record {
    running = record { fit = h.fit; search = rw (reached_rows, x, tree_classes) h.search; holdings = h.holdings };
    covers = λ j g w c. subst (λ n. IsCovered s.values.items s.prices.items n j g w) (sym x) c;
    reached_rows = reached_rows;
    tree_classes = tree_classes;
  }
  free_end_better (Some arc) f x = better_free_end ws s t new _ h reached_rows tree_classes x.of_class x.due x.labelled x.free_end on f.weighs f.some_free nearer
    where
      nearer : (o : FreeEnd) → t.labels.free_end ≡ Some o → arc.weight + number s.values.items o.label.row ≤ o.label.weight + number s.values.items k
      nearer o is = below_limit s.values.items k arc.weight o limit (subst (λ e. IsLimit s.values.items k e limit) is at) f.below_limit

  pub free_end_scanned : (found : Option Arc) → IsFoundFreeEnd (ws k) s.residual.items limit l found → IsFreeEndLabelled t.labels new.labels k found → (limit' : Option ℕ) → IsLimit s.values.items k new.labels.free_end limit' → IsScanned (ws k) l limit'
  free_end_scanned None f x limit' at' =
      let old : IsLimit s.values.items k t.labels.free_end limit' = subst (λ n. IsLimit s.values.items k n.free_end limit') x at' in
      subst (IsScanned (ws k) l) (limit_once s.values.items k t.labels.free_end limit limit' at old) f
  free_end_scanned (Some arc) f x None at' = absurd (subst (λ e. IsLimit s.values.items k e None) x.free_end at')
  free_end_scanned (Some arc) f x (Some y) at' =
      let now : y + number s.values.items k ≡ arc.weight + number s.values.items k = subst (λ e. IsLimit s.values.items k e (Some y)) x.free_end at' in
      let same : arc.weight ≡ y = omega (arith, now) in
      subst (λ z. IsScanned (ws k) l (Some z)) same f.scanned

-- a better tree has the same rows
pub reached_still : (ws : ℕ → ℕ → Option ℕ) (s : Assignment) (old new : SearchTree) (k : ℕ) → IsBetter ws s old new → is_reached old.reached_rows k ≡ true → is_reached new.reached_rows k ≡ true
reached_still ws s old new k b on = subst (λ q. is_reached q k ≡ true) (sym b.reached_rows) on

-- the arcs before the cursor can be labelled from the row
pub arcs_can : (ws : ℕ → ℕ → Option ℕ) (s : Assignment) (t : SearchTree) (k row : ℕ) (offers : List Offer) (firsts : List ℕ) (l : SortedArcs) (arcs : List Arc) → IsSortedArcs (ws k) offers firsts s.residual.items l → IsRunning ws s t
    → is_reached t.reached_rows k ≡ true → arcs ≡ l.arcs.items → row ≡ k → CanLabelArcs ws s t row arcs l.cursor
arcs_can ws s t k row offers firsts l arcs h run there same own =
    rw (same, own) (record { running = run; there = there; weighs = λ i lt. h.arcs.sound i (omega (arith, lt, h.cursor_in)); full = h.full })

pub after_look : (ws : ℕ → ℕ → Option ℕ) (s : Assignment) (t mid new : SearchTree) (k : ℕ) (l : SortedArcs) (limit : Option ℕ) → IsBetter ws s t mid → IsScanned (ws k) l limit → IsLimit s.values.items k mid.labels.free_end limit
    → HasLabelled ws s k mid new l.arcs.items l.cursor → IsSeen ws s k t new
after_look ws s t mid new k l limit b scanned at n = record {
  better = better_more ws s t mid new b n.better;
  own = λ g w its off. elim (scanned g w its) [
    | inl a ↦ at_arc g w a off
    | inr past ↦ covered_past s new.labels k g w new.labels.free_end limit refl (subst (λ e. IsLimit s.values.items k e limit) (sym n.free_end) at) (past_rise limit w _ (omega arith) past)
  ];
}
  where
    at_arc : (g w : ℕ) → IsArc l.arcs.items l.cursor g w → is_taken new.tree_classes g ≡ false → IsCovered s.values.items s.prices.items new.labels k g w
    at_arc g w a off =
        subst (λ x. IsCovered s.values.items s.prices.items new.labels k x w) a.class
        (subst (λ y. IsCovered s.values.items s.prices.items new.labels k (arc_at l.arcs.items a.index).class y) a.weight
        (n.each a.index a.within (subst (λ x. is_taken new.tree_classes x ≡ false) (sym a.class) off)))

-- one row more was scanned
pub scanned_more : (ws : ℕ → ℕ → Option ℕ) (s : Assignment) (t new : SearchTree) (k at : ℕ) → IsRunning ws s t → row_at t.reached_rows at ≡ k → IsSeen ws s k t new → HasScanned ws s t at → HasScanned ws s new (at + 1)
scanned_more ws s t new k at h is v all = record {
  covered = λ j g w on here its off. elim (cases_lt (index new.reached_rows j) at) [
    | inl before ↦ (scanned_better ws s t new at v.better all).covered j g w on before its off
    | inr after ↦ at_end j g w on (omega (arith, here, after)) its off
  ];
}
  where
    at_end : (j g w : ℕ) → is_reached new.reached_rows j ≡ true → index new.reached_rows j ≡ at → ws j g ≡ Some w → is_taken new.tree_classes g ≡ false → IsCovered s.values.items s.prices.items new.labels j g w
    at_end j g w on e its off =
        let there : is_reached t.reached_rows j ≡ true = subst (λ q. is_reached q j ≡ true) v.better.reached_rows on in
        let where_is : index t.reached_rows j ≡ at = subst (λ q. index q j ≡ at) v.better.reached_rows e in
        let same : k ≡ j = sym is ∙ ap (λ i. row_at t.reached_rows i) (sym where_is) ∙ h.search.reached_rows.placed j there in
        subst (λ x. IsCovered s.values.items s.prices.items new.labels x g w) same (v.own g w (subst (λ x. ws x g ≡ Some w) (sym same) its) off)

pub sorted_as : (ws : ℕ → Option ℕ) (a b : List Offer) (f g u v : List ℕ) (l : SortedArcs) → a ≡ b → f ≡ g → u ≡ v → IsSortedArcs ws b g v l → IsSortedArcs ws a f u l
sorted_as ws a b f g u v l x y z h = rw (x, y, z) h

pub sorted_back : (ws : ℕ → Option ℕ) (a b : List Offer) (f g u v : List ℕ) (l : SortedArcs) → a ≡ b → f ≡ g → u ≡ v → IsSortedArcs ws a f u l → IsSortedArcs ws b g v l
sorted_back ws a b f g u v l x y z h = rw (← x, ← y, ← z) h

pub row_in : (ws : ℕ → ℕ → Option ℕ) (s : Assignment) (t : SearchTree) (k : ℕ) → IsRunning ws s t → is_reached t.reached_rows k ≡ true → k < length s.values.items
row_in ws s t k h on = row_below ws s t k h on

-- a row at a place of the order
pub row_read : (ws : ℕ → ℕ → Option ℕ) (s : Assignment) (t : SearchTree) (at k : ℕ) → IsRunning ws s t → at < length t.reached_rows.order.items → k ≡ get_or t.reached_rows.order.items at k → (row_at t.reached_rows at ≡ k) × (is_reached t.reached_rows k ≡ true)
row_read ws s t at k h lt is =
    let e : row_at t.reached_rows at ≡ k = sym (get_or_read t.reached_rows.order.items at k lt is 0) in
    (e, subst (λ x. is_reached t.reached_rows x ≡ true) e (h.search.reached_rows.on at lt))

-- the sorted arcs that a row shares with its kind
pub arcs_of_kind : (t : Instance) (residual : List ℕ) (arcs_by_kind : List SortedArcs) (k : ℕ) (d : SortedArcs) → AreSortedArcs t residual arcs_by_kind → k < length arcs_by_kind
    → IsSortedArcs (weights t k) (offers_of t.rows.now k) t.firsts residual (get_or arcs_by_kind (kind_at t.kinds.now k) d)
arcs_of_kind t residual arcs_by_kind k d h lt =
    let own = h.kinds.each k (omega (arith, lt, h.long)) in
    subst (λ o. IsSortedArcs (weight_of o t.firsts) o t.firsts residual (get_or arcs_by_kind (kind_at t.kinds.now k) d)) own.same
    (h.each (kind_at t.kinds.now k) (get_or arcs_by_kind (kind_at t.kinds.now k) d) (slice_get-get_or arcs_by_kind (kind_at t.kinds.now k) d (omega (arith, own.no_later, lt))) own.first)

pub kind_in : (t : Instance) (residual : List ℕ) (arcs_by_kind : List SortedArcs) (k : ℕ) → AreSortedArcs t residual arcs_by_kind → k < length arcs_by_kind → kind_at t.kinds.now k < length arcs_by_kind
kind_in t residual arcs_by_kind k h lt =
    let own = h.kinds.each k (omega (arith, lt, h.long)) in
    omega (arith, own.no_later, lt)

pub all_sorted_set : (t : Instance) (residual : List ℕ) (arcs_by_kind : List SortedArcs) (k : ℕ) (l : SortedArcs) → AreSortedArcs t residual arcs_by_kind → k < length arcs_by_kind
    → IsSortedArcs (weights t k) (offers_of t.rows.now k) t.firsts residual l → AreSortedArcs t residual (set arcs_by_kind (kind_at t.kinds.now k) l)
all_sorted_set t residual arcs_by_kind k l h lt own = record {
  long = length-set arcs_by_kind kind l ∙ h.long;
  kinds = h.kinds;
  each = each;
}
  where
    kind : ℕ
    kind = kind_at t.kinds.now k

    its_kind : IsKindOf t.rows.now t.kinds.now k kind
    its_kind = h.kinds.each k (omega (arith, lt, h.long))

    own_kind : IsSortedArcs (weights t kind) (offers_of t.rows.now kind) t.firsts residual l
    own_kind = subst (λ o. IsSortedArcs (weight_of o t.firsts) o t.firsts residual l) (sym its_kind.same) own

    at_kind : (j : ℕ) (m : SortedArcs) → j ≡ kind → slice_get (set arcs_by_kind kind l) j ≡ Some m → IsSortedArcs (weights t j) (offers_of t.rows.now j) t.firsts residual m
    at_kind j m e its =
        let here : get_or (set arcs_by_kind kind l) kind l ≡ m = get_or_from_slice_get (set arcs_by_kind kind l) kind m l (subst (λ x. slice_get (set arcs_by_kind kind l) x ≡ Some m) e its) in
        let same : l ≡ m = sym (get_or-set_same arcs_by_kind kind l l (omega (arith, its_kind.no_later, lt))) ∙ here in
        subst (λ x. IsSortedArcs (weights t x) (offers_of t.rows.now x) t.firsts residual m) (sym e)
        (subst (λ (y : SortedArcs). IsSortedArcs (weights t kind) (offers_of t.rows.now kind) t.firsts residual y) same own_kind)

    each : (j : ℕ) (m : SortedArcs) → slice_get (set arcs_by_kind kind l) j ≡ Some m → kind_at t.kinds.now j ≡ j → IsSortedArcs (weights t j) (offers_of t.rows.now j) t.firsts residual m
    each j m its first = elim (cases_eq j kind) [
      | inl e ↦ at_kind j m e its
      | inr ne ↦ (let here : get_or arcs_by_kind j l ≡ m = sym (get_or-set_other arcs_by_kind kind j l l ne) ∙ get_or_from_slice_get (set arcs_by_kind kind l) j m l its in
          let in_arcs : j < length arcs_by_kind = omega (arith, slice_get_within (set arcs_by_kind kind l) j m its, length-set arcs_by_kind kind l) in
          subst (λ (y : SortedArcs). IsSortedArcs (weights t j) (offers_of t.rows.now j) t.firsts residual y) here (h.each j (get_or arcs_by_kind j l) (slice_get-get_or arcs_by_kind j l in_arcs) first))
    ]
