-- The free end, sought from one row after another.
use Rattle.std.proofs.Common.{◌≡◌, ℕ, ◌+◌, ◌-◌, ◌<◌, ◌≤◌, List, length, get_or, set, Option, Some, None, Vec, Global, sym, ap, ◌∙◌, subst, inl, inr, arith}
use Rattle.std.proofs.lemmas.Bool.{cases_eq, cases_lt}
use Rattle.std.proofs.lemmas.List.{get_or-set_same, get_or-set_other}
use Rattle.twins.specs.Kinds.{kind_at}
use Rattle.transport.specs.Numbers.{number}
use Rattle.transport.specs.ReachedRows.{row_at}
use Rattle.transport.specs.Scans.{arc_at, IsPast, IsLimit, IsFreeEndLabelled}
use Rattle.transport.specs.SortedArcs.{IsScanned, IsFoundFreeEnd}
use Rattle.transport.specs.Sought.{IsFurther, IsNoFurther, IsSought, AreSought}
use Rattle.transport.specs.Weights.{weights}
use Rattle.transport.specs.declared.arcs.Arc.{Arc}
use Rattle.transport.specs.declared.arcs.SortedArcs.{SortedArcs}
use Rattle.transport.specs.declared.assignment.Assignment.{Assignment}
use Rattle.transport.specs.declared.instance.Instance.{Instance}
use Rattle.transport.specs.declared.labels.FreeEnd.{FreeEnd}
use Rattle.transport.specs.declared.labels.Labels.{Labels}
use Rattle.transport.specs.declared.tree.ReachedRows.{ReachedRows}
use Rattle.transport.specs.declared.tree.SearchTree.{SearchTree}
use Rattle.transport.proofs.Scanning.{below_limit}

-- the same arcs, and the cursor no earlier
pub further_on : (l new : SortedArcs) → new.arcs ≡ l.arcs → l.cursor ≤ new.cursor → IsFurther l new
further_on l new arcs le = record { cursor = le; arcs = λ i lt. ap (λ (v : Vec Arc Global). arc_at v.items i) arcs }

pub further_more : (a b d : SortedArcs) → IsFurther a b → IsFurther b d → IsFurther a d
further_more a b d f g = record { cursor = omega (arith, f.cursor, g.cursor); arcs = λ i lt. g.arcs i (omega (arith, lt, f.cursor)) ∙ f.arcs i lt }

scanned_further : (ws : ℕ → Option ℕ) (l new : SortedArcs) (limit : Option ℕ) → IsFurther l new → IsScanned ws l limit → IsScanned ws new limit
scanned_further ws l new limit f h g w its = elim (h g w its) [
  | inl a ↦ inl (record {
    index = a.index;
    within = omega (arith, a.within, f.cursor);
    class = ap (λ (x : Arc). x.class) (f.arcs a.index a.within) ∙ a.class;
    weight = ap (λ (x : Arc). x.weight) (f.arcs a.index a.within) ∙ a.weight;
  })
  | inr past ↦ inr past
]

pub no_further_is : (values : List ℕ) (a b : Option FreeEnd) → b ≡ a → IsNoFurther values a b
no_further_is values None b e = tt
no_further_is values (Some o) b e = subst (λ x. IsNoFurther values (Some o) x) (sym e) (same o)
  where
    same : (x : FreeEnd) → x.label.weight + number values x.label.row ≤ x.label.weight + number values x.label.row
    same x = omega arith

-- a class below the limit takes the place of the free end
no_further_than : (values : List ℕ) (k w g : ℕ) (o : Option FreeEnd) (limit : Option ℕ) → IsLimit values k o limit → (IsPast limit w → ⊥) → IsNoFurther values o (Some (record { class = g; label = record { row = k; weight = w } }))
no_further_than values k w g None limit l below = tt
no_further_than values k w g (Some o) limit l below = below_limit values k w o limit l below

pub no_further_found : (ws : ℕ → Option ℕ) (values residual : List ℕ) (old new : Labels) (k : ℕ) (l : SortedArcs) (limit : Option ℕ) (found : Option Arc) → IsLimit values k old.free_end limit → IsFoundFreeEnd ws residual limit l found
    → IsFreeEndLabelled old new k found → IsNoFurther values old.free_end new.free_end
no_further_found ws values residual old new k l limit None at f x = no_further_is values old.free_end new.free_end (ap (λ (n : Labels). n.free_end) x)
no_further_found ws values residual old new k l limit (Some arc) at f x = subst (λ e. IsNoFurther values old.free_end e) (sym x.free_end) (no_further_than values k arc.weight arc.class old.free_end limit at f.below_limit)

-- a row stays sought as the free end comes nearer
sought_nearer : (ws : ℕ → Option ℕ) (values : List ℕ) (k : ℕ) (a b : Option FreeEnd) (l : SortedArcs) → IsNoFurther values a b → IsSought ws values k a l → IsSought ws values k b l
sought_nearer ws values k None b l n h limit at g w its = elim (h None tt g w its) [ inl a ↦ inl a | inr past ↦ absurd past ]
sought_nearer ws values k (Some o) None l n h limit at g w its = absurd n
sought_nearer ws values k (Some o) (Some e) l n h None at g w its = absurd at
sought_nearer ws values k (Some o) (Some e) l n h (Some x) at g w its =
    let y : ℕ = o.label.weight + number values k - number values o.label.row in
    let there : y + number values o.label.row ≡ o.label.weight + number values k = omega (arith, n, at) in
    elim (h (Some y) there g w its) [ inl a ↦ inl a | inr past ↦ inr (omega (arith, past, there, n, at)) ]

module _ (t : Instance) (s : Assignment) (tree new : SearchTree) (arcs_by_kind : List SortedArcs) (k : ℕ) (d0 l : SortedArcs) (reached_rows : new.reached_rows ≡ tree.reached_rows)
    (nearer : IsNoFurther s.values.items tree.labels.free_end new.labels.free_end) (lt : kind_at t.kinds.now k < length arcs_by_kind) where
  abbrev after : List SortedArcs
  after = set arcs_by_kind (kind_at t.kinds.now k) l

  -- what holds of another row, by its sorted arcs
  kept : (j : ℕ) (d : SortedArcs) → IsFurther (get_or arcs_by_kind (kind_at t.kinds.now k) d0) l → ((c : SortedArcs) → IsSought (weights t j) s.values.items j new.labels.free_end (get_or arcs_by_kind (kind_at t.kinds.now j) c))
      → IsSought (weights t j) s.values.items j new.labels.free_end (get_or after (kind_at t.kinds.now j) d)
  kept j d further h = elim (cases_eq (kind_at t.kinds.now j) (kind_at t.kinds.now k)) [
    | inl e ↦ subst (IsSought (weights t j) s.values.items j new.labels.free_end) (sym (ap (λ i. get_or after i d) e ∙ get_or-set_same arcs_by_kind (kind_at t.kinds.now k) l d lt))
        (λ limit at. scanned_further (weights t j) (get_or arcs_by_kind (kind_at t.kinds.now k) d0) l limit further
        (subst (λ i. IsScanned (weights t j) (get_or arcs_by_kind i d0) limit) e (h d0 limit at)))
    | inr ne ↦ subst (IsSought (weights t j) s.values.items j new.labels.free_end) (sym (get_or-set_other arcs_by_kind (kind_at t.kinds.now k) (kind_at t.kinds.now j) l d ne)) (h d)
  ]

  -- rows stay sought as the arcs of one of them are sought further
  pub sought_kept : (from upto : ℕ) → IsFurther (get_or arcs_by_kind (kind_at t.kinds.now k) d0) l → AreSought t s tree arcs_by_kind from upto → AreSought t s new after from upto
  sought_kept from upto further h i d above below =
      subst (λ (q : ReachedRows). IsSought (weights t (row_at q i)) s.values.items (row_at q i) new.labels.free_end (get_or after (kind_at t.kinds.now (row_at q i)) d)) (sym reached_rows)
      (kept (row_at tree.reached_rows i) d further was)
    where
      was : (c : SortedArcs) → IsSought (weights t (row_at tree.reached_rows i)) s.values.items (row_at tree.reached_rows i) new.labels.free_end (get_or arcs_by_kind (kind_at t.kinds.now (row_at tree.reached_rows i)) c)
      was c = sought_nearer (weights t (row_at tree.reached_rows i)) s.values.items (row_at tree.reached_rows i) tree.labels.free_end new.labels.free_end (get_or arcs_by_kind (kind_at t.kinds.now (row_at tree.reached_rows i)) c) nearer (h i c above below)

  -- one row more is sought
  pub sought_more : (from at : ℕ) → row_at tree.reached_rows at ≡ k → IsFurther (get_or arcs_by_kind (kind_at t.kinds.now k) d0) l → IsSought (weights t k) s.values.items k new.labels.free_end l → AreSought t s tree arcs_by_kind from at
      → AreSought t s new after from (at + 1)
  sought_more from at is further own h i d above below = elim (cases_lt i at) [
    | inl before ↦ sought_kept from at further h i d above before
    | inr behind ↦ subst (λ r. IsSought (weights t r) s.values.items r new.labels.free_end (get_or after (kind_at t.kinds.now r) d)) (sym (here (omega (arith, behind, below))))
        (subst (IsSought (weights t k) s.values.items k new.labels.free_end) (sym (get_or-set_same arcs_by_kind (kind_at t.kinds.now k) l d lt)) own)
  ]
    where
      here : i ≡ at → row_at new.reached_rows i ≡ k
      here e = ap (λ (q : ReachedRows). row_at q i) reached_rows ∙ ap (λ j. row_at tree.reached_rows j) e ∙ is

-- a row at a place of the order is sought, and stays so
pub sought_at : (t : Instance) (s : Assignment) (tree : SearchTree) (arcs_by_kind : List SortedArcs) (from upto at k : ℕ) (d : SortedArcs) → AreSought t s tree arcs_by_kind from upto → from ≤ at → at < upto → row_at tree.reached_rows at ≡ k
    → IsSought (weights t k) s.values.items k tree.labels.free_end (get_or arcs_by_kind (kind_at t.kinds.now k) d)
sought_at t s tree arcs_by_kind from upto at k d h above below is =
    subst (λ r. IsSought (weights t r) s.values.items r tree.labels.free_end (get_or arcs_by_kind (kind_at t.kinds.now r) d)) is (h at d above below)
