-- A class is labelled, or the free end, and what a search knows stays true.
use Rattle.std.proofs.Common.{◌≡◌, ℕ, ◌+◌, ◌-◌, ◌^◌, ◌<◌, ◌≤◌, true, false, List, length, get_or, Option, Some, None, Vec, Global, refl, sym, ap, ◌∙◌, subst, inl, inr, arith}
use Rattle.std.proofs.lemmas.Bool.{cases_eq, cases_lt, both_ways}
use Rattle.transport.specs.Numbers.{number, IsIn}
use Rattle.transport.specs.ReachedRows.{is_reached, row_at}
use Rattle.transport.specs.Searches.{label_of, is_taken, AreNeverDue, HasLabel, IsLabelled, IsFreeEnd, IsSearch, IsCovered}
use Rattle.transport.specs.States.{IsRunning, HasScanned, cell}
use Rattle.transport.specs.Scans.{arc_at, IsPast, IsLimit, IsBoundOf, IsLabelledNow, IsBetter, CanImprove, CanLabelArc, CanLabelArcs, IsArcLabelled, HasLabelled, HasLabelledFrom}
use Rattle.transport.specs.declared.labels.Label.{Label}
use Rattle.transport.specs.declared.labels.FreeEnd.{FreeEnd}
use Rattle.transport.specs.declared.labels.Labels.{Labels}
use Rattle.transport.specs.declared.assignment.Assignment.{Assignment}
use Rattle.transport.specs.declared.tree.SearchTree.{SearchTree}
use Rattle.transport.specs.declared.arcs.Arc.{Arc}

some_same : (n m : Label) (o : Option Label) → o ≡ Some n → o ≡ Some m → n ≡ m
some_same n m o a b = let both : Some n ≡ Some m = sym a ∙ b in cc

module _ (ws : ℕ → ℕ → Option ℕ) (s : Assignment) (t : SearchTree) (new : SearchTree) (g : ℕ) (label : Label) (h : IsRunning ws s t)
    (reached_rows : new.reached_rows ≡ t.reached_rows) (tree_classes : new.tree_classes ≡ t.tree_classes) (n : IsLabelledNow s.values.items (number s.prices.items g + number s.values.items (row_at t.reached_rows 0)) t.labels new.labels g label)
    (there : is_reached t.reached_rows label.row ≡ true) (weighs : ws label.row g ≡ Some label.weight) (full : number s.residual.items g ≡ 0) (left : is_taken t.tree_classes g ≡ false) where
  old : IsSearch ws (cell s.holdings.items) s.values.items s.prices.items s.residual.items t.reached_rows t.labels t.tree_classes
  old = h.search

  other : (j : ℕ) → is_taken t.tree_classes j ≡ true → j ≡ g → ⊥
  other j on e = both_ways _ left (subst (λ x. is_taken t.tree_classes x ≡ true) e on)

  labelled_now : (j : ℕ) (m : Label) → label_of new.labels j ≡ Some m → IsLabelled ws s.residual.items t.reached_rows j m
  labelled_now j m is = elim (cases_eq j g) [
    | inl e ↦ at_g e
    | inr ne ↦ (let o = old.labelled j m (sym (n.others j ne) ∙ is) in record { there = o.there; weighs = o.weighs; full = o.full })
  ]
    where
      own : (x : Label) → n.now ≡ x → IsLabelled ws s.residual.items t.reached_rows g x
      own x e = elim n.choice [
        | inl new_one ↦ subst (λ y. IsLabelled ws s.residual.items t.reached_rows g y) (sym new_one ∙ e) (record { there = there; weighs = weighs; full = full })
        | inr was ↦ (let o = old.labelled g n.now was in subst (λ y. IsLabelled ws s.residual.items t.reached_rows g y) e (record { there = o.there; weighs = o.weighs; full = o.full }))
      ]

      at_g : j ≡ g → IsLabelled ws s.residual.items t.reached_rows j m
      at_g e =
          let its : label_of new.labels g ≡ Some m = subst (λ x. label_of new.labels x ≡ Some m) e is in
          subst (λ x. IsLabelled ws s.residual.items t.reached_rows x m) (sym e) (own m (some_same n.now m (label_of new.labels g) n.its its))

  listed_now : (j : ℕ) (m : Label) → label_of new.labels j ≡ Some m → is_taken t.tree_classes j ≡ false → IsIn new.labels.labelled.items j
  listed_now j m is off = elim (cases_eq j g) [
    | inl e ↦ subst (IsIn new.labels.labelled.items) (sym e) n.listed
    | inr ne ↦ n.kept j (old.listed j m (sym (n.others j ne) ∙ is) off)
  ]

  seen_now : (i : ℕ) → i < length new.labels.labelled.items → HasLabel new.labels (number new.labels.labelled.items i)
  seen_now i within = elim (n.members i within) [
    | inl was ↦ elim (cases_eq (number new.labels.labelled.items i) g) [
      | inl e ↦ at_g e
      | inr ne ↦ (let o = old.seen was.index was.within in record { label = o.label; its = n.others _ ne ∙ ap (label_of t.labels) (sym was.is) ∙ o.its })
    ]
    | inr e ↦ at_g e
  ]
    where
      at_g : number new.labels.labelled.items i ≡ g → HasLabel new.labels (number new.labels.labelled.items i)
      at_g e = record { label = n.now; its = ap (label_of new.labels) e ∙ n.its }

  due_now_at : (j : ℕ) (m : Label) → label_of new.labels j ≡ Some m → is_taken t.tree_classes j ≡ false
      → number new.labels.due.items j + number s.values.items m.row ≡ m.weight + (number s.prices.items j + number s.values.items (row_at t.reached_rows 0))
  due_now_at j m is off = elim (cases_eq j g) [
    | inl e ↦ at_g e
    | inr ne ↦ rw (n.due_others j ne) (old.due j m (sym (n.others j ne) ∙ is) off)
  ]
    where
      at_g : j ≡ g → number new.labels.due.items j + number s.values.items m.row ≡ m.weight + (number s.prices.items j + number s.values.items (row_at t.reached_rows 0))
      at_g e =
          let same : n.now ≡ m = some_same n.now m (label_of new.labels g) n.its (subst (λ x. label_of new.labels x ≡ Some m) e is) in
          rw (e, ← same) n.is_due

  unlabelled_now : AreNeverDue new.labels.of_class.items new.labels.due.items
  unlabelled_now j lt none = elim (cases_eq j g) [
    | inl e ↦ absurd (not_labelled n.now (sym n.its ∙ ap (label_of new.labels) (sym e) ∙ none))
    | inr ne ↦ n.due_others j ne ∙ old.unlabelled j (omega (arith, lt, n.long)) (sym (n.others j ne) ∙ none)
  ]
    where
      not_labelled : (m : Label) → Some m ≡ None → ⊥
      not_labelled m is = cc

  search_labelled : IsSearch ws (cell s.holdings.items) s.values.items s.prices.items s.residual.items t.reached_rows new.labels t.tree_classes
  search_labelled = record {
    reached_rows = old.reached_rows;
    listing = old.listing;
    taken_long = old.taken_long;
    labels_long = n.long ∙ old.labels_long;
    due_long = n.due_long ∙ old.due_long;
    residual_long = old.residual_long;
    dual = old.dual;
    rooted = old.rooted;
    entries = λ k on deep. (let e = old.entries k on deep in
        record { taken = e.taken; held = e.held; label = e.label; its = n.others _ (other _ e.taken) ∙ e.its; before = e.before; less = e.less });
    bottlenecks = old.bottlenecks;
    labelled = labelled_now;
    listed = listed_now;
    labelled_in = λ i within. elim (n.members i within) [
      | inl was ↦ subst (λ x. x < length s.prices.items) was.is (old.labelled_in was.index was.within)
      | inr e ↦ rw e (h.fit.class label.row g label.weight weighs)
    ];
    unlabelled = unlabelled_now;
    seen = seen_now;
    due = due_now_at;
    linked = λ j on. (let l = old.linked j on in record { label = l.label; its = n.others j (other j on) ∙ l.its; equal = l.equal });
    holders = old.holders;
    free_end = λ e is. old.free_end e (sym n.free_end ∙ is);
    close = old.close;
    others_low = old.others_low;
    prices_low = old.prices_low;
    values_fit = old.values_fit;
    prices_fit = old.prices_fit;
  }

  covered_now : (k j w : ℕ) → IsCovered s.values.items s.prices.items t.labels k j w → IsCovered s.values.items s.prices.items new.labels k j w
  covered_now k j w c = elim c [
    | inl c ↦ elim (cases_eq j g) [
      | inl e ↦ inl (record {
        label = n.now;
        its = subst (λ x. label_of new.labels x ≡ Some n.now) (sym e) n.its;
        least = omega (arith, c.least, n.better c.label (subst (λ x. label_of t.labels x ≡ Some c.label) e c.its));
      })
      | inr ne ↦ inl (record { label = c.label; its = n.others j ne ∙ c.its; least = c.least })
    ]
    | inr c ↦ inr (record { free_end = c.free_end; its = n.free_end ∙ c.its; least = c.least })
  ]

  pub better_labelled : IsBetter ws s t new
  better_labelled = record {
    running = record { fit = h.fit; search = rw (reached_rows, tree_classes) search_labelled; holdings = h.holdings };
    covers = covered_now;
    reached_rows = reached_rows;
    tree_classes = tree_classes;
  }

  -- the class itself is covered from the row
  pub covered_own : IsCovered s.values.items s.prices.items new.labels label.row g label.weight
  covered_own = inl (record { label = n.now; its = n.its; least = n.less })

-- a nearer free end
module _ (ws : ℕ → ℕ → Option ℕ) (s : Assignment) (t : SearchTree) (new : SearchTree) (e : FreeEnd) (h : IsRunning ws s t)
    (reached_rows : new.reached_rows ≡ t.reached_rows) (tree_classes : new.tree_classes ≡ t.tree_classes) (of_class : new.labels.of_class ≡ t.labels.of_class) (due : new.labels.due ≡ t.labels.due) (labelled : new.labels.labelled ≡ t.labels.labelled) (free_end : new.labels.free_end ≡ Some e)
    (there : is_reached t.reached_rows e.label.row ≡ true) (weighs : ws e.label.row e.class ≡ Some e.label.weight) (some_free : 0 < number s.residual.items e.class)
    (nearer : (o : FreeEnd) → t.labels.free_end ≡ Some o → e.label.weight + number s.values.items o.label.row ≤ o.label.weight + number s.values.items e.label.row) where
  was : IsSearch ws (cell s.holdings.items) s.values.items s.prices.items s.residual.items t.reached_rows t.labels t.tree_classes
  was = h.search

  label_same : (j : ℕ) → label_of new.labels j ≡ label_of t.labels j
  label_same j = ap (λ (v : Vec (Option Label) Global). get_or v.items j None) of_class

  free_end_same : (f : FreeEnd) → new.labels.free_end ≡ Some f → e ≡ f
  free_end_same f is = let both : Some e ≡ Some f = sym free_end ∙ is in cc

  search_free_end : IsSearch ws (cell s.holdings.items) s.values.items s.prices.items s.residual.items t.reached_rows new.labels t.tree_classes
  search_free_end = record {
    reached_rows = was.reached_rows;
    listing = was.listing;
    taken_long = was.taken_long;
    labels_long = ap (λ (v : Vec (Option Label) Global). length v.items) of_class ∙ was.labels_long;
    due_long = ap (λ (v : Vec ℕ Global). length v.items) due ∙ was.due_long;
    residual_long = was.residual_long;
    dual = was.dual;
    rooted = was.rooted;
    entries = λ k on deep. (let x = was.entries k on deep in record { taken = x.taken; held = x.held; label = x.label; its = label_same _ ∙ x.its; before = x.before; less = x.less });
    bottlenecks = was.bottlenecks;
    labelled = λ j m is. (let o = was.labelled j m (sym (label_same j) ∙ is) in record { there = o.there; weighs = o.weighs; full = o.full });
    listed = λ j m is off. rw labelled (was.listed j m (sym (label_same j) ∙ is) off);
    labelled_in = rw labelled was.labelled_in;
    seen = subst (λ (v : Vec ℕ Global). (i : ℕ) → i < length v.items → HasLabel new.labels (number v.items i)) (sym labelled) (λ i lt. (let o = was.seen i lt in record { label = o.label; its = label_same _ ∙ o.its }));
    unlabelled = λ j lt none. ap (λ (v : Vec ℕ Global). number v.items j) due ∙ was.unlabelled j (omega (arith, lt, ap (λ (v : Vec (Option Label) Global). length v.items) of_class)) (sym (label_same j) ∙ none);
    due = rw due (λ j m is off. was.due j m (sym (label_same j) ∙ is) off);
    linked = λ j on. (let l = was.linked j on in record { label = l.label; its = label_same j ∙ l.its; equal = l.equal });
    holders = was.holders;
    free_end = λ f is. subst (IsFreeEnd ws s.residual.items t.reached_rows) (free_end_same f is) (record { there = there; weighs = weighs; some_free = some_free });
    close = was.close;
    others_low = was.others_low;
    prices_low = was.prices_low;
    values_fit = was.values_fit;
    prices_fit = was.prices_fit;
  }

  covered_free_end : (k j w : ℕ) → IsCovered s.values.items s.prices.items t.labels k j w → IsCovered s.values.items s.prices.items new.labels k j w
  covered_free_end k j w c = elim c [
    | inl c ↦ inl (record { label = c.label; its = label_same j ∙ c.its; least = c.least })
    | inr c ↦ inr (record { free_end = e; its = free_end; least = omega (arith, c.least, nearer c.free_end c.its) })
  ]

  pub better_free_end : IsBetter ws s t new
  better_free_end = record {
    running = record { fit = h.fit; search = rw (reached_rows, tree_classes) search_free_end; holdings = h.holdings };
    covers = covered_free_end;
    reached_rows = reached_rows;
    tree_classes = tree_classes;
  }

-- a class at the limit is covered by the free end
pub covered_past : (s : Assignment) (ns : Labels) (k g w : ℕ) (free_end : Option FreeEnd) (limit : Option ℕ) → ns.free_end ≡ free_end → IsLimit s.values.items k free_end limit → IsPast limit (w + number s.prices.items g)
    → IsCovered s.values.items s.prices.items ns k g w
covered_past s ns k g w None None is l past = absurd past
covered_past s ns k g w None (Some x) is l past = absurd l
covered_past s ns k g w (Some e) None is l past = absurd l
covered_past s ns k g w (Some e) (Some x) is l past = inr (record { free_end = e; its = is; least = omega (arith, l, past) })

pub better_same : (ws : ℕ → ℕ → Option ℕ) (s : Assignment) (t : SearchTree) → IsRunning ws s t → IsBetter ws s t t
better_same ws s t h = record { running = h; covers = λ k g w c. c; reached_rows = refl; tree_classes = refl }

-- the same tree except for its list of nearest classes
abbrev pub with_nearest : SearchTree → Vec ℕ Global → SearchTree
with_nearest t nearest = record { reached_rows = t.reached_rows; labels = t.labels; tree_classes = t.tree_classes; nearest = nearest }

pub better_listed : (ws : ℕ → ℕ → Option ℕ) (s : Assignment) (a b : SearchTree) (nearest : Vec ℕ Global) → IsBetter ws s a b → IsBetter ws s a (with_nearest b nearest)
better_listed ws s a b nearest f = record {
  running = record { fit = f.running.fit; search = f.running.search; holdings = f.running.holdings };
  covers = f.covers;
  reached_rows = f.reached_rows;
  tree_classes = f.tree_classes;
}

pub better_more : (ws : ℕ → ℕ → Option ℕ) (s : Assignment) (a b d : SearchTree) → IsBetter ws s a b → IsBetter ws s b d → IsBetter ws s a d
better_more ws s a b d f g = record {
  running = g.running;
  covers = λ k j w c. g.covers k j w (f.covers k j w c);
  reached_rows = g.reached_rows ∙ f.reached_rows;
  tree_classes = g.tree_classes ∙ f.tree_classes;
}

pub scanned_better : (ws : ℕ → ℕ → Option ℕ) (s : Assignment) (old new : SearchTree) (upto : ℕ) → IsBetter ws s old new → HasScanned ws s old upto → HasScanned ws s new upto
scanned_better ws s old new upto b all = rw (b.reached_rows, b.tree_classes) (record { covered = λ k j w on here its off. b.covers k j w (all.covered k j w on here its off) })

-- the class of an arc is labelled
pub arc_labelled : (ws : ℕ → ℕ → Option ℕ) (s : Assignment) (t new : SearchTree) (k : ℕ) (arc : Arc) → CanLabelArc ws s t k arc → new.reached_rows ≡ t.reached_rows → new.tree_classes ≡ t.tree_classes
    → IsLabelledNow s.values.items (number s.prices.items arc.class + number s.values.items (row_at t.reached_rows 0)) t.labels new.labels arc.class (record { row = k; weight = arc.weight }) → IsArcLabelled ws s k t new arc
arc_labelled ws s t new k arc can reached_rows tree_classes n = record {
  better = better_labelled ws s t new arc.class _ can.running reached_rows tree_classes n can.there can.weighs can.full can.left;
  free_end = n.free_end;
  own = covered_own ws s t new arc.class _ can.running reached_rows tree_classes n can.there can.weighs can.full can.left;
}

pub past_of : (limit : Option ℕ) (bound w : ℕ) → IsBoundOf limit bound → w < 2 ^ 64 - 1 → bound ≤ w → IsPast limit w
past_of None bound w is small le = omega (arith, is, small, le)
past_of (Some limit) bound w is small le = omega (arith, is, le)

pub past_rise : (o : Option ℕ) (v w : ℕ) → v ≤ w → IsPast o v → IsPast o w
past_rise None v w le h = h
past_rise (Some x) v w le h = omega (arith, h, le)

-- the class of an arc can be labelled from the row, by the values of the scan
pub can_improve : (ws : ℕ → ℕ → Option ℕ) (s : Assignment) (t : SearchTree) (k : ℕ) (arc : Arc) (due : ℕ) → CanLabelArc ws s t k arc → due + number s.values.items k ≡ arc.weight + (number s.prices.items arc.class + number s.values.items (row_at t.reached_rows 0))
    → CanImprove s.values.items (number s.prices.items arc.class + number s.values.items (row_at t.reached_rows 0)) t.labels arc.class (record { row = k; weight = arc.weight }) due
can_improve ws s t k arc due can is_due = record {
  class = omega (arith, can.running.fit.class k arc.class arc.weight can.weighs, can.running.search.labels_long);
  due_class = omega (arith, can.running.fit.class k arc.class arc.weight can.weighs, can.running.search.due_long);
  is_due = is_due;
  before = λ n is. can.running.search.due arc.class n is can.left;
  unlabelled = λ none. (let is_never = can.running.search.unlabelled arc.class (omega (arith, can.running.fit.class k arc.class arc.weight can.weighs, can.running.search.labels_long)) none in
      omega (arith, is_never, is_due, can.running.fit.low k arc.class arc.weight can.weighs, can.running.search.prices_fit arc.class, can.running.search.values_fit (row_at t.reached_rows 0)));
  listed = λ n is. can.running.search.listed arc.class n is can.left;
}

pub limit_same : (values : List ℕ) (k : ℕ) (a b : Option FreeEnd) (limit : Option ℕ) → b ≡ a → IsLimit values k a limit → IsLimit values k b limit
limit_same values k a b limit e h = subst (λ x. IsLimit values k x limit) (sym e) h

-- ---- arc by arc

pub others_start : (ws : ℕ → ℕ → Option ℕ) (s : Assignment) (t : SearchTree) (k : ℕ) (arcs : List Arc) (from : ℕ) → IsRunning ws s t → HasLabelledFrom ws s k t t arcs from from
others_start ws s t k arcs from h = record { better = better_same ws s t h; free_end = refl; each = λ i above lt. absurd (omega (arith, above, lt)) }

pub others_more : (ws : ℕ → ℕ → Option ℕ) (s : Assignment) (a b d : SearchTree) (k : ℕ) (arcs : List Arc) (from i : ℕ) → HasLabelledFrom ws s k a b arcs from i → IsArcLabelled ws s k b d (arc_at arcs i) → HasLabelledFrom ws s k a d arcs from (i + 1)
others_more ws s a b d k arcs from i h n = record {
  better = better_more ws s a b d h.better n.better;
  free_end = n.free_end ∙ h.free_end;
  each = λ j above lt off. elim (cases_lt j i) [
    | inl before ↦ n.better.covers k _ _ (h.each j above before (subst (λ ts. is_taken ts (arc_at arcs j).class ≡ false) n.better.tree_classes off))
    | inr after ↦ at_end j (omega (arith, lt, after))
  ];
}
  where
    at_end : (j : ℕ) → j ≡ i → IsCovered s.values.items s.prices.items d.labels k (arc_at arcs j).class (arc_at arcs j).weight
    at_end j e = subst (λ x. IsCovered s.values.items s.prices.items d.labels k (arc_at arcs x).class (arc_at arcs x).weight) (sym e) n.own

-- an arc more, whose class is taken up
pub others_taken : (ws : ℕ → ℕ → Option ℕ) (s : Assignment) (a b : SearchTree) (k : ℕ) (arcs : List Arc) (from i : ℕ) → HasLabelledFrom ws s k a b arcs from i → is_taken b.tree_classes (arc_at arcs i).class ≡ true → HasLabelledFrom ws s k a b arcs from (i + 1)
others_taken ws s a b k arcs from i h on = record {
  better = h.better;
  free_end = h.free_end;
  each = λ j above lt off. elim (cases_lt j i) [
    | inl before ↦ h.each j above before off
    | inr after ↦ absurd (at_end j (omega (arith, lt, after)) off)
  ];
}
  where
    at_end : (j : ℕ) → j ≡ i → is_taken b.tree_classes (arc_at arcs j).class ≡ false → ⊥
    at_end j e off = both_ways _ (subst (λ x. is_taken b.tree_classes (arc_at arcs x).class ≡ false) e off) on

-- the rest lies past the free end
pub others_past : (ws : ℕ → ℕ → Option ℕ) (s : Assignment) (a b : SearchTree) (k : ℕ) (arcs : List Arc) (from i upto : ℕ) (limit : Option ℕ) → HasLabelledFrom ws s k a b arcs from i → IsLimit s.values.items k b.labels.free_end limit
    → ((j : ℕ) → i ≤ j → j < upto → IsPast limit (arc_at arcs j).weight) → HasLabelledFrom ws s k a b arcs from upto
others_past ws s a b k arcs from i upto limit h l past = record {
  better = h.better;
  free_end = h.free_end;
  each = λ j above lt off. elim (cases_lt j i) [
    | inl before ↦ h.each j above before off
    | inr after ↦ covered_past s b.labels k _ _ b.labels.free_end limit refl l (past_more limit (arc_at arcs j).weight (number s.prices.items (arc_at arcs j).class) (past j after lt))
  ];
}
  where
    past_more : (o : Option ℕ) (w p : ℕ) → IsPast o w → IsPast o (w + p)
    past_more None w p h = h
    past_more (Some x) w p h = omega (arith, h)

pub arc_can : (ws : ℕ → ℕ → Option ℕ) (s : Assignment) (a b : SearchTree) (k : ℕ) (arcs : List Arc) (from upto i : ℕ) → CanLabelArcs ws s a k arcs upto → HasLabelledFrom ws s k a b arcs from i → i < upto → is_taken b.tree_classes (arc_at arcs i).class ≡ false
    → CanLabelArc ws s b k (arc_at arcs i)
arc_can ws s a b k arcs from upto i can h lt off = record {
  running = h.better.running;
  there = subst (λ q. is_reached q k ≡ true) (sym h.better.reached_rows) can.there;
  weighs = can.weighs i lt;
  full = can.full i lt;
  left = off;
}

-- the first arcs were labelled, and then those behind them
pub labelled_all : (ws : ℕ → ℕ → Option ℕ) (s : Assignment) (a b d : SearchTree) (k : ℕ) (arcs : List Arc) (from upto : ℕ) → HasLabelled ws s k a b arcs from → HasLabelledFrom ws s k b d arcs from upto → HasLabelled ws s k a d arcs upto
labelled_all ws s a b d k arcs from upto h n = record {
  better = better_more ws s a b d h.better n.better;
  free_end = n.free_end ∙ h.free_end;
  each = λ i lt off. elim (cases_lt i from) [
    | inl before ↦ n.better.covers k _ _ (h.each i before (subst (λ ts. is_taken ts (arc_at arcs i).class ≡ false) n.better.tree_classes off))
    | inr after ↦ n.each i after lt off
  ];
}

-- all arcs from the first one on were labelled
pub labelled_from_first : (ws : ℕ → ℕ → Option ℕ) (s : Assignment) (a d : SearchTree) (k : ℕ) (arcs : List Arc) (upto : ℕ) → HasLabelledFrom ws s k a d arcs 0 upto → HasLabelled ws s k a d arcs upto
labelled_from_first ws s a d k arcs upto n = record { better = n.better; free_end = n.free_end; each = λ i lt off. n.each i (omega arith) lt off }
