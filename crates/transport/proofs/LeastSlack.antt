-- The least slack, class by class, and the classes that have it.
use Rattle.std.proofs.Common.{◌≡◌, ℕ, zero, suc, ◌+◌, ◌-◌, ◌<◌, ◌≤◌, Bool, false, List, [], ◌∷◌, ◌++◌, length, get_or, take, Option, Some, None, refl, sym, ap, ◌∙◌, subst, inl, inr, arith}
use Rattle.std.proofs.lemmas.List.{length-take-le, get_or-take, length_push, get_or_push, get_or_append_left, get_or_read}
use Rattle.std.proofs.lemmas.Bool.{cases_lt, both_ways}
use Rattle.transport.specs.Numbers.{number, IsIn}
use Rattle.transport.specs.ReachedRows.{row_at}
use Rattle.transport.specs.Searches.{label_of, is_taken, HasLabel, IsSlack}
use Rattle.transport.specs.States.{IsRunning, IsLeastOf, IsLeastUpTo, IsLesser, IsTakenOrUnseen}
use Rattle.transport.specs.declared.labels.Label.{Label}
use Rattle.transport.specs.declared.labels.FreeEnd.{FreeEnd}
use Rattle.transport.specs.declared.labels.Labels.{Labels}
use Rattle.transport.specs.declared.tree.TreeClasses.{TreeClasses}
use Rattle.transport.specs.declared.assignment.Assignment.{Assignment}
use Rattle.transport.specs.declared.tree.SearchTree.{SearchTree}
use Rattle.transport.proofs.Numbers.{in_push, in_last, read_mark, read_number}
use Rattle.transport.proofs.ReachedRowsLemmas.{marked_below}

-- no slack of the class is less
abbrev IsAtLeast : List ℕ → List ℕ → Labels → TreeClasses → ℕ → ℕ → Type 0
IsAtLeast values prices ns ts by g = (n : Label) → label_of ns g ≡ Some n → is_taken ts g ≡ false → by + number values n.row ≤ n.weight + number prices g

pub least_none : (values prices : List ℕ) (ns : Labels) (ts : TreeClasses) (xs nearest : List ℕ) → ns.free_end ≡ None → IsLeastUpTo values prices ns ts (take 0 xs) nearest None
least_none values prices ns ts xs nearest none = record { free_end = none; labelled = λ i n lt. absurd (omega arith) }

pub least_free_end : (values prices : List ℕ) (ns : Labels) (ts : TreeClasses) (xs nearest : List ℕ) (e : FreeEnd) (by : ℕ) → nearest ≡ [] → ns.free_end ≡ Some e → by + number values e.label.row ≡ e.label.weight + number prices e.class
    → IsLeastUpTo values prices ns ts (take 0 xs) nearest (Some by)
least_free_end values prices ns ts xs nearest e by empty is equal = record {
  free_end = λ f its. (let same : f ≡ e = (let both : Some f ≡ Some e = sym its ∙ is in cc) in
      subst (λ x. by + number values x.label.row ≤ x.label.weight + number prices x.class) (sym same) (omega (arith, equal)));
  labelled = λ i n lt. absurd (omega arith);
  each = λ i lt. absurd (omega (arith, lt, ap length empty));
  all = λ i lt. absurd (omega arith);
  attained = inl (record { free_end = e; its = is; equal = equal });
}

-- how far the root's value is from the one by which a listed class is at slack 0, as both are read
module _ (ws : ℕ → ℕ → Option ℕ) (s : Assignment) (t : SearchTree) (xs : List ℕ) (i : ℕ) (h : IsRunning ws s t) (are : xs ≡ t.labels.labelled.items) (lt : i < length xs)
    (off : Bool) (off_is : off ≡ get_or t.tree_classes.taken.items (number xs i) off) where
  seen : HasLabel t.labels (number xs i)
  seen = subst (λ ys. HasLabel t.labels (number ys i)) (sym are) (h.search.seen i (omega (arith, lt, ap length are)))

  class : number xs i < length s.prices.items
  class = subst (λ ys. number ys i < length s.prices.items) (sym are) (h.search.labelled_in i (omega (arith, lt, ap length are)))

  pub listed_taken : (b : Bool) → off ≡ b → is_taken t.tree_classes (number xs i) ≡ b
  listed_taken b is = read_mark _ _ _ _ _ class h.search.taken_long off_is is

  module _ (at root root_row : ℕ) (is_off : off ≡ false) (at_is : at ≡ get_or t.labels.due.items (number xs i) at)
      (root_at : row_at t.reached_rows 0 ≡ root_row) (root_is : root ≡ get_or s.values.items root_row root) where
    root_value : root ≡ number s.values.items (row_at t.reached_rows 0)
    root_value =
        let on = marked_below t.reached_rows.reached.items _ (h.search.reached_rows.on 0 h.search.rooted) in
        get_or_read s.values.items root_row root (subst (λ k. k < length s.values.items) root_at (omega (arith, on, h.search.reached_rows.reached_long))) root_is 0 ∙ ap (number s.values.items) (sym root_at)

    due : at + number s.values.items seen.label.row ≡ seen.label.weight + (number s.prices.items (number xs i) + number s.values.items (row_at t.reached_rows 0))
    due = omega (arith, h.search.due _ seen.label seen.its (listed_taken false is_off), read_number _ _ _ _ class h.search.due_long at_is)

    below : number s.values.items seen.label.row ≤ seen.label.weight + number s.prices.items (number xs i)
    below = h.search.dual.below _ _ _ (h.search.labelled _ seen.label seen.its).weighs

    pub root_below : root ≤ at
    root_below = omega (arith, due, below, root_value)

    pub listed_slack : IsSlack s.values.items s.prices.items t.labels t.tree_classes (number xs i) (at - root)
    listed_slack = record { label = seen.label; its = seen.its; left = listed_taken false is_off; equal = omega (arith, due, below, root_value) }

-- what holds of each class so far, and of the next
at_next : (P : ℕ → Type 0) (xs : List ℕ) (i x : ℕ) → i < length xs → x ≡ number xs i → ((j : ℕ) → j < length (take i xs) → P (number (take i xs) j)) → P x
    → (j : ℕ) → j < length (take (i + 1) xs) → P (number (take (i + 1) xs) j)
at_next P xs i x lt is before here j within = elim (cases_lt j i) [
  | inl h ↦ rw (get_or-take (i + 1) xs j 0 (omega arith)) (rw (get_or-take i xs j 0 h) at (before j (omega (arith, length-take-le i xs (omega arith), h))))
  | inr h ↦ at_end (omega (arith, within, length-take-le (i + 1) xs (omega arith)))
]
  where
    at_end : j ≡ i → P (number (take (i + 1) xs) j)
    at_end e = rw (e, get_or-take (i + 1) xs i 0 (omega arith), ← is) here

-- a class that is taken up or was not seen
pub least_skip : (values prices : List ℕ) (ns : Labels) (ts : TreeClasses) (xs nearest : List ℕ) (i x : ℕ) (least : Option ℕ) → i < length xs → x ≡ number xs i → IsTakenOrUnseen ns ts x
    → IsLeastUpTo values prices ns ts (take i xs) nearest least → IsLeastUpTo values prices ns ts (take (i + 1) xs) nearest least
least_skip values prices ns ts xs nearest i x None lt is skip h = record {
  free_end = h.free_end;
  labelled = λ j n within. at_next (IsTakenOrUnseen ns ts) xs i x lt is (λ k w m. h.labelled k m w) skip j within n;
}
least_skip values prices ns ts xs nearest i x (Some by) lt is skip h = record {
  free_end = h.free_end;
  labelled = λ j n within. at_next (IsAtLeast values prices ns ts by) xs i x lt is (λ k w m. h.labelled k m w) (λ m its off. absurd (both_ways _ off (skip m its))) j within n;
  each = h.each;
  all = at_next (λ g. IsSlack values prices ns ts g by → IsIn nearest g) xs i x lt is h.all (λ s. absurd (both_ways _ s.left (skip s.label s.its)));
  attained = h.attained;
}

-- a slack
module _ (values prices : List ℕ) (ns : Labels) (ts : TreeClasses) (xs old new : List ℕ) (i x slack by : ℕ) (lt : i < length xs) (is : x ≡ number xs i) (s : IsSlack values prices ns ts x slack) where
  here : (b : ℕ) → b ≤ slack → IsAtLeast values prices ns ts b x
  here b within m its off =
      let same : s.label ≡ m = (let both : Some s.label ≡ Some m = sym s.its ∙ its in cc) in
      let e : slack + number values m.row ≡ m.weight + number prices x = subst (λ y. slack + number values y.row ≡ y.weight + number prices x) same s.equal in
      omega (arith, e, within)

  own : by ≡ slack → IsSlack values prices ns ts x by
  own e = record { label = s.label; its = s.its; left = s.left; equal = omega (arith, s.equal, e) }

  apart : (b g : ℕ) → by < b → IsAtLeast values prices ns ts b g → IsSlack values prices ns ts g by → ⊥
  apart b g less no_less at = let le = no_less at.label at.its at.left in omega (arith, less, le, at.equal)

  least_still : by < slack → IsLeastOf values prices ns ts (take i xs) old by → IsLeastOf values prices ns ts (take (i + 1) xs) old by
  least_still less h = record {
    free_end = h.free_end;
    labelled = λ j n w. at_next (IsAtLeast values prices ns ts by) xs i x lt is (λ k v m. h.labelled k m v) (here by (omega (arith, less))) j w n;
    each = h.each;
    all = at_next (λ g. IsSlack values prices ns ts g by → IsIn old g) xs i x lt is h.all (λ at. absurd (apart slack x less (here slack (omega arith)) at));
    attained = h.attained;
  }

  least_shared : by ≡ slack → IsLeastOf values prices ns ts (take i xs) old by → IsLeastOf values prices ns ts (take (i + 1) xs) (old ++ x ∷ []) by
  least_shared e h = record {
    free_end = h.free_end;
    labelled = λ j n w. at_next (IsAtLeast values prices ns ts by) xs i x lt is (λ k v m. h.labelled k m v) (here by (omega (arith, e))) j w n;
    each = each;
    all = at_next (λ g. IsSlack values prices ns ts g by → IsIn (old ++ x ∷ []) g) xs i x lt is (λ k v at. in_push old x _ (h.all k v at)) (λ at. in_last old x);
    attained = inr (omega (arith, length_push old x));
  }
    where
      each : (j : ℕ) → j < length (old ++ x ∷ []) → IsSlack values prices ns ts (number (old ++ x ∷ []) j) by
      each j w = elim (cases_lt j (length old)) [
        | inl before ↦ rw (get_or_append_left old (x ∷ []) 0 j before) (h.each j before)
        | inr after ↦ rw (get_or_push old x 0 j (omega (arith, w, after, length_push old x))) (own e)
      ]

  less_free_end : (least : Option ℕ) → ((b : ℕ) → least ≡ Some b → by < b) → IsLeastUpTo values prices ns ts (take i xs) old least
      → (e : FreeEnd) → ns.free_end ≡ Some e → by + number values e.label.row ≤ e.label.weight + number prices e.class
  less_free_end None less h e its = let no : Some e ≡ None = sym its ∙ h.free_end in cc
  less_free_end (Some b) less h e its = omega (arith, less b refl, h.free_end e its)

  less_before : (least : Option ℕ) → ((b : ℕ) → least ≡ Some b → by < b) → IsLeastUpTo values prices ns ts (take i xs) old least
      → (j : ℕ) → j < length (take i xs) → IsAtLeast values prices ns ts (by + 1) (number (take i xs) j)
  less_before None less h j w m its off = absurd (both_ways _ off (h.labelled j m w its))
  less_before (Some b) less h j w m its off = omega (arith, less b refl, h.labelled j m w its off)

  least_less : (least : Option ℕ) → ((b : ℕ) → least ≡ Some b → by < b) → by ≡ slack → IsLeastUpTo values prices ns ts (take i xs) old least
      → IsLeastOf values prices ns ts (take (i + 1) xs) (x ∷ []) by
  least_less least less e h = record {
    free_end = less_free_end least less h;
    labelled = λ j n w. at_next (IsAtLeast values prices ns ts by) xs i x lt is (λ k v m its off. (let le = less_before least less h k v m its off in omega (arith, le))) (here by (omega (arith, e))) j w n;
    each = each;
    all = at_next (λ g. IsSlack values prices ns ts g by → IsIn (x ∷ []) g) xs i x lt is (λ k v at. absurd (apart (by + 1) _ (omega arith) (less_before least less h k v) at)) (λ at. in_last [] x);
    attained = inr (omega arith);
  }
    where
      each : (j : ℕ) → j < 1 → IsSlack values prices ns ts (number (x ∷ []) j) by
      each zero w = own e
      each (suc j) w = absurd (omega arith)

  pub least_more : (least : Option ℕ) → IsLesser least x slack old new by → IsLeastUpTo values prices ns ts (take i xs) old least → IsLeastUpTo values prices ns ts (take (i + 1) xs) new (Some by)
  least_more least c h = elim c [
    | inl a ↦ rw a.same (least_still a.less (subst (IsLeastUpTo values prices ns ts (take i xs) old) a.its h))
    | inr c ↦ elim c [
      | inl a ↦ rw a.more (least_shared a.equal (subst (IsLeastUpTo values prices ns ts (take i xs) old) a.its h))
      | inr a ↦ rw a.alone (least_less least (λ b its. omega (arith, a.before b its, a.equal)) a.equal h)
    ]
  ]

pub least_some : (values prices : List ℕ) (ns : Labels) (ts : TreeClasses) (done nearest : List ℕ) (by : ℕ) (least : Option ℕ) → least ≡ Some by → IsLeastUpTo values prices ns ts done nearest least → IsLeastOf values prices ns ts done nearest by
least_some values prices ns ts done nearest by least is h = subst (IsLeastUpTo values prices ns ts done nearest) is h
