-- A step of a search: the least slack is raised, and something is then at slack 0.
use Rattle.std.proofs.Common.{◌≡◌, ℕ, ◌+◌, ◌-◌, ◌<◌, ◌≤◌, ◌^◌, Bool, true, false, List, length, Option, Some, None, sym, ap, ◌∙◌, subst, inl, inr, arith}
use Rattle.std.proofs.lemmas.Bool.{cases_Bool, both_ways}
use Rattle.transport.specs.Numbers.{number, IsRaised, IsEachOnce}
use Rattle.transport.specs.ReachedRows.{is_reached, bottleneck}
use Rattle.transport.specs.Searches.{label_of, is_taken, IsCovered, IsLeast, IsFreeEndAt, IsSlack, IsAttained, top, weight_limit}
use Rattle.transport.specs.States.{IsRunning, HasScanned, HasTaken, IsNoneLeft, IsLeastOf, IsSameRoot}
use Rattle.transport.specs.Answers.{IsClosed, IsNoFreeEndAt0}
use Rattle.transport.specs.declared.labels.Label.{Label}
use Rattle.transport.specs.declared.labels.FreeEnd.{FreeEnd}
use Rattle.transport.specs.declared.labels.Labels.{Labels}
use Rattle.transport.specs.declared.assignment.Assignment.{Assignment}
use Rattle.transport.specs.declared.tree.SearchTree.{SearchTree}
use Rattle.transport.specs.declared.tree.TreeClasses.{TreeClasses}
use Rattle.transport.proofs.Numbers.{raised_marked, raised_others}
use Rattle.transport.proofs.Running.{reached_lists, listed_below, labelled_in_reach, running_raised, scanned_raised}
use Rattle.std.proofs.lemmas.List.Sums.{count_by-le-length}
use Rattle.transport.specs.Scans.{IsBetter}

-- the least of the labelled classes is the least of all
pub least_of_all : (ws : ℕ → ℕ → Option ℕ) (s : Assignment) (t : SearchTree) (by : ℕ) → IsRunning ws s t → IsLeastOf s.values.items s.prices.items t.labels t.tree_classes t.labels.labelled.items t.nearest.items by → IsLeast s.values.items s.prices.items t.labels t.tree_classes by
least_of_all ws s t by h l = record {
  free_end = l.free_end;
  labelled = λ g n its off. (let p = h.search.listed g n its off in
      subst (λ x. by + number s.values.items n.row ≤ n.weight + number s.prices.items x) p.is
      (l.labelled p.index n p.within (subst (λ x. label_of t.labels x ≡ Some n) (sym p.is) its) (subst (λ x. is_taken t.tree_classes x ≡ false) (sym p.is) off)));
}

-- the free end is at the least slack, or the first that is listed
pub attained_of : (values prices : List ℕ) (ns : Labels) (ts : TreeClasses) (done nearest : List ℕ) (by : ℕ) → IsLeastOf values prices ns ts done nearest by → IsAttained values prices ns ts by
attained_of values prices ns ts done nearest by l = elim l.attained [
  | inl e ↦ inl e
  | inr some ↦ inr (number nearest 0, l.each 0 some)
]

-- where nothing is left, the reached rows have weights for classes taken up alone
pub closed : (ws : ℕ → ℕ → Option ℕ) (s : Assignment) (t : SearchTree) → IsRunning ws s t → HasScanned ws s t (length t.reached_rows.order.items) → IsNoneLeft t.labels t.tree_classes t.labels.labelled.items → IsClosed ws s t
closed ws s t h all none = record { running = h; only = only }
  where
    labelled_taken : (g : ℕ) (n : Label) → label_of t.labels g ≡ Some n → is_taken t.tree_classes g ≡ false → is_taken t.tree_classes g ≡ true
    labelled_taken g n its off =
        let p = h.search.listed g n its off in
        subst (λ x. is_taken t.tree_classes x ≡ true) p.is (none.labelled p.index n p.within (subst (λ x. label_of t.labels x ≡ Some n) (sym p.is) its))

    covered_taken : (k g w : ℕ) → IsCovered s.values.items s.prices.items t.labels k g w → is_taken t.tree_classes g ≡ false → is_taken t.tree_classes g ≡ true
    covered_taken k g w c off = elim c [
      | inl c ↦ labelled_taken g c.label c.its off
      | inr c ↦ (let no : Some c.free_end ≡ None = sym c.its ∙ none.free_end in cc)
    ]

    only : (k g w : ℕ) → is_reached t.reached_rows k ≡ true → ws k g ≡ Some w → is_taken t.tree_classes g ≡ true
    only k g w on its = elim (cases_Bool (is_taken t.tree_classes g)) [
      | inl taken ↦ taken
      | inr off ↦ covered_taken k g w (all.covered k g w on (h.search.reached_rows.within k on) its off) off
    ]

module _ (ws : ℕ → ℕ → Option ℕ) (old new : Assignment) (t : SearchTree) (by : ℕ) (h : IsRunning ws old t)
    (values : IsRaised old.values.items new.values.items t.reached_rows.order.items by) (prices : IsRaised old.prices.items new.prices.items t.tree_classes.order.items by) where
  rv : (k : ℕ) → is_reached t.reached_rows k ≡ true → number new.values.items k ≡ number old.values.items k + by
  rv = raised_marked _ _ _ _ by values (reached_lists _ t.reached_rows h.search.reached_rows)

  op : (g : ℕ) → is_taken t.tree_classes g ≡ false → number new.prices.items g ≡ number old.prices.items g
  op = raised_others _ _ _ _ by prices h.search.listing

  pub class_at_0 : (g : ℕ) (c : IsSlack old.values.items old.prices.items t.labels t.tree_classes g by) → number new.values.items c.label.row ≡ c.label.weight + number new.prices.items g
  class_at_0 g c = omega (arith, rv c.label.row (h.search.labelled g c.label c.its).there, op g c.left, c.equal)

  free_end_left : (e : FreeEnd) → t.labels.free_end ≡ Some e → is_taken t.tree_classes e.class ≡ false
  free_end_left e is = elim (cases_Bool (is_taken t.tree_classes e.class)) [
    | inl on ↦ (let l = h.search.linked e.class on in absurd (omega (arith, (h.search.labelled e.class l.label l.its).full, (h.search.free_end e is).some_free)))
    | inr off ↦ off
  ]

  pub ends_at_0 : (c : IsFreeEndAt old.values.items old.prices.items t.labels by) → number new.values.items c.free_end.label.row ≡ c.free_end.label.weight + number new.prices.items c.free_end.class
  ends_at_0 c = omega (arith, rv c.free_end.label.row (h.search.free_end c.free_end c.its).there, op c.free_end.class (free_end_left c.free_end c.its), c.equal)

  -- something more is taken up, unless the free end is at slack 0
  pub grows : (after : SearchTree) → IsLeastOf old.values.items old.prices.items t.labels t.tree_classes t.labels.labelled.items t.nearest.items by → (IsFreeEndAt old.values.items old.prices.items t.labels by → ⊥)
      → HasTaken new t after t.nearest.items → length t.tree_classes.order.items < length after.tree_classes.order.items
  grows after l no_free_end m = elim l.attained [
    | inl e ↦ absurd (no_free_end e)
    | inr some ↦ elim m.grew [ inl same ↦ absurd (stuck some same) | inr more ↦ more ]
  ]
    where
      stuck : 0 < length t.nearest.items → after.tree_classes ≡ t.tree_classes → ⊥
      stuck some same =
          let c = l.each 0 some in
          let taken = m.all 0 c.label some c.its (class_at_0 _ c) in
          both_ways _ c.left (subst (λ (ts : TreeClasses). is_taken ts (number t.nearest.items 0) ≡ true) same taken)

-- no raise is past what fits
pub raise_low : (ws : ℕ → ℕ → Option ℕ) (s : Assignment) (t : SearchTree) (by : ℕ) → IsRunning ws s t → IsAttained s.values.items s.prices.items t.labels t.tree_classes by → by ≤ weight_limit + top
raise_low ws s t by h at = elim at [
  | inl e ↦ omega (arith, e.equal, h.fit.low _ _ _ (h.search.free_end e.free_end e.its).weighs, h.search.prices_fit e.free_end.class)
  | inr c ↦ omega (arith, c.1.equal, h.fit.low _ _ _ (h.search.labelled c.0 c.1.label c.1.its).weighs, h.search.prices_fit c.0)
]

-- a whole step: a scan, a raise, and the nearest classes taken up
module _ (ws : ℕ → ℕ → Option ℕ) (s r : Assignment) (t u : SearchTree) (by : ℕ) (b : IsBetter ws s t u) (all : HasScanned ws s u (length u.reached_rows.order.items))
    (l : IsLeastOf s.values.items s.prices.items u.labels u.tree_classes u.labels.labelled.items u.nearest.items by) where
  at : IsAttained s.values.items s.prices.items u.labels u.tree_classes by
  at = attained_of _ _ _ _ _ _ by l

  pub raise_rows : (i : ℕ) → i < length u.reached_rows.order.items → number u.reached_rows.order.items i < length s.values.items
  raise_rows = listed_below u.reached_rows.order.items u.reached_rows.reached.items (length s.values.items) (reached_lists _ u.reached_rows b.running.search.reached_rows) b.running.search.reached_rows.reached_long

  pub raise_rows_once : IsEachOnce u.reached_rows.order.items
  raise_rows_once = (reached_lists _ u.reached_rows b.running.search.reached_rows).once

  pub raise_classes : (i : ℕ) → i < length u.tree_classes.order.items → number u.tree_classes.order.items i < length s.prices.items
  raise_classes = listed_below u.tree_classes.order.items u.tree_classes.taken.items (length s.prices.items) b.running.search.listing b.running.search.taken_long

  -- the nearest classes are in range
  pub nearest_in : (i : ℕ) → i < length u.nearest.items → number u.nearest.items i < length s.prices.items
  nearest_in i lt = let c = l.each i lt in (labelled_in_reach ws s u _ c.label b.running c.its).class

  pub raise_values_fit : (k : ℕ) → number s.values.items k + by < 2 ^ 64
  raise_values_fit k = omega (arith, b.running.search.values_fit k, raise_low ws s u by b.running at)

  pub raise_prices_fit : (g : ℕ) → number s.prices.items g + by < 2 ^ 64
  raise_prices_fit g = omega (arith, b.running.search.prices_fit g, raise_low ws s u by b.running at)

  module _ (values : IsRaised s.values.items r.values.items u.reached_rows.order.items by) (prices : IsRaised s.prices.items r.prices.items u.tree_classes.order.items by)
      (residual : r.residual ≡ s.residual) (holdings : r.holdings ≡ s.holdings) where
    pub step_raised : IsRunning ws r u
    step_raised = running_raised ws s r u by b.running all (least_of_all ws s u by b.running l) at values prices residual holdings

    pub step_scanned : HasScanned ws r u (length u.reached_rows.order.items)
    step_scanned = scanned_raised ws s r u by b.running all (least_of_all ws s u by b.running l) at values prices residual holdings

    module _ (v : SearchTree) (m : HasTaken r u v u.nearest.items) where
      pub step_running : IsRunning ws r v
      step_running = m.running ws step_raised

      pub step_scanned_on : HasScanned ws r v (length u.reached_rows.order.items)
      step_scanned_on = m.scanned ws (length u.reached_rows.order.items) (omega arith) step_raised step_scanned

      pub step_root : (start : SearchTree) → IsSameRoot start.reached_rows t.reached_rows → IsSameRoot start.reached_rows v.reached_rows
      step_root start a =
          let e = m.root ws step_raised in
          let c : IsSameRoot t.reached_rows v.reached_rows = subst (λ q. IsSameRoot q v.reached_rows) b.reached_rows e in
          record { row = c.row ∙ a.row; bottlenecks = subst (λ k. bottleneck v.reached_rows k ≡ bottleneck t.reached_rows k) a.row c.bottlenecks ∙ a.bottlenecks }

      pub step_smaller : IsNoFreeEndAt0 r u → length r.prices.items - length v.tree_classes.order.items < length s.prices.items - length t.tree_classes.order.items
      step_smaller none =
          let more = grows ws s r u by b.running values prices v l (λ x. none x.free_end x.its (ends_at_0 ws s r u by b.running values prices x)) m in
          let w = step_running.search in
          omega (arith, more, ap (λ (ts : TreeClasses). length ts.order.items) b.tree_classes, prices.long, w.listing.counted, w.taken_long, count_by-le-length {X = Bool} (λ x. x) v.tree_classes.taken.items)
