-- A class is taken up, and its holders are reached.
use Rattle.std.proofs.Common.{◌≡◌, ℕ, ◌+◌, ◌<◌, ◌≤◌, Bool, true, false, List, [], ◌∷◌, ◌++◌, length, set, Option, Some, ◌⊎◌, sym, ap, ◌∙◌, subst, inl, inr, arith}
use Rattle.std.proofs.lemmas.List.{length-set, length_push, get_or-set_same, get_or-set_other, get_or_append_left, get_or_push}
use Rattle.std.proofs.lemmas.Bool.{cases_lt, cases_Bool, both_ways}
use Rattle.transport.specs.Numbers.{number, is_marked, IsIn, IsListing}
use Rattle.twins.specs.Holdings.{share_of}
use Rattle.transport.specs.ReachedRows.{IsReachedRows, IsGrown, is_reached, parent_class, bottleneck, index, row_at}
use Rattle.transport.specs.Searches.{label_of, is_taken, IsLabelled, IsLinked, IsEntered, IsClose, IsSearch, AllCovered, IsTaken, AreWeights}
use Rattle.twins.specs.declared.holders.Share.{Share}
use Rattle.transport.specs.declared.tree.ReachedRows.{ReachedRows}
use Rattle.transport.specs.declared.labels.Label.{Label}
use Rattle.transport.specs.declared.labels.Labels.{Labels}
use Rattle.transport.specs.declared.tree.TreeClasses.{TreeClasses}
use Rattle.transport.proofs.Numbers.{in_push, in_last}
use Rattle.transport.proofs.ReachedRowsLemmas.{count-set, marked_more}

pub listing_push :
    (order : List ℕ) (marks : List Bool) (g : ℕ) → IsListing order marks → g < length marks → is_marked marks g ≡ false
    → IsListing (order ++ g ∷ []) (set marks g true)
listing_push order marks g h lt off = record {
  on = λ i within. elim (cases_lt i (length order)) [ inl before ↦ on_before i before | inr after ↦ on_last i (omega (arith, length_push order g, within)) ];
  all = λ k on. elim (marked_more marks g k on) [ inl e ↦ subst (IsIn (order ++ g ∷ [])) (sym e) (in_last order g) | inr before ↦ in_push order g k (h.all k before) ];
  once = once;
  counted = count-set marks g lt off ∙ ap (λ n. n + 1) h.counted ∙ sym (length_push order g);
}
  where
    other : (i : ℕ) → i < length order → number order i ≡ g → ⊥
    other i before e = both_ways (is_marked marks g) off (subst (λ n. is_marked marks n ≡ true) e (h.on i before))

    at_before : (i : ℕ) → i < length order → number (order ++ g ∷ []) i ≡ number order i
    at_before i before = get_or_append_left order (g ∷ []) 0 i before

    at_last : (i : ℕ) → i ≡ length order → number (order ++ g ∷ []) i ≡ g
    at_last i e = get_or_push order g 0 i (sym e)

    on_before : (i : ℕ) → i < length order → is_marked (set marks g true) (number (order ++ g ∷ []) i) ≡ true
    on_before i before = rw (at_before i before) (get_or-set_other marks g (number order i) true false (other i before) ∙ h.on i before)

    on_last : (i : ℕ) → i ≡ length order → is_marked (set marks g true) (number (order ++ g ∷ []) i) ≡ true
    on_last i e = rw (at_last i e) (get_or-set_same marks g true false lt)

    once : (i j : ℕ) → i < length (order ++ g ∷ []) → j < length (order ++ g ∷ []) → number (order ++ g ∷ []) i ≡ number (order ++ g ∷ []) j → i ≡ j
    once i j a b e = elim (cases_lt i (length order)) [
      | inl i_before ↦ elim (cases_lt j (length order)) [
        | inl j_before ↦ h.once i j i_before j_before (sym (at_before i i_before) ∙ e ∙ at_before j j_before)
        | inr j_after ↦ absurd (other i i_before (sym (at_before i i_before) ∙ e ∙ at_last j (omega (arith, length_push order g, b))))
      ]
      | inr i_after ↦ elim (cases_lt j (length order)) [
        | inl j_before ↦ absurd (other j j_before (sym (at_before j j_before) ∙ sym e ∙ at_last i (omega (arith, length_push order g, a))))
        | inr j_after ↦ omega (arith, length_push order g, a, b)
      ]
    ]

module _ (ws : ℕ → ℕ → Option ℕ) (cells : ℕ → ℕ → ℕ) (values prices residual : List ℕ) (q r : ReachedRows) (ns : Labels) (ts us : TreeClasses) (g : ℕ) (n : Label) (shares : List Share)
    (fit : AreWeights ws (length values) (length prices)) (s : IsSearch ws cells values prices residual q ns ts) (its : label_of ns g ≡ Some n) (left : is_taken ts g ≡ false)
    (equal : number values n.row ≡ n.weight + number prices g) (taken : IsTaken ts us g)
    (reached_rows : IsReachedRows (length values) r) (grown : IsGrown q r g (bottleneck q n.row) shares shares) (held : (k : ℕ) → share_of k shares ≡ cells k g) (in_range : g < length prices) where
  label : IsLabelled ws residual q g n
  label = s.labelled g n its

  now_taken : is_taken us g ≡ true
  now_taken = rw taken.taken (get_or-set_same ts.taken.items g true false (omega (arith, s.taken_long, in_range)))

  other_class : (h : ℕ) → is_taken ts h ≡ true → h ≡ g → ⊥
  other_class h on e = both_ways (is_taken ts g) left (subst (λ x. is_taken ts x ≡ true) e on)

  still_taken : (h : ℕ) → is_taken ts h ≡ true → is_taken us h ≡ true
  still_taken h on = rw taken.taken (get_or-set_other ts.taken.items g h true false (other_class h on) ∙ on)

  pub taken_cases : (h : ℕ) → is_taken us h ≡ true → (h ≡ g) ⊎ (is_taken ts h ≡ true)
  taken_cases h on = marked_more ts.taken.items g h (rw taken.taken at on)

  was_left : (h : ℕ) → is_taken us h ≡ false → is_taken ts h ≡ false
  was_left h off = elim (cases_Bool (is_taken ts h)) [ inl on ↦ absurd (both_ways _ off (still_taken h on)) | inr not ↦ not ]

  was_out : (k : ℕ) → is_reached r k ≡ false → is_reached q k ≡ false
  was_out k off = elim (cases_Bool (is_reached q k)) [ inl on ↦ absurd (both_ways _ off (grown.kept k on).reached) | inr not ↦ not ]

  label_place : index q n.row < length q.order.items
  label_place = s.reached_rows.within n.row label.there

  entered_old : (k : ℕ) → is_reached q k ≡ true → 0 < index r k → IsEntered cells r ns us k
  entered_old k on deep =
      let kept = grown.kept k on in
      let e = s.entries k on (omega (arith, kept.indices, deep)) in
      let before = grown.kept e.label.row (s.labelled (parent_class q k) e.label e.its).there in
      record {
        taken = rw kept.by (still_taken _ e.taken);
        held = rw (kept.by, kept.bottlenecks) e.held;
        label = e.label;
        its = rw kept.by e.its;
        before = omega (arith, e.before, before.indices, kept.indices);
        less = omega (arith, e.less, before.bottlenecks, kept.bottlenecks);
      }

  entered_new : (k : ℕ) → is_reached q k ≡ false → is_reached r k ≡ true → IsEntered cells r ns us k
  entered_new k not on =
      let f = grown.fresh k not on in
      let before = grown.kept n.row label.there in
      record {
        taken = rw f.by now_taken;
        held = rw f.by (omega (arith, f.bottlenecks, held k));
        label = n;
        its = rw f.by its;
        before = omega (arith, f.later, before.indices, label_place);
        less = omega (arith, f.bottlenecks, before.bottlenecks);
      }

  pub root_same : row_at r 0 ≡ row_at q 0
  root_same =
      let on = s.reached_rows.on 0 s.rooted in
      let kept = grown.kept (row_at q 0) on in
      let zero : index r (row_at q 0) ≡ 0 = kept.indices ∙ s.reached_rows.at 0 s.rooted in
      ap (λ i. row_at r i) (sym zero) ∙ reached_rows.placed (row_at q 0) kept.reached

  close_old : (k : ℕ) → is_reached q k ≡ true → IsClose values r k
  close_old k on =
      let c = s.close k on in
      let kept = grown.kept k on in
      record { up = rw (root_same, kept.indices) c.up; down = rw (root_same, kept.indices) c.down }

  close_new : (k : ℕ) → is_reached q k ≡ false → is_reached r k ≡ true → IsClose values r k
  close_new k not on =
      let f = grown.fresh k not on in
      let t = s.dual.tight k g (omega (arith, f.bottlenecks, f.some_bottleneck, held k)) in
      let c = s.close n.row label.there in
      let low = fit.low k g t.weight t.its in
      let label_low = fit.low n.row g n.weight label.weighs in
      record {
        up = rw root_same (omega (arith, c.up, t.equal, equal, low, label_low, f.later, label_place));
        down = rw root_same (omega (arith, c.down, t.equal, equal, low, label_low, f.later, label_place));
      }

  pub search_taken : IsSearch ws cells values prices residual r ns us
  search_taken = record {
    reached_rows = reached_rows;
    listing = rw (taken.taken, taken.order) (listing_push ts.order.items ts.taken.items g s.listing (omega (arith, s.taken_long, in_range)) left);
    taken_long = ap length taken.taken ∙ length-set _ _ _ ∙ s.taken_long;
    labels_long = s.labels_long;
    due_long = s.due_long;
    residual_long = s.residual_long;
    dual = s.dual;
    rooted = omega (arith, s.rooted, grown.longer);
    entries = λ k on deep. elim (cases_Bool (is_reached q k)) [ inl was ↦ entered_old k was deep | inr not ↦ entered_new k not on ];
    bottlenecks = λ k on. elim (cases_Bool (is_reached q k)) [
      | inl was ↦ omega (arith, s.bottlenecks k was, (grown.kept k was).bottlenecks)
      | inr not ↦ (grown.fresh k not on).some_bottleneck
    ];
    labelled = λ h m is. (let o = s.labelled h m is in record { there = (grown.kept m.row o.there).reached; weighs = o.weighs; full = o.full });
    listed = λ h m is off. s.listed h m is (was_left h off);
    labelled_in = s.labelled_in;
    unlabelled = s.unlabelled;
    seen = s.seen;
    due = λ h m is off. rw root_same (s.due h m is (was_left h off));
    linked = λ h on. elim (taken_cases h on) [
      | inl e ↦ subst (IsLinked values prices ns) (sym e) (record { label = n; its = its; equal = equal })
      | inr was ↦ s.linked h was
    ];
    holders = λ k h on some. elim (taken_cases h on) [
      | inl e ↦ grown.held k (omega (arith, held k, subst (λ x. 0 < cells k x) e some))
      | inr was ↦ (grown.kept k (s.holders k h was some)).reached
    ];
    free_end = λ e is. (let o = s.free_end e is in record { there = (grown.kept e.label.row o.there).reached; weighs = o.weighs; some_free = o.some_free });
    close = λ k on. elim (cases_Bool (is_reached q k)) [ inl was ↦ close_old k was | inr not ↦ close_new k not on ];
    others_low = λ k off. s.others_low k (was_out k off);
    prices_low = λ h off. s.prices_low h (was_left h off);
    values_fit = s.values_fit;
    prices_fit = s.prices_fit;
  }

  -- a row that is newly reached was not scanned yet
  pub covered_taken : (scanned : ℕ) → scanned ≤ length q.order.items → AllCovered ws values prices q ns ts scanned → AllCovered ws values prices r ns us scanned
  covered_taken scanned less all = record {
    covered = λ k h w on here weighs off. elim (cases_Bool (is_reached q k)) [
      | inl was ↦ all.covered k h w was (omega (arith, here, (grown.kept k was).indices)) weighs (was_left h off)
      | inr not ↦ absurd (omega (arith, here, (grown.fresh k not on).later, less))
    ];
  }
