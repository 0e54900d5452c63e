-- Reached rows, row by row.
use Rattle.std.proofs.Common.{◌≡◌, ℕ, ◌+◌, ◌<◌, ◌≤◌, min, Bool, true, false, cond, List, [], ◌∷◌, length, get_or, set, take, ◌⊎◌, refl, sym, ap, ◌∙◌, subst, inl, inr, arith}
use Rattle.std.specs.List.{count_by}
use Rattle.std.proofs.lemmas.List.{length-set, get_or-set_same, get_or-set_other, length_push, get_or_push, get_or_append_left, get_or_past}
use Rattle.std.proofs.lemmas.Option.{slice_get-get_or}
use Rattle.std.proofs.lemmas.List.Sums.{sum_by-set, sum_by_more, get_or-le-sum_by}
use Rattle.std.proofs.lemmas.Bool.{cases_eq, cases_lt, eq-eqb, ne_eqb, both_ways}
use Rattle.transport.specs.Numbers.{is_marked, IsEachOnce}
use Rattle.twins.specs.Holdings.{share_of}
use Rattle.transport.specs.Shares.{amount_of, AllBelow, holders_of}
use Rattle.transport.specs.ReachedRows.{IsReachedRows, IsReached, IsKept, IsNewRow, IsGrown, is_reached, bottleneck, index, row_at}
use Rattle.twins.specs.declared.holders.Share.{Share}
use Rattle.transport.specs.declared.tree.ReachedRows.{ReachedRows}
use Rattle.transport.proofs.Holders.{share_once}

pub marked_below : (bs : List Bool) (k : ℕ) → is_marked bs k ≡ true → k < length bs
marked_below bs k h = elim (cases_lt k (length bs)) [
  | inl lt ↦ lt
  | inr past ↦ absurd (both_ways _ (get_or_past bs k false past) h)
]

pub count-set : (bs : List Bool) (k : ℕ) → k < length bs → is_marked bs k ≡ false → count_by (λ b. b) (set bs k true) ≡ count_by (λ b. b) bs + 1
count-set bs k lt off =
    let e = sum_by-set (λ b. cond b 1 0) bs k true false lt in
    let z : ◌≡◌ {A = ℕ} (cond (get_or bs k false) 1 0) 0 = ap (λ b. cond {A = ℕ} b 1 0) off in
    omega (arith, e, z)

-- after one more mark: the row itself, and the others
pub marked_more : (bs : List Bool) (k j : ℕ) → is_marked (set bs k true) j ≡ true → (j ≡ k) ⊎ (is_marked bs j ≡ true)
marked_more bs k j h = elim (cases_eq j k) [ inl e ↦ inl e | inr ne ↦ inr (sym (get_or-set_other bs k j true false ne) ∙ h) ]

module _ (rows : ℕ) (old new : ReachedRows) (k g amount : ℕ) (q : IsReachedRows rows old) (lt : k < rows) (off : is_reached old k ≡ false) (r : IsReached old new k g amount) where
  long : length new.order.items ≡ length old.order.items + 1
  long = ap length r.order ∙ length_push old.order.items k

  here : is_reached new k ≡ true
  here = rw r.reached (get_or-set_same old.reached.items k true false (omega (arith, q.reached_long)))

  index_here : index new k ≡ length old.order.items
  index_here = rw r.indices (get_or-set_same old.index.items k _ 0 (omega (arith, q.index_long)))

  other : (j : ℕ) → is_reached old j ≡ true → j ≡ k → ⊥
  other j on e = both_ways (is_reached old k) off (subst (λ n. is_reached old n ≡ true) e on)

  index_other : (j : ℕ) → (j ≡ k → ⊥) → index new j ≡ index old j
  index_other j ne = rw r.indices (get_or-set_other old.index.items k j _ 0 ne)

  row_before : (i : ℕ) → i < length old.order.items → row_at new i ≡ row_at old i
  row_before i h = rw r.order (get_or_append_left old.order.items (k ∷ []) 0 i h)

  row_last : row_at new (length old.order.items) ≡ k
  row_last = rw r.order (get_or_push old.order.items k 0 _ refl)

  stays : (j : ℕ) → is_reached old j ≡ true → is_reached new j ≡ true
  stays j on = rw r.reached (get_or-set_other old.reached.items k j true false (other j on) ∙ on)

  split : (j : ℕ) → is_reached new j ≡ true → (j ≡ k) ⊎ (is_reached old j ≡ true)
  split j on = marked_more old.reached.items k j (rw r.reached at on)

  on_new : (i : ℕ) → i < length new.order.items → is_reached new (row_at new i) ≡ true
  on_new i h = elim (cases_lt i (length old.order.items)) [
    | inl before ↦ rw (row_before i before) (stays _ (q.on i before))
    | inr after ↦ at_last i (omega (arith, long))
  ]
    where
      at_last : (i : ℕ) → i ≡ length old.order.items → is_reached new (row_at new i) ≡ true
      at_last i e = rw (e, row_last) here

  at_new : (i : ℕ) → i < length new.order.items → index new (row_at new i) ≡ i
  at_new i h = elim (cases_lt i (length old.order.items)) [
    | inl before ↦ rw (row_before i before) (index_other _ (other _ (q.on i before)) ∙ q.at i before)
    | inr after ↦ at_last i (omega (arith, long))
  ]
    where
      at_last : (i : ℕ) → i ≡ length old.order.items → index new (row_at new i) ≡ i
      at_last i e = rw (e, row_last) index_here

  within_new : (j : ℕ) → is_reached new j ≡ true → index new j < length new.order.items
  within_new j on = elim (split j on) [
    | inl e ↦ rw e (omega (arith, index_here, long))
    | inr before ↦ omega (arith, index_other j (other j before), q.within j before, long)
  ]

  placed_new : (j : ℕ) → is_reached new j ≡ true → row_at new (index new j) ≡ j
  placed_new j on = elim (split j on) [
    | inl e ↦ rw (e, index_here) row_last
    | inr before ↦ rw (index_other j (other j before)) (row_before _ (q.within j before) ∙ q.placed j before)
  ]

  pub reached_reached : IsReachedRows rows new
  reached_reached = record {
    reached_long = ap length r.reached ∙ length-set _ _ _ ∙ q.reached_long;
    parent_class_long = ap length r.by ∙ length-set _ _ _ ∙ q.parent_class_long;
    bottleneck_long = ap length r.bottlenecks ∙ length-set _ _ _ ∙ q.bottleneck_long;
    index_long = ap length r.indices ∙ length-set _ _ _ ∙ q.index_long;
    on = on_new;
    at = at_new;
    within = within_new;
    placed = placed_new;
    counted = ap (count_by (λ b. b)) r.reached ∙ count-set _ k (omega (arith, q.reached_long)) off ∙ ap (λ n. n + 1) q.counted ∙ sym long;
  }

  pub kept_reached : (j : ℕ) → is_reached old j ≡ true → IsKept old new j
  kept_reached j on = record {
    reached = stays j on;
    by = rw r.by (get_or-set_other old.parent_class.items k j g 0 (other j on));
    bottlenecks = rw r.bottlenecks (get_or-set_other old.bottleneck.items k j amount 0 (other j on));
    indices = index_other j (other j on);
  }

  pub fresh_reached : (most : ℕ) (shares : List Share) → 0 < amount → amount ≡ min most (share_of k shares) → IsNewRow old new g most shares k
  fresh_reached most shares some is =
      let e : bottleneck new k ≡ amount = rw r.bottlenecks (get_or-set_same old.bottleneck.items k amount 0 (omega (arith, q.bottleneck_long))) in
      record {
        by = rw r.by (get_or-set_same old.parent_class.items k g 0 (omega (arith, q.parent_class_long)));
        some_bottleneck = omega (arith, e);
        bottlenecks = e ∙ is;
        later = omega (arith, index_here);
      }

-- the loop over a class's shares
pub grown_none : (q : ReachedRows) (g most : ℕ) (shares : List Share) → IsGrown q q g most (take 0 shares) shares
grown_none q g most shares = record {
  kept = λ k on. record { reached = on; by = refl; bottlenecks = refl; indices = refl };
  fresh = λ k off on. absurd (both_ways _ off on);
  longer = omega arith;
  held = λ k some. absurd (omega arith);
}

share_more : (shares : List Share) (i k : ℕ) (s d : Share) → i < length shares → s ≡ get_or shares i d → share_of k (take (i + 1) shares) ≡ share_of k (take i shares) + amount_of k s
share_more shares i k s d lt is = sum_by_more (amount_of k) shares i d lt ∙ ap (λ x. share_of k (take i shares) + amount_of k x) (sym is)

amount_cases : (k : ℕ) (s : Share) → ((s.row ≡ k) × (amount_of k s ≡ s.amount)) ⊎ (amount_of k s ≡ 0)
amount_cases k s = elim (cases_eq s.row k) [
  | inl e ↦ inl (e, ap (λ b. cond b s.amount 0) (eq-eqb s.row k e))
  | inr ne ↦ inr (ap (λ b. cond b s.amount 0) (ne_eqb s.row k ne))
]

pub amount_own : (s : Share) → amount_of s.row s ≡ s.amount
amount_own s = ap (λ b. cond b s.amount 0) (eq-eqb s.row s.row refl)

pub amount_le : (shares : List Share) (i : ℕ) (s d : Share) → i < length shares → s ≡ get_or shares i d → s.amount ≤ share_of s.row shares
amount_le shares i s d lt is =
    let e : amount_of s.row (get_or shares i d) ≡ s.amount = subst (λ x. amount_of s.row x ≡ s.amount) is (amount_own s) in
    omega (arith, get_or-le-sum_by (amount_of s.row) shares i d lt, e)

-- a share of no CPU, or of a row that is reached
pub grown_skip :
    (old q : ReachedRows) (g most : ℕ) (shares : List Share) (i : ℕ) (s d : Share) → IsGrown old q g most (take i shares) shares
    → i < length shares → s ≡ get_or shares i d → (0 < s.amount → is_reached q s.row ≡ true)
    → IsGrown old q g most (take (i + 1) shares) shares
grown_skip old q g most shares i s d h lt is skip = record {
  kept = h.kept;
  fresh = h.fresh;
  longer = h.longer;
  held = held;
}
  where
    held : (k : ℕ) → 0 < share_of k (take (i + 1) shares) → is_reached q k ≡ true
    held k some =
        let more = share_more shares i k s d lt is in
        elim (amount_cases k s) [
          | inl own ↦ elim (cases_lt 0 s.amount) [
            | inl here ↦ subst (λ n. is_reached q n ≡ true) own.0 (skip here)
            | inr none ↦ h.held k (omega (arith, more, own.1))
          ]
          | inr none ↦ h.held k (omega (arith, more, none))
        ]

-- a row that is newly reached
pub grown_reach :
    (rows : ℕ) (old q new : ReachedRows) (g most amount : ℕ) (shares : List Share) (i : ℕ) (s d : Share) → IsReachedRows rows q → IsGrown old q g most (take i shares) shares
    → i < length shares → s ≡ get_or shares i d → s.row < rows → is_reached q s.row ≡ false → IsReached q new s.row g amount
    → 0 < amount → amount ≡ min most s.amount → IsEachOnce (holders_of shares)
    → IsGrown old new g most (take (i + 1) shares) shares
grown_reach rows old q new g most amount shares i s d reached_rows h lt is in_rows off r some part once = record {
  kept = λ k on.
      let before = h.kept k on in
      let now = kept_reached rows q new s.row g amount reached_rows in_rows off r k before.reached in
      record { reached = now.reached; by = now.by ∙ before.by; bottlenecks = now.bottlenecks ∙ before.bottlenecks; indices = now.indices ∙ before.indices };
  fresh = fresh;
  longer = omega (arith, h.longer, ap length r.order, length_push q.order.items s.row);
  held = held;
}
  where
    own : amount ≡ min most (share_of s.row shares)
    own = part ∙ ap (min most) (sym (share_once shares i s d once lt is))

    mine : IsNewRow q new g most shares s.row
    mine = fresh_reached rows q new s.row g amount reached_rows in_rows off r most shares some own

    fresh_from : (k : ℕ) → IsNewRow old q g most shares k → IsKept q new k → IsNewRow old new g most shares k
    fresh_from k f kept = record {
      by = kept.by ∙ f.by;
      some_bottleneck = omega (arith, f.some_bottleneck, kept.bottlenecks);
      bottlenecks = kept.bottlenecks ∙ f.bottlenecks;
      later = omega (arith, f.later, kept.indices);
    }

    fresh_own : (k : ℕ) → k ≡ s.row → IsNewRow old new g most shares k
    fresh_own k e = subst (λ n. IsNewRow old new g most shares n) (sym e) (record {
      by = mine.by;
      some_bottleneck = mine.some_bottleneck;
      bottlenecks = mine.bottlenecks;
      later = omega (arith, mine.later, h.longer);
    })

    fresh : (k : ℕ) → is_reached old k ≡ false → is_reached new k ≡ true → IsNewRow old new g most shares k
    fresh k was on = elim (split rows q new s.row g amount reached_rows in_rows off r k on) [
      | inl e ↦ fresh_own k e
      | inr before ↦ fresh_from k (h.fresh k was before) (kept_reached rows q new s.row g amount reached_rows in_rows off r k before)
    ]

    held : (k : ℕ) → 0 < share_of k (take (i + 1) shares) → is_reached new k ≡ true
    held k more_than =
        let more = share_more shares i k s d lt is in
        elim (amount_cases k s) [
          | inl e ↦ subst (λ n. is_reached new n ≡ true) e.0 (here rows q new s.row g amount reached_rows in_rows off r)
          | inr none ↦ stays rows q new s.row g amount reached_rows in_rows off r k (h.held k (omega (arith, more, none)))
        ]

pub row_of_share : (rows : ℕ) (shares : List Share) (i : ℕ) (d : Share) → AllBelow rows shares → i < length shares → (get_or shares i d).row < rows
row_of_share rows shares i d below lt = below i (get_or shares i d) (slice_get-get_or shares i d lt)
