-- A raise by the least slack: values and prices stay below the weights, and tight.
use Rattle.std.proofs.Common.{◌≡◌, ℕ, ◌+◌, ◌<◌, ◌≤◌, Bool, true, false, List, length, Option, Some, sym, ◌∙◌, subst, inl, inr, arith}
use Rattle.std.proofs.lemmas.List.Sums.{count_by-le-length}
use Rattle.std.proofs.lemmas.Bool.{cases_Bool}
use Rattle.certificate.specs.declared.limits.TheConstants.{MAX_ROWS}
use Rattle.transport.specs.Numbers.{number}
use Rattle.transport.specs.ReachedRows.{IsReachedRows, is_reached, index, row_at}
use Rattle.transport.specs.Duals.{IsTight}
use Rattle.transport.specs.Searches.{is_taken, IsLinked, weight_limit, most, top, IsClose, IsSearch, IsCovered, AllCovered, IsLeast, IsAttained, AreWeights}
use Rattle.transport.specs.declared.tree.ReachedRows.{ReachedRows}
use Rattle.transport.specs.declared.labels.FreeEnd.{FreeEnd}
use Rattle.transport.specs.declared.labels.Labels.{Labels}
use Rattle.transport.specs.declared.tree.TreeClasses.{TreeClasses}

module _ (ws : ℕ → ℕ → Option ℕ) (cells : ℕ → ℕ → ℕ) (values prices residual new news : List ℕ) (q : ReachedRows) (ns : Labels) (ts : TreeClasses) (by : ℕ)
    (fit : AreWeights ws (length values) (length prices)) (s : IsSearch ws cells values prices residual q ns ts)
    (all : AllCovered ws values prices q ns ts (length q.order.items)) (least : IsLeast values prices ns ts by)
    (rv : (k : ℕ) → is_reached q k ≡ true → number new k ≡ number values k + by)
    (ov : (k : ℕ) → is_reached q k ≡ false → number new k ≡ number values k)
    (rp : (g : ℕ) → is_taken ts g ≡ true → number news g ≡ number prices g + by)
    (op : (g : ℕ) → is_taken ts g ≡ false → number news g ≡ number prices g) where
  covered_at : (k g w : ℕ) → is_reached q k ≡ true → is_taken ts g ≡ false → ws k g ≡ Some w → IsCovered values prices ns k g w
  covered_at k g w on off its = all.covered k g w on (s.reached_rows.within k on) its off

  free_end_free : (e : FreeEnd) → ns.free_end ≡ Some e → number prices e.class ≡ 0
  free_end_free e is = s.dual.zero e.class (s.free_end e is).some_free

  slack_by : (k g w : ℕ) → is_taken ts g ≡ false → IsCovered values prices ns k g w → number values k + by ≤ w + number prices g
  slack_by k g w off c = elim c [
    | inl c ↦ omega (arith, c.least, least.labelled g c.label c.its off)
    | inr c ↦ omega (arith, c.least, least.free_end c.free_end c.its, free_end_free c.free_end c.its)
  ]

  pub slack_is_left : (k g w : ℕ) → is_reached q k ≡ true → is_taken ts g ≡ false → ws k g ≡ Some w → number values k + by ≤ w + number prices g
  slack_is_left k g w on off its = slack_by k g w off (covered_at k g w on off its)

  below_new : (k g w : ℕ) → ws k g ≡ Some w → number new k ≤ w + number news g
  below_new k g w its = elim (cases_Bool (is_reached q k)) [
    | inl on ↦ elim (cases_Bool (is_taken ts g)) [
      | inl taken ↦ omega (arith, rv k on, rp g taken, s.dual.below k g w its)
      | inr off ↦ omega (arith, rv k on, op g off, slack_is_left k g w on off its)
    ]
    | inr not ↦ elim (cases_Bool (is_taken ts g)) [
      | inl taken ↦ omega (arith, ov k not, rp g taken, s.dual.below k g w its)
      | inr off ↦ omega (arith, ov k not, op g off, s.dual.below k g w its)
    ]
  ]

  tight_at : (k g : ℕ) → 0 < cells k g → (t : IsTight ws values prices k g) → number new k ≡ t.weight + number news g
  tight_at k g some t = elim (cases_Bool (is_taken ts g)) [
    | inl taken ↦ omega (arith, rv k (s.holders k g taken some), rp g taken, t.equal)
    | inr off ↦ elim (cases_Bool (is_reached q k)) [
      | inl on ↦ omega (arith, rv k on, op g off, t.equal, slack_is_left k g t.weight on off t.its)
      | inr not ↦ omega (arith, ov k not, op g off, t.equal)
    ]
  ]

  full : (g : ℕ) → is_taken ts g ≡ true → number residual g ≡ 0
  full g taken = let l = s.linked g taken in (s.labelled g l.label l.its).full

  zero_new : (g : ℕ) → 0 < number residual g → number news g ≡ 0
  zero_new g some = elim (cases_Bool (is_taken ts g)) [
    | inl taken ↦ absurd (omega (arith, full g taken, some))
    | inr off ↦ op g off ∙ s.dual.zero g some
  ]

  root_on : is_reached q (row_at q 0) ≡ true
  root_on = s.reached_rows.on 0 s.rooted

  linked_new : (g : ℕ) → is_taken ts g ≡ true → IsLinked new news ns g
  linked_new g taken =
      let l = s.linked g taken in
      record { label = l.label; its = l.its; equal = omega (arith, rv l.label.row (s.labelled g l.label l.its).there, rp g taken, l.equal) }

  close_new : (k : ℕ) → is_reached q k ≡ true → IsClose new q k
  close_new k on =
      let c = s.close k on in
      record { up = omega (arith, c.up, rv k on, rv (row_at q 0) root_on); down = omega (arith, c.down, rv k on, rv (row_at q 0) root_on) }

  few : (k : ℕ) → is_reached q k ≡ true → index q k < MAX_ROWS
  few k on =
      omega (arith, s.reached_rows.within k on, s.reached_rows.counted, count_by-le-length {X = Bool} (λ b. b) q.reached.items, s.reached_rows.reached_long, fit.few)

  -- some reached row is low after the raise
  module _ (at : IsAttained values prices ns ts by) where
    low_row : (k : ℕ) → is_reached q k ≡ true → number values k + by ≤ weight_limit + most + most
    low_row k on = elim at [
      | inl e ↦ label_low e.free_end.label.row (s.free_end e.free_end e.its).there
          (omega (arith, e.equal, free_end_free e.free_end e.its, fit.low _ _ _ (s.free_end e.free_end e.its).weighs))
      | inr c ↦ label_low c.1.label.row (s.labelled c.0 c.1.label c.1.its).there
          (omega (arith, c.1.equal, s.prices_low c.0 c.1.left, fit.low _ _ _ (s.labelled c.0 c.1.label c.1.its).weighs))
    ]
      where
        label_low : (j : ℕ) → is_reached q j ≡ true → by + number values j ≤ weight_limit + most → number values k + by ≤ weight_limit + most + most
        label_low j there low =
            let a = s.close k on in
            let b = s.close j there in
            omega (arith, a.up, b.down, few k on, few j there, low)

    values_fit_new : (k : ℕ) → number new k ≤ top
    values_fit_new k = elim (cases_Bool (is_reached q k)) [
      | inl on ↦ omega (arith, rv k on, low_row k on)
      | inr not ↦ omega (arith, ov k not, s.others_low k not)
    ]

    prices_fit_new : (g : ℕ) → number news g ≤ top
    prices_fit_new g = elim (cases_Bool (is_taken ts g)) [
      | inl taken ↦ (let l = linked_new g taken in omega (arith, l.equal, values_fit_new l.label.row))
      | inr off ↦ omega (arith, op g off, s.prices_low g off)
    ]

    pub search_raised : length new ≡ length values → length news ≡ length prices → IsSearch ws cells new news residual q ns ts
    search_raised long longs = record {
      reached_rows = subst (λ n. IsReachedRows n q) (sym long) s.reached_rows;
      listing = s.listing;
      taken_long = s.taken_long ∙ sym longs;
      labels_long = s.labels_long ∙ sym longs;
      due_long = s.due_long ∙ sym longs;
      residual_long = s.residual_long ∙ sym longs;
      dual = record {
        below = below_new;
        tight = λ k g some. (let t = s.dual.tight k g some in record { weight = t.weight; its = t.its; equal = tight_at k g some t });
        zero = zero_new;
      };
      rooted = s.rooted;
      entries = s.entries;
      bottlenecks = s.bottlenecks;
      labelled = s.labelled;
      listed = s.listed;
      labelled_in = λ i lt. omega (arith, s.labelled_in i lt, longs);
      unlabelled = s.unlabelled;
      seen = s.seen;
      due = λ g n its off. omega (arith, s.due g n its off, rv n.row (s.labelled g n its).there, op g off, rv (row_at q 0) root_on);
      linked = linked_new;
      holders = s.holders;
      free_end = s.free_end;
      close = close_new;
      others_low = λ k not. omega (arith, ov k not, s.others_low k not);
      prices_low = λ g off. omega (arith, op g off, s.prices_low g off);
      values_fit = values_fit_new;
      prices_fit = prices_fit_new;
    }

  covered_new : (k g w : ℕ) → is_reached q k ≡ true → is_taken ts g ≡ false → IsCovered values prices ns k g w → IsCovered new news ns k g w
  covered_new k g w on off c = elim c [
    | inl c ↦ inl (record { label = c.label; its = c.its; least = omega (arith, c.least, rv k on, rv c.label.row (s.labelled g c.label c.its).there) })
    | inr c ↦ inr (record { free_end = c.free_end; its = c.its; least = omega (arith, c.least, rv k on, op g off, rv c.free_end.label.row (s.free_end c.free_end c.its).there) })
  ]

  pub covered_raised : AllCovered ws new news q ns ts (length q.order.items)
  covered_raised = record { covered = λ k g w on here its off. covered_new k g w on off (covered_at k g w on off its) }
