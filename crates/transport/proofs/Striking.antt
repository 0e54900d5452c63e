-- The classes that are taken up are struck out of the list of labelled ones.
use Rattle.std.proofs.Common.{◌≡◌, ℕ, zero, suc, ◌<◌, Bool, true, false, cond, not, List, [], ◌∷◌, length, get_or, filter, Option, None, Vec, Global, refl, sym, ap, ◌∙◌, subst, inl, inr, arith}
use Rattle.transport.specs.Numbers.{number, IsIn}
use Rattle.transport.specs.Searches.{label_of, HasLabel, IsSearch, IsCovered}
use Rattle.transport.specs.States.{cell, IsRunning, HasScanned, IsStruck, AreStruckOrSame}
use Rattle.transport.specs.declared.labels.Label.{Label}
use Rattle.transport.specs.declared.labels.Labels.{Labels}
use Rattle.transport.specs.declared.assignment.Assignment.{Assignment}
use Rattle.transport.specs.declared.tree.SearchTree.{SearchTree}

-- what passes the test stands in the filter
in_filter_at : (test : ℕ → Bool) (ns : List ℕ) (i : ℕ) → i < length ns → test (number ns i) ≡ true → IsIn (filter test ns) (number ns i)
in_filter_at test [] i lt on = absurd (omega arith)
in_filter_at test (n ∷ ns) zero lt on = subst (λ b. IsIn (cond b (n ∷ filter test ns) (filter test ns)) n) (sym on) (record { index = 0; within = omega arith; is = refl })
in_filter_at test (n ∷ ns) (suc i) lt on = later (test n) (in_filter_at test ns i (omega arith) on)
  where
    later : (b : Bool) → IsIn (filter test ns) (number ns i) → IsIn (cond b (n ∷ filter test ns) (filter test ns)) (number ns i)
    later true p = record { index = suc p.index; within = omega (arith, p.within); is = p.is }
    later false p = p

pub in_filter : (test : ℕ → Bool) (ns : List ℕ) (n : ℕ) → IsIn ns n → test n ≡ true → IsIn (filter test ns) n
in_filter test ns n p on =
    subst (IsIn (filter test ns)) p.is
    (in_filter_at test ns p.index p.within (ap test p.is ∙ on))

-- what holds of all numbers of the list holds of those of the filter
filter_all : (P : ℕ → Type 0) (test : ℕ → Bool) (ns : List ℕ) → ((i : ℕ) → i < length ns → P (number ns i)) → (i : ℕ) → i < length (filter test ns) → P (number (filter test ns) i)
filter_all P test [] all i lt = absurd (omega arith)
filter_all P test (n ∷ ns) all i lt = by_test (filter_all P test ns (λ j within. all (suc j) (omega arith))) (test n) i lt
  where
    by_test :
        ((j : ℕ) → j < length (filter test ns) → P (number (filter test ns) j))
        → (b : Bool) (j : ℕ) → j < length (cond b (n ∷ filter test ns) (filter test ns)) → P (number (cond b (n ∷ filter test ns) (filter test ns)) j)
    by_test rest true zero within = all 0 (omega arith)
    by_test rest true (suc j) within = rest j (omega arith)
    by_test rest false j within = rest j within

module _ (ws : ℕ → ℕ → Option ℕ) (s : Assignment) (t : SearchTree) (ns : Labels) (x : IsStruck t.tree_classes.taken.items t.labels ns) where
  label_same : (g : ℕ) → label_of ns g ≡ label_of t.labels g
  label_same g = ap (λ (v : Vec (Option Label) Global). get_or v.items g None) x.of_class

  search_struck : IsSearch ws (cell s.holdings.items) s.values.items s.prices.items s.residual.items t.reached_rows t.labels t.tree_classes
      → IsSearch ws (cell s.holdings.items) s.values.items s.prices.items s.residual.items t.reached_rows ns t.tree_classes
  search_struck h = record {
    reached_rows = h.reached_rows;
    listing = h.listing;
    taken_long = h.taken_long;
    labels_long = ap (λ (v : Vec (Option Label) Global). length v.items) x.of_class ∙ h.labels_long;
    due_long = ap (λ (v : Vec ℕ Global). length v.items) x.due ∙ h.due_long;
    residual_long = h.residual_long;
    dual = h.dual;
    rooted = h.rooted;
    entries = λ k on deep. (let e = h.entries k on deep in record { taken = e.taken; held = e.held; label = e.label; its = label_same _ ∙ e.its; before = e.before; less = e.less });
    bottlenecks = h.bottlenecks;
    labelled = λ g n is. h.labelled g n (sym (label_same g) ∙ is);
    listed = λ g n is off. rw x.labelled (in_filter _ t.labels.labelled.items g (h.listed g n (sym (label_same g) ∙ is) off) (ap not off));
    labelled_in = rw x.labelled (filter_all (λ n. n < length s.prices.items) _ t.labels.labelled.items h.labelled_in);
    seen = subst (λ xs. (i : ℕ) → i < length xs → HasLabel ns (number xs i)) (sym x.labelled) (filter_all (HasLabel ns) _ t.labels.labelled.items (λ i lt. (let o = h.seen i lt in record { label = o.label; its = label_same _ ∙ o.its })));
    unlabelled = λ g lt none. ap (λ (v : Vec ℕ Global). number v.items g) x.due ∙ h.unlabelled g (omega (arith, lt, ap (λ (v : Vec (Option Label) Global). length v.items) x.of_class)) (sym (label_same g) ∙ none);
    due = rw x.due (λ g n is off. h.due g n (sym (label_same g) ∙ is) off);
    linked = λ g on. (let l = h.linked g on in record { label = l.label; its = label_same g ∙ l.its; equal = l.equal });
    holders = h.holders;
    free_end = λ e is. h.free_end e (sym x.free_end ∙ is);
    close = h.close;
    others_low = h.others_low;
    prices_low = h.prices_low;
    values_fit = h.values_fit;
    prices_fit = h.prices_fit;
  }

  covered_struck : (k g w : ℕ) → IsCovered s.values.items s.prices.items t.labels k g w → IsCovered s.values.items s.prices.items ns k g w
  covered_struck k g w c = elim c [
    | inl c ↦ inl (record { label = c.label; its = label_same g ∙ c.its; least = c.least })
    | inr c ↦ inr (record { free_end = c.free_end; its = x.free_end ∙ c.its; least = c.least })
  ]

module _ (ws : ℕ → ℕ → Option ℕ) (s : Assignment) (t new : SearchTree) (x : AreStruckOrSame t new) where
  pub running_struck : IsRunning ws s t → IsRunning ws s new
  running_struck h = record {
    fit = h.fit;
    search = rw (x.reached_rows, x.tree_classes) (elim x.labels [ inl same ↦ rw same h.search | inr struck ↦ search_struck ws s t new.labels struck h.search ]);
    holdings = h.holdings;
  }

  covered_still : (k g w : ℕ) → IsCovered s.values.items s.prices.items t.labels k g w → IsCovered s.values.items s.prices.items new.labels k g w
  covered_still k g w c = elim x.labels [ inl same ↦ rw same c | inr struck ↦ covered_struck ws s t new.labels struck k g w c ]

  pub scanned_struck : (upto : ℕ) → HasScanned ws s t upto → HasScanned ws s new upto
  scanned_struck upto all = rw (x.reached_rows, x.tree_classes) (record { covered = λ k g w on here its off. covered_still k g w (all.covered k g w on here its off) })
