-- A step of a search, for an assignment and a tree.
use Rattle.std.proofs.Common.{◌≡◌, ℕ, zero, suc, ◌∷◌, take, ◌+◌, ◌<◌, ◌≤◌, Bool, true, false, List, [], length, get_or, Option, Some, None, Vec, Global, refl, sym, ap, ◌∙◌, subst, inl, inr, arith}
use Rattle.std.proofs.lemmas.List.{get_or_read, get_or-set_same, get_or-set_other, get_or_append_left, length_push, length-take-le, get_or-take}
use Rattle.std.proofs.lemmas.Bool.{cases_lt, both_ways}
use Rattle.transport.specs.Numbers.{number, IsListing, IsRaised}
use Rattle.twins.specs.Holdings.{share_of}
use Rattle.transport.specs.Shares.{AllBelow}
use Rattle.transport.specs.ReachedRows.{IsReachedRows, is_reached, bottleneck}
use Rattle.transport.specs.Searches.{label_of, is_taken, IsLeast, IsAttained}
use Rattle.transport.specs.States.{shares_of, cell, AreHoldings, IsRunning, HasScanned, IsTakenUp, HasTaken, IsInReach, IsSameRoot}
use Rattle.twins.specs.declared.holders.Share.{Share}
use Rattle.transport.specs.declared.assignment.Assignment.{Assignment}
use Rattle.transport.specs.declared.tree.SearchTree.{SearchTree}
use Rattle.transport.specs.declared.labels.Label.{Label}
use Rattle.transport.specs.declared.labels.FreeEnd.{FreeEnd}
use Rattle.transport.specs.declared.tree.ReachedRows.{ReachedRows}
use Rattle.transport.proofs.Numbers.{raised_marked, raised_others}
use Rattle.transport.proofs.ReachedRowsLemmas.{marked_below}
use Rattle.transport.proofs.Rising.{search_raised, covered_raised}
use Rattle.transport.proofs.Taking.{search_taken, covered_taken, root_same}

-- the order lists the reached rows
pub reached_lists : (rows : ℕ) (q : ReachedRows) → IsReachedRows rows q → IsListing q.order.items q.reached.items
reached_lists rows q h = record {
  on = h.on;
  all = λ k on. record { index = number q.index.items k; within = h.within k on; is = h.placed k on };
  once = λ i j a b e. sym (h.at i a) ∙ ap (λ k. number q.index.items k) e ∙ h.at j b;
  counted = h.counted;
}

pub listed_below : (order : List ℕ) (marks : List Bool) (n : ℕ) → IsListing order marks → length marks ≡ n → (i : ℕ) → i < length order → number order i < n
listed_below order marks n h long i lt = omega (arith, marked_below marks (number order i) (h.on i lt), long)

-- a read of a class's shares
pub shares_read : (holdings : List (List Share)) (g n : ℕ) (v : List Share) → g < n → length holdings ≡ n → v ≡ get_or holdings g v → v ≡ shares_of holdings g
shares_read holdings g n v low long is = get_or_read holdings g v (omega (arith, low, long)) is []

module _ (ws : ℕ → ℕ → Option ℕ) (s : Assignment) (old new : SearchTree) (g : ℕ) (n : Label) (shares : List Share) (h : IsRunning ws s old) (its : label_of old.labels g ≡ Some n) (left : is_taken old.tree_classes g ≡ false)
    (equal : number s.values.items n.row ≡ n.weight + number s.prices.items g) (in_range : g < length s.prices.items) (are : shares ≡ shares_of s.holdings.items g) (up : IsTakenUp old new g n.row shares) where
  held : (k : ℕ) → share_of k shares ≡ cell s.holdings.items k g
  held k = ap (λ xs. share_of k xs) are

  reached_rows : IsReachedRows (length s.values.items) new.reached_rows
  reached_rows = subst (λ m. IsReachedRows m new.reached_rows) h.search.reached_rows.reached_long up.reached_rows

  pub running_taken : IsRunning ws s new
  running_taken = record {
    fit = h.fit;
    search = rw up.labels (search_taken ws (cell s.holdings.items) s.values.items s.prices.items s.residual.items old.reached_rows new.reached_rows old.labels old.tree_classes new.tree_classes g n shares h.fit h.search its left equal up.taken reached_rows up.grown held in_range);
    holdings = h.holdings;
  }

  pub running_root : IsSameRoot old.reached_rows new.reached_rows
  running_root = record {
    row = root_same ws (cell s.holdings.items) s.values.items s.prices.items s.residual.items old.reached_rows new.reached_rows old.labels old.tree_classes new.tree_classes g n shares h.fit h.search its left equal up.taken reached_rows up.grown held in_range;
    bottlenecks = (up.grown.kept _ (h.search.reached_rows.on 0 h.search.rooted)).bottlenecks;
  }

  pub scanned_taken : (scanned : ℕ) → scanned ≤ length old.reached_rows.order.items → HasScanned ws s old scanned → HasScanned ws s new scanned
  scanned_taken scanned less all =
      rw up.labels (covered_taken ws (cell s.holdings.items) s.values.items s.prices.items s.residual.items old.reached_rows new.reached_rows old.labels old.tree_classes new.tree_classes g n shares h.fit h.search its left equal up.taken reached_rows up.grown held in_range scanned less all)

module _ (ws : ℕ → ℕ → Option ℕ) (old new : Assignment) (t : SearchTree) (by : ℕ) (h : IsRunning ws old t) (scanned : HasScanned ws old t (length t.reached_rows.order.items))
    (least : IsLeast old.values.items old.prices.items t.labels t.tree_classes by) (at : IsAttained old.values.items old.prices.items t.labels t.tree_classes by)
    (values : IsRaised old.values.items new.values.items t.reached_rows.order.items by) (prices : IsRaised old.prices.items new.prices.items t.tree_classes.order.items by)
    (residual : new.residual ≡ old.residual) (holdings : new.holdings ≡ old.holdings) where
  rows_listed : IsListing t.reached_rows.order.items t.reached_rows.reached.items
  rows_listed = reached_lists _ t.reached_rows h.search.reached_rows

  rv : (k : ℕ) → is_reached t.reached_rows k ≡ true → number new.values.items k ≡ number old.values.items k + by
  rv = raised_marked _ _ _ _ by values rows_listed

  ov : (k : ℕ) → is_reached t.reached_rows k ≡ false → number new.values.items k ≡ number old.values.items k
  ov = raised_others _ _ _ _ by values rows_listed

  rp : (g : ℕ) → is_taken t.tree_classes g ≡ true → number new.prices.items g ≡ number old.prices.items g + by
  rp = raised_marked _ _ _ _ by prices h.search.listing

  op : (g : ℕ) → is_taken t.tree_classes g ≡ false → number new.prices.items g ≡ number old.prices.items g
  op = raised_others _ _ _ _ by prices h.search.listing

  pub running_raised : IsRunning ws new t
  running_raised = record {
    fit = rw (values.long, prices.long) h.fit;
    search = rw (residual, holdings) (search_raised ws (cell old.holdings.items) old.values.items old.prices.items old.residual.items new.values.items new.prices.items t.reached_rows t.labels t.tree_classes by h.fit h.search scanned least rv ov rp op at values.long prices.long);
    holdings = rw (values.long, prices.long, holdings) h.holdings;
  }

  pub scanned_raised : HasScanned ws new t (length t.reached_rows.order.items)
  scanned_raised = covered_raised ws (cell old.holdings.items) old.values.items old.prices.items old.residual.items new.values.items new.prices.items t.reached_rows t.labels t.tree_classes by h.fit h.search scanned least rv ov rp op

-- a read of what a class is labelled with
pub label_read : (of_class : List (Option Label)) (g n : ℕ) (x y : Option Label) → g < n → length of_class ≡ n → x ≡ get_or of_class g x → x ≡ y → get_or of_class g None ≡ y
label_read of_class g n x y lt long is e = sym (get_or_read of_class g x (omega (arith, lt, long)) is None) ∙ e

pub in_reach : (ws : ℕ → ℕ → Option ℕ) (s : Assignment) (t : SearchTree) (g : ℕ) (n : Label) → IsRunning ws s t → is_reached t.reached_rows n.row ≡ true → ws n.row g ≡ Some n.weight → IsInReach s t g n
in_reach ws s t g n h there weighs =
    let row : n.row < length t.reached_rows.reached.items = marked_below t.reached_rows.reached.items n.row there in
    record {
      class = h.fit.class n.row g n.weight weighs;
      row = omega (arith, row, h.search.reached_rows.reached_long);
      fits = h.search.prices_fit g;
      below = h.search.dual.below n.row g n.weight weighs;
      in_bottlenecks = omega (arith, row, h.search.reached_rows.reached_long, h.search.reached_rows.bottleneck_long);
      some_bottleneck = h.search.bottlenecks n.row there;
    }

pub labelled_in_reach : (ws : ℕ → ℕ → Option ℕ) (s : Assignment) (t : SearchTree) (g : ℕ) (n : Label) → IsRunning ws s t → label_of t.labels g ≡ Some n → IsInReach s t g n
labelled_in_reach ws s t g n h its = let o = h.search.labelled g n its in in_reach ws s t g n h o.there o.weighs

pub free_end_in_reach : (ws : ℕ → ℕ → Option ℕ) (s : Assignment) (t : SearchTree) (e : FreeEnd) → IsRunning ws s t → t.labels.free_end ≡ Some e → IsInReach s t e.class e.label
free_end_in_reach ws s t e h its = let o = h.search.free_end e its in in_reach ws s t e.class e.label h o.there o.weighs

-- a class that stays, and one that is taken up
pub taken_none : (s : Assignment) (t : SearchTree) (done : List ℕ)
    → ((i : ℕ) (n : Label) → i < length done → label_of t.labels (number done i) ≡ Some n → number s.values.items n.row ≡ n.weight + number s.prices.items (number done i) → is_taken t.tree_classes (number done i) ≡ true)
    → HasTaken s t t done
taken_none s t done all = record {
  running = λ ws h. h;
  scanned = λ ws upto less h all. all;
  labels = refl;
  nearest = refl;
  longer = omega arith;
  root = λ ws h. record { row = refl; bottlenecks = refl };
  kept = λ g on. on;
  before = λ i lt. refl;
  all = all;
  grew = inl refl;
}

pub taken_start : (s : Assignment) (t : SearchTree) (xs : List ℕ) → HasTaken s t t (take 0 xs)
taken_start s t xs = taken_none s t [] (λ i n lt. absurd (omega arith))

pub taken_left : (s : Assignment) (t : SearchTree) (g : ℕ) → ((n : Label) → label_of t.labels g ≡ Some n → number s.values.items n.row ≡ n.weight + number s.prices.items g → is_taken t.tree_classes g ≡ true) → HasTaken s t t (g ∷ [])
taken_left s t g all = taken_none s t (g ∷ []) go
  where
    go : (i : ℕ) (n : Label) → i < 1 → label_of t.labels (number (g ∷ []) i) ≡ Some n → number s.values.items n.row ≡ n.weight + number s.prices.items (number (g ∷ []) i) → is_taken t.tree_classes (number (g ∷ []) i) ≡ true
    go zero n lt = all n
    go (suc i) n lt = absurd (omega arith)

pub taken_one : (s : Assignment) (old new : SearchTree) (g : ℕ) (n : Label) (shares : List Share) → label_of old.labels g ≡ Some n → is_taken old.tree_classes g ≡ false
    → number s.values.items n.row ≡ n.weight + number s.prices.items g → g < length s.prices.items → length old.tree_classes.taken.items ≡ length s.prices.items
    → shares ≡ shares_of s.holdings.items g → IsTakenUp old new g n.row shares → HasTaken s old new (g ∷ [])
taken_one s old new g n shares its left equal in_range long are up = record {
  running = λ ws h. running_taken ws s old new g n shares h its left equal in_range are up;
  scanned = λ ws upto less h all. scanned_taken ws s old new g n shares h its left equal in_range are up upto less all;
  labels = up.labels;
  nearest = up.nearest;
  longer = up.grown.longer;
  root = λ ws h. running_root ws s old new g n shares h its left equal in_range are up;
  kept = λ h on. rw up.taken.taken (get_or-set_other old.tree_classes.taken.items g h true false (λ e. both_ways _ left (subst (λ x. is_taken old.tree_classes x ≡ true) e on)) ∙ on);
  before = λ i lt. rw up.taken.order (get_or_append_left old.tree_classes.order.items (g ∷ []) 0 i lt);
  all = all;
  grew = inr (omega (arith, ap length up.taken.order, length_push old.tree_classes.order.items g));
}
  where
    here : is_taken new.tree_classes g ≡ true
    here = rw up.taken.taken (get_or-set_same old.tree_classes.taken.items g true false (omega (arith, long)))

    all : (i : ℕ) (m : Label) → i < 1 → label_of old.labels (number (g ∷ []) i) ≡ Some m → number s.values.items m.row ≡ m.weight + number s.prices.items (number (g ∷ []) i) → is_taken new.tree_classes (number (g ∷ []) i) ≡ true
    all zero m lt is e = here
    all (suc i) m lt is e = absurd (omega arith)

pub taken_more : (s : Assignment) (a b d : SearchTree) (xs : List ℕ) (i x : ℕ) → i < length xs → x ≡ number xs i → HasTaken s a b (take i xs) → HasTaken s b d (x ∷ []) → HasTaken s a d (take (i + 1) xs)
taken_more s a b d xs i x lt is f g = record {
  running = λ ws h. g.running ws (f.running ws h);
  scanned = λ ws upto less h all. g.scanned ws upto (omega (arith, f.longer, less)) (f.running ws h) (f.scanned ws upto less h all);
  labels = g.labels ∙ f.labels;
  nearest = g.nearest ∙ f.nearest;
  longer = omega (arith, f.longer, g.longer);
  root = λ ws h. (let p = f.root ws h in let r = g.root ws (f.running ws h) in
      record { row = r.row ∙ p.row; bottlenecks = subst (λ k. bottleneck d.reached_rows k ≡ bottleneck b.reached_rows k) p.row r.bottlenecks ∙ p.bottlenecks });
  kept = λ k on. g.kept k (f.kept k on);
  before = λ j lt. g.before j (elim f.grew [
    | inl same ↦ subst (λ ts. j < length ts.order.items) (sym same) lt
    | inr more ↦ omega (arith, more, lt)
  ]) ∙ f.before j lt;
  all = λ j n within. all j n (omega (arith, within, length-take-le (i + 1) xs (omega arith)));
  grew = elim f.grew [
    | inl same ↦ elim g.grew [ inl again ↦ inl (again ∙ same) | inr more ↦ inr (subst (λ ts. length ts.order.items < length d.tree_classes.order.items) same more) ]
    | inr more ↦ inr (elim g.grew [ inl again ↦ subst (λ ts. length a.tree_classes.order.items < length ts.order.items) (sym again) more | inr on ↦ omega (arith, more, on) ])
  ];
}
  where
    short : length (take i xs) ≡ i
    short = length-take-le i xs (omega arith)

    before : (j : ℕ) → j < i → number (take (i + 1) xs) j ≡ number xs j
    before j h = get_or-take (i + 1) xs j 0 (omega arith)

    early : (j : ℕ) (n : Label) → j < i → label_of a.labels (number xs j) ≡ Some n → number s.values.items n.row ≡ n.weight + number s.prices.items (number xs j) → is_taken d.tree_classes (number xs j) ≡ true
    early j n h its e =
        let same = get_or-take i xs j 0 h in
        g.kept (number xs j) (rw same at (f.all j n (omega (arith, short, h)) (rw same its) (rw same e)))

    late : (n : Label) → label_of a.labels x ≡ Some n → number s.values.items n.row ≡ n.weight + number s.prices.items x → is_taken d.tree_classes x ≡ true
    late n its e = g.all 0 n (omega arith) (rw f.labels its) e

    all : (j : ℕ) (n : Label) → j < i + 1 → label_of a.labels (number (take (i + 1) xs) j) ≡ Some n → number s.values.items n.row ≡ n.weight + number s.prices.items (number (take (i + 1) xs) j) → is_taken d.tree_classes (number (take (i + 1) xs) j) ≡ true
    all j n within = elim (cases_lt j i) [
      | inl h ↦ rw (before j h) (early j n h)
      | inr h ↦ at_end (omega arith)
    ]
      where
        at_end : j ≡ i → label_of a.labels (number (take (i + 1) xs) j) ≡ Some n → number s.values.items n.row ≡ n.weight + number s.prices.items (number (take (i + 1) xs) j) → is_taken d.tree_classes (number (take (i + 1) xs) j) ≡ true
        at_end e = rw (e, get_or-take (i + 1) xs i 0 (omega arith), ← is) (late n)

pub shares_below : (rows classes : ℕ) (holdings : List (List Share)) (g : ℕ) (shares : List Share) → AreHoldings rows classes holdings → shares ≡ shares_of holdings g → AllBelow rows shares
shares_below rows classes holdings g shares h are = rw are (h.rows_in g)

pub taken_unseen : (s : Assignment) (t : SearchTree) (g : ℕ) → label_of t.labels g ≡ None → HasTaken s t t (g ∷ [])
taken_unseen s t g none = taken_left s t g (λ n its e. (let no : Some n ≡ None = sym its ∙ none in cc))

pub taken_far : (s : Assignment) (t : SearchTree) (g by : ℕ) (m : Label) → label_of t.labels g ≡ Some m → by + number s.values.items m.row ≡ m.weight + number s.prices.items g → (by ≡ 0 → ⊥) → HasTaken s t t (g ∷ [])
taken_far s t g by m is slack some = taken_left s t g far
  where
    far : (n : Label) → label_of t.labels g ≡ Some n → number s.values.items n.row ≡ n.weight + number s.prices.items g → is_taken t.tree_classes g ≡ true
    far n its e =
        let same : n ≡ m = (let both : Some n ≡ Some m = sym its ∙ is in cc) in
        let e2 : number s.values.items m.row ≡ m.weight + number s.prices.items g = subst (λ x. number s.values.items x.row ≡ x.weight + number s.prices.items g) same e in
        absurd (some (omega (arith, e2, slack)))

-- a read of the list of nearest classes
pub nearest_at : (a b : Vec ℕ Global) (i x : ℕ) → b ≡ a → i < length a.items → x ≡ get_or b.items i x → x ≡ number a.items i
nearest_at a b i x e lt is = let now = subst (λ (v : Vec ℕ Global). x ≡ get_or v.items i x) e is in get_or_read a.items i x lt now 0
