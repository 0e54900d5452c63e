-- Searches for one row after another, and the rows one after another.
use Rattle.std.proofs.Common.{◌≡◌, ℕ, zero, suc, ◌+◌, ◌*◌, ◌<◌, ◌≤◌, ◌^◌, true, List, [], ◌∷◌, length, map, take, get_or, refl, sym, ap, ◌∙◌, subst, inl, inr, arith}
use Rattle.std.proofs.Math.Nat.{mul-le-mul}
use Rattle.std.proofs.Math.Numerals.{add-one}
use Rattle.std.proofs.lemmas.Option.{slice_get_within}
use Rattle.std.proofs.lemmas.List.{get_or_past, get_or-map, length-map}
use Rattle.std.proofs.lemmas.List.Sums.{sum_by-cons}
use Rattle.std.proofs.lemmas.Bool.{cases_eq, cases_lt}
use Rattle.certificate.specs.RowView.{RowView}
use Rattle.certificate.specs.IsShortage.{asked}
use Rattle.certificate.specs.AreWithin.{AreRowsWithin}
use Rattle.certificate.specs.declared.limits.TheConstants.{MAX_ROWS, MAX_DEMAND}
use Rattle.cpu_set.specs.declared.TheConstants.{CPU_LIMIT}
use Rattle.twins.specs.Holdings.{share_of}
use Rattle.transport.specs.Shares.{AllBelow, HasNoShare, holders_of}
use Rattle.transport.specs.Duals.{IsTight}
use Rattle.transport.specs.Numbers.{number, IsEachOnce}
use Rattle.transport.specs.Totals.{total, row_total, class_total, IsShared}
use Rattle.twins.specs.Kinds.{offers_of, AreKinds}
use Rattle.transport.specs.Weights.{weights, AreNewSortedArcs}
use Rattle.transport.specs.States.{cell, shares_of, AreHoldings, IsNoHolder}
use Rattle.transport.specs.Searches.{IsSearch, AreWeights}
use Rattle.transport.specs.ReachedRows.{is_reached, parent_class, index, row_at}
use Rattle.transport.specs.Settled.{IsSettled}
use Rattle.transport.specs.Outcomes.{demand_of, IsDone, IsStuck, IsLate, turns_of_limit}
use Rattle.transport.specs.Solved.{MayTakeMore}
use Rattle.transport.specs.Assigning.{IsFirst, IsHandedOut, CanAssign, IsAssigning, IsAtEnd, a_search, AreAssigned}
use Rattle.transport.specs.declared.assignment.Assignment.{Assignment}
use Rattle.transport.specs.declared.augment.TurnLimit.{TurnLimit}
use Rattle.transport.specs.declared.instance.Instance.{Instance}
use Rattle.transport.specs.declared.tree.SearchTree.{SearchTree}
use Rattle.transport.specs.declared.arcs.SortedArcs.{SortedArcs}
use Rattle.transport.proofs.Sums.{total_same, total_zero, hall}
use Rattle.transport.proofs.OrdersLemmas.{all_sorted_new, in_classes, in_rows, weight_low}
use Rattle.transport.proofs.HandingOut.{taken_full}
use Rattle.transport.proofs.Holders.{share_none}

-- no search yet
pub assigning_none : (t : Instance) (root : ℕ) (s : Assignment) (arcs_by_kind : List SortedArcs) (turns : ℕ) → CanAssign t root s arcs_by_kind turns → IsAssigning t root s s arcs_by_kind turns turns
assigning_none t root s arcs_by_kind turns can = record {
  settled = can.settled;
  sorted = can.sorted;
  handed = record {
    values_long = refl;
    prices_long = refl;
    deficit_long = refl;
    by_row = λ k lt. refl;
    by_class = λ g lt. refl;
    others = λ k ne. refl;
    none = λ k ne none. none;
  };
  kept = omega arith;
  fewer = omega arith;
  unsought = λ same. refl;
  most = omega arith;
  least = λ lt. absurd (omega (arith, lt));
}

handed_more : (root : ℕ) (a b c : Assignment) → IsHandedOut root a b → IsHandedOut root b c → IsHandedOut root a c
handed_more root a b c f g = record {
  values_long = g.values_long ∙ f.values_long;
  prices_long = g.prices_long ∙ f.prices_long;
  deficit_long = g.deficit_long ∙ f.deficit_long;
  by_row = λ k lt. rw f.prices_long at (g.by_row k (omega (arith, lt, f.values_long))) ∙ f.by_row k lt;
  by_class = λ h lt. rw f.values_long at (g.by_class h (omega (arith, lt, f.prices_long))) ∙ f.by_class h lt;
  others = λ k ne. g.others k ne ∙ f.others k ne;
  none = λ k ne none. g.none k ne (f.none k ne none);
}

search_same : (root : ℕ) (a b : Assignment) → IsHandedOut root a b → a_search b ≡ a_search a
search_same root a b h = omega (arith, h.values_long, h.prices_long)

-- a search that begins within a limit ends within it and a search more
pub limit_kept : (root : ℕ) (a b : Assignment) (x y most : ℕ) → IsHandedOut root a b → x ≤ most → y ≤ x + a_search b → y ≤ most + a_search a
limit_kept root a b x y most h within once = omega (arith, within, once, search_same root a b h)

-- a search more
pub assigning_more : (t : Instance) (root : ℕ) (a b c : Assignment) (arcs_by_kind arcs_by_kind' : List SortedArcs) (x y z : ℕ) → IsAssigning t root a b arcs_by_kind x y → IsAssigning t root b c arcs_by_kind' y z
    → number c.deficit.items root < number b.deficit.items root → IsAssigning t root a c arcs_by_kind' x z
assigning_more t root a b c arcs_by_kind arcs_by_kind' x y z f g less = record {
  settled = g.settled;
  sorted = g.sorted;
  handed = handed_more root a b c f.handed g.handed;
  kept = omega (arith, f.kept, g.kept);
  fewer = omega (arith, f.fewer, less);
  unsought = λ same. absurd (omega (arith, same, f.fewer, less));
  most = (let m : z + number c.deficit.items root * a_search a ≤ y + number b.deficit.items root * a_search a = subst (λ n. z + number c.deficit.items root * n ≤ y + number b.deficit.items root * n) (search_same root a b f.handed) g.most in
      omega (arith, f.most, m));
  least = λ lt. omega (arith, g.least less, f.kept);
}

pub end_more : (t : Instance) (root : ℕ) (a b c : Assignment) (tree : SearchTree) (arcs_by_kind : List SortedArcs) (x y z : ℕ) → IsAssigning t root a b arcs_by_kind x y → IsAtEnd t root b c tree y z → IsAtEnd t root a c tree x z
end_more t root a b c tree arcs_by_kind x y z f g = record {
  closed = g.closed;
  root_at = g.root_at;
  on = g.on;
  lacks = g.lacks;
  handed = handed_more root a b c f.handed g.handed;
  most = (let m : z ≤ y + number b.deficit.items root * a_search a = subst (λ n. z ≤ y + number b.deficit.items root * n) (search_same root a b f.handed) g.most in
      omega (arith, f.most, m));
  least = omega (arith, f.kept, g.least);
}

-- of a class that there is not, nothing is held or free
class_none : (rows classes : ℕ) (s : Assignment) (g : ℕ) → AreHoldings rows classes s.holdings.items → length s.residual.items ≡ classes → classes ≤ g
    → class_total (cell s.holdings.items) (length s.values.items) g + number s.residual.items g ≡ 0
class_none rows classes s g h long past =
    let none : shares_of s.holdings.items g ≡ [] = get_or_past s.holdings.items g [] (omega (arith, h.long, past)) in
    let residual : number s.residual.items g ≡ 0 = get_or_past s.residual.items g 0 (omega (arith, long, past)) in
    let held = total_same (λ k. cell s.holdings.items k g) (λ k. 0) (length s.values.items) (λ k lt. ap (share_of k) none) in
    omega (arith, held, total_zero (length s.values.items), residual)

-- the next search can begin
pub can_go_on : (t : Instance) (root : ℕ) (a b : Assignment) (before arcs_by_kind : List SortedArcs) (x y : ℕ) → CanAssign t root a before x → IsAssigning t root a b arcs_by_kind x y → CanAssign t root b arcs_by_kind y
can_go_on t root a b before arcs_by_kind x y can f = record {
  settled = f.settled;
  sorted = f.sorted;
  rows = can.rows ∙ sym f.handed.values_long;
  deficit_long = f.handed.deficit_long ∙ can.deficit_long ∙ sym f.handed.values_long;
  sizes = sizes;
  in_rows = omega (arith, can.in_rows, f.handed.values_long);
  wants = omega (arith, f.fewer, can.wants);
  fresh = λ all. (let same : number b.deficit.items root ≡ number a.deficit.items root = omega (arith, all, f.fewer, can.wants) in
      rw (f.unsought same) (can.fresh (sym same ∙ all)));
  fits = (let e : number b.deficit.items root * a_search b ≡ number b.deficit.items root * a_search a = ap (λ n. number b.deficit.items root * n) (search_same root a b f.handed) in
      omega (arith, e, f.most, can.fits));
}
  where
    sizes : (g : ℕ) → class_total (cell b.holdings.items) (length b.values.items) g + number b.residual.items g < 2 ^ 32
    sizes g = elim (cases_lt g (length a.prices.items)) [
      | inl lt ↦ (let e : class_total (cell b.holdings.items) (length b.values.items) g ≡ class_total (cell b.holdings.items) (length a.values.items) g =
          ap (λ n. class_total (cell b.holdings.items) n g) f.handed.values_long in
          omega (arith, e, f.handed.by_class g lt, can.sizes g))
      | inr past ↦ omega (arith, class_none (length b.values.items) (length b.prices.items) b g f.settled.holdings f.settled.residual_long (omega (arith, past, f.handed.prices_long)))
    ]

-- sums over rows
total_last : (f : ℕ → ℕ) (n : ℕ) → total f (suc n) ≡ total f n + f n
total_last f zero = omega arith
total_last f (suc n) = let a = total_last (λ i. f (suc i)) n in omega (arith, a)

total_up : (f : ℕ → ℕ) (m n : ℕ) → m ≤ n → total f m ≤ total f n
total_up f zero n le = omega arith
total_up f (suc m) zero le = absurd (omega (arith, le))
total_up f (suc m) (suc n) le = let a = total_up (λ i. f (suc i)) m n (omega (arith, le)) in omega (arith, a)

total_small : (f : ℕ → ℕ) (n c : ℕ) → ((i : ℕ) → f i ≤ c) → total f n ≤ n * c
total_small f zero c low = omega arith
total_small f (suc n) c low = let a = total_small (λ i. f (suc i)) n c (λ i. low (suc i)) in omega (arith, a, low 0)

pub asked_is : (rows : List RowView) → total (demand_of rows) (length rows) ≡ asked rows
asked_is [] = refl
asked_is (r ∷ rows) = omega (arith, asked_is rows, sum_by-cons (λ (x : RowView). x.demand) r rows)

-- what the first rows ask for
asked_first : (rows : List RowView) (k : ℕ) → k ≤ length rows → total (demand_of rows) k ≡ asked (take k rows)
asked_first [] zero le = refl
asked_first [] (suc k) le = absurd (omega (arith, le))
asked_first (r ∷ rows) zero le = refl
asked_first (r ∷ rows) (suc k) le = omega (arith, asked_first rows k (omega (arith, le)), sum_by-cons (λ (x : RowView). x.demand) r (take k rows))

-- what a row asks for
no_row : RowView
no_row = record { id = []; demand = 0; offers = [] }

demand_at : (rows : List RowView) (k : ℕ) → k < length rows → demand_of rows k ≡ (get_or rows k no_row).demand
demand_at rows k lt = get_or-map (λ (r : RowView). r.demand) rows k no_row 0 lt

pub demand_read : (rows : List RowView) (k : ℕ) (r : RowView) → k < length rows → r ≡ get_or rows k r → r.demand ≡ demand_of rows k
demand_read rows k r lt is = ap (λ (x : RowView). x.demand) is ∙ sym (get_or-map (λ (x : RowView). x.demand) rows k r 0 lt)

demand_some : (rows : List RowView) (k : ℕ) → AreRowsWithin rows → k < length rows → 1 ≤ demand_of rows k
demand_some rows k fit lt = omega (arith, demand_at rows k lt, (fit.each k no_row lt).some)

demand_low : (rows : List RowView) (k : ℕ) → AreRowsWithin rows → demand_of rows k ≤ MAX_DEMAND
demand_low rows k fit = elim (cases_lt k (length rows)) [
  | inl lt ↦ omega (arith, demand_at rows k lt, (fit.each k no_row lt).demand)
  | inr past ↦ (let e : demand_of rows k ≡ 0 = get_or_past (map (λ (r : RowView). r.demand) rows) k 0 (omega (arith, length-map rows (λ (r : RowView). r.demand), past)) in omega (arith, e))
]

spend : (x y d a turns after : ℕ) → y ≡ x + d → turns ≤ x * a → after ≤ turns + d * a → after ≤ y * a
spend x y d a turns after e le most = rw e (omega (arith, le, most))

raise_by : (first per x y d asks most after : ℕ) → y ≡ x + d → asks ≡ d → most ≤ first + per * x → after ≤ most + per * asks → after ≤ first + per * y
raise_by first per x y d asks most after more same low raised = rw more (omega (arith, low, rw same at raised))

-- the limit where a row more has its CPUs
pub limit_raised : (rows : List RowView) (row : ℕ) (r : RowView) (limit : TurnLimit) (most after : ℕ) → row < length rows
    → most ≤ limit.at_first + limit.per_cpu * total (demand_of rows) row → after ≤ most + limit.per_cpu * (get_or rows row r).demand → after ≤ limit.at_first + limit.per_cpu * total (demand_of rows) (row + 1)
limit_raised rows row r limit most after lt low raised =
    rw add-one
    (raise_by limit.at_first limit.per_cpu (total (demand_of rows) row) (total (demand_of rows) (suc row)) (demand_of rows row) (get_or rows row r).demand most after
    (total_last (demand_of rows) row) (sym (get_or-map (λ (x : RowView). x.demand) rows row r 0 lt)) low raised)

raise_to : (first per x y d asks most after : ℕ) → y ≡ x + d → asks ≡ d → first + per * x ≤ most → most + per * asks ≤ after → first + per * y ≤ after
raise_to first per x y d asks most after more same low raised = rw more (omega (arith, low, rw same at raised))

-- and no less, where it is not past all numbers of turns
pub limit_reached : (rows : List RowView) (row : ℕ) (r : RowView) (limit : TurnLimit) (most after : ℕ) → row < length rows
    → limit.at_first + limit.per_cpu * total (demand_of rows) row ≤ most → most + limit.per_cpu * (get_or rows row r).demand ≤ after → limit.at_first + limit.per_cpu * total (demand_of rows) (row + 1) ≤ after
limit_reached rows row r limit most after lt low raised =
    rw add-one
    (raise_to limit.at_first limit.per_cpu (total (demand_of rows) row) (total (demand_of rows) (suc row)) (demand_of rows row) (get_or rows row r).demand most after
    (total_last (demand_of rows) row) (sym (get_or-map (λ (x : RowView). x.demand) rows row r 0 lt)) low raised)

-- the limit of the first rows is within that of all rows
pub limit_of_all : (rows : List RowView) (sizes : List ℕ) (row : ℕ) (limit : TurnLimit) (most turns : ℕ) → row ≤ length rows
    → most ≤ limit.at_first + limit.per_cpu * total (demand_of rows) row → turns ≤ most + (length rows + length sizes) → turns ≤ turns_of_limit rows sizes limit
limit_of_all rows sizes row limit most turns le low few =
    let same : limit.per_cpu ≤ limit.per_cpu = omega arith in
    let up : limit.per_cpu * total (demand_of rows) row ≤ limit.per_cpu * total (demand_of rows) (length rows) = mul-le-mul same (total_up (demand_of rows) row (length rows) le) in
    below (limit.per_cpu * total (demand_of rows) row) (limit.per_cpu * asked rows) (subst (λ n. limit.per_cpu * total (demand_of rows) row ≤ limit.per_cpu * n) (asked_is rows) up) low
  where
    below : (x y : ℕ) → x ≤ y → most ≤ limit.at_first + x → turns ≤ limit.at_first + y + (length rows + length sizes)
    below x y up low = omega (arith, up, low, few)

-- turns that the first rows and one more can take
abbrev most_turns : ℕ
most_turns = MAX_ROWS * MAX_DEMAND * (MAX_ROWS + CPU_LIMIT)

turns_low : (rows : List RowView) (row a : ℕ) → AreRowsWithin rows → row < length rows → a ≤ MAX_ROWS + CPU_LIMIT → total (demand_of rows) (suc row) * a ≤ most_turns
turns_low rows row a fit lt le =
    let up = total_up (demand_of rows) (suc row) (length rows) (omega (arith, lt)) in
    let small = total_small (demand_of rows) (length rows) MAX_DEMAND (λ k. demand_low rows k fit) in
    let low : total (demand_of rows) (suc row) ≤ MAX_ROWS * MAX_DEMAND = below (total (demand_of rows) (suc row)) up small in
    mul-le-mul low le
  where
    below : (x : ℕ) → x ≤ total (demand_of rows) (length rows) → total (demand_of rows) (length rows) ≤ length rows * MAX_DEMAND → x ≤ MAX_ROWS * MAX_DEMAND
    below x up small = omega (arith, up, small, fit.few)

grow : (x y a after : ℕ) → x ≤ y → after ≤ x * a → after ≤ y * a
grow x y a after le most =
    let same : a ≤ a = omega arith in
    let up : x * a ≤ y * a = mul-le-mul le same in
    omega (arith, most, up)

-- so many rows ask for no more CPUs than they may
asked_low : (rows : List RowView) → AreRowsWithin rows → asked rows ≤ MAX_ROWS * MAX_DEMAND
asked_low rows fit = below (asked_is rows) (total_small (demand_of rows) (length rows) MAX_DEMAND (λ k. demand_low rows k fit))
  where
    below : total (demand_of rows) (length rows) ≡ asked rows → total (demand_of rows) (length rows) ≤ length rows * MAX_DEMAND → asked rows ≤ MAX_ROWS * MAX_DEMAND
    below is small = omega (arith, is, small, fit.few)

-- no rows take as many turns as a number of 64 bits can count
pub never_late : (rows : List RowView) → AreRowsWithin rows → MayTakeMore rows (record { at_first = 18446744073709551615; per_cpu = 0 }) → ⊥
never_late rows fit late =
    let few : length rows + length late.classes ≤ MAX_ROWS + CPU_LIMIT = omega (arith, fit.few, late.few) in
    let up : asked (take (suc late.met) rows) ≤ asked rows =
    rw (← asked_first rows (suc late.met) (omega (arith, late.there)), ← asked_is rows) (total_up (demand_of rows) (suc late.met) (length rows) (omega (arith, late.there))) in
    let less : asked (take (suc late.met) rows) ≤ MAX_ROWS * MAX_DEMAND = below (asked (take (suc late.met) rows)) (asked rows) up (asked_low rows fit) in
    let low : asked (take (suc late.met) rows) * (length rows + length late.classes) ≤ most_turns = mul-le-mul less few in
    never (0 * asked (take late.met rows)) (asked (take (suc late.met) rows) * (length rows + length late.classes)) low late.more
  where
    below : (x y : ℕ) → x ≤ y → y ≤ MAX_ROWS * MAX_DEMAND → x ≤ MAX_ROWS * MAX_DEMAND
    below x y le low = omega (arith, le, low)

    never : (x y : ℕ) → y ≤ most_turns → 18446744073709551615 + x < y → ⊥
    never x y low more = omega (arith, low, more)

-- before the first row
module _ (t : Instance) (sizes : List ℕ) (s : Assignment) (arcs_by_kind : List SortedArcs) (fit : AreRowsWithin t.rows.now) (kinds : AreKinds t.rows.now (length t.rows.now) t.kinds.now)
    (long : length t.firsts ≡ length sizes) (h : IsFirst t.rows.now sizes s) (new : AreNewSortedArcs t.rows.now t.kinds.now arcs_by_kind (length t.rows.now)) where
  no_cell : (k g : ℕ) → cell s.holdings.items k g ≡ 0
  no_cell k g = ap (share_of k) (h.holdings g)

  no_row_total : (k : ℕ) → row_total (cell s.holdings.items) (length sizes) k ≡ 0
  no_row_total k = total_same (λ g. cell s.holdings.items k g) (λ g. 0) (length sizes) (λ g lt. no_cell k g) ∙ total_zero (length sizes)

  no_class_total : (g : ℕ) → class_total (cell s.holdings.items) (length t.rows.now) g ≡ 0
  no_class_total g = total_same (λ k. cell s.holdings.items k g) (λ k. 0) (length t.rows.now) (λ k lt. no_cell k g) ∙ total_zero (length t.rows.now)

  first_settled : IsSettled (weights t) s
  first_settled = record {
    fit = record {
      few = omega (arith, h.values_long, fit.few);
      low = λ k g w e. weight_low t.rows.now t.firsts k g w fit e;
      class = λ k g w e. omega (arith, in_classes (offers_of t.rows.now k) t.firsts g w e, long, h.prices_long);
    };
    dual = record {
      below = λ k g w e. omega (arith, h.values k);
      tight = λ k g some. absurd (omega (arith, some, no_cell k g));
      zero = λ g some. h.prices g;
    };
    residual_long = ap length h.residual ∙ sym h.prices_long;
    values_low = λ k. omega (arith, h.values k);
    prices_low = λ g. omega (arith, h.prices g);
    holdings = record {
      long = h.holdings_long ∙ sym h.prices_long;
      rows_in = λ g. subst (AllBelow (length s.values.items)) (sym (h.holdings g)) none_below;
      once = λ g. subst (λ xs. IsEachOnce (holders_of xs)) (sym (h.holdings g)) (λ i j lt. absurd (omega (arith, lt)));
    };
  }
    where
      none_below : AllBelow (length s.values.items) []
      none_below i x is = absurd (omega (arith, slice_get_within [] i x is))

  no_holder : (k : ℕ) → IsNoHolder k s.holdings.items
  no_holder k g = subst (HasNoShare k) (sym (h.holdings g)) (λ x. absurd (omega (arith, x.within)))

  pub assigned_first : AreAssigned t sizes s arcs_by_kind 0 0
  assigned_first = record {
    values_long = h.values_long;
    prices_long = h.prices_long;
    deficit_long = ap length h.deficit ∙ length-map t.rows.now (λ (r : RowView). r.demand);
    settled = first_settled;
    sorted = all_sorted_new t s.residual.items arcs_by_kind fit kinds (omega (arith, long, ap length h.residual)) new;
    shared = record {
      by_row = λ k lt. omega (arith, no_row_total k, ap (λ u. number u k) h.deficit);
      by_class = λ g lt. omega (arith, no_class_total g, ap (λ f. number f g) h.residual);
      rows_in = λ k g some. absurd (omega (arith, some, no_cell k g));
    };
    met = λ k lt. absurd (omega (arith, lt));
    unassigned = λ k le. ap (λ u. number u k) h.deficit;
    fresh = λ k le. no_holder k;
    at_least = omega arith;
    at_most = omega arith;
  }

-- the row that is next
module _ (t : Instance) (sizes : List ℕ) (s : Assignment) (arcs_by_kind : List SortedArcs) (row turns : ℕ) (h : AreAssigned t sizes s arcs_by_kind row turns) (fit : AreRowsWithin t.rows.now) (lt : row < length t.rows.now) where
  wants : number s.deficit.items row ≡ demand_of t.rows.now row
  wants = h.unassigned row (omega arith)

  search_is : a_search s ≡ length t.rows.now + length sizes
  search_is = omega (arith, h.values_long, h.prices_long)

  -- what comes of it is within the turns of the rows so far and this one
  most_after : (after : ℕ) → after ≤ turns + number s.deficit.items row * a_search s → after ≤ total (demand_of t.rows.now) (suc row) * (length t.rows.now + length sizes)
  most_after after most =
      spend (total (demand_of t.rows.now) row) (total (demand_of t.rows.now) (suc row)) (demand_of t.rows.now row) (length t.rows.now + length sizes) turns after
      (total_last (demand_of t.rows.now) row) h.at_most (rw (wants, search_is) at most)

  -- and so within those of all rows
  within_all : (after : ℕ) → after ≤ total (demand_of t.rows.now) (suc row) * (length t.rows.now + length sizes) → after ≤ asked t.rows.now * (length t.rows.now + length sizes)
  within_all after most =
      let up = total_up (demand_of t.rows.now) (suc row) (length t.rows.now) (omega (arith, lt)) in
      rw (← asked_is t.rows.now) (grow (total (demand_of t.rows.now) (suc row)) (total (demand_of t.rows.now) (length t.rows.now)) (length t.rows.now + length sizes) after up most)

  pub can_assign : length sizes ≤ CPU_LIMIT → ((g : ℕ) → number sizes g < 2 ^ 32) → CanAssign t row s arcs_by_kind turns
  can_assign few small = record {
    settled = h.settled;
    sorted = h.sorted;
    rows = sym h.values_long;
    deficit_long = h.deficit_long ∙ sym h.values_long;
    sizes = fits_sizes;
    in_rows = omega (arith, lt, h.values_long);
    wants = omega (arith, wants);
    fresh = λ all. h.fresh row (omega arith);
    fits =
        let all = most_after (turns + number s.deficit.items row * a_search s) (omega arith) in
        let low = turns_low t.rows.now row (length t.rows.now + length sizes) fit lt (omega (arith, few, fit.few)) in
        below (total (demand_of t.rows.now) (suc row) * (length t.rows.now + length sizes)) all low;
  }
    where
      below : (x : ℕ) → turns + number s.deficit.items row * a_search s ≤ x → x ≤ most_turns → turns + number s.deficit.items row * a_search s < 2 ^ 64
      below x all low = omega (arith, all, low)

      fits_sizes : (g : ℕ) → class_total (cell s.holdings.items) (length s.values.items) g + number s.residual.items g < 2 ^ 32
      fits_sizes g = elim (cases_lt g (length sizes)) [
        | inl there ↦ (let e : class_total (cell s.holdings.items) (length s.values.items) g ≡ class_total (cell s.holdings.items) (length t.rows.now) g =
            ap (λ n. class_total (cell s.holdings.items) n g) h.values_long in
            omega (arith, e, h.shared.by_class g there, small g))
        | inr past ↦ omega (arith, class_none (length s.values.items) (length s.prices.items) s g h.settled.holdings h.settled.residual_long (omega (arith, past, h.prices_long)))
      ]

  module _ (new : Assignment) (d : IsHandedOut row s new) (w : AreWeights (weights t) (length new.values.items) (length new.prices.items))
      (tight : (k g : ℕ) → 0 < cell new.holdings.items k g → IsTight (weights t) new.values.items new.prices.items k g) where
    shared_after : IsShared (demand_of t.rows.now) (number sizes) (length t.rows.now) (length sizes) (cell new.holdings.items) new.residual.items new.deficit.items
    shared_after = record {
      by_row = λ k k_in. rw h.prices_long at (d.by_row k (omega (arith, k_in, h.values_long))) ∙ h.shared.by_row k k_in;
      by_class = λ g g_in. rw h.values_long at (d.by_class g (omega (arith, g_in, h.prices_long))) ∙ h.shared.by_class g g_in;
      rows_in = λ k g some. (let x = tight k g some in
          (in_rows t.rows.now t.firsts k g x.weight x.its, omega (arith, w.class k g x.weight x.its, d.prices_long, h.prices_long)));
    }

  -- the row has what it asks for
  pub assigned_more : (new : Assignment) (arcs_by_kind' : List SortedArcs) (after : ℕ) → IsAssigning t row s new arcs_by_kind' turns after → number new.deficit.items row ≡ 0 → AreAssigned t sizes new arcs_by_kind' (row + 1) after
  assigned_more new arcs_by_kind' after f none = record {
    values_long = f.handed.values_long ∙ h.values_long;
    prices_long = f.handed.prices_long ∙ h.prices_long;
    deficit_long = f.handed.deficit_long ∙ h.deficit_long;
    settled = f.settled;
    sorted = f.sorted;
    shared = shared_after new f.handed f.settled.fit f.settled.dual.tight;
    met = met;
    unassigned = λ k le. f.handed.others k (λ e. absurd (omega (arith, le, e))) ∙ h.unassigned k (omega (arith, le));
    fresh = λ k le. f.handed.none k (λ e. absurd (omega (arith, le, e))) (h.fresh k (omega (arith, le)));
    at_least = omega (arith, h.at_least, f.least (omega (arith, none, wants, demand_some t.rows.now row fit lt)));
    at_most = rw add-one (most_after after (omega (arith, f.most)));
  }
    where
      met : (k : ℕ) → k < row + 1 → number new.deficit.items k ≡ 0
      met k k_in = elim (cases_eq k row) [
        | inl same ↦ ap (number new.deficit.items) same ∙ none
        | inr ne ↦ f.handed.others k ne ∙ h.met k (omega (arith, k_in, ne))
      ]

  -- it can't have it
  pub stuck_at_end : (new : Assignment) (tree : SearchTree) (after : ℕ) → IsAtEnd t row s new tree turns after → IsStuck t.rows.now t.firsts sizes tree.reached_rows.reached.items tree.tree_classes.taken.items after
  stuck_at_end new tree after e = record {
    reached_long = x.reached_rows.reached_long ∙ e.handed.values_long ∙ h.values_long;
    taken_long = x.taken_long ∙ e.handed.prices_long ∙ h.prices_long;
    hall = hall (weights t) (demand_of t.rows.now) (number sizes) (length t.rows.now) (length sizes) (cell new.holdings.items) new.residual.items new.deficit.items
        tree.reached_rows.reached.items tree.tree_classes.taken.items row (shared_after new e.handed e.closed.running.fit x.dual.tight) e.closed.only
        (λ g on. taken_full (weights t) new tree g e.closed.running on) x.holders lt e.on e.lacks;
    some = omega (arith, x.reached_rows.counted, x.rooted);
    at_least = λ k on. omega (arith, not_after k on, h.at_least, x.reached_rows.counted, x.listing.counted, e.least);
    at_most = within_all after (most_after after e.most);
  }
    where
      x : IsSearch (weights t) (cell new.holdings.items) new.values.items new.prices.items new.residual.items tree.reached_rows tree.labels tree.tree_classes
      x = e.closed.running.search

      -- the rows behind this one hold nothing, and so none of them is reached
      not_held : (k g : ℕ) → row < k → cell new.holdings.items k g ≡ 0
      not_held k g past = share_none k (shares_of new.holdings.items g) (e.handed.none k (λ same. absurd (omega (arith, past, same))) (h.fresh k (omega (arith, past))) g)

      not_after : (k : ℕ) → is_reached tree.reached_rows k ≡ true → k ≤ row
      not_after k on = elim (cases_lt row k) [
        | inl past ↦ elim (cases_lt 0 (index tree.reached_rows k)) [
          | inl behind ↦ (let i = x.entries k on behind in absurd (omega (arith, i.held, x.bottlenecks k on, not_held k (parent_class tree.reached_rows k) past)))
          | inr first ↦ (let zeroth : index tree.reached_rows k ≡ 0 = omega (arith, first) in
              let at : row_at tree.reached_rows 0 ≡ k = subst (λ i. row_at tree.reached_rows i ≡ k) zeroth (x.reached_rows.placed k on) in
              absurd (omega (arith, at, e.root_at, past)))
        ]
        | inr within ↦ omega (arith, within)
      ]

  -- the searches for it were broken off, behind more turns than the limit has for the rows that are met
  pub late_in_row : (limit : TurnLimit) (most : ℕ) (new : Assignment) (arcs_by_kind' : List SortedArcs) (after : ℕ) → turns + number s.deficit.items row * a_search s < 2 ^ 64
      → (most < 18446744073709551615 → limit.at_first + limit.per_cpu * total (demand_of t.rows.now) row ≤ most)
      → IsAssigning t row s new arcs_by_kind' turns after → most < after → IsLate t.rows.now sizes limit
  late_in_row limit most new arcs_by_kind' after fits reached f late = record {
    met = row;
    there = lt;
    more = rw (← asked_first t.rows.now row (omega (arith, lt)), ← asked_first t.rows.now (suc row) (omega (arith, lt)))
        (above (limit.at_first + limit.per_cpu * total (demand_of t.rows.now) row) (total (demand_of t.rows.now) (suc row) * (length t.rows.now + length sizes))
        (reached (below (turns + number s.deficit.items row * a_search s) (omega (arith, f.most)) fits)) (most_after after (omega (arith, f.most))));
  }
    where
      below : (x : ℕ) → after ≤ x → x < 2 ^ 64 → most < 18446744073709551615
      below x all low = omega (arith, all, low, late)

      above : (x y : ℕ) → x ≤ most → after ≤ y → x < y
      above x y low all = omega (arith, low, all, late)

-- all rows have what they ask for
pub done_at_end : (t : Instance) (sizes : List ℕ) (s : Assignment) (arcs_by_kind : List SortedArcs) (row turns : ℕ) → AreAssigned t sizes s arcs_by_kind row turns → row ≡ length t.rows.now → IsDone t.rows.now t.firsts sizes s turns
done_at_end t sizes s arcs_by_kind row turns h all = record {
  values_long = h.values_long;
  prices_long = h.prices_long;
  settled = h.settled;
  shared = h.shared;
  met = λ k lt. h.met k (omega (arith, lt, all));
  at_least = omega (arith, h.at_least, all);
  at_most =
      let most : turns ≤ total (demand_of t.rows.now) (length t.rows.now) * (length t.rows.now + length sizes) =
      subst (λ n. turns ≤ total (demand_of t.rows.now) n * (length t.rows.now + length sizes)) all h.at_most in
      rw (← asked_is t.rows.now) most;
}
