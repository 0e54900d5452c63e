-- Rows that have what they ask for are a plan, with its prices.
use Rattle.std.proofs.Common.{◌≡◌, ℕ, suc, ◌+◌, ◌*◌, ◌<◌, ◌≤◌, true, IsTrue, List, [], ◌∷◌, length, map, get_or, sum_by, refl, sym, ap, ◌∙◌, subst, inl, inr, arith}
use Rattle.std.specs.Prelude.{All, nat_le}
use Rattle.std.specs.List.{list_all}
use Rattle.std.specs.FinSet as set
use Rattle.std.proofs.lemmas.Bool.{cases_lt, le-leb, and_from}
use Rattle.std.proofs.lemmas.List.{get_or-map, get_or_past, length-map, get_or_default}
use Rattle.std.proofs.lemmas.Option.{slice_get-get_or}
use Rattle.cpu_set.specs.Ids.{Ids}
use Rattle.certificate.specs.RowView.{RowView}
use Rattle.certificate.specs.IsShortage.{asked}
use Rattle.certificate.specs.Limits.{row_fits, rows_fit, values_fit}
use Rattle.certificate.specs.Cost.{cost}
use Rattle.certificate.specs.IsProved.{IsProved}
use Rattle.certificate.specs.Laws.{ProvedIsLeast}
use Rattle.certificate.specs.TestLaws.{true_right}
use Rattle.certificate.specs.declared.price_lists.Price.{Price}
use Rattle.certificate.specs.declared.limits.TheConstants.{MAX_ROWS, MAX_AMOUNT}
use Rattle.twins.specs.IsGrouping.{class_at, IsGrouping}
use Rattle.twins.specs.Holdings.{share_of, held_of, cell}
use Rattle.twins.specs.IsDeal.{IsDeal, DealOfTwinsIsDealt}
use Rattle.twins.specs.IsPriced.{IsPriced, class_prices, ClassesProvePlans}
use Rattle.twins.specs.declared.holders.Share.{Share}
use Rattle.transport.specs.Numbers.{number}
use Rattle.transport.specs.Totals.{total}
use Rattle.transport.specs.Outcomes.{demand_of, IsDone}
use Rattle.transport.specs.Representatives.{first_of}
use Rattle.transport.specs.Searches.{most}
use Rattle.transport.specs.Solved.{IsSolvedPlan}
use Rattle.transport.specs.declared.assignment.Assignment.{Assignment}
use Rattle.transport.proofs.Totals.{total_of_list, shares_of_rows}
use Rattle.transport.proofs.Classes.{weighs_as_class, size_of_class, no_size_past}

pub each_row_fits : (rows : List RowView) → IsTrue (rows_fit rows) → IsTrue (list_all row_fits rows)
unfolding rows_fit
each_row_fits rows fit = true_right (nat_le (length rows) MAX_ROWS) (list_all row_fits rows) fit

small_value : (n : ℕ) → n ≤ most → nat_le n MAX_AMOUNT ≡ true
small_value n low = le-leb n MAX_AMOUNT (omega arith)

-- numbers that are small enough pass for values
pub small_values : (ns : List ℕ) → ((k : ℕ) → number ns k ≤ most) → IsTrue (values_fit ns)
small_values [] low = refl
small_values (n ∷ ns) low =
    and_from (nat_le n MAX_AMOUNT) (values_fit ns) (small_value n (low 0)) (small_values ns (λ k. low (suc k)))

module _
    (rows : List RowView) (classes : List Ids) (s : Assignment) (turns : ℕ) (grouping : IsGrouping rows classes)
    (done : IsDone rows (map first_of classes) (map (λ s. set.len s) classes) s turns) where
  sizes_long : length (map (λ (s : Ids). set.len s) classes) ≡ length classes
  sizes_long = length-map classes (λ (s : Ids). set.len s)

  pub holdings_long : length s.holdings.items ≡ length classes
  holdings_long = done.settled.holdings.long ∙ done.prices_long ∙ sizes_long

  -- the shares of a class are those of rows
  shares_below : (g : ℕ) → All (λ (t : Share). t.row < length rows) (get_or s.holdings.items g [])
  shares_below g i d lt =
      let below = done.settled.holdings.rows_in g i (get_or (get_or s.holdings.items g []) i d) (slice_get-get_or (get_or s.holdings.items g []) i d lt) in
      omega (arith, below, done.values_long)

  pub rows_in : All (All (λ (t : Share). t.row < length rows)) s.holdings.items
  rows_in g d lt = subst (All (λ (t : Share). t.row < length rows)) (get_or_default s.holdings.items g [] d lt) (shares_below g)

  -- what is held of a class, summed over the rows, is what is held by the shares
  held_is : (g : ℕ) → total (λ k. cell s.holdings.items k g) (length rows) ≡ held_of s.holdings.items g
  held_is g = shares_of_rows (get_or s.holdings.items g []) (length rows) (shares_below g)

  held_and_free : (g : ℕ) → g < length classes → held_of s.holdings.items g + number s.residual.items g ≡ set.len (class_at classes g)
  held_and_free g lt =
      omega (arith, held_is g, done.shared.by_class g (omega (arith, sizes_long, lt)), size_of_class rows classes grouping g lt)

  none_past : (g : ℕ) → length classes ≤ g → held_of s.holdings.items g ≡ 0
  none_past g past = ap (λ shares. sum_by (λ (t : Share). t.amount) shares) (get_or_past s.holdings.items g [] (omega (arith, holdings_long, past)))

  pub bottleneck : (g : ℕ) → held_of s.holdings.items g ≤ set.len (class_at classes g)
  bottleneck g = elim (cases_lt g (length classes)) [
    | inl lt ↦ omega (arith, held_and_free g lt)
    | inr past ↦ omega (arith, none_past g past)
  ]

  filled : (k : ℕ) (d : RowView) → k < length rows → sum_by (share_of k) s.holdings.items ≡ (get_or rows k d).demand
  filled k d lt =
      let listed = total_of_list (share_of k) s.holdings.items [] in
      let row = done.shared.by_row k lt in
      let demand : demand_of rows k ≡ (get_or rows k d).demand = get_or-map (λ (r : RowView). r.demand) rows k d 0 lt in
      let long : length s.holdings.items ≡ length (map (λ (t : Ids). set.len t) classes) = holdings_long ∙ sym sizes_long in
      let same : total (λ g. share_of k (get_or s.holdings.items g [])) (length s.holdings.items) ≡ total (λ g. share_of k (get_or s.holdings.items g [])) (length (map (λ (t : Ids). set.len t) classes)) =
      ap (total (λ g. share_of k (get_or s.holdings.items g []))) long in
      omega (arith, listed, row, demand, same, done.met k lt)

  zero_price : (g : ℕ) → held_of s.holdings.items g < set.len (class_at classes g) → number s.prices.items g ≡ 0
  zero_price g less = elim (cases_lt g (length classes)) [
    | inl lt ↦ done.settled.dual.zero g (omega (arith, held_and_free g lt, less))
    | inr past ↦ absurd (omega (arith, no_size_past rows classes grouping g past, less))
  ]

  pub priced : IsPriced rows classes s.holdings.items s.values.items s.prices.items
  priced = record {
    long = holdings_long;
    rows_in = rows_in;
    as_many = done.values_long;
    filled = filled;
    below = λ k g w is. done.settled.dual.below k g w (weighs_as_class rows classes grouping k g ∙ is);
    tight = λ k g some.
        (let t = done.settled.dual.tight k g some in
        (t.weight, sym (weighs_as_class rows classes grouping k g) ∙ t.its, t.equal));
    zero = zero_price;
  }

  pub rows_at : (holdings : List (List Share)) (n : ℕ) → holdings ≡ s.holdings.items → length rows ≡ n → All (All (λ (t : Share). t.row < n)) holdings
  rows_at holdings n same count =
      subst (λ xs. All (All (λ (t : Share). t.row < n)) xs) (sym same) (subst (λ m. All (All (λ (t : Share). t.row < m)) s.holdings.items) count rows_in)

  pub bottleneck_at : (holdings : List (List Share)) → holdings ≡ s.holdings.items → (g : ℕ) → held_of holdings g ≤ set.len (class_at classes g)
  bottleneck_at holdings same g = subst (λ xs. held_of xs g ≤ set.len (class_at classes g)) (sym same) (bottleneck g)

  proved_plan :
      (sets : List Ids) → IsTrue (rows_fit rows) → IsDeal classes s.holdings.items sets → length sets ≡ length rows → ClassesProvePlans
      → IsProved rows sets (record { values = s.values.items; of_cpu = class_prices classes s.prices.items }) (cost rows sets)
      × All (λ p. (0 < p.amount) × (0 < set.len p.cpus)) (class_prices classes s.prices.items)
  proved_plan sets fit deal long prove =
      prove rows classes s.holdings.items sets s.values.items s.prices.items fit
      (small_values s.values.items done.settled.values_low) (small_values s.prices.items done.settled.prices_low) grouping deal long priced

  pub is_proved :
      (holdings : List (List Share)) (sets : List Ids) (of_cpu : List Price) → holdings ≡ s.holdings.items → IsTrue (rows_fit rows)
      → IsDeal classes holdings sets → length sets ≡ length rows → of_cpu ≡ class_prices classes s.prices.items → ClassesProvePlans
      → IsProved rows sets (record { values = s.values.items; of_cpu = of_cpu }) (cost rows sets)
  is_proved holdings sets of_cpu same fit deal long prices prove =
      rw prices (proved_plan sets fit (subst (λ xs. IsDeal classes xs sets) same deal) long prove).0

  pub solved_plan :
      (holdings : List (List Share)) (sets : List Ids) (of_cpu : List Price) (spent : ℕ) → holdings ≡ s.holdings.items → IsTrue (rows_fit rows)
      → IsDeal classes holdings sets → length sets ≡ length rows → of_cpu ≡ class_prices classes s.prices.items → spent ≡ cost rows sets
      → ClassesProvePlans → DealOfTwinsIsDealt → ProvedIsLeast
      → IsSolvedPlan rows sets (record { values = s.values.items; of_cpu = of_cpu }) spent turns
  solved_plan holdings sets of_cpu spent same fit deal long prices costs prove dealt least =
      let deal_here : IsDeal classes s.holdings.items sets = subst (λ xs. IsDeal classes xs sets) same deal in
      let and_from = proved_plan sets fit deal_here long prove in
      rw (prices, costs) (record {
        proved = and_from.0;
        least = least rows sets (record { values = s.values.items; of_cpu = class_prices classes s.prices.items }) (cost rows sets) and_from.0;
        dealt = dealt rows classes s.holdings.items sets grouping deal_here;
        by_class = record { classes = classes; grouping = grouping; amounts = s.prices.items; as_many = done.prices_long ∙ sizes_long; its = refl };
        some = and_from.1;
        at_least = done.at_least;
        within = record {
          classes = classes;
          grouping = grouping;
          within = subst (λ n. turns ≤ asked rows * (length rows + n)) sizes_long done.at_most;
        };
      })
