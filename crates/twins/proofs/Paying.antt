-- Values and prices of classes show that a dealt plan is of least cost.
use Rattle.std.proofs.Common.{◌≡◌, ℕ, zero, suc, ◌+◌, ◌*◌, ◌-◌, ◌<◌, ◌≤◌, ◌==◌, Bool, true, false, cond, not, ◌&&◌, ◌||◌, Option, Some, None, unwrap_or, is_some, List, [], ◌∷◌, length, get_or, sum_by, refl, sym, ap, subst, ◌∙◌, inl, inr, arith}
use Rattle.std.specs.Prelude.{All, AllPairs}
use Rattle.std.specs.List.{AllZip, zip, range_with_len}
use Rattle.std.specs.Cmp.{nat_cmp_total}
use Rattle.std.specs.FinSet as set
use Rattle.std.proofs.lemmas.Bool.{cases_eq, true≢false, eqb-true, eq-eqb, ne_eqb, and_from}
use Rattle.std.proofs.lemmas.Option.{slice_get-get_or}
use Rattle.std.proofs.lemmas.List.{get_or_default}
use Rattle.std.proofs.lemmas.List.Folds.{list_any_at}
use Rattle.std.proofs.lemmas.List.FromFn.{get_or-range_with_len, length-range_with_len}
use Rattle.std.proofs.lemmas.List.Sums.{sum_by-cons}
use Rattle.std.proofs.lemmas.List.Elements.{All-head, All-tail}
use Rattle.cpu_set.specs.Ids.{Ids, IsDisjoint}
use Rattle.cpu_set.specs.Members.{InRange, cpus, members}
use Rattle.cpu_set.specs.PointwiseLaws.{contains-remove, contains-intersection, same_members}
use Rattle.certificate.specs.RowView.{RowView}
use Rattle.certificate.specs.Weight.{weight}
use Rattle.certificate.specs.IsPlan.{Meets, IsPlan}
use Rattle.certificate.specs.Cost.{row_cost, cost}
use Rattle.certificate.specs.Price.{price, all_prices}
use Rattle.certificate.specs.IsBound.{IsValueOf, worth, IsBound}
use Rattle.certificate.specs.IsDealt.{Holds}
use Rattle.certificate.specs.PlanFault.{is_held}
use Rattle.certificate.specs.declared.price_lists.Price.{Price}
use Rattle.certificate.specs.ApartLemmas.{AllPairs-tail, AllPairs-head, not_held}
use Rattle.certificate.specs.Limits.{rows_fit, values_fit, prices_fit, is_within_limits}
use Rattle.certificate.specs.TestLaws.{true_right}
use Rattle.certificate.specs.CpuLaws.{len-times}
use Rattle.certificate.specs.SumLaws.{sum_by_none, sum_by_same, sum_by_plus, sum_by-filter}
use Rattle.twins.specs.IsGrouping.{class_at, IsGrouping}
use Rattle.twins.specs.ClassWeight.{weight_at, class_weight}
use Rattle.twins.specs.Holdings.{share_of, shared_out, cell, held_of}
use Rattle.twins.specs.IsDeal.{IsDeal}
use Rattle.twins.specs.IsPriced.{IsPriced, class_prices, ClassesProvePlans}
use Rattle.twins.specs.declared.holders.Share.{Share}
use Rattle.twins.proofs.Sets.{some_of_member, there}
use Rattle.twins.proofs.Deals.{at}
use Rattle.twins.proofs.TwinLaws.{members_weigh, held_at}
use Rattle.twins.proofs.ByClass.{sum_by_swap, sum_by_places, len_of_parts, len_of_parts_le}
use Rattle.twins.specs.PriceLaws.{prices_some}
use Rattle.twins.proofs.ClassPrices.{price_none, price_of_class, class_prices_fit}

-- the prices of a set's CPUs
abbrev prices_in : List Price → Ids → ℕ
prices_in prices s = sum_by (price prices) (members s)

-- a CPU pays the row's value by its weight and its price
record Pays (row : RowView) (value : ℕ) (prices : List Price) (c : ℕ) : Type 0 where
  pub amount : ℕ
  pub weighs : weight row c ≡ Some amount
  pub equal : value ≡ amount + price prices c

one_paid : (value p : ℕ) (b : Bool) (found : Option ℕ) (w : ℕ) → found ≡ Some w → value ≡ w + p → cond {A = ℕ} b 1 0 * value ≡ cond {A = ℕ} b (unwrap_or found 0) 0 + cond {A = ℕ} b p 0
one_paid value p true found w is equal = rw is (omega (arith, equal))
one_paid value p false found w is equal = omega arith

-- what a row is worth is what its CPUs weigh, and their prices
row_paid : (prices : List Price) (row : RowView) (s : Ids) (value : ℕ) → InRange s → set.len s ≡ row.demand → ((c : ℕ) → set.contains s c ≡ true → Pays row value prices c)
    → row.demand * value ≡ row_cost row s + prices_in prices s
row_paid prices row s value in_range size pays =
    rw (
      ← size,
      len-times s value in_range,
      sum_by-filter (set.contains s) (λ c. unwrap_or (weight row c) 0) cpus,
      sum_by-filter (set.contains s) (price prices) cpus,
      ← sum_by_plus (λ c. cond (set.contains s c) (unwrap_or (weight row c) 0) 0) (λ c. cond (set.contains s c) (price prices c) 0) cpus,
    )
    (sum_by_same _ _ cpus (λ c. each c (set.contains s c) refl))
  where
    each : (c : ℕ) (b : Bool) → set.contains s c ≡ b → cond {A = ℕ} b 1 0 * value ≡ cond {A = ℕ} b (unwrap_or (weight row c) 0) 0 + cond {A = ℕ} b (price prices c) 0
    each c true here = let p = pays c here in one_paid value (price prices c) true (weight row c) p.amount p.weighs p.equal
    each c false gone = omega arith

rows_paid :
    (prices : List Price) (rows : List RowView) (sets : List Ids) (values : List ℕ) → length sets ≡ length rows → length values ≡ length rows
    → ((k : ℕ) (d : RowView) → k < length rows → (get_or rows k d).demand * get_or values k 0 ≡ row_cost (get_or rows k d) (at sets k) + prices_in prices (at sets k))
    → worth rows values ≡ cost rows sets + sum_by (prices_in prices) sets
rows_paid prices [] [] [] same_sets same_values each = refl
rows_paid prices [] [] (v ∷ values) same_sets same_values each = absurd (omega arith)
rows_paid prices [] (s ∷ sets) values same_sets same_values each = absurd (omega arith)
rows_paid prices (row ∷ rows) [] values same_sets same_values each = absurd (omega arith)
rows_paid prices (row ∷ rows) (s ∷ sets) [] same_sets same_values each = absurd (omega arith)
rows_paid prices (row ∷ rows) (s ∷ sets) (v ∷ values) same_sets same_values each =
    let here : row.demand * v ≡ row_cost row s + prices_in prices s = each 0 row (omega arith) in
    let more : worth rows values ≡ cost rows sets + sum_by (prices_in prices) sets =
    rows_paid prices rows sets values (omega arith) (omega arith) (λ k d lt. each (suc k) d (omega arith)) in
    omega (
      arith,
      sum_by-cons (λ (e : RowView × ℕ). e.0.demand * e.1) (row, v) (zip rows values),
      sum_by-cons (λ (e : RowView × Ids). row_cost e.0 e.1) (row, s) (zip rows sets),
      sum_by-cons (prices_in prices) s sets,
      here,
      more,
    )

apart_once : (p : ℕ) (a b : Bool) → (a ≡ true → b ≡ false) → cond {A = ℕ} a p 0 + cond {A = ℕ} b p 0 ≡ cond {A = ℕ} (a || b) p 0
apart_once p true b once = rw (once refl) (omega arith)
apart_once p false b once = omega arith

prices_of_sets : (prices : List Price) (sets : List Ids) → AllPairs IsDisjoint sets → sum_by (prices_in prices) sets ≡ sum_by (λ c. cond (is_held sets c) (price prices c) 0) cpus
prices_of_sets prices [] apart = sym (sum_by_none _ cpus (λ c. refl))
prices_of_sets prices (s ∷ sets) apart =
    rw (
      sum_by-cons (prices_in prices) s sets,
      prices_of_sets prices sets (AllPairs-tail s sets apart),
      sum_by-filter (set.contains s) (price prices) cpus,
      ← sum_by_plus (λ c. cond (set.contains s c) (price prices c) 0) (λ c. cond (is_held sets c) (price prices c) 0) cpus,
    )
    (sum_by_same _ _ cpus (λ c. apart_once (price prices c) (set.contains s c) (is_held sets c) (not_held s sets (AllPairs-head s sets apart) c)))

-- where CPUs that no row holds have no price, the prices of all CPUs are those of the CPUs held
held_prices : (prices : List Price) (sets : List Ids) → AllPairs IsDisjoint sets → ((c : ℕ) → is_held sets c ≡ false → price prices c ≡ 0) → sum_by (prices_in prices) sets ≡ all_prices prices
held_prices prices sets apart free = prices_of_sets prices sets apart ∙ sum_by_same _ _ cpus (λ c. each c (is_held sets c) refl)
  where
    each : (c : ℕ) (b : Bool) → is_held sets c ≡ b → cond {A = ℕ} b (price prices c) 0 ≡ price prices c
    each c true held = refl
    each c false gone = sym (free c gone)

-- a relation that holds at each place holds of the lists
zip_places :
    {A B : Type 0} (R : A → B → Type 0) (xs : List A) (ys : List B) (e : B) → length ys ≡ length xs
    → ((k : ℕ) (d : A) → k < length xs → R (get_or xs k d) (get_or ys k e)) → AllZip R xs ys
zip_places R [] [] e same each = tt
zip_places R [] (y ∷ ys) e same each = absurd (omega arith)
zip_places R (x ∷ xs) [] e same each = absurd (omega arith)
zip_places R (x ∷ xs) (y ∷ ys) e same each = (each 0 x (omega arith), zip_places R xs ys e (omega arith) (λ k d lt. each (suc k) d (omega arith)))

row_none : (a r b n : ℕ) → r < b → sum_by (λ k. cond {A = ℕ} (r == k) a 0) (range_with_len b n) ≡ 0
row_none a r b zero lt = refl
row_none a r b (suc n) lt =
    omega (
      arith,
      sum_by-cons (λ k. cond {A = ℕ} (r == k) a 0) b (range_with_len (b + 1) n),
      ap (λ t. cond {A = ℕ} t a 0) (ne_eqb r b (λ e. omega arith)),
      row_none a r (b + 1) n (omega arith),
    )

row_once : (a r b n : ℕ) → b ≤ r → r < b + n → sum_by (λ k. cond {A = ℕ} (r == k) a 0) (range_with_len b n) ≡ a
row_once a r b zero le lt = absurd (omega arith)
row_once a r b (suc n) le lt =
    elim (cases_eq r b) [
      | inl same ↦
          omega (
            arith,
            sum_by-cons (λ k. cond {A = ℕ} (r == k) a 0) b (range_with_len (b + 1) n),
            ap (λ t. cond {A = ℕ} t a 0) (eq-eqb r b same),
            row_none a r (b + 1) n (omega arith),
          )
      | inr differ ↦
          omega (
            arith,
            sum_by-cons (λ k. cond {A = ℕ} (r == k) a 0) b (range_with_len (b + 1) n),
            ap (λ t. cond {A = ℕ} t a 0) (ne_eqb r b differ),
            row_once a r (b + 1) n (omega arith) (omega arith),
          )
    ]

-- what all shares are together is what the rows hold, row by row
shared_by_rows : (shares : List Share) (n : ℕ) → All (λ (s : Share). s.row < n) shares → shared_out shares ≡ sum_by (λ k. share_of k shares) (range_with_len 0 n)
shared_by_rows shares n low =
    by_shares shares low ∙ sum_by_swap (λ (s : Share) (k : ℕ). cond {A = ℕ} (s.row == k) s.amount 0) shares (range_with_len 0 n)
  where
    by_shares : (shares : List Share) → All (λ (s : Share). s.row < n) shares → shared_out shares ≡ sum_by (λ (s : Share). sum_by (λ k. cond {A = ℕ} (s.row == k) s.amount 0) (range_with_len 0 n)) shares
    by_shares [] low = refl
    by_shares (s ∷ shares) low =
        let here : s.row < n = All-head (λ (t : Share). t.row < n) s shares low in
        omega (
          arith,
          sum_by-cons (λ (t : Share). t.amount) s shares,
          sum_by-cons (λ (t : Share). sum_by (λ k. cond {A = ℕ} (t.row == k) t.amount 0) (range_with_len 0 n)) s shares,
          row_once s.amount s.row 0 n (omega arith) (omega arith),
          by_shares shares (All-tail (λ (t : Share). t.row < n) s shares low),
        )

met_either_way : (s t : Ids) → set.intersection s t ≡ set.intersection t s
met_either_way s t = same_members _ _ (λ c. contains-intersection s t c ∙ either (set.contains s c) (set.contains t c) ∙ sym (contains-intersection t s c))
  where
    either : (a b : Bool) → (a && b) ≡ (b && a)
    either true true = refl
    either true false = refl
    either false true = refl
    either false false = refl

module _
    (rows : List RowView) (classes : List Ids) (holdings : List (List Share)) (sets : List Ids) (values prices : List ℕ)
    (grouping : IsGrouping rows classes) (deal : IsDeal classes holdings sets) (same : length sets ≡ length rows) (priced : IsPriced rows classes holdings values prices) where
  -- a row's weight for a CPU of a class is the class's
  weighs : (k g c w : ℕ) (d : RowView) → k < length rows → Holds classes g c → class_weight rows classes k g ≡ Some w → weight (get_or rows k d) c ≡ Some w
  weighs k g c w d lt here is =
      let at_row : weight_at rows k c ≡ weight (get_or rows k d) c = ap (λ r. row_weight r) (slice_get-get_or rows k d lt) in
      sym at_row ∙ sym (members_weigh rows classes grouping k g c here) ∙ is
    where
      row_weight : Option RowView → Option ℕ
      row_weight None = None
      row_weight (Some row) = weight row c

  -- what a CPU that a row holds weighs
  pays : (k c : ℕ) (d : RowView) → k < length rows → Holds sets k c → Pays (get_or rows k d) (get_or values k 0) (class_prices classes prices) c
  pays k c d lt holds =
      let class = held_at classes c (deal.only k c holds) in
      let some : 0 < cell holdings k class.0 =
      subst (λ n. 0 < n) (deal.counts k class.0 (omega (arith, lt, same)))
      (some_of_member _ c (contains-intersection (at sets k) (class_at classes class.0) c ∙ and_from _ _ holds class.1)) in
      let tight = priced.tight k class.0 some in
      record {
        amount = tight.0;
        weighs = weighs k class.0 c tight.0 d lt class.1 tight.1;
        equal = tight.2 ∙ ap (λ n. tight.0 + n) (sym (price_of_class classes prices class.0 c grouping.apart class.1));
      }

  in_range : (k : ℕ) → k < length rows → InRange (at sets k)
  in_range k lt = deal.in_range k set.empty (omega (arith, lt, same))

  size : (k : ℕ) (d : RowView) → k < length rows → set.len (at sets k) ≡ (get_or rows k d).demand
  size k d lt =
      sym (len_of_parts (at sets k) classes (in_range k lt) grouping.apart (λ c holds. deal.only k c holds))
      ∙ sum_by_places (λ t. set.len (set.intersection (at sets k) t)) (share_of k) classes holdings (sym priced.long) each
      ∙ priced.filled k d lt
    where
      each : (g : ℕ) (t : Ids) (e : List Share) → g < length classes → set.len (set.intersection (at sets k) (get_or classes g t)) ≡ share_of k (get_or holdings g e)
      each g t e within =
          ap (λ s. set.len (set.intersection (at sets k) s)) (get_or_default classes g t set.empty within)
          ∙ deal.counts k g (omega (arith, lt, same))
          ∙ ap (share_of k) (get_or_default holdings g [] e (omega (arith, within, priced.long)))

  met : (k : ℕ) (d : RowView) → k < length rows → Meets (get_or rows k d) (at sets k)
  met k d lt = record {
    in_range = in_range k lt;
    size = size k d lt;
    allowed = λ c holds. let p = pays k c d lt holds in rw p.weighs refl;
  }

  -- a class of which some CPU is held by no row is not held whole
  held_less : (g c : ℕ) → Holds classes g c → is_held sets c ≡ false → held_of holdings g < set.len (class_at classes g)
  held_less g c here free =
      let within : g < length classes = there classes g c here in
      let rest : Ids = set.remove (class_at classes g) c in
      let fewer : set.len rest ≡ set.len (class_at classes g) - 1 =
      set.len-remove nat_cmp_total (class_at classes g) c ∙ ap (λ b. cond b (set.len (class_at classes g) - 1) (set.len (class_at classes g))) here in
      let some : 0 < set.len (class_at classes g) = some_of_member (class_at classes g) c here in
      let by_rows : held_of holdings g ≡ sum_by (λ k. cell holdings k g) (range_with_len 0 (length rows)) =
      shared_by_rows (get_or holdings g []) (length rows) (priced.rows_in g [] (omega (arith, within, priced.long))) in
      let by_sets : sum_by (λ k. cell holdings k g) (range_with_len 0 (length rows)) ≡ sum_by (λ s. set.len (set.intersection rest s)) sets =
      sum_by_places (λ k. cell holdings k g) (λ s. set.len (set.intersection rest s)) (range_with_len 0 (length rows)) sets
      (length-range_with_len 0 (length rows) ∙ sym same) (each within) in
      let no_more : sum_by (λ s. set.len (set.intersection rest s)) sets ≤ set.len rest = len_of_parts_le rest sets rest_in_range deal.apart in
      omega (arith, by_rows, by_sets, no_more, fewer, some)
    where
      rest_in_range : InRange (set.remove (class_at classes g) c)
      rest_in_range n member =
          grouping.in_range g set.empty (there classes g c here) n
          (true_right (not (n == c)) (set.contains (class_at classes g) n) (sym (contains-remove (class_at classes g) c n) ∙ member))

      not_in : (k : ℕ) → k < length sets → set.contains (at sets k) c ≡ false
      not_in k lt = by_cases (set.contains (at sets k) c) refl
        where
          by_cases : (b : Bool) → set.contains (at sets k) c ≡ b → set.contains (at sets k) c ≡ false
          by_cases true held = absurd (true≢false (sym (list_any_at (λ (s : Ids). set.contains s c) sets k set.empty lt held) ∙ free))
          by_cases false e = e

      same_met : (k : ℕ) → k < length sets → set.intersection (set.remove (class_at classes g) c) (at sets k) ≡ set.intersection (at sets k) (class_at classes g)
      same_met k lt =
          same_members _ _ (λ n.
          contains-intersection (set.remove (class_at classes g) c) (at sets k) n
          ∙ ap (λ b. b && set.contains (at sets k) n) (contains-remove (class_at classes g) c n)
          ∙ one n (n == c) refl ∙ sym (contains-intersection (at sets k) (class_at classes g) n))
        where
          swapped : (a b : Bool) → ((not false && a) && b) ≡ (b && a)
          swapped true true = refl
          swapped true false = refl
          swapped false true = refl
          swapped false false = refl

          one : (n : ℕ) (b : Bool) → (n == c) ≡ b
              → ((not (n == c) && set.contains (class_at classes g) n) && set.contains (at sets k) n) ≡ (set.contains (at sets k) n && set.contains (class_at classes g) n)
          one n true e =
              let gone : set.contains (at sets k) n ≡ false = ap (set.contains (at sets k)) (eqb-true n c e) ∙ not_in k lt in
              rw (e, gone) refl
          one n false e = rw e (swapped (set.contains (class_at classes g) n) (set.contains (at sets k) n))

      each : g < length classes → (k j : ℕ) (s : Ids) → k < length (range_with_len 0 (length rows))
          → cell holdings (get_or (range_with_len 0 (length rows)) k j) g ≡ set.len (set.intersection (set.remove (class_at classes g) c) (get_or sets k s))
      each within k j s lt =
          let in_rows : k < length rows = omega (arith, lt, length-range_with_len 0 (length rows)) in
          let in_sets : k < length sets = omega (arith, in_rows, same) in
          ap (λ i. cell holdings i g) (get_or-range_with_len 0 (length rows) k j in_rows ∙ plus k)
          ∙ sym (deal.counts k g in_sets)
          ∙ ap set.len (sym (same_met k in_sets))
          ∙ ap (λ t. set.len (set.intersection (set.remove (class_at classes g) c) t)) (get_or_default sets k set.empty s in_sets)
        where
          plus : (k : ℕ) → 0 + k ≡ k
          plus k = omega arith

  free_price : (c : ℕ) → is_held sets c ≡ false → price (class_prices classes prices) c ≡ 0
  free_price c free = by_cases (is_held classes c) refl
    where
      by_cases : (b : Bool) → is_held classes c ≡ b → price (class_prices classes prices) c ≡ 0
      by_cases true held =
          let class = held_at classes c held in
          price_of_class classes prices class.0 c grouping.apart class.1 ∙ priced.zero class.0 (held_less class.0 c class.1 free)
      by_cases false none = price_none classes prices c none

  value_below : (k : ℕ) (d : RowView) → k < length rows → IsValueOf (class_prices classes prices) (get_or rows k d) (get_or values k 0)
  value_below k d lt c w is_cpu is =
      let is_offered_c = list_any_at (λ (row : RowView). is_some (weight row c)) rows k d lt (ap is_some is) in
      let class = held_at classes c (grouping.whole c ∙ is_offered_c) in
      let at_row : weight_at rows k c ≡ Some w = at_weight is in
      let below = priced.below k class.0 w (members_weigh rows classes grouping k class.0 c class.1 ∙ at_row) in
      omega (arith, below, price_of_class classes prices class.0 c grouping.apart class.1)
    where
      at_weight : {w : ℕ} → weight (get_or rows k d) c ≡ Some w → weight_at rows k c ≡ Some w
      at_weight is = ap (λ r. row_weight r) (slice_get-get_or rows k d lt) ∙ is
        where
          row_weight : Option RowView → Option ℕ
          row_weight None = None
          row_weight (Some row) = weight row c

  pub proves_plan : IsPlan rows sets × IsBound rows values (class_prices classes prices) (cost rows sets)
  proves_plan = (
    record { met = zip_places Meets rows sets set.empty same met; apart = deal.apart },
    record {
      below = zip_places (IsValueOf (class_prices classes prices)) rows values 0 priced.as_many value_below;
      sum =
          rows_paid (class_prices classes prices) rows sets values same priced.as_many
          (λ k d lt. row_paid (class_prices classes prices) (get_or rows k d) (at sets k) (get_or values k 0) (in_range k lt) (size k d lt) (λ c holds. pays k c d lt holds))
          ∙ ap (λ n. cost rows sets + n) (held_prices (class_prices classes prices) sets deal.apart free_price);
    },
  )

within_limits :
    (rows : List RowView) (sets : List Ids) (values : List ℕ) (of_cpu : List Price) → rows_fit rows ≡ true → length sets ≡ length rows → length values ≡ length rows
    → values_fit values ≡ true → prices_fit of_cpu ≡ true → is_within_limits rows sets (record { values = values; of_cpu = of_cpu }) ≡ true
unfolding is_within_limits
within_limits rows sets values of_cpu fit same_sets same_values values_are prices_are =
    and_from _ _ fit (and_from _ _ (eq-eqb (length sets) (length rows) same_sets) (and_from _ _ (eq-eqb (length values) (length rows) same_values) (and_from _ _ values_are prices_are)))

pub classes_prove_plans : ClassesProvePlans
classes_prove_plans rows classes holdings sets values prices fit values_are prices_are grouping deal same priced =
    let proved = proves_plan rows classes holdings sets values prices grouping deal same priced in (
      record {
        limits =
            within_limits rows sets values (class_prices classes prices) fit same priced.as_many values_are (class_prices_fit classes prices grouping.apart prices_are);
        plan = proved.0;
        costs = refl;
        bound = proved.1;
      },
      prices_some classes prices grouping.not_empty,
    )
