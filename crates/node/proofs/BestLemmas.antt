-- A least plan of the scaled rows is the best that the containers could have.
use Rattle.std.proofs.Common.{◌≡◌, ℕ, ◌*◌, ◌<◌, ◌≤◌, Bool, true, false, cond, not, ◌&&◌, List, [], ◌∷◌, length, filter, option_map, refl, sym, ap, ◌∙◌, subst, sum_by, arith}
use Rattle.std.proofs.Math.Nat.{le_of_mul-le-mul_left, mul_comm, mul-le-mul_right}
use Rattle.std.proofs.lemmas.Bool.{and_from, and_parts}
use Rattle.std.proofs.lemmas.List.Sums.{sum_by-cons}
use Rattle.std.specs.Prelude.{zip, Result, Ok, Err, IfOk}
use Rattle.std.specs.List.{AllByRecursion, AllZip, list_all}
use Rattle.std.specs.FinSet as set
use Rattle.cpu_set.specs.Ids.{Ids}
use Rattle.cpu_set.specs.Members.{InRange, cpus, members}
use Rattle.cpu_set.specs.PointwiseLaws.{contains-difference, is_subset-contains}
use Rattle.cpu_set.specs.SetLaws.{length-members}
use Rattle.cpu_set.specs.declared.TheConstants.{CPU_LIMIT}
use Rattle.certificate.specs.RowView.{RowView}
use Rattle.certificate.specs.PricesView.{PricesView}
use Rattle.certificate.specs.IsPlan.{IsPlan}
use Rattle.certificate.specs.IsLeast.{IsLeast}
use Rattle.certificate.specs.IsProved.{IsProved}
use Rattle.certificate.specs.IsShortage.{IsShortage}
use Rattle.certificate.specs.Cost.{cost}
use Rattle.certificate.specs.Limits.{rows_fit}
use Rattle.certificate.specs.Scaled.{with_weights, by_distance, by_moves, is_scaled, are_scaled}
use Rattle.certificate.specs.TwoCostLaws.{cost_splits, moves_are_few, least_is_nearest}
use Rattle.certificate.specs.declared.limits.TheConstants.{MOVE_SCALE}
use Rattle.certificate.specs.Packed.{packed, distance_of, moves_of}
use Rattle.certificate.specs.PackedLemmas.{distance_of-packed}
use Rattle.certificate.specs.Verdict.{AreParts}
use Rattle.certificate.specs.declared.certificates.Certificate.{Certificate}
use Rattle.certificate.specs.declared.certificates.Certificate.TheVariants.{Plan, Short}
use Rattle.certificate.specs.declared.weights.Weights.TheVariants.{WithMoves}
use Rattle.certificate_text.specs.Written.{CanWrite, IsHeld}
use Rattle.solution.specs.Decides.{Decides, DecidesPlan, DecidesShort}
use Rattle.rows.specs.Weighs.{RowsWeigh}
use Rattle.rows.specs.LimitLemmas.{rows_weigh}
use Rattle.rows.specs.PartLemmas.{scaled_rows_weigh, distances_stay, moves_are_unheld}
use Rattle.rows.specs.PartRisingLemmas.{parts_are_scaled}
use Rattle.machine.specs.Cores.{cores_in}
use Rattle.machine.specs.Layout.{Layout}
use Rattle.machine.specs.WholeLaws.{cores_in-within}
use Rattle.kernel_model.specs.KernelState.{KernelState}
use Rattle.node.specs.NodeState.{NodeState}
use Rattle.node.specs.IsNode.{ProvesItself, IsKept, IsNode}
use Rattle.node.specs.Rows.{as_cores, as_cpus, rows_of, scaled_row_of_container, scaled_rows_of}
use Rattle.node.specs.Best.{asking, CouldHave, total_distance, moved_by, moved, IsBest}
use Rattle.node.specs.Rebalance.{IsAnswer, ComesTo}
use Rattle.node.specs.Asking.{is_open, moving_weight}
use Rattle.node.proofs.AskingLemmas.{all_given, zip_of_map, of_parts, home, unheld, held_by, map_where, weighed, scaled_with_asking, rows_are_weighed, scaled_are_weighed}
use Rattle.node.proofs.DistanceLemmas.{Container, IsWeighed, summed, times_cancel, could_far, could_plan, plan_back, plan_could, cost_is_summed}
use Rattle.node.proofs.ListLemmas.{all_of}

-- a lesser number, some times, is less, and the other way round
times_below : (a b t : ℕ) → 1 ≤ t → a * t ≤ b * t → a ≤ b
times_below a b t some below =
    let positive : 0 < t = omega (arith, some) in
    le_of_mul-le-mul_left (subst (λ n. n ≤ t * b) (mul_comm a t) (subst (λ n. a * t ≤ n) (mul_comm b t) below)) positive

-- the cores of the best sets are a least plan of the rows
module _ (n : NodeState) (h : IsNode n) (weigh : RowsWeigh) (total : ℕ) (sets : List Ids) (best : IsBest n total sets) where
  best_plan : IsPlan (rows_of n) (as_cores n.machine sets)
  best_plan = could_plan n h (home n.machine) (rows_of n) (rows_are_weighed n h weigh) sets best.could

  costs_far : (others : List Ids) → CouldHave n others → cost (rows_of n) (as_cores n.machine others) * n.machine.threads ≡ total_distance n others
  costs_far others could =
      ap (λ c. c * n.machine.threads)
      (cost_is_summed n h (home n.machine) (rows_of n) (rows_are_weighed n h weigh) (as_cores n.machine others)
      (could_plan n h (home n.machine) (rows_of n) (rows_are_weighed n h weigh) others could))
      ∙ sym (could_far n h others could)

  pub best_costs : total ≡ cost (rows_of n) (as_cores n.machine sets) * n.machine.threads
  best_costs = best.far ∙ sym (costs_far sets best.could)

  pub best_least : IsLeast (rows_of n) (as_cores n.machine sets)
  best_least = record {
    plan = best_plan;
    least = λ plan is.
        let could : CouldHave n (as_cpus n.machine plan) = plan_could n h (home n.machine) (rows_of n) (rows_are_weighed n h weigh) plan is in
        let back : as_cores n.machine (as_cpus n.machine plan) ≡ plan = plan_back n h (home n.machine) (rows_of n) (rows_are_weighed n h weigh) plan is in
        times_below (cost (rows_of n) (as_cores n.machine sets)) (cost (rows_of n) plan) n.machine.threads h.layout.sound.cores.some
        (omega (
          arith,
          best_costs,
          costs_far (as_cpus n.machine plan) could,
          ap (λ (cs : List Ids). cost (rows_of n) cs * n.machine.threads) back,
          best.nearest (as_cpus n.machine plan) could,
        ));
  }

-- as many numbers pass both tests as pass the first, each counted where it passes the second
step : (f : ℕ → ℕ) (x : ℕ) (ys zs : List ℕ) → sum_by f ys ≡ length zs → (a b : Bool) → f x ≡ cond b 0 1
    → sum_by f (cond a (x ∷ ys) ys) ≡ length (cond (a && not b) (x ∷ zs) zs)
step f x ys zs rest true true is = omega (arith, sum_by-cons f x ys, is, rest)
step f x ys zs rest true false is = omega (arith, sum_by-cons f x ys, is, rest)
step f x ys zs rest false b is = rest

sum_filter : (p q r : ℕ → Bool) → ((c : ℕ) → r c ≡ (p c && not (q c))) → (xs : List ℕ) → sum_by (λ c. cond (q c) 0 1) (filter p xs) ≡ length (filter r xs)
sum_filter p q r same [] = refl
sum_filter p q r same (x ∷ xs) =
    step (λ c. cond (q c) 0 1) x (filter p xs) (filter r xs) (sum_filter p q r same xs) (p x) (q x) refl
    ∙ ap (λ (b : Bool). length (cond b (x ∷ filter r xs) (filter r xs))) (sym (same x))

all_true : {X : Type 0} (p : X → Bool) (xs : List X) → AllByRecursion (λ x. p x ≡ true) xs → list_all p xs ≡ true
all_true p [] h = refl
all_true p (x ∷ xs) h = and_from (p x) (list_all p xs) h.0 (all_true p xs h.1)

-- the cores of a set that a container's group does not request as a whole
module _ (k : KernelState) (m : Layout) where
  unheld_are_moved : (e : Container) (s : Ids) → InRange s → sum_by (unheld k m e) (members (cores_in m s)) ≡ moved_by k m e s
  unheld_are_moved e s range =
      let cores : Ids = cores_in m s in
      let held : Ids = held_by k m e in
      let in_range : InRange (set.difference cores held) =
      λ c has.
      range c (is_subset-contains cores s (cores_in-within m s) c
      (and_parts (set.contains cores c) (not (set.contains held c)) (sym (contains-difference cores held c) ∙ has)).0) in
      sum_filter (set.contains cores) (set.contains held) (set.contains (set.difference cores held)) (contains-difference cores held) cpus
      ∙ length-members (set.difference cores held) in_range

  all_moves : (es : List Container) (sets : List Ids) → AllByRecursion InRange sets
      → summed (unheld k m) es (as_cores m sets) ≡ sum_by (λ p. moved_by k m p.0 p.1) (zip es sets)
  all_moves [] sets range = refl
  all_moves (e ∷ es) [] range = refl
  all_moves (e ∷ es) (s ∷ sets) range =
      omega (
        arith,
        sum_by-cons (λ p. sum_by (unheld k m p.0) (members p.1)) (e, cores_in m s) (zip es (as_cores m sets)),
        sum_by-cons (λ p. moved_by k m p.0 p.1) (e, s) (zip es sets),
        unheld_are_moved e s range.0,
        all_moves es sets range.1,
      )

module _ (n : NodeState) (h : IsNode n) where
  abbrev rows : List RowView
  rows = scaled_rows_of n

  abbrev m : Layout
  m = n.machine

  -- the scaled rows by distance, and by moves
  by_home : AllZip (IsWeighed n.kernel m (home m)) (by_distance rows) (asking n)
  by_home =
      zip_of_map (IsWeighed n.kernel m (home m)) (with_weights distance_of) rows (asking n)
      (scaled_with_asking n.kernel m (λ row e. IsWeighed n.kernel m (home m) (with_weights distance_of row) e)
      (λ e row fits is.
      let w : IsWeighed n.kernel m (home m) row e = weighed n.kernel m h.layout rows_weigh e row fits is in
      record { demand = w.demand; weights = λ core. distances_stay (held_by n.kernel m e) row core ∙ w.weights core }) n.containers h.asked)

  by_unheld : AllZip (IsWeighed n.kernel m (unheld n.kernel m)) (by_moves rows) (asking n)
  by_unheld =
      zip_of_map (IsWeighed n.kernel m (unheld n.kernel m)) (with_weights moves_of) rows (asking n)
      (scaled_with_asking n.kernel m (λ row e. IsWeighed n.kernel m (unheld n.kernel m) (with_weights moves_of row) e)
      (λ e row fits is.
      let w : IsWeighed n.kernel m (home m) row e = weighed n.kernel m h.layout rows_weigh e row fits is in
      record {
        demand = w.demand;
        weights = λ core.
            moves_are_unheld (held_by n.kernel m e) row core ∙ ap (option_map (λ _. unheld n.kernel m e core)) (w.weights core)
            ∙ map_where (λ _. unheld n.kernel m e core) (is_open n.kernel m core e) (home m e core);
      }) n.containers h.asked)

  pub rows_are_scaled : are_scaled rows ≡ true
  rows_are_scaled =
      all_true (λ row. list_all is_scaled row.offers) rows
      (all_given (scaled_row_of_container n.kernel m) (λ e. Unit {0}) (λ row. list_all is_scaled row.offers ≡ true)
      (λ e row _ is.
      let p = of_parts n.kernel m e row is in
      subst (λ (r : RowView). list_all is_scaled r.offers ≡ true) p.row_is (parts_are_scaled (held_by n.kernel m e) p.plain.offers)) n.containers
      (all_of (λ e. Unit {0}) (λ e. tt) n.containers))

  near_plan : (sets : List Ids) → CouldHave n sets → IsPlan (by_distance rows) (as_cores m sets)
  near_plan sets could = could_plan n h (home m) (by_distance rows) by_home sets could

  far : (sets : List Ids) → CouldHave n sets → cost (by_distance rows) (as_cores m sets) * m.threads ≡ total_distance n sets
  far sets could =
      ap (λ c. c * m.threads) (cost_is_summed n h (home m) (by_distance rows) by_home (as_cores m sets) (near_plan sets could))
      ∙ sym (could_far n h sets could)

  moves : (sets : List Ids) → CouldHave n sets → cost (by_moves rows) (as_cores m sets) ≡ moved n sets
  moves sets could =
      cost_is_summed n h (unheld n.kernel m) (by_moves rows) by_unheld (as_cores m sets)
      (could_plan n h (unheld n.kernel m) (by_moves rows) by_unheld sets could)
      ∙ all_moves n.kernel m (asking n) sets could.numbers

  module _ (plan : List Ids) (least : IsLeast rows plan) where
    abbrev sets : List Ids
    sets = as_cpus m plan

    near : IsLeast (by_distance rows) plan
    near = (least_is_nearest rows plan rows_are_scaled least).0

    could : CouldHave n sets
    could = plan_could n h (home m) (by_distance rows) by_home plan near.plan

    back : as_cores m sets ≡ plan
    back = plan_back n h (home m) (by_distance rows) by_home plan near.plan

    -- what they cost is the distance of the cores, scaled, and how many of them move
    plan_far : cost (by_distance rows) plan * m.threads ≡ total_distance n sets
    plan_far = ap (λ (cs : List Ids). cost (by_distance rows) cs * m.threads) (sym back) ∙ far sets could

    plan_moves : cost (by_moves rows) plan ≡ moved n sets
    plan_moves = ap (cost (by_moves rows)) (sym back) ∙ moves sets could

    small : moved n sets < MOVE_SCALE
    small =
        let at_most : cost (by_moves rows) plan ≤ CPU_LIMIT = moves_are_few rows plan rows_are_scaled least.plan in
        omega (arith, plan_moves, at_most)

    whole_is : (whole : ℕ) → cost rows plan ≡ whole → whole ≡ packed (cost (by_distance rows) plan) (moved n sets)
    whole_is whole costs = omega (arith, costs, cost_splits rows plan, plan_moves)

    distance_is : (whole : ℕ) → cost rows plan ≡ whole → distance_of whole ≡ cost (by_distance rows) plan
    distance_is whole costs = ap distance_of (whole_is whole costs) ∙ distance_of-packed (cost (by_distance rows) plan) (moved n sets) small

    are_parts : (whole : ℕ) → cost rows plan ≡ whole → AreParts whole (distance_of whole) (moved n sets)
    are_parts whole costs = record {
      moves_fit = small;
      whole = whole_is whole costs ∙ ap (λ (d : ℕ). packed d (moved n sets)) (sym (distance_is whole costs));
    }

    are_best : IsBest n (cost (by_distance rows) plan * m.threads) sets
    are_best = record {
      could = could;
      far = plan_far;
      nearest = λ others other.
          subst (λ (d : ℕ). cost (by_distance rows) plan * m.threads ≤ d) (far others other)
          (mul-le-mul_right m.threads (near.least (as_cores m others) (near_plan others other)));
      fewest = λ others other same.
          let other_plan : IsPlan rows (as_cores m others) =
          could_plan n h (moving_weight n.kernel m) rows (scaled_are_weighed n h rows_weigh scaled_rows_weigh) others other in
          let as_near : cost (by_distance rows) (as_cores m others) ≡ cost (by_distance rows) plan =
          times_cancel (cost (by_distance rows) (as_cores m others)) (cost (by_distance rows) plan) m.threads h.layout.sound.cores.some (far others other ∙ same) in
          omega (arith, plan_moves, moves others other, (least_is_nearest rows plan rows_are_scaled least).1 (as_cores m others) other_plan as_near);
    }

  is_answer : (plan : List Ids) (prices : PricesView) (whole : ℕ) → DecidesPlan rows plan prices whole → IsAnswer n rows plan prices whole
  is_answer plan prices whole d =
      let best : IsBest n (distance_of whole * m.threads) (as_cpus m plan) =
      subst (λ (distance : ℕ). IsBest n (distance * m.threads) (as_cpus m plan)) (sym (distance_is plan d.least whole d.proved.costs)) (are_best plan d.least) in
      record {
        rows_are = refl;
        decides = d;
        least = subst (λ (cs : List Ids). IsLeast (rows_of n) cs) (back plan d.least) (best_least n h rows_weigh (distance_of whole * m.threads) (as_cpus m plan) best);
        best = best;
        parts = are_parts plan d.least whole d.proved.costs;
      }

  pub comes_to : (c : Certificate) → Decides rows WithMoves c → ComesTo n c
  comes_to (Plan own sets prices whole said) d =
      (d.1, subst (λ (rs : List RowView). IsAnswer n rs sets prices whole) (sym d.0) (is_answer sets prices whole d.2))
  comes_to (Short own named said) d = (d.1, d.0, subst (λ (rs : List RowView). DecidesShort rs named) (sym d.0) d.2)

  pub proves_itself : rows_fit rows ≡ true → (c : Certificate) → Decides rows WithMoves c → ProvesItself c
  proves_itself fit (Plan own sets prices whole said) d =
      (d.1, ap are_scaled d.0 ∙ rows_are_scaled, subst (λ (rs : List RowView). IsProved rs sets prices whole) (sym d.0) d.2.proved)
  proves_itself fit (Short own named said) d =
      (d.1, ap are_scaled d.0 ∙ rows_are_scaled, ap rows_fit d.0 ∙ fit, subst (λ (rs : List RowView). IsShortage rs named) (sym d.0) d.2.shortage)

  -- so does what the program makes of its problem, unless memory is wanting
  module _ {E : Type 0} (problem : List RowView) (is : problem ≡ rows) where
    pub all_come : (r : Result Certificate E) → IfOk r (Decides problem WithMoves) → IfOk r (ComesTo n)
    all_come (Ok c) d = comes_to c (subst (λ (rs : List RowView). Decides rs WithMoves c) is d)
    all_come (Err e) d = tt

    pub all_kept : rows_fit problem ≡ true → (r : Result Certificate E) → IfOk r (Decides problem WithMoves) → IfOk r CanWrite → IfOk r IsHeld → IfOk r IsKept
    all_kept fit (Ok c) d can held = (can, held, proves_itself (ap rows_fit (sym is) ∙ fit) c (subst (λ (rs : List RowView). Decides rs WithMoves c) is d))
    all_kept fit (Err e) d can held = tt
