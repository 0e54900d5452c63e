-- What scaled weights mean.
use Rattle.std.proofs.Common.{◌≡◌, ℕ, ◌+◌, ◌*◌, ◌≤◌, Bool, true, false, cond, Option, Some, None, option_map, unwrap_or, IsSome, List, [], ◌∷◌, map, zip, sum_by, sym, ap, ◌∙◌, arith}
use Rattle.std.specs.Prelude.{find}
use Rattle.std.specs.List.{AllZip, list_all}
use Rattle.std.specs.FinSet as set
use Rattle.std.proofs.lemmas.Bool.{leb-true}
use Rattle.std.proofs.lemmas.List.Sums.{sum_by-cons, sum_by-le-sum_by}
use Rattle.cpu_set.specs.Ids.{Ids}
use Rattle.cpu_set.specs.Members.{cpus, members}
use Rattle.cpu_set.specs.declared.TheConstants.{CPU_LIMIT}
use Rattle.certificate.specs.RowView.{RowView}
use Rattle.certificate.specs.Weight.{weight, weight_in}
use Rattle.certificate.specs.Cost.{cost, row_cost}
use Rattle.certificate.specs.IsPlan.{Meets, IsPlan}
use Rattle.certificate.specs.PlanFault.{is_held}
use Rattle.certificate.specs.declared.rows.Offer.{Offer}
use Rattle.certificate.specs.declared.limits.TheConstants.{MOVE_SCALE}
use Rattle.certificate.specs.Packed.{distance_of, moves_of}
use Rattle.certificate.specs.PackedLemmas.{packed-parts, no_farther}
use Rattle.certificate.specs.Scaled.{with_weight, with_weights, by_distance, by_moves, is_scaled, are_scaled, CostSplits, SamePlans, MovesAreFew, LeastIsNearest}
use Rattle.certificate.specs.ScaledLaws.{weight_with}
use Rattle.certificate.specs.TestLaws.{true_left, true_right, one_at_most}
use Rattle.certificate.specs.SumLaws.{sum_by_same, sum_by_plus, sum_by_times, sum_by-constant}
use Rattle.certificate.specs.CpuLaws.{sum_by-cpus-le, length-cpus}
use Rattle.certificate.specs.ApartLemmas.{sums_of_sets}

-- ---- plans

some_with : (f : ℕ → ℕ) (a : Option ℕ) → IsSome a → IsSome (option_map f a)
some_with f None s = s
some_with f (Some w) s = s

some_without : (f : ℕ → ℕ) (a : Option ℕ) → IsSome (option_map f a) → IsSome a
some_without f None s = s
some_without f (Some w) s = s

meets_with : (f : ℕ → ℕ) (row : RowView) (s : Ids) → Meets row s → Meets (with_weights f row) s
meets_with f row s m = record {
  in_range = m.in_range;
  size = m.size;
  allowed = λ c has. rw (weight_with f row.offers c) (some_with f (weight row c) (m.allowed c has));
}

meets_without : (f : ℕ → ℕ) (row : RowView) (s : Ids) → Meets (with_weights f row) s → Meets row s
meets_without f row s m = record {
  in_range = m.in_range;
  size = m.size;
  allowed = λ c has. some_without f (weight row c) (rw (← weight_with f row.offers c) (m.allowed c has));
}

all_meet_with : (f : ℕ → ℕ) (rows : List RowView) (sets : List Ids) → AllZip Meets rows sets → AllZip Meets (map (with_weights f) rows) sets
all_meet_with f [] [] met = met
all_meet_with f [] (s ∷ sets) met = met
all_meet_with f (row ∷ rows) [] met = met
all_meet_with f (row ∷ rows) (s ∷ sets) met = (meets_with f row s met.0, all_meet_with f rows sets met.1)

all_meet_without : (f : ℕ → ℕ) (rows : List RowView) (sets : List Ids) → AllZip Meets (map (with_weights f) rows) sets → AllZip Meets rows sets
all_meet_without f [] [] met = met
all_meet_without f [] (s ∷ sets) met = met
all_meet_without f (row ∷ rows) [] met = met
all_meet_without f (row ∷ rows) (s ∷ sets) met = (meets_without f row s met.0, all_meet_without f rows sets met.1)

plan_with : (f : ℕ → ℕ) (rows : List RowView) (sets : List Ids) → IsPlan rows sets → IsPlan (map (with_weights f) rows) sets
plan_with f rows sets plan = record { met = all_meet_with f rows sets plan.met; apart = plan.apart }

plan_without : (f : ℕ → ℕ) (rows : List RowView) (sets : List Ids) → IsPlan (map (with_weights f) rows) sets → IsPlan rows sets
plan_without f rows sets plan = record { met = all_meet_without f rows sets plan.met; apart = plan.apart }

pub same_plans : SamePlans
same_plans rows sets = (plan_with distance_of rows sets, plan_without distance_of rows sets)

-- ---- costs

module _ (f g : ℕ → ℕ) (m : ℕ) (split : (w : ℕ) → f w * m + g w ≡ w) where
  weight_splits : (a : Option ℕ) → unwrap_or a 0 ≡ unwrap_or (option_map f a) 0 * m + unwrap_or (option_map g a) 0
  weight_splits None = omega arith
  weight_splits (Some w) = sym (split w)

  row_splits : (row : RowView) (s : Ids) → row_cost row s ≡ row_cost (with_weights f row) s * m + row_cost (with_weights g row) s
  row_splits row s =
      sum_by_same _ _ (members s) (λ c. rw (weight_with f row.offers c, weight_with g row.offers c) (weight_splits (weight row c)))
      ∙ sum_by_plus (λ c. unwrap_or (weight (with_weights f row) c) 0 * m) (λ c. unwrap_or (weight (with_weights g row) c) 0) (members s)
      ∙ ap (λ n. n + row_cost (with_weights g row) s) (sum_by_times (λ c. unwrap_or (weight (with_weights f row) c) 0) m (members s))

  cost_splits_by : (rows : List RowView) (sets : List Ids) → cost rows sets ≡ cost (map (with_weights f) rows) sets * m + cost (map (with_weights g) rows) sets
  cost_splits_by [] sets = omega arith
  cost_splits_by (row ∷ rows) [] = omega arith
  cost_splits_by (row ∷ rows) (s ∷ sets) =
      rw (
        sum_by-cons (λ (e : RowView × Ids). row_cost e.0 e.1) (row, s) (zip rows sets),
        sum_by-cons (λ (e : RowView × Ids). row_cost e.0 e.1) (with_weights f row, s) (zip (map (with_weights f) rows) sets),
        sum_by-cons (λ (e : RowView × Ids). row_cost e.0 e.1) (with_weights g row, s) (zip (map (with_weights g) rows) sets),
        row_splits row s,
        cost_splits_by rows sets,
      )
      (omega arith)

pub cost_splits : CostSplits
cost_splits = cost_splits_by distance_of moves_of MOVE_SCALE packed-parts

-- ---- moves

move_or_none : (offers : List Offer) (c : ℕ) → list_all is_scaled offers ≡ true → unwrap_or (weight_in (map (with_weight moves_of) offers) c) 0 ≤ 1
move_or_none [] c scaled = omega arith
move_or_none (o ∷ offers) c scaled =
    by_cases (set.contains o.cpus c) (leb-true _ _ (true_left _ _ scaled)) (move_or_none offers c (true_right _ _ scaled))
  where
    by_cases :
        (b : Bool) → moves_of o.weight ≤ 1 → unwrap_or (weight_in (map (with_weight moves_of) offers) c) 0 ≤ 1
        → unwrap_or (option_map (λ (p : Offer). p.weight) (cond b (Some (with_weight moves_of o)) (find (λ (p : Offer). set.contains p.cpus c) (map (with_weight moves_of) offers)))) 0 ≤ 1
    by_cases true here rest = here
    by_cases false here rest = rest

-- each row's moves are at most the CPUs of its set
moves_are_held : (rows : List RowView) (sets : List Ids) → are_scaled rows ≡ true → cost (by_moves rows) sets ≤ sum_by (λ s. sum_by (λ _. 1) (members s)) sets
moves_are_held [] sets scaled = omega arith
moves_are_held (row ∷ rows) [] scaled = omega arith
moves_are_held (row ∷ rows) (s ∷ sets) scaled =
    omega (
      arith,
      sum_by-cons (λ (e : RowView × Ids). row_cost e.0 e.1) (with_weights moves_of row, s) (zip (by_moves rows) sets),
      sum_by-cons (λ (t : Ids). sum_by (λ _. 1) (members t)) s sets,
      sum_by-le-sum_by (λ c. unwrap_or (weight (with_weights moves_of row) c) 0) (λ _. 1) (members s) (λ c. move_or_none row.offers c (true_left _ _ scaled)),
      moves_are_held rows sets (true_right _ _ scaled),
    )

held_are_few : (sets : List Ids) → sum_by (λ c. cond (is_held sets c) 1 0) cpus ≤ CPU_LIMIT
held_are_few sets =
    omega (
      arith,
      sum_by-cpus-le (λ c. cond (is_held sets c) 1 0) (λ _. 1) (λ c is_cpu. one_at_most (is_held sets c)),
      sum_by-constant {X = ℕ} 1 cpus,
      length-cpus,
    )

pub moves_are_few : MovesAreFew
moves_are_few rows sets scaled plan =
    omega (arith, moves_are_held rows sets scaled, sums_of_sets (λ _. 1) sets plan.apart, held_are_few sets)

-- ---- least

pub least_is_nearest : LeastIsNearest
least_is_nearest rows sets scaled least = (record { plan = plan_with distance_of rows sets least.plan; least = near }, few)
  where
    near : (others : List Ids) → IsPlan (by_distance rows) others → cost (by_distance rows) sets ≤ cost (by_distance rows) others
    near others is_plan =
        let plan : IsPlan rows others = plan_without distance_of rows others is_plan in
        no_farther (cost (by_distance rows) sets) (cost (by_moves rows) sets) (cost (by_distance rows) others) (cost (by_moves rows) others)
        (omega (arith, moves_are_few rows others scaled plan))
        (rw (← cost_splits rows sets, ← cost_splits rows others) (least.least others plan))

    few : (others : List Ids) → IsPlan rows others → cost (by_distance rows) others ≡ cost (by_distance rows) sets → cost (by_moves rows) sets ≤ cost (by_moves rows) others
    few others plan same =
        omega (arith, least.least others plan, cost_splits rows sets, cost_splits rows others, same)
