-- Rows that weigh the same have the same plans, at the same costs.
use Rattle.std.proofs.Common.{◌≡◌, ℕ, Option, unwrap_or, List, [], ◌∷◌, zip, refl, sym, ap, ◌∙◌}
use Rattle.std.specs.List.{AllZip}
use Rattle.std.proofs.lemmas.List.Sums.{sum_by-cons}
use Rattle.cpu_set.specs.Ids.{Ids}
use Rattle.cpu_set.specs.Members.{members}
use Rattle.certificate.specs.RowView.{RowView}
use Rattle.certificate.specs.Cost.{row_cost}
use Rattle.certificate.specs.IsPlan.{Meets, IsPlan}
use Rattle.certificate.specs.WeighSame.{WeighSame, SameWeightsSamePlans, SameWeightsSameCosts}
use Rattle.certificate.specs.SumLaws.{sum_by_same}

flipped : (a b : RowView) → WeighSame a b → WeighSame b a
flipped a b same = record { demand = sym same.demand; weights = λ c. sym (same.weights c) }

all_flipped : (rows others : List RowView) → AllZip WeighSame rows others → AllZip WeighSame others rows
all_flipped [] [] same = same
all_flipped [] (b ∷ others) same = absurd same
all_flipped (a ∷ rows) [] same = absurd same
all_flipped (a ∷ rows) (b ∷ others) same = (flipped a b same.0, all_flipped rows others same.1)

meets_same : (a b : RowView) (s : Ids) → WeighSame a b → Meets a s → Meets b s
meets_same a b s same m = record {
  in_range = m.in_range;
  size = m.size ∙ same.demand;
  allowed = λ c has. rw (← same.weights c) (m.allowed c has);
}

all_meet_same : (rows others : List RowView) (sets : List Ids) → AllZip WeighSame rows others → AllZip Meets rows sets → AllZip Meets others sets
all_meet_same [] [] sets same met = met
all_meet_same [] (b ∷ others) sets same met = absurd same
all_meet_same (a ∷ rows) [] sets same met = absurd same
all_meet_same (a ∷ rows) (b ∷ others) [] same met = absurd met
all_meet_same (a ∷ rows) (b ∷ others) (s ∷ sets) same met = (meets_same a b s same.0 met.0, all_meet_same rows others sets same.1 met.1)

plan_same : (rows others : List RowView) (sets : List Ids) → AllZip WeighSame rows others → IsPlan rows sets → IsPlan others sets
plan_same rows others sets same plan = record { met = all_meet_same rows others sets same plan.met; apart = plan.apart }

pub same_weights_same_plans : SameWeightsSamePlans
same_weights_same_plans rows others sets same =
    (plan_same rows others sets same, plan_same others rows sets (all_flipped rows others same))

row_cost_same : (a b : RowView) (s : Ids) → WeighSame a b → row_cost a s ≡ row_cost b s
row_cost_same a b s same = sum_by_same _ _ (members s) (λ c. ap (λ (w : Option ℕ). unwrap_or w 0) (same.weights c))

pub same_weights_same_costs : SameWeightsSameCosts
same_weights_same_costs [] [] sets same = refl
same_weights_same_costs [] (b ∷ others) sets same = absurd same
same_weights_same_costs (a ∷ rows) [] sets same = absurd same
same_weights_same_costs (a ∷ rows) (b ∷ others) [] same = refl
same_weights_same_costs (a ∷ rows) (b ∷ others) (s ∷ sets) same =
    rw (
      sum_by-cons (λ (e : RowView × Ids). row_cost e.0 e.1) (a, s) (zip rows sets),
      sum_by-cons (λ (e : RowView × Ids). row_cost e.0 e.1) (b, s) (zip others sets),
      row_cost_same a b s same.0,
      same_weights_same_costs rows others sets same.1,
    )
    refl
