-- What a verdict on a certificate means.
use Rattle.std.proofs.Common.{◌≡◌, ◌≢◌, ℕ, ◌≤◌, Bool, true, false, not, inl, inr, List, [], ◌∷◌, Some, None, Result, Ok, Err, refl, sym, ap, ◌∙◌, subst, arith}
use Rattle.std.specs.Prelude.{◌==◌}
use Rattle.std.proofs.lemmas.Bool.Decides.{nat_tests}
use Rattle.std.proofs.lemmas.Option.{none-some, same_Some}
use Rattle.faults.specs.First.{when, first_of}
use Rattle.cpu_set.specs.Ids.{Ids}
use Rattle.cpu_set.specs.declared.TheConstants.{CPU_LIMIT}
use Rattle.certificate.specs.RowView.{RowView}
use Rattle.certificate.specs.PricesView.{PricesView}
use Rattle.certificate.specs.Cost.{cost}
use Rattle.certificate.specs.IsCause.{IsCause, IsShortageCause}
use Rattle.certificate.specs.IsLeast.{IsLeast}
use Rattle.certificate.specs.IsProved.{IsProved}
use Rattle.certificate.specs.IsShown.{IsShown}
use Rattle.certificate.specs.PlanFault.{plan_fault}
use Rattle.certificate.specs.Packed.{packed, distance_of, moves_of}
use Rattle.certificate.specs.PackedLemmas.{packed-parts}
use Rattle.certificate.specs.Scaled.{are_scaled, by_distance, by_moves}
use Rattle.certificate.specs.TwoCostLaws.{cost_splits, moves_are_few, least_is_nearest}
use Rattle.certificate.specs.ShortageFault.{shortage_fault}
use Rattle.certificate.specs.declared.fault.CheckFault.{CheckFault}
use Rattle.certificate.specs.declared.fault.CheckFault.TheVariants.{BadProblem, Gap}
use Rattle.certificate.specs.declared.weights.Weights.{Weights}
use Rattle.certificate.specs.declared.weights.Weights.TheVariants.{Plain, WithMoves}
use Rattle.certificate.specs.declared.certificates.Certificate.TheVariants.{Plan as PlanCertificate, Short as ShortCertificate}
use Rattle.certificate.specs.declared.checking.Verdict.{Verdict}
use Rattle.certificate.specs.declared.checking.Verdict.TheVariants.{Plan, Moves, Short}
use Rattle.certificate.specs.Verdict.{AreParts, IsProvedCertificate, IsBest, IsFaultOf, IsNotScaled, plan_verdict, scale_fault}

-- rows that pass are scaled where weights count moves
pub is_scaled : (rows : List RowView) → scale_fault WithMoves rows ≡ None → are_scaled rows ≡ true
is_scaled rows none = at (are_scaled rows) none where
  at : (b : Bool) → when (not b) BadProblem ≡ None → b ≡ true
  at true e = refl
  at false e = absurd (none-some BadProblem (sym e))

passes : (rows : List RowView) → are_scaled rows ≡ true → scale_fault WithMoves rows ≡ None
passes rows scaled = ap (λ b. when (not b) BadProblem) scaled

pub not_scaled : (rows : List RowView) (weights : Weights) (fault : CheckFault) → scale_fault weights rows ≡ Some fault → IsNotScaled rows weights fault
not_scaled rows Plain fault e = absurd (none-some fault e)
not_scaled rows WithMoves fault e = at (are_scaled rows) refl e where
  at : (b : Bool) → are_scaled rows ≡ b → when (not b) BadProblem ≡ Some fault → IsNotScaled rows WithMoves fault
  at true is g = absurd (none-some fault g)
  at false is g = record { says_so = refl; not_so = is; is = sym (same_Some BadProblem fault g) }

-- what the check of a plan answers
pub plan_proved : (rows : List RowView) (sets : List Ids) (prices : PricesView) (total : ℕ) (weights : Weights) → scale_fault weights rows ≡ None → IsProved rows sets prices total
    → IsProvedCertificate (PlanCertificate rows sets prices total weights) (plan_verdict total weights)
plan_proved rows sets prices total Plain none p = (p, refl)
plan_proved rows sets prices total WithMoves none p =
    (is_scaled rows none, p, record { moves_fit = omega arith; whole = sym (packed-parts total) })

pub plan_best : (rows : List RowView) (sets : List Ids) (prices : PricesView) (total : ℕ) (weights : Weights)
    → scale_fault weights rows ≡ None → IsLeast rows sets → cost rows sets ≡ total
    → IsBest (PlanCertificate rows sets prices total weights) (plan_verdict total weights)
plan_best rows sets prices total Plain none least costs = (least, costs)
plan_best rows sets prices total WithMoves none least costs =
    let near = least_is_nearest rows sets (is_scaled rows none) least in
    let split : cost rows sets ≡ packed (cost (by_distance rows) sets) (cost (by_moves rows) sets) = cost_splits rows sets in
    let small : cost (by_moves rows) sets ≤ CPU_LIMIT = moves_are_few rows sets (is_scaled rows none) least.plan in
    let distance : cost (by_distance rows) sets ≡ distance_of total = omega (arith, split, small, costs) in
    let moves : cost (by_moves rows) sets ≡ moves_of total = omega (arith, split, small, costs) in
    record {
      least = least;
      nearest = near.0;
      distance_is = distance;
      moves_are = moves;
      fewest = λ others plan same. rw (← moves) (near.1 others plan (same ∙ sym distance));
    }

-- a plan's certificate proves one verdict at most
pub record IsOnly (rows : List RowView) (sets : List Ids) (prices : PricesView) (total : ℕ) (weights : Weights) (v : Verdict) : Type 0 where
  pub verdict_is : v ≡ plan_verdict total weights
  pub proved : IsProved rows sets prices total
  pub passes : scale_fault weights rows ≡ None

pub plan_only : (rows : List RowView) (sets : List Ids) (prices : PricesView) (total : ℕ) (weights : Weights) (v : Verdict)
    → IsProvedCertificate (PlanCertificate rows sets prices total weights) v → IsOnly rows sets prices total weights v
plan_only rows sets prices total Plain (Plan n) p = record { verdict_is = ap Plan p.1; proved = p.0; passes = refl }
plan_only rows sets prices total WithMoves (Moves n m) p =
    let parts : AreParts total n m = p.2 in
    let distance : n ≡ distance_of total = omega (arith, parts.whole, parts.moves_fit) in
    let moves : m ≡ moves_of total = omega (arith, parts.whole, parts.moves_fit) in
    record { verdict_is = ap (λ k. Moves k m) distance ∙ ap (Moves (distance_of total)) moves; proved = p.1; passes = passes rows p.0 }
plan_only rows sets prices total Plain (Moves n m) p = absurd p
plan_only rows sets prices total Plain (Short n m) p = absurd p
plan_only rows sets prices total WithMoves (Plan n) p = absurd p
plan_only rows sets prices total WithMoves (Short n m) p = absurd p

-- the faults of a plan's certificate, in their order
pub scale_first : (rows : List RowView) (sets : List Ids) (prices : PricesView) (total : ℕ) (weights : Weights) (fault : CheckFault) → scale_fault weights rows ≡ Some fault
    → IsFaultOf fault (PlanCertificate rows sets prices total weights)
scale_first rows sets prices total weights fault e =
    record { first = ap (λ o. first_of (o ∷ plan_fault rows sets prices ∷ when (not (cost rows sets == total)) Gap ∷ [])) e; cause = inl (not_scaled rows weights fault e) }

pub plan_second : (rows : List RowView) (sets : List Ids) (prices : PricesView) (total : ℕ) (weights : Weights) (fault : CheckFault) → scale_fault weights rows ≡ None
    → plan_fault rows sets prices ≡ Some fault → IsCause rows sets prices fault → IsFaultOf fault (PlanCertificate rows sets prices total weights)
plan_second rows sets prices total weights fault none e cause = record {
  first = ap (λ o. first_of (o ∷ plan_fault rows sets prices ∷ when (not (cost rows sets == total)) Gap ∷ [])) none
      ∙ ap (λ o. first_of (o ∷ when (not (cost rows sets == total)) Gap ∷ [])) e;
  cause = inr (inl cause);
}

pub gap_last : (rows : List RowView) (sets : List Ids) (prices : PricesView) (total found : ℕ) (weights : Weights) → scale_fault weights rows ≡ None
    → plan_fault rows sets prices ≡ None → IsProved rows sets prices found → found ≢ total → IsFaultOf Gap (PlanCertificate rows sets prices total weights)
gap_last rows sets prices total found weights none e proved unequal = record {
  first = ap (λ o. first_of (o ∷ plan_fault rows sets prices ∷ when (not (cost rows sets == total)) Gap ∷ [])) none
      ∙ ap (λ o. first_of (o ∷ when (not (cost rows sets == total)) Gap ∷ [])) e ∙ ap (λ b. first_of (when (not b) Gap ∷ [])) differs;
  cause = inr (inr (refl, record { proved = subst (λ n. IsProved rows sets prices n) (sym proved.costs) proved; other = other }));
}
  where
    other : cost rows sets ≢ total
    other same = unequal (sym proved.costs ∙ same)

    differs : (cost rows sets == total) ≡ false
    differs = at (cost rows sets == total) refl where
      at : (b : Bool) → (cost rows sets == total) ≡ b → (cost rows sets == total) ≡ false
      at false is = is
      at true is = absurd (other (grind (arith, nat_tests)))

-- and those of a shortage's
pub short_scale_first : (rows : List RowView) (members : List ℕ) (weights : Weights) (fault : CheckFault) → scale_fault weights rows ≡ Some fault
    → IsFaultOf fault (ShortCertificate rows members weights)
short_scale_first rows members weights fault e =
    record { first = ap (λ o. first_of (o ∷ shortage_fault rows members ∷ [])) e; cause = inl (not_scaled rows weights fault e) }

pub short_second : (rows : List RowView) (members : List ℕ) (weights : Weights) (fault : CheckFault) → scale_fault weights rows ≡ None
    → shortage_fault rows members ≡ Some fault → IsShortageCause rows members fault → IsFaultOf fault (ShortCertificate rows members weights)
short_second rows members weights fault none e cause = record {
  first = ap (λ o. first_of (o ∷ shortage_fault rows members ∷ [])) none ∙ ap (λ o. first_of (o ∷ [])) e;
  cause = inr cause;
}

-- what the check of a shortage answers
pub short_proved : (rows : List RowView) (members : List ℕ) (weights : Weights) (wanted there : ℕ) → scale_fault weights rows ≡ None → IsShown rows members wanted there
    → IsProvedCertificate (ShortCertificate rows members weights) (Short wanted there)
short_proved rows members Plain wanted there none shown = shown
short_proved rows members WithMoves wanted there none shown = (is_scaled rows none, shown)

pub short_shown : (rows : List RowView) (members : List ℕ) (weights : Weights) (wanted there : ℕ)
    → IsProvedCertificate (ShortCertificate rows members weights) (Short wanted there) → IsShown rows members wanted there
short_shown rows members Plain wanted there p = p
short_shown rows members WithMoves wanted there p = p.1

pub short_passes : (rows : List RowView) (members : List ℕ) (weights : Weights) (v : Verdict)
    → IsProvedCertificate (ShortCertificate rows members weights) v → scale_fault weights rows ≡ None
short_passes rows members Plain v p = refl
short_passes rows members WithMoves (Short wanted there) p = passes rows p.0
short_passes rows members WithMoves (Plan n) p = absurd p
short_passes rows members WithMoves (Moves n m) p = absurd p

-- where the check of a shortage answers an error, nothing is shown
pub not_short : (rows : List RowView) (members : List ℕ) (weights : Weights) (r : Result (ℕ × ℕ) CheckFault) (e : CheckFault) → r ≡ Err e
    → ((wanted there : ℕ) → IsShown rows members wanted there → r ≡ Ok (wanted, there)) → (v : Verdict) → IsProvedCertificate (ShortCertificate rows members weights) v → ⊥
not_short rows members weights r e err complete (Short asked allowed) p = let ok = complete asked allowed (short_shown rows members weights asked allowed p) in cc
not_short rows members Plain r e err complete (Plan n) p = p
not_short rows members Plain r e err complete (Moves n m) p = p
not_short rows members WithMoves r e err complete (Plan n) p = p
not_short rows members WithMoves r e err complete (Moves n m) p = p
