-- What the check of a certificate answers.
use Rattle.std.specs.Prelude.{◌≡◌, ◌≢◌, ◌⊎◌, ℕ, ◌<◌, ◌≤◌, true, false, not, ◌==◌, List, [], ◌∷◌, Option, Some, None}
use Rattle.faults.specs.First.{when, first_of}
use Rattle.cpu_set.specs.Ids.{Ids}
use Rattle.certificate.specs.RowView.{RowView}
use Rattle.certificate.specs.PricesView.{PricesView}
use Rattle.certificate.specs.Cost.{cost}
use Rattle.certificate.specs.IsCause.{IsCause, IsShortageCause}
use Rattle.certificate.specs.IsLeast.{IsLeast}
use Rattle.certificate.specs.IsPlan.{IsPlan}
use Rattle.certificate.specs.IsProved.{IsProved}
use Rattle.certificate.specs.IsShortage.{HasNoPlan}
use Rattle.certificate.specs.IsShown.{IsShown}
use Rattle.certificate.specs.PlanFault.{plan_fault}
use Rattle.certificate.specs.Packed.{packed, distance_of, moves_of}
use Rattle.certificate.specs.Scaled.{are_scaled, by_distance, by_moves}
use Rattle.certificate.specs.ShortageFault.{shortage_fault}
use Rattle.certificate.specs.declared.fault.CheckFault.{CheckFault}
use Rattle.certificate.specs.declared.fault.CheckFault.TheVariants.{BadProblem, Gap}
use Rattle.certificate.specs.declared.limits.TheConstants.{MOVE_SCALE}
use Rattle.certificate.specs.declared.certificates.Certificate.{Certificate}
use Rattle.certificate.specs.declared.certificates.Certificate.TheVariants.{Plan as PlanCertificate, Short as ShortCertificate}
use Rattle.certificate.specs.declared.weights.Weights.{Weights}
use Rattle.certificate.specs.declared.weights.Weights.TheVariants.{Plain, WithMoves}
use Rattle.certificate.specs.declared.checking.Verdict.{Verdict}
use Rattle.certificate.specs.declared.checking.Verdict.TheVariants.{Plan, Moves, Short}

-- a total of version 2 is this distance and these moves
pub record AreParts (total distance moves : ℕ) : Type 0 where
  pub moves_fit : moves < MOVE_SCALE
  pub whole : total ≡ packed distance moves

-- what a yes to a certificate means: values and prices prove its plan to cost its total, or its members are short by these
-- counts. If weights count moves, each CPU of a row is one move or none.
abbrev pub IsProvedCertificate : Certificate → Verdict → Type 0
IsProvedCertificate (PlanCertificate rows sets prices total Plain) (Plan proved) = IsProved rows sets prices total × (proved ≡ total)
IsProvedCertificate (PlanCertificate rows sets prices total WithMoves) (Moves distance moves) =
    (are_scaled rows ≡ true) × IsProved rows sets prices total × AreParts total distance moves
IsProvedCertificate (ShortCertificate rows members Plain) (Short asked allowed) = IsShown rows members asked allowed
IsProvedCertificate (ShortCertificate rows members WithMoves) (Short asked allowed) = (are_scaled rows ≡ true) × IsShown rows members asked allowed
IsProvedCertificate _ _ = ⊥

-- what a proved plan of this cost comes to: its cost, or in version 2 its distance and its moves
abbrev pub plan_verdict : ℕ → Weights → Verdict
plan_verdict cost Plain = Plan cost
plan_verdict cost WithMoves = Moves (distance_of cost) (moves_of cost)

-- the plan has this distance and these moves; no plan of the rows is of less distance, and none of this distance has fewer
-- moves
pub record IsBestByMoves (rows : List RowView) (sets : List Ids) (distance moves : ℕ) : Type 0 where
  pub least : IsLeast rows sets
  pub nearest : IsLeast (by_distance rows) sets
  pub distance_is : cost (by_distance rows) sets ≡ distance
  pub moves_are : cost (by_moves rows) sets ≡ moves
  pub fewest : (others : List Ids) → IsPlan rows others → cost (by_distance rows) others ≡ distance → moves ≤ cost (by_moves rows) others

-- what follows of a yes: no plan of the rows costs less than the certificate's, which costs this, or the rows have no plan
abbrev pub IsBest : Certificate → Verdict → Type 0
IsBest (PlanCertificate rows sets prices total Plain) (Plan proved) = IsLeast rows sets × (cost rows sets ≡ proved)
IsBest (PlanCertificate rows sets prices total WithMoves) (Moves distance moves) = IsBestByMoves rows sets distance moves
IsBest (ShortCertificate rows members weights) (Short asked allowed) = HasNoPlan rows
IsBest _ _ = ⊥

-- the fault of rows that count moves: a CPU is more than one move
abbrev pub scale_fault : Weights → List RowView → Option CheckFault
scale_fault Plain rows = None
scale_fault WithMoves rows = when (not (are_scaled rows)) BadProblem

-- the first fault of a certificate: a weight of more than one move, if weights count moves. Then one of the plan and its
-- prices, or another total than its cost; or one of the shortage.
abbrev pub certificate_fault : Certificate → Option CheckFault
certificate_fault (PlanCertificate rows sets prices total weights) = first_of (
    scale_fault weights rows
    ∷ plan_fault rows sets prices
    ∷ when (not (cost rows sets == total)) Gap
    ∷ [])
certificate_fault (ShortCertificate rows members weights) = first_of (
    scale_fault weights rows
    ∷ shortage_fault rows members
    ∷ [])

-- the plan is proved, to cost another total than the certificate's
pub record IsOtherTotal (rows : List RowView) (sets : List Ids) (prices : PricesView) (total : ℕ) : Type 0 where
  pub proved : IsProved rows sets prices (cost rows sets)
  pub other : cost rows sets ≢ total

-- weights count moves, and some CPU is more than one move
pub record IsNotScaled (rows : List RowView) (weights : Weights) (fault : CheckFault) : Type 0 where
  pub says_so : weights ≡ WithMoves
  pub not_so : are_scaled rows ≡ false
  pub is : fault ≡ BadProblem

-- the cause of each refusal of a certificate
abbrev pub IsCertificateCause : Certificate → CheckFault → Type 0
IsCertificateCause (PlanCertificate rows sets prices total weights) fault =
    IsNotScaled rows weights fault ⊎ (IsCause rows sets prices fault ⊎ ((fault ≡ Gap) × IsOtherTotal rows sets prices total))
IsCertificateCause (ShortCertificate rows members weights) fault = IsNotScaled rows weights fault ⊎ IsShortageCause rows members fault

-- the fault is a certificate's first, and its cause stands
pub record IsFaultOf (fault : CheckFault) (c : Certificate) : Type 0 where
  pub first : certificate_fault c ≡ Some fault
  pub cause : IsCertificateCause c fault
