-- Rows that weigh the same, however their offers are cut.
use Rattle.std.specs.Prelude.{◌≡◌, ◌↔◌, ℕ, List}
use Rattle.std.specs.List.{AllZip}
use Rattle.cpu_set.specs.Ids.{Ids}
use Rattle.certificate.specs.RowView.{RowView}
use Rattle.certificate.specs.Weight.{weight}
use Rattle.certificate.specs.IsPlan.{IsPlan}
use Rattle.certificate.specs.Cost.{cost}

-- two rows that ask for as many CPUs and weigh each CPU the same
pub record WeighSame (a b : RowView) : Type 0 where
  pub demand : a.demand ≡ b.demand
  pub weights : (cpu : ℕ) → weight a cpu ≡ weight b cpu

-- rows that weigh the same have the same plans
abbrev pub SameWeightsSamePlans : Type 0
SameWeightsSamePlans = (rows others : List RowView) (sets : List Ids) → AllZip WeighSame rows others → IsPlan rows sets ↔ IsPlan others sets

-- sets cost the same by rows that weigh the same
abbrev pub SameWeightsSameCosts : Type 0
SameWeightsSameCosts = (rows others : List RowView) (sets : List Ids) → AllZip WeighSame rows others → cost rows sets ≡ cost others sets
