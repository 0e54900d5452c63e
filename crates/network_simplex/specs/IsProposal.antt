-- What is handed out: a plan that passed the check, with prices of classes.
use Rattle.std.specs.Prelude.{◌<◌, List, All}
use Rattle.std.specs.FinSet as set
use Rattle.certificate.specs.RowView.{RowView}
use Rattle.certificate.specs.IsDealt.{IsDealt}
use Rattle.certificate.specs.IsLeast.{IsLeast}
use Rattle.certificate.specs.IsProved.{IsProved}
use Rattle.transport.specs.Solved.{IsPricedByClass}
use Rattle.network_simplex.specs.declared.proposal.Proposal.{Proposal}

-- values and prices prove the plan and its total, no plan costs less, and twins are dealt in order; each class of twins
-- whose price is not 0 has one price, and there are no others
pub record IsProposal (rows : List RowView) (p : Proposal) : Type 0 where
  pub proved : IsProved rows p.plan p.prices p.total
  pub least : IsLeast rows p.plan
  pub dealt : IsDealt rows p.plan
  pub by_class : IsPricedByClass rows p.prices.of_cpu
  pub some : All (λ price. (0 < price.amount) × (0 < set.len price.cpus)) p.prices.of_cpu
