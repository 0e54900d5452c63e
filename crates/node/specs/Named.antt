-- The containers that a plan or a shortage names.
use Rattle.std.specs.Prelude.{◌≡◌, ℕ, ◌<◌, List, Some, All, length}
use Rattle.cpu_set.specs.Ids.{Ids}
use Rattle.certificate.specs.PricesView.{PricesView}
use Rattle.certificate.specs.RowView.{RowView}
use Rattle.certificate.specs.declared.weights.Weights.{Weights}
use Rattle.certificate.specs.declared.certificates.Certificate.TheVariants as certificate
use Rattle.node.specs.declared.named.Named.{Named}
use Rattle.node.specs.declared.named.Named.TheVariants.{Holders, Members}
use Rattle.node.specs.NodeState.{NodeState}
use Rattle.node.specs.Rows.{as_cpus}

-- the rows of the plan that was worked out last, and the CPUs of its cores, a set for each
pub record NamesHolders (n : NodeState) (rows : List RowView) (sets : List Ids) : Type 0 where
  pub plan : List Ids
  pub prices : PricesView
  pub total : ℕ
  pub weights : Weights
  pub last : n.last ≡ Some (certificate.Plan rows plan prices total weights)
  pub are : sets ≡ as_cpus n.machine plan
  pub each : length sets ≡ length rows

-- the rows of which some are the members of the shortage that was worked out last
pub record NamesMembers (n : NodeState) (rows : List RowView) (members : List ℕ) : Type 0 where
  pub weights : Weights
  pub last : n.last ≡ Some (certificate.Short rows members weights)
  pub among : All (λ k. k < length rows) members

-- whom the plan or the shortage names that was worked out last
abbrev pub Names : NodeState → Named → Type 0
Names n (Holders rows sets) = NamesHolders n rows.now sets.now
Names n (Members rows members) = NamesMembers n rows.now members.now
