-- The CPUs of a plan that a node keeps beside its certificate.
use Rattle.std.specs.Prelude.{◌≡◌, ◌≢◌, List, Option, Some}
use Rattle.cpu_set.specs.Ids.{Ids}
use Rattle.machine.specs.Layout.{Layout}
use Rattle.certificate.specs.declared.certificates.Certificate.{Certificate}
use Rattle.certificate.specs.declared.certificates.Certificate.TheVariants as certificate
use Rattle.node.specs.NodeState.{NodeState}
use Rattle.node.specs.IsNode.{IsNode}
use Rattle.node.specs.Rows.{as_cpus}

-- the CPUs that are kept of a plan of cores: where a core has several, those of each of its sets
abbrev pub AreKept : Layout → List Ids → List Ids → Type 0
AreKept m plan kept = m.threads ≢ 1 → kept ≡ as_cpus m plan

-- what is kept of what was worked out last: of a plan these CPUs, of a shortage none
abbrev pub KeepsCpus : Layout → Option Certificate → List Ids → Type 0
KeepsCpus m (Some (certificate.Plan rows plan prices total weights)) kept = AreKept m plan kept
KeepsCpus m last kept = Unit {0}

-- what always holds of a node, and that it keeps these CPUs of what was worked out last
pub record Keeps (n : NodeState) (kept : List Ids) : Type 0 where
  pub node : IsNode n
  pub cpus : KeepsCpus n.machine n.last kept
