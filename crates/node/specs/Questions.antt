-- The calls of a node that only read, each with its answer.
use Rattle.std.specs.Prelude.{◌≡◌, ℕ, List, Result, String}
use Rattle.std.specs.declared.alloc.Global.{Global}
use Rattle.cpu_set.specs.Ids.{Ids}
use Rattle.certificate.specs.declared.certificates.Certificate.{Certificate}
use Rattle.faults.specs.declared.OrMemory.{OrMemory}
use Rattle.node.specs.declared.fault.NodeFault.{NodeFault}
use Rattle.node.specs.declared.container.Status.{Status}
use Rattle.node.specs.declared.phase.Phase.{Phase}
use Rattle.node.specs.declared.sets.Sets.{Sets}
use Rattle.node.specs.NodeState.{NodeState}
use Rattle.node.specs.Listed.{listing}
use Rattle.node.specs.Rebalance.{ShowsCertificate}
use Rattle.node.specs.Sets.{HasSets}
use Rattle.node.specs.Shown.{Shows}

-- a call that only reads, with what it answered
pub data Question : Type 0 where
  State : List ℕ → Result (String Global) (OrMemory NodeFault) → Question
  ListAll : List (List ℕ × Status) → Question
  SetsOf : List ℕ → Result Sets NodeFault → Question
  Pool : Ids → Question
  PhaseIs : Phase → Question
  ShowCertificate : Result Certificate NodeFault → Question

-- what the node answers to a question
abbrev pub Answers : NodeState → Question → Type 0
Answers n (State id answer) = Shows n id answer
Answers n (ListAll answer) = answer ≡ listing n
Answers n (SetsOf id answer) = HasSets n id answer
Answers n (Pool answer) = answer ≡ n.pool
Answers n (PhaseIs answer) = answer ≡ n.phase
Answers n (ShowCertificate answer) = ShowsCertificate n answer
