-- What the certificate of a rebalance tells: the plan that the containers have, or who is short.
use Rattle.std.specs.Prelude.{◌≡◌, ◌*◌, ℕ, List, Option, Some, Result, Ok, Err}
use Rattle.cpu_set.specs.Ids.{Ids}
use Rattle.certificate.specs.IsLeast.{IsLeast}
use Rattle.certificate.specs.IsShortage.{HasNoPlan}
use Rattle.certificate.specs.Cost.{cost}
use Rattle.certificate.specs.PricesView.{PricesView}
use Rattle.certificate.specs.Verdict.{AreParts}
use Rattle.certificate.specs.declared.certificates.Certificate.{Certificate}
use Rattle.faults.specs.declared.OrMemory.{OrMemory}
use Rattle.hall.specs.Needed.{AreNeeded}
use Rattle.node.specs.declared.fault.NodeFault.{NodeFault}
use Rattle.node.specs.declared.outcome.Outcome.{Outcome}
use Rattle.node.specs.declared.outcome.Outcome.TheVariants.{Plan, Short}
use Rattle.node.specs.NodeState.{NodeState}
use Rattle.node.specs.Rows.{as_cores, rows_of, scaled_rows_of, planned, lacking}
use Rattle.node.specs.Best.{moved}
use Rattle.node.specs.Headline.{effective_sets, AreShort}

-- what was worked out last is a plan of the cores of these sets. Its total is their distance, and how many move, packed. This
-- distance, for each CPU that a core has, is the total that is told.
pub record IsTold (n : NodeState) (sets : List Ids) (total : ℕ) (last : Option Certificate) : Type 0 where
  pub prices : PricesView
  pub whole : ℕ
  pub distance : ℕ
  pub parts : AreParts whole distance (moved n sets)
  pub counts : total ≡ distance * n.machine.threads
  pub is : last ≡ Some (planned n (as_cores n.machine sets) prices whole)

-- what the certificate tells after a plan of this total: the cores of the very sets that are in effect. They are a plan of
-- least cost of the rows, and the total is that cost, for each CPU that a core has.
pub record TellsPlan (old : NodeState) (total : ℕ) (new : NodeState) : Type 0 where
  pub told : IsTold old (effective_sets new.kernel new.containers) total new.last
  pub least : IsLeast (rows_of old) (as_cores old.machine (effective_sets new.kernel new.containers))
  pub costs : total ≡ cost (rows_of old) (as_cores old.machine (effective_sets new.kernel new.containers)) * old.machine.threads

-- what the certificate tells after a shortage: containers that are short by these numbers, and that the rows have no plan. Only
-- those to blame are named: the rows of all members but any one have a plan.
pub record TellsShortage (old : NodeState) (wanted : ℕ) (allowed : Ids) (new : NodeState) : Type 0 where
  pub members : List ℕ
  pub short : AreShort old members wanted allowed
  pub named : new.last ≡ Some (lacking old members)
  pub none : HasNoPlan (rows_of old)
  pub needed : AreNeeded (scaled_rows_of old) members

-- what the certificate tells after a rebalance that answers this
abbrev pub Tells : NodeState → Result Outcome (OrMemory NodeFault) → NodeState → Type 0
Tells old (Ok (Plan total)) new = TellsPlan old total new
Tells old (Ok (Short wanted allowed)) new = TellsShortage old wanted allowed new
Tells old (Err error) new = Unit {0}
