-- What the certificate proves that a script prints.
use Rattle.std.specs.Prelude.{◌≡◌, ◌/◌, ℕ, List, [], ◌∷◌, Option, Some, None, Ok, Err}
use Rattle.std.specs.FinSet as set
use Rattle.faults.specs.declared.or_memory.OrMemory.TheVariants.{Fault}
use Rattle.certificate.specs.declared.checking.Verdict.{Verdict}
use Rattle.certificate.specs.declared.checking.Verdict.TheVariants as proves
use Rattle.certificate_text.specs.Verdict.{IsVerdict}
use Rattle.node.specs.declared.fault.NodeFault.TheVariants.{Kernel}
use Rattle.node.specs.declared.outcome.Outcome.TheVariants.{Plan, Short}
use Rattle.node.specs.Best.{moved}
use Rattle.node.specs.Headline.{effective_sets}
use Rattle.node.specs.IsNode.{IsNode}
use Rattle.node.specs.Machine.{Event, Rebalance, Begin, Step, Run}
use Rattle.node.specs.NodeState.{NodeState}
use Rattle.node.specs.Rows.{as_cpus}
use Rattle.script.specs.Commands as ask
use Rattle.script.specs.Runs.{Runs}
use Rattle.runtime.specs.Answered.{Answered}
use Rattle.runtime.specs.RuntimeState.{RuntimeState}
use Rattle.runtime.specs.Found.{IsFound}
use Rattle.runtime.specs.ScriptLaws.{AreCalls}

-- the verdict on what was told last, with one call or event more, by cores. Of a plan it is the total and how many cores
-- move, from what was requested before to the sets then in effect. After a `begin` these are the sets that it is to bring
-- about. Of a shortage it is how many are asked for and how many are allowed. A rebalance whose write failed has worked out
-- another and told none.
abbrev pub told_with : Option Verdict → (old : NodeState) (event : Event) (new : NodeState) → Step old event new → Option Verdict
told_with told old (Rebalance order (Ok (Plan total))) new step = Some (proves.Moves (total / old.machine.threads) (moved old (effective_sets new.kernel new.containers)))
told_with told old (Rebalance order (Ok (Short wanted allowed))) new step = Some (proves.Short (wanted / old.machine.threads) (set.len allowed / old.machine.threads))
told_with told old (Rebalance order (Err (Fault (Kernel fault)))) new step = None
told_with told old (Begin order (Ok (Plan total))) new step = Some (proves.Moves (total / old.machine.threads) (moved old (as_cpus old.machine step.plan)))
told_with told old (Begin order (Ok (Short wanted allowed))) new step = Some (proves.Short (wanted / old.machine.threads) (set.len allowed / old.machine.threads))
told_with told old event new step = told

-- the verdict on what many calls and events told last
abbrev pub told_last : Option Verdict → (old : NodeState) (events : List Event) (new : NodeState) → Run old events new → Option Verdict
told_last told old [] new run = told
told_last told old (event ∷ later) new (mid, step, run) = told_last (told_with told old event mid step) mid later new run

-- whatever lines of a script over a node were answered before, the text that answers `certificate` proves the verdict on what
-- their calls told last
abbrev pub CertificatesAreTold : Type 0
CertificatesAreTold = (first old new : RuntimeState) (lines : List (List ℕ)) (text printed : List ℕ) (verdict : Verdict)
    → IsNode first.node → Runs Answered first lines text old → (calls : AreCalls IsFound first lines text old)
    → told_last None first.node calls.events old.node calls.run ≡ Some verdict
    → Answered old ask.certificate printed new → IsVerdict printed verdict
