use Rattle.std.specs.Prelude.{ℕ, Bool, List, Result, Ok, Err}
use Rattle.std.proofs.Common.{sym, subst}
use Rattle.faults.specs.Answers.{Gives, ChecksFirst}
use Rattle.faults.specs.declared.OrMemory.{OrMemory}
use Rattle.faults.specs.declared.OrMemory.TheVariants.{Memory, Fault}
use Rattle.machine.specs.Layout.{Layout}
use Rattle.config_json.specs.declared.Config.{Config as Said}
use Rattle.config_json.specs.declared.fault.ConfigFault.{ConfigFault}
use Rattle.config_json.specs.ConfigOf.{config_of, bytes_fault}
use Rattle.demand.specs.declared.Demand.{Demand as Asked}
use Rattle.node.specs.declared.fault.NodeFault.{NodeFault}
use Rattle.node.specs.declared.fault.NodeFault.TheVariants.{Demand}
use Rattle.node.specs.Wanted.{Wants, Reads}
use Rattle.node.proofs.create.read_config.Goals as goal

module _ (m : Layout) (config : List ℕ) where
  wanted_reads : (read : Result Said (OrMemory ConfigFault)) (answer : Result (Bool × Asked) (OrMemory NodeFault))
      → Gives read (config_of config) → ChecksFirst read (bytes_fault config) → Wants m read answer → Reads m config answer
  wanted_reads (Ok said) (Ok wanted) says early (runnable, (asked, fits)) = (said, runnable, record { said_so = says; asked_so = asked; fits = fits }, early)
  wanted_reads (Ok said) (Err Memory) says early w = absurd w
  wanted_reads (Ok said) (Err (Fault (Demand fault))) says early w = (said, says, w)
  wanted_reads (Ok said) (Err (Fault fault)) says early w = absurd w
  wanted_reads (Err Memory) answer says early w = subst (λ (r : Result (Bool × Asked) (OrMemory NodeFault)). Reads m config r) (sym w) early
  wanted_reads (Err (Fault fault)) answer says early w = subst (λ (r : Result (Bool × Asked) (OrMemory NodeFault)). Reads m config r) (sym w) says

pub returns : goal.returns
returns g =
    wanted_reads g.args.machine.now g.args.config.now g.read.result g.wanted.result g.read.ensures.value g.read.ensures.memory g.wanted.ensures
