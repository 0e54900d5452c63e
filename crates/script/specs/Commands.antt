-- The commands of a script.
use Rattle.std.specs.Prelude.{ℕ, Bool, true, false, List}
use Rattle.script.specs.declared.command.Command.{Command}
use Rattle.script.specs.declared.command.Command.TheVariants as command

-- a command, its texts as their bytes; of the two that plan, whether they hand over in the direct order
pub data Asked : Type 0 where
  create : (id bundle : List ℕ) → Asked
  adopt : (id bundle cpus : List ℕ) → Asked
  update : (id bundle : List ℕ) → Asked
  start : (id : List ℕ) → Asked
  kill : (id signal : List ℕ) → Asked
  delete : (id : List ℕ) → Asked
  forget : (id : List ℕ) → Asked
  state : (id : List ℕ) → Asked
  list : Asked
  sets : (id : List ℕ) → Asked
  rebalance : (direct : Bool) → Asked
  begin : (direct : Bool) → Asked
  step : Asked
  phase : Asked
  certificate : Asked
  fork : (pid : ℕ) → Asked
  exit : (pid : ℕ) → Asked
  offline : (cpu : ℕ) → Asked
  online : (cpu : ℕ) → Asked

-- a command of the code as a plain value
abbrev pub asked : Command → Asked
asked (command.Create id bundle) = create id.now bundle.now
asked (command.Adopt id bundle cpus) = adopt id.now bundle.now cpus.now
asked (command.Update id bundle) = update id.now bundle.now
asked (command.Start id) = start id.now
asked (command.Kill id signal) = kill id.now signal.now
asked (command.Delete id) = delete id.now
asked (command.Forget id) = forget id.now
asked (command.State id) = state id.now
asked command.List = list
asked (command.Sets id) = sets id.now
asked command.Rebalance = rebalance false
asked command.RebalanceDirectly = rebalance true
asked command.Begin = begin false
asked command.BeginDirectly = begin true
asked command.Step = step
asked command.Phase = phase
asked command.Certificate = certificate
asked (command.Fork pid) = fork pid
asked (command.Exit pid) = exit pid
asked (command.Offline cpu) = offline cpu
asked (command.Online cpu) = online cpu
