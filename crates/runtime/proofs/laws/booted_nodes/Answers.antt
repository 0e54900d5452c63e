use Rattle.machine.specs.Present.{present}
use Rattle.machine.specs.Nodes.{nodes_of}
use Rattle.runtime.specs.declared.booting.TheConstants.{FIRST_PID}
use Rattle.runtime.proofs.laws.booted_nodes.Goals as goal

pub returns : goal.returns
returns c = λ m n machine (k, first, opens).
    c.runs.ensures.first k m n
    (c.runs-2.ensures.first (present m) m.reserved m.online (nodes_of m) FIRST_PID k machine.sound.reserved_some machine.sound.reserved_online machine.sound.online_present first)
    machine
    (c.first_kernels.ensures.machine m m.online FIRST_PID k first)
    (c.first_kernels.ensures.unused (present m) m.reserved m.online (nodes_of m) FIRST_PID k first)
    opens
