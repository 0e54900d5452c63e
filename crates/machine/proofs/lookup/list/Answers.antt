use Rattle.std.proofs.Common.{arith}
use Rattle.machine.specs.ListLaws.{IsSetOf-set_of}
use Rattle.machine.proofs.lookup.list.Goals as goal

pub returns-in-Ok-clause-cpus : goal.returns-in-Ok-clause-cpus
returns-in-Ok-clause-cpus c =
    rw (← c.in-Some.ensures, ← c.as_bytes.ensures.value) (IsSetOf-set_of _ _ _ (omega arith) c.in-Ok.ensures.2 c.in-Ok.ensures.1)
