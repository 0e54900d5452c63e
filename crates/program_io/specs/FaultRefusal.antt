-- Which refusal stands for a fault of a layer below.
use Rattle.certificate_text.specs.declared.checking.VerdictFault.{VerdictFault}
use Rattle.certificate_text.specs.declared.checking.VerdictFault.TheVariants as verdict
use Rattle.program_io.specs.declared.fault.ReadFault.{ReadFault}
use Rattle.program_io.specs.declared.refusal.Refusal.{Refusal}
use Rattle.program_io.specs.declared.refusal.Refusal.TheVariants as refusal
use Rattle.faults.specs.declared.or_memory.OrMemory.{OrMemory}
use Rattle.faults.specs.declared.or_memory.OrMemory.TheVariants as either
use Rattle.machine.specs.declared.fault.MachineFault.{MachineFault}
use Rattle.slit.specs.declared.fault.SlitFault.{SlitFault}

-- the refusal that stands for a fault of reading
abbrev pub read_refusal : OrMemory ReadFault → Refusal
read_refusal either.Memory = refusal.Memory
read_refusal (either.Fault fault) = refusal.ReadFault fault

-- the refusal that stands for a fault of a distance table
abbrev pub slit_refusal : OrMemory SlitFault → Refusal
slit_refusal either.Memory = refusal.Memory
slit_refusal (either.Fault fault) = refusal.Slit fault

-- the refusal that stands for a fault of a machine file
abbrev pub machine_refusal : OrMemory MachineFault → Refusal
machine_refusal either.Memory = refusal.Memory
machine_refusal (either.Fault fault) = refusal.Machine fault

-- the refusal that stands for a fault of a certificate
abbrev pub verdict_refusal : OrMemory VerdictFault → Refusal
verdict_refusal either.Memory = refusal.Memory
verdict_refusal (either.Fault (verdict.BadText bad)) = refusal.BadText bad.line
verdict_refusal (either.Fault (verdict.Check fault)) = refusal.Check fault
