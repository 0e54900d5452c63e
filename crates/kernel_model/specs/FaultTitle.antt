-- What is printed as the cause of a refusal of a call of the kernel: its number and its name.
use Rattle.std.specs.Prelude.{ℕ, List, codes}
use Rattle.kernel_model.specs.declared.fault.KernelFault.{KernelFault}
use Rattle.kernel_model.specs.declared.fault.KernelFault.TheVariants.{NoGroup, Exists, HasChildren, HasProcesses, IsRoot, NoPids, NoProcess, NoSerials, Failed, Reserved, NoCpu}

abbrev pub kernel_title : KernelFault → List ℕ
kernel_title NoGroup = codes "E40 NoGroup"
kernel_title Exists = codes "E41 Exists"
kernel_title HasChildren = codes "E42 HasChildren"
kernel_title HasProcesses = codes "E43 HasProcesses"
kernel_title IsRoot = codes "E44 IsRoot"
kernel_title NoPids = codes "E45 NoPids"
kernel_title NoProcess = codes "E46 NoProcess"
kernel_title NoSerials = codes "E47 NoSerials"
kernel_title Failed = codes "E50 KernelFault"
kernel_title Reserved = codes "E51 Reserved"
kernel_title NoCpu = codes "E52 NoCpu"
