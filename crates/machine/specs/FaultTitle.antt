-- What is printed as the cause of a refusal of a machine file: its number and its name.
use Rattle.std.specs.Prelude.{ℕ, List, codes}
use Rattle.machine.specs.declared.fault.MachineFault.{MachineFault}
use Rattle.machine.specs.declared.fault.MachineFault.TheVariants.{NotJson, BadField, NodeCount, CpuTwice, BothDistances, NoDistances, WrongSize, BadDistance, BadReserved, BadOffline, BadCore, NoCore}

abbrev pub machine_title : MachineFault → List ℕ
machine_title NotJson = codes "E25 NotJson"
machine_title (BadField field) = codes "E26 BadField"
machine_title NodeCount = codes "E27 NodeCount"
machine_title (CpuTwice cpu) = codes "E28 CpuTwice"
machine_title BothDistances = codes "E29 BothDistances"
machine_title NoDistances = codes "E30 NoDistances"
machine_title WrongSize = codes "E31 WrongSize"
machine_title (BadDistance row column) = codes "E32 BadDistance"
machine_title BadReserved = codes "E33 BadReserved"
machine_title BadOffline = codes "E34 BadOffline"
machine_title (BadCore index) = codes "E35 BadCore"
machine_title (NoCore cpu) = codes "E36 NoCore"
