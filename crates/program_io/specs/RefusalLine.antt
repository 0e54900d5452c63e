-- The line that a refusal is printed as: `refused`, its number, its name, and each argument after a space.
use Rattle.std.specs.Prelude.{ℕ, List, [], ◌∷◌, ◌++◌, codes}
use Rattle.std.specs.List.{flat_map}
use Rattle.byte_output.specs.Arguments.{number_text, word_text}
use Rattle.cpu_list.specs.FaultTitle.{list_title}
use Rattle.faults.specs.FaultTitle.{memory_title}
use Rattle.machine.specs.FaultTitle.{machine_title}
use Rattle.machine.specs.FieldName.{name_of}
use Rattle.machine.specs.declared.fault.MachineFault.{MachineFault}
use Rattle.machine.specs.declared.fault.MachineFault.TheVariants as machine
use Rattle.slit.specs.FaultTitle.{slit_title}
use Rattle.slit.specs.declared.fault.SlitFault.{SlitFault}
use Rattle.slit.specs.declared.fault.SlitFault.TheVariants.{TooShort, BadSignature, BadCount, BadLength, BadSum, ReservedValue, BadDiagonal}
use Rattle.certificate.specs.FaultTitle.{check_title}
use Rattle.certificate.specs.declared.fault.CheckFault.{CheckFault}
use Rattle.certificate.specs.declared.fault.CheckFault.TheVariants.{BadProblem, WrongCount, NotAllowed, HeldTwice, ValueTooHigh, Gap, NoShortage}
use Rattle.program_io.specs.declared.refusal.Arguments.{Arguments}
use Rattle.program_io.specs.declared.refusal.Arguments.TheVariants as arguments
use Rattle.program_io.specs.declared.refusal.Refusal.{Refusal}
use Rattle.program_io.specs.declared.refusal.Refusal.TheVariants as refusal

-- numbers, each behind a space
abbrev pub arguments_text : List ℕ → List ℕ
arguments_text numbers = flat_map number_text numbers

-- where it stands: the row and the column, or the row
abbrev pub slit_arguments_of : SlitFault → List ℕ
slit_arguments_of TooShort = []
slit_arguments_of BadSignature = []
slit_arguments_of BadLength = []
slit_arguments_of BadCount = []
slit_arguments_of BadSum = []
slit_arguments_of (ReservedValue row column) = row ∷ column ∷ []
slit_arguments_of (BadDiagonal row) = row ∷ []

-- the member's name, the CPU, the row and the column, or the core's place in its list
abbrev pub machine_arguments_of : MachineFault → List ℕ
machine_arguments_of machine.NotJson = []
machine_arguments_of (machine.BadField field) = word_text (name_of field)
machine_arguments_of machine.NodeCount = []
machine_arguments_of (machine.CpuTwice cpu) = arguments_text (cpu ∷ [])
machine_arguments_of machine.BothDistances = []
machine_arguments_of machine.NoDistances = []
machine_arguments_of machine.WrongSize = []
machine_arguments_of (machine.BadDistance row column) = arguments_text (row ∷ column ∷ [])
machine_arguments_of machine.BadReserved = []
machine_arguments_of machine.BadOffline = []
machine_arguments_of (machine.BadCore index) = arguments_text (index ∷ [])
machine_arguments_of (machine.NoCore cpu) = arguments_text (cpu ∷ [])

-- where the check found it: the row, the CPU, or the row and then the CPU
abbrev pub check_arguments_of : CheckFault → List ℕ
check_arguments_of BadProblem = []
check_arguments_of (WrongCount row) = row ∷ []
check_arguments_of (NotAllowed row cpu) = row ∷ cpu ∷ []
check_arguments_of (HeldTwice cpu) = cpu ∷ []
check_arguments_of (ValueTooHigh row cpu) = row ∷ cpu ∷ []
check_arguments_of Gap = []
check_arguments_of NoShortage = []

-- the number and the name of a refusal
abbrev pub title_of : Refusal → List ℕ
title_of refusal.Memory = memory_title
title_of (refusal.List error) = list_title error.kind
title_of (refusal.Slit fault) = slit_title fault
title_of (refusal.Machine fault) = machine_title fault
title_of (refusal.Check fault) = check_title fault
title_of (refusal.BadText line) = codes "E77 BadText"
title_of (refusal.ReadFault fault) = codes "E113 ReadFault"

-- what stands behind the name
abbrev pub arguments_of : Refusal → List ℕ
arguments_of refusal.Memory = []
arguments_of (refusal.List error) = arguments_text (error.at ∷ [])
arguments_of (refusal.Slit fault) = arguments_text (slit_arguments_of fault)
arguments_of (refusal.Machine fault) = machine_arguments_of fault
arguments_of (refusal.Check fault) = arguments_text (check_arguments_of fault)
arguments_of (refusal.BadText line) = arguments_text (line ∷ [])
arguments_of (refusal.ReadFault fault) = []

abbrev pub text_of : Arguments → List ℕ
text_of arguments.None = []
text_of (arguments.One first) = arguments_text (first ∷ [])
text_of (arguments.Two first second) = arguments_text (first ∷ second ∷ [])
text_of (arguments.Word word) = word_text word.now

-- the line that a refusal of an input is printed as: its title and its arguments
abbrev pub refusal_line : Refusal → List ℕ
refusal_line why = (codes "refused " ++ title_of why) ++ (arguments_of why ++ codes "\n")
