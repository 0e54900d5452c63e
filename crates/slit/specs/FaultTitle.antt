-- What is printed as the cause of a refusal of a table of distances: its number and its name.
use Rattle.std.specs.Prelude.{ℕ, List, codes}
use Rattle.slit.specs.declared.fault.SlitFault.{SlitFault}
use Rattle.slit.specs.declared.fault.SlitFault.TheVariants.{TooShort, BadSignature, BadLength, BadCount, BadSum, ReservedValue, BadDiagonal}

abbrev pub slit_title : SlitFault → List ℕ
slit_title TooShort = codes "E15 TooShort"
slit_title BadSignature = codes "E16 BadSignature"
slit_title BadLength = codes "E17 BadLength"
slit_title BadCount = codes "E18 BadCount"
slit_title BadSum = codes "E19 BadSum"
slit_title (ReservedValue row column) = codes "E20 ReservedValue"
slit_title (BadDiagonal row) = codes "E21 BadDiagonal"
