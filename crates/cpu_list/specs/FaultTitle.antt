-- What is printed as the cause of a refusal of a list: its number, or its number and its name.
use Rattle.std.specs.Prelude.{ℕ, List, codes}
use Rattle.cpu_list.specs.declared.fault.ListErrorKind.{ListErrorKind}
use Rattle.cpu_list.specs.declared.fault.ListErrorKind.TheVariants.{BadItem, TooLarge, Descending}

abbrev pub list_code : ListErrorKind → List ℕ
list_code BadItem = codes "E10"
list_code TooLarge = codes "E11"
list_code Descending = codes "E12"

abbrev pub list_title : ListErrorKind → List ℕ
list_title BadItem = codes "E10 BadItem"
list_title TooLarge = codes "E11 TooLarge"
list_title Descending = codes "E12 Descending"
