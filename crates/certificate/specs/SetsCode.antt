-- A plan as contracts see it is a list of sets.
use Rattle.std.specs.Prelude.{List}
use Rattle.std.specs.Coded.{Coded, coded_list}
use Rattle.cpu_set.specs.Ids.{Ids, ids_code}

-- it is stored as the list of their codes
abbrev pub sets_code : Coded (List Ids)
sets_code = coded_list ids_code
