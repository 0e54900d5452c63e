-- Members of a shortage as contracts see them are a list of row numbers.
use Rattle.std.specs.Prelude.{List, ℕ}
use Rattle.std.specs.Coded.{Coded, coded_list, coded_ℕ}

-- it is stored as the list of their codes
abbrev pub members_code : Coded (List ℕ)
members_code = coded_list coded_ℕ
