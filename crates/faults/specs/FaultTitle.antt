-- What is printed as the cause of a refusal for an allocation failure: its number and its name.
use Rattle.std.specs.Prelude.{ℕ, List, codes}

abbrev pub memory_title : List ℕ
memory_title = codes "E1 Memory"
