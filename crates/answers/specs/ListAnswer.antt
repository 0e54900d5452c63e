-- What numarun answers to a list of CPUs.
use Rattle.std.specs.Prelude.{◌≡◌, ℕ, List, ◌++◌, Some, None, Result, Ok, Err, codes}
use Rattle.cpu_set.specs.Ids.{Ids}
use Rattle.cpu_set.specs.declared.TheConstants.{CPU_LIMIT}
use Rattle.cpu_list.specs.CanonicalList.{list_text}
use Rattle.cpu_list.specs.FirstFault.{first_fault}
use Rattle.cpu_list.specs.ListText.{IsSetOf}
use Rattle.program_io.specs.declared.refusal.Refusal.{Refusal}
use Rattle.program_io.specs.declared.refusal.Refusal.TheVariants as refusal

-- the set of the text, or the first fault of one that is no list
abbrev pub IsSetOrRefusal : List ℕ → Result Ids Refusal → Type 0
IsSetOrRefusal text (Ok s) = (first_fault CPU_LIMIT text ≡ None) × IsSetOf text s
IsSetOrRefusal text (Err (refusal.List error)) = first_fault CPU_LIMIT text ≡ Some error
IsSetOrRefusal text (Err _) = ⊥

abbrev pub set_line : Ids → List ℕ
set_line s = list_text s ++ codes "\n"
