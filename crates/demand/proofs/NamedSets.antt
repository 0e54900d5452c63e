-- The set that a list names, as its reader gives it and as the definition has it.
use Rattle.std.proofs.Common.{◌≡◌, ℕ, ◌≤◌, List, Some, None}
use Rattle.std.specs.Prelude.{Result, Ok, Err, IfOk, MatchResult}
use Rattle.cpu_set.specs.Ids.{Ids}
use Rattle.cpu_list.specs.declared.fault.ListError.{ListError}
use Rattle.cpu_list.specs.ListText.{IsSetOf, IsList}
use Rattle.cpu_list.specs.FirstFault.{first_fault, IsFirstFault}
use Rattle.cpu_set.specs.declared.TheConstants.{CPU_LIMIT}
use Rattle.machine.specs.ListLaws.{IsSetOf-set_of}
use Rattle.demand.specs.Named.{named}

-- what a reader answers for a list is the set that the list names
pub read_named :
    (limit : ℕ) (text : List ℕ) (answer : Result Ids ListError) → limit ≤ CPU_LIMIT
    → MatchResult answer (λ s. (first_fault limit text ≡ None) × IsSetOf text s × IsList limit text)
    (λ e. (first_fault limit text ≡ Some e) × IsFirstFault limit text e)
    → IfOk answer (λ s. s ≡ named (Some text))
unfolding named
read_named limit text (Ok s) few is = IsSetOf-set_of limit text s few is.2 is.1
read_named limit text (Err e) few is = tt
