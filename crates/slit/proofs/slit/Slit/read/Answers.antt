use Rattle.slit.proofs.NoFault.{header_fault-none, entries_fault-none}
use Rattle.slit.proofs.slit.Slit.read.Goals as goal

pub returns-in_err-count-clause-only : goal.returns-in_err-count-clause-only
returns-in_err-count-clause-only c = λ t d.
    let none = header_fault-none _ _ d.header in
    absurd (cc c.in_err-count.ensures.fault)

pub returns-in_err-check_entries-clause-only : goal.returns-in_err-check_entries-clause-only
returns-in_err-check_entries-clause-only c = λ t d.
    let none = entries_fault-none t d.distances in
    let there = d.there in
    absurd (cc (c.in_err-check_entries.ensures.fault, c.entries_of-entries.ensures.there))
