use Rattle.std.proofs.Common.{◌≡◌, ◌-◌, length, drop}
use Rattle.certificate_text.specs.DraftView.{number_in}
use Rattle.certificate_text.proofs.draft.Draft.number_of.Given as goal

-- none of the rows before this one has the id
abbrev pub invariant-loop-number : goal.invariant-loop-number
invariant-loop-number l =
    number_in l.id l.self-inside.from (drop l.self-inside.from l.self-inside.rows.items) ≡ number_in l.id l.number (drop l.number l.self-inside.rows.items)

abbrev pub decreases-loop-number : goal.decreases-loop-number
decreases-loop-number l = length l.self-inside.rows.items - l.number
