use Rattle.std.proofs.Common.{sym, ◌∙◌}
use Rattle.certificate_text.proofs.Taking.{row_lacks, row_refused}
use Rattle.certificate_text.proofs.reading.no_room_for_row.Goals as goal

pub returns-then-takes_row : goal.returns-then-takes_row
returns-then-takes_row c =
    row_lacks c.args.draft.now c.args.line.now c.second_word.result.now c.requires.0 c.requires.1 (c.second_word.ensures c.requires.0 c.requires.1)
    (sym c.takes_row.ensures ∙ c.if-takes_row.true)

pub returns-else-takes_row : goal.returns-else-takes_row
returns-else-takes_row c =
    row_refused (record {}) c.args.draft.now c.args.line.now c.second_word.result.now c.requires.0 c.requires.1 (c.second_word.ensures c.requires.0 c.requires.1)
    (sym c.takes_row.ensures ∙ c.if-takes_row.false)
