-- The second word of a row's line is its id.
use Rattle.certificate_text.proofs.draft.Draft.take.Goals as goal

pub add_row-requires : goal.add_row-requires
add_row-requires c = c.second_word.ensures c.in-Row.row (rw c.in-Row.is at c.requires)
