use Rattle.certificate_text.proofs.writing.add_header.Goals as goal

pub returns-in-Plain : goal.returns-in-Plain
returns-in-Plain g c = rw c.in-Plain.is c.add.ensures

pub returns-in-WithMoves : goal.returns-in-WithMoves
returns-in-WithMoves g c = rw c.in-WithMoves.is c.add-in-WithMoves.ensures
