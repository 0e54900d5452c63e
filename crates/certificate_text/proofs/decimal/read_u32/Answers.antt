use Rattle.certificate_text.proofs.Decimals.{fits_32}
use Rattle.certificate_text.proofs.decimal.read_u32.Goals as goal

pub returns-in-Some : goal.returns-in-Some
returns-in-Some c =
    rw c.ok.ensures.value (fits_32 c.args.word.now c.in-Some.number c.try_from.result c.in-Some.ensures c.try_from.ensures)
