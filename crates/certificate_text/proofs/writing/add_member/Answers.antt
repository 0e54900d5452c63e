use Rattle.certificate_text.proofs.writing.add_member.Goals as goal

pub returns : goal.returns
returns g c = rw (← c.row.view_is) (rw (c.as_slice.ensures, c.as_bytes.ensures.value, c.as_slice-2.ensures) at c.add_all.ensures)
