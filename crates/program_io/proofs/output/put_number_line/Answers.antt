use Rattle.program_io.proofs.output.put_number_line.Goals as goal

pub returns : goal.returns
returns g c = c.put_number.ensures
