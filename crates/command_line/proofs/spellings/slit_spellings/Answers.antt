use Rattle.command_line.proofs.PlainWords.{slit_spelled}
use Rattle.command_line.proofs.spellings.slit_spellings.Goals as goal

pub returns : goal.returns
returns c = slit_spelled
