use Rattle.command_line.proofs.PlainWords.{check_spelled}
use Rattle.command_line.proofs.spellings.check_spellings.Goals as goal

pub returns : goal.returns
returns c = check_spelled
