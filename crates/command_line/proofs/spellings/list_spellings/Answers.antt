use Rattle.command_line.proofs.PlainWords.{list_spelled}
use Rattle.command_line.proofs.spellings.list_spellings.Goals as goal

pub returns : goal.returns
returns c = list_spelled
