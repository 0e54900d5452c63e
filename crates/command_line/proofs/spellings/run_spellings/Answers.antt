use Rattle.command_line.proofs.RunWords.{run_spelled}
use Rattle.command_line.proofs.spellings.run_spellings.Goals as goal

pub returns : goal.returns
returns c = run_spelled
