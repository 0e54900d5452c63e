use Rattle.command_line.proofs.PlainWords.{solve_spelled}
use Rattle.command_line.proofs.spellings.solve_spellings.Goals as goal

pub returns : goal.returns
returns c = solve_spelled
