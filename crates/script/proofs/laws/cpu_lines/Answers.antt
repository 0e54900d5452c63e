use Rattle.script.proofs.CpuLineLemmas.{cpu_lines_are_read}
use Rattle.script.proofs.laws.cpu_lines.Goals as goal

pub returns : goal.returns
returns c = cpu_lines_are_read
