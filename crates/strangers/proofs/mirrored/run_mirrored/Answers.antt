-- So it is at the end of the script.
use Rattle.strangers.proofs.mirrored.run_mirrored.Goals as goal

pub returns-clause-mirrored : goal.returns-clause-mirrored
returns-clause-mirrored g c = rw c.node.ensures at c.is_mirrored.ensures
