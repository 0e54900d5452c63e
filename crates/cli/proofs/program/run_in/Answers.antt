-- Without a root, and below one.
use Rattle.cli.proofs.program.run_in.Goals as goal

pub returns-in-None : goal.returns-in-None
returns-in-None g c = rw c.in-None.is ((g.R.Read.remaining c.do_run.new.script, c.do_run.ensures), λ how before held. held)

pub returns : goal.returns
returns g c = rw c.in-Some.is (g.R.Read.remaining c.do_run_mirrored.new.script, c.do_run_mirrored.ensures)
