use Rattle.cli.proofs.run.play.Goals as goal

pub returns : goal.returns
returns g c = (c.run_script_within.new.target, rw c.new-runner.ensures at c.run_script_within.ensures)
