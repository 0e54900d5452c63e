use Rattle.node.specs.ToldLemmas.{events_are_told, runs_are_told}
use Rattle.node.proofs.laws.each_call.Goals as goal

pub returns : goal.returns
returns c = record { told = events_are_told; runs = runs_are_told }
