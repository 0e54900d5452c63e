use Rattle.restarts.proofs.EndLemmas.{ends_are_left, restarts_go_on}
use Rattle.restarts.proofs.OwnLemmas.{places_write_own}
use Rattle.restarts.proofs.laws.what_runs_leave.Goals as goal

pub returns : goal.returns
returns c = record {
  ends = ends_are_left c.runs.ensures.keep c.runs.ensures.single c.each_create.ensures.single c.each_create.ensures.safe c.each_update.ensures.single
      c.each_update.ensures.safe c.booted_nodes.ensures;
  own = places_write_own;
  again = restarts_go_on c.runs.ensures.keep c.runs.ensures.single c.each_create.ensures.single c.each_create.ensures.safe c.each_update.ensures.single
      c.each_update.ensures.safe c.booted_nodes.ensures;
}
