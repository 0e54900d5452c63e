use Rattle.hall.proofs.Needed.{root_is_needed, holders_are_needed}
use Rattle.hall.proofs.laws.holders_are_needed.Goals as goal

pub returns : goal.returns
returns c = record { root = root_is_needed; holders = holders_are_needed }
