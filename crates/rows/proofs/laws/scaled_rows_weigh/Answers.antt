use Rattle.rows.specs.PartLemmas.{scaled_rows_weigh, distances_stay, moves_are_unheld}
use Rattle.rows.proofs.laws.scaled_rows_weigh.Goals as goal

pub returns : goal.returns
returns c = record { weights = scaled_rows_weigh; distance = distances_stay; moves = moves_are_unheld }
