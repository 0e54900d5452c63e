use Rattle.twins.proofs.Closing.{closed_rows_are_short}
use Rattle.twins.proofs.laws.closed_rows_are_short.Goals as goal

pub returns : goal.returns
returns c = closed_rows_are_short
