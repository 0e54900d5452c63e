-- Line by line.
use Rattle.runtime.proofs.Seen.{by_lines}
use Rattle.runtime.proofs.laws.looks_are_told.Goals as goal

pub returns : goal.returns
returns g c = by_lines g.B.Bundles.finds
