use Rattle.runtime.specs.Found.{IsSeen}
use Rattle.runtime.specs.ScriptToldLemmas.{scripts_are_told, boots_are_told}
use Rattle.runtime.proofs.laws.scripts_are_told.Goals as goal

pub returns : goal.returns
returns g c = record { lines = scripts_are_told (IsSeen g.B.Bundles.finds); first = boots_are_told }
