use Rattle.runtime.specs.Found.{IsSeen}
use Rattle.strangers.proofs.ToldLemmas.{guarded_are_told}
use Rattle.strangers.proofs.WithinLemmas.{lines_are_within, scripts_are_within}
use Rattle.strangers.proofs.laws.scripts_within.Goals as goal

pub returns : goal.returns
returns g c = record {
  told = guarded_are_told (IsSeen g.B.Bundles.finds);
  lines = lines_are_within c.cpu_lines.ensures c.runs.ensures.keep (IsSeen g.B.Bundles.finds);
  scripts = scripts_are_within c.cpu_lines.ensures c.runs.ensures.keep (IsSeen g.B.Bundles.finds);
}
