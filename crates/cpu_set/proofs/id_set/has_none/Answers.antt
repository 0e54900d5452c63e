use Rattle.std.proofs.Common.{ap, ◌==◌}
use Rattle.std.proofs.lemmas.Bool.{eqb-true}
use Rattle.cpu_set.proofs.Combined.{empty-fold, fold-empty}
use Rattle.cpu_set.proofs.id_set.has_none.Goals as goal

pub returns : goal.returns
returns c = (λ yes. fold-empty _ c.requires (eqb-true _ _ yes), λ e. ap (λ v. v == 0) (empty-fold _ c.requires e))
