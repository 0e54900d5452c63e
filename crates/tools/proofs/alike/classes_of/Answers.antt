use Rattle.std.proofs.Common.{◌≡◌, true, List}
use Rattle.std.specs.List.{list_all}
use Rattle.certificate.specs.RowView.{RowView}
use Rattle.certificate.specs.Limits.{row_fits, rows_fit}
use Rattle.certificate.specs.TestLaws.{true_right}
use Rattle.tools.proofs.alike.classes_of.Goals as goal

each_fits : (rows : List RowView) → rows_fit rows ≡ true → list_all row_fits rows ≡ true
unfolding rows_fit
each_fits rows fit = true_right _ _ fit

pub group-requires-clause-fit : goal.group-requires-clause-fit
group-requires-clause-fit c = each_fits _ c.requires
