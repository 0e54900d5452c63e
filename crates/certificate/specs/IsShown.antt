-- A shortage that shows itself.
use Rattle.std.specs.Prelude.{◌≡◌, ℕ, IsTrue, List, length}
use Rattle.certificate.specs.RowView.{RowView}
use Rattle.certificate.specs.IsShortage.{chosen, asked, offered, IsShortage}
use Rattle.certificate.specs.Limits.{rows_fit}

-- what a yes of the check of a shortage means: rows within their limits, and a shortage by these two counts
pub record IsShown (rows : List RowView) (members : List ℕ) (wanted there : ℕ) : Type 0 where
  pub limits : IsTrue (rows_fit rows)
  pub shortage : IsShortage rows members
  pub asks : asked (chosen rows members) ≡ wanted
  pub has : length (offered (chosen rows members)) ≡ there
