-- What a problem comes to.
use Rattle.std.specs.Prelude.{◌≡◌, ℕ, ◌<◌, ◌^◌, List, All}
use Rattle.std.specs.FinSet as set
use Rattle.cpu_set.specs.Ids.{Ids}
use Rattle.certificate.specs.RowView.{RowView}
use Rattle.certificate.specs.PricesView.{PricesView}
use Rattle.certificate.specs.IsDealt.{IsDealt}
use Rattle.certificate.specs.IsLeast.{IsLeast}
use Rattle.certificate.specs.IsProved.{IsProved}
use Rattle.certificate.specs.IsShortage.{IsShortage, HasNoPlan}
use Rattle.certificate.specs.declared.weights.Weights.{Weights}
use Rattle.certificate.specs.declared.certificates.Certificate.{Certificate}
use Rattle.certificate.specs.declared.certificates.Certificate.TheVariants.{Plan, Short}
use Rattle.hall.specs.Needed.{AreNeeded}
use Rattle.transport.specs.declared.solver.Answer.{Answer}
use Rattle.transport.specs.declared.solver.Answer.TheVariants as answer
use Rattle.transport.specs.Solved.{IsPricedByClass}

-- a plan of the rows that no plan undercuts, as its values and prices prove, and of twins the lower one to the earlier row;
-- there is a price above 0 for each class of twins whose price is not 0, and no other
pub record DecidesPlan (rows : List RowView) (sets : List Ids) (prices : PricesView) (total : ℕ) : Type 0 where
  pub least : IsLeast rows sets
  pub proved : IsProved rows sets prices total
  pub dealt : IsDealt rows sets
  pub by_class : IsPricedByClass rows prices.of_cpu
  pub some : All (λ p. (0 < p.amount) × (0 < set.len p.cpus)) prices.of_cpu

-- rows that ask for more than they may have, so that there is no plan; none of them can be left out
pub record DecidesShort (rows : List RowView) (members : List ℕ) : Type 0 where
  pub shortage : IsShortage rows members
  pub none : HasNoPlan rows
  pub needed : AreNeeded rows members

-- a certificate of these very rows, whose weights are said to count this. Either a least plan that proves itself and is dealt
-- as twins ought to be; it has a price for each class whose price is not 0, and no others. Or a shortage, if there is no
-- plan, of which no member can be left out.
abbrev pub Decides : List RowView → Weights → Certificate → Type 0
Decides rows weights (Plan own sets prices total said) = (own ≡ rows) × (said ≡ weights) × DecidesPlan rows sets prices total
Decides rows weights (Short own members said) = (own ≡ rows) × (said ≡ weights) × DecidesShort rows members

-- no member of a shortage can be left out
abbrev pub AreAllNeeded : List RowView → Answer → Type 0
AreAllNeeded rows (answer.Plan sets prices total turns) = Unit {0}
AreAllNeeded rows (answer.Short members turns) = AreNeeded rows members.items

-- a problem with its answer
abbrev pub answered : List RowView → Weights → Answer → Certificate
answered rows weights (answer.Plan sets prices total turns) = Plan rows sets prices total weights
answered rows weights (answer.Short members turns) = Short rows members.items weights

-- a total that its type holds
abbrev pub IsTotalHeld : Certificate → Type 0
IsTotalHeld (Plan rows sets prices total weights) = total < 2 ^ 64
IsTotalHeld (Short rows members weights) = Unit {0}
