-- What a problem comes to: a least plan with what proves it, or a shortage.
use Rattle.std.specs.Prelude.{◌≡◌, ℕ, suc, ◌+◌, ◌*◌, ◌<◌, ◌≤◌, Bool, cond, List, All, Contains, length, take, is_some, Option, Some, None}
use Rattle.std.specs.FinSet as set
use Rattle.std.specs.List.{list_any}
use Rattle.cpu_set.specs.Ids.{Ids}
use Rattle.cpu_set.specs.declared.TheConstants.{CPU_LIMIT}
use Rattle.certificate.specs.RowView.{RowView}
use Rattle.certificate.specs.PricesView.{PricesView}
use Rattle.certificate.specs.IsLeast.{IsLeast}
use Rattle.certificate.specs.IsProved.{IsProved}
use Rattle.certificate.specs.IsDealt.{IsDealt}
use Rattle.certificate.specs.IsShortage.{asked, IsShortage, HasNoPlan}
use Rattle.certificate.specs.declared.price_lists.Price.{Price}
use Rattle.twins.specs.IsGrouping.{IsGrouping}
use Rattle.twins.specs.ClassWeight.{class_weight}
use Rattle.twins.specs.IsPriced.{class_prices}
use Rattle.transport.specs.Totals.{total}
use Rattle.transport.specs.declared.augment.TurnLimit.{TurnLimit}
use Rattle.transport.specs.declared.solver.Answer.{Answer}
use Rattle.transport.specs.declared.solver.Answer.TheVariants.{Plan, Short}

-- a price for each class of twins whose price is not 0, and no other
pub record IsPricedByClass (rows : List RowView) (of_cpu : List Price) : Type 0 where
  pub classes : List Ids
  pub grouping : IsGrouping rows classes
  pub amounts : List ℕ
  pub as_many : length amounts ≡ length classes
  pub its : of_cpu ≡ class_prices classes amounts

-- as many turns as there are rows and classes of twins at most, for each CPU that is asked for
pub record IsWithinTurns (rows : List RowView) (turns : ℕ) : Type 0 where
  pub classes : List Ids
  pub grouping : IsGrouping rows classes
  pub within : turns ≤ asked rows * (length rows + length classes)

-- one of these rows has a weight for the class
abbrev pub is_sought : List RowView → List Ids → List ℕ → ℕ → Bool
is_sought rows classes members g = list_any (λ k. is_some (class_weight rows classes k g)) members

-- how many classes some rows have weights for
abbrev pub sought : List RowView → List Ids → List ℕ → ℕ
sought rows classes members = total (λ g. cond {A = ℕ} (is_sought rows classes members g) 1 0) (length classes)

-- the turns of a shortage: at least two for each row before a member; in the last search one for each member, and for each
-- class that members have weights for. At most as many as there are rows and classes, for each CPU that is asked for.
pub record AreShortTurns (rows : List RowView) (members : List ℕ) (turns : ℕ) : Type 0 where
  pub classes : List Ids
  pub grouping : IsGrouping rows classes
  pub at_least : (k : ℕ) → Contains members k → 2 * k + (length members + sought rows classes members) ≤ turns
  pub within : turns ≤ asked rows * (length rows + length classes)

-- what the checks accept: a plan that its values and prices prove to be of least cost, with that cost as the total; or a
-- shortage
abbrev pub IsRight : List RowView → Answer → Type 0
IsRight rows (Plan sets prices total turns) = IsProved rows sets prices total
IsRight rows (Short members turns) = IsShortage rows members.items

-- a plan if there is one, and none costs less; a shortage only if there is none
abbrev pub IsDecided : List RowView → Answer → Type 0
IsDecided rows (Plan sets prices total turns) = IsLeast rows sets
IsDecided rows (Short members turns) = HasNoPlan rows

-- twins go to the rows in order, the lower CPU first
abbrev pub AreTwinsDealt : List RowView → Answer → Type 0
AreTwinsDealt rows (Plan sets prices total turns) = IsDealt rows sets
AreTwinsDealt rows (Short members turns) = Unit {0}

-- prices of whole classes, above 0, of sets that are not empty
abbrev pub ArePricesOfClasses : List RowView → Answer → Type 0
ArePricesOfClasses rows (Plan sets prices total turns) =
    IsPricedByClass rows prices.of_cpu × All (λ p. (0 < p.amount) × (0 < set.len p.cpus)) prices.of_cpu
ArePricesOfClasses rows (Short members turns) = Unit {0}

-- an answer that is right and decided, its twins dealt in order, its prices those of whole classes
pub record IsAnswerOf (rows : List RowView) (answer : Answer) : Type 0 where
  pub right : IsRight rows answer
  pub decided : IsDecided rows answer
  pub dealt : AreTwinsDealt rows answer
  pub priced : ArePricesOfClasses rows answer

-- the turns of an answer. A plan has at least the first and the last of a path for each row, and at most the bound. A
-- shortage has its own.
abbrev pub AreTurns : List RowView → Answer → Type 0
AreTurns rows (Plan sets prices total turns) = (2 * length rows ≤ turns) × IsWithinTurns rows turns
AreTurns rows (Short members turns) = AreShortTurns rows members.items turns

-- a plan, with all of that
pub record IsSolvedPlan (rows : List RowView) (sets : List Ids) (prices : PricesView) (total turns : ℕ) : Type 0 where
  pub proved : IsProved rows sets prices total
  pub least : IsLeast rows sets
  pub dealt : IsDealt rows sets
  pub by_class : IsPricedByClass rows prices.of_cpu
  pub some : All (λ p. (0 < p.amount) × (0 < set.len p.cpus)) prices.of_cpu
  pub at_least : 2 * length rows ≤ turns
  pub within : IsWithinTurns rows turns

-- a shortage, with all of that
pub record IsSolvedShortage (rows : List RowView) (members : List ℕ) (turns : ℕ) : Type 0 where
  pub shortage : IsShortage rows members
  pub none : HasNoPlan rows
  pub counted : AreShortTurns rows members turns

abbrev pub IsSolved : List RowView → Answer → Type 0
IsSolved rows (Plan sets prices total turns) = IsSolvedPlan rows sets prices total turns
IsSolved rows (Short members turns) = IsSolvedShortage rows members.items turns

-- more turns than the limit has may be needed. There are first rows such that it has fewer for these than the bound for
-- them and one row more.
pub record MayTakeMore (rows : List RowView) (limit : TurnLimit) : Type 0 where
  pub classes : List Ids
  pub grouping : IsGrouping rows classes
  pub few : length classes ≤ CPU_LIMIT
  pub met : ℕ
  pub there : met < length rows
  pub more : limit.at_first + limit.per_cpu * asked (take met rows) < asked (take (suc met) rows) * (length rows + length classes)

-- how many turns an answer took
abbrev pub turns_taken : Answer → ℕ
turns_taken (Plan sets prices total turns) = turns
turns_taken (Short members turns) = turns

-- the limit is heeded: no more turns than it has at first and for each CPU that is asked for, and those of one search,
-- which takes up each row and each class of twins once at most
pub record IsWithinLimit (rows : List RowView) (limit : TurnLimit) (turns : ℕ) : Type 0 where
  pub classes : List Ids
  pub grouping : IsGrouping rows classes
  pub within : turns ≤ limit.at_first + limit.per_cpu * asked rows + (length rows + length classes)

-- an answer within the limit; or none, where more turns may be needed
abbrev pub IsSolvedWithin : List RowView → TurnLimit → Option Answer → Type 0
IsSolvedWithin rows limit (Some answer) = IsSolved rows answer × IsWithinLimit rows limit (turns_taken answer)
IsSolvedWithin rows limit None = MayTakeMore rows limit
