-- What a solved problem's answer says, clause by clause.
use Rattle.std.proofs.Common.{◌≡◌, List, Option, Some, None, IfSome, Result, IfOk, Ok, Err, subst}
use Rattle.certificate.specs.RowView.{RowView}
use Rattle.transport.specs.Solved.{IsRight, IsDecided, AreTwinsDealt, ArePricesOfClasses, AreTurns, IsSolved, MayTakeMore, turns_taken, IsWithinLimit, IsSolvedWithin}
use Rattle.transport.specs.declared.augment.TurnLimit.{TurnLimit}
use Rattle.transport.specs.declared.solver.Answer.{Answer}
use Rattle.transport.specs.declared.solver.Answer.TheVariants.{Plan, Short}

pub right_of : (rows : List RowView) (a : Answer) → IsSolved rows a → IsRight rows a
right_of rows (Plan sets prices total turns) h = h.proved
right_of rows (Short members turns) h = h.shortage

pub decided_of : (rows : List RowView) (a : Answer) → IsSolved rows a → IsDecided rows a
decided_of rows (Plan sets prices total turns) h = h.least
decided_of rows (Short members turns) h = h.none

pub dealt_of : (rows : List RowView) (a : Answer) → IsSolved rows a → AreTwinsDealt rows a
dealt_of rows (Plan sets prices total turns) h = h.dealt
dealt_of rows (Short members turns) h = tt

pub prices_of_classes : (rows : List RowView) (a : Answer) → IsSolved rows a → ArePricesOfClasses rows a
prices_of_classes rows (Plan sets prices total turns) h = (h.by_class, h.some)
prices_of_classes rows (Short members turns) h = tt

pub turns_of : (rows : List RowView) (a : Answer) → IsSolved rows a → AreTurns rows a
turns_of rows (Plan sets prices total turns) h = (h.at_least, h.within)
turns_of rows (Short members turns) h = h.counted

-- what follows from an answer
pub if_ok : {A E : Type 0} {P Q : A → Type 0} → (r : Result A E) → ((a : A) → P a → Q a) → IfOk r P → IfOk r Q
if_ok (Ok a) follows h = follows a h
if_ok (Err e) follows h = tt

-- what follows from an answer, if there is one
pub if_some : {Q : Answer → Type 0} (rows : List RowView) (limit : TurnLimit) → ((a : Answer) → IsSolved rows a → Q a) → (found : Option Answer) → IsSolvedWithin rows limit found → IfSome found Q
if_some rows limit follows (Some a) h = follows a h.0
if_some rows limit follows None h = tt

pub limited_of : (rows : List RowView) (limit : TurnLimit) (found : Option Answer) → IsSolvedWithin rows limit found → IfSome found (λ a. IsWithinLimit rows limit (turns_taken a))
limited_of rows limit (Some a) h = h.1
limited_of rows limit None h = tt

pub late_of : (rows : List RowView) (limit : TurnLimit) (found : Option Answer) → IsSolvedWithin rows limit found → found ≡ None → MayTakeMore rows limit
late_of rows limit found h is = subst (IsSolvedWithin rows limit) is h
