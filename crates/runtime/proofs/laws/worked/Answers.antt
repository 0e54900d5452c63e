-- The digits that are printed.
use Rattle.std.proofs.Common.{lit<}
use Rattle.std.proofs.lemmas.Fmt.{decimal_digit}
use Rattle.runtime.proofs.laws.worked.Goals as goal

pub returns-clause-pid : goal.returns-clause-pid
returns-clause-pid c n = rw (decimal_digit 3 (lit< tt))

pub returns-clause-not_free : goal.returns-clause-not_free
returns-clause-not_free c = rw (decimal_digit 5 (lit< tt))

pub returns-clause-bad_set : goal.returns-clause-bad_set
returns-clause-bad_set c = rw (decimal_digit 0 (lit< tt))

pub returns-clause-total : goal.returns-clause-total
returns-clause-total c = rw (decimal_digit 0 (lit< tt))
