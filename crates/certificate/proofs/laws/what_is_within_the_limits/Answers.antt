use Rattle.certificate.proofs.LimitWords.{rows_fit_means, limits_mean}
use Rattle.certificate.proofs.laws.what_is_within_the_limits.Goals as goal

pub returns : goal.returns
returns c = record { rows = rows_fit_means; all = limits_mean }
