use Rattle.std.proofs.Common.{sym}
use Rattle.certificate.proofs.RowFaults.{not_allowed_is}
use Rattle.certificate.proofs.row_checks.first_not_allowed.Goals as goal

pub returns : goal.returns
returns c = sym (not_allowed_is c.args.row.now c.args.held.now c.cpus.result c.first.result
    (λ q. rw (← c.row.view_is) (c.cpus.ensures q))
    (rw (← c.minus.ensures) c.first.ensures.first, c.first.ensures.in_range))
