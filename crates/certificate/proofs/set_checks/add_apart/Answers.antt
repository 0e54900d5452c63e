use Rattle.std.proofs.Common.{sym, ◌∙◌}
use Rattle.certificate.proofs.Singles.{insert-single}
use Rattle.certificate.proofs.set_checks.add_apart.Goals as goal

pub returns-in-Some-clause-added : goal.returns-in-Some-clause-added
returns-in-Some-clause-added g c d is_new =
    c.insert.ensures ∙ insert-single _ _ c.in-Some.cpu (λ q. sym (c.ranges-2.ensures.members d q) ∙ c.in-Some.ensures.alone q)
