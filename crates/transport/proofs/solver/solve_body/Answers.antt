use Rattle.std.proofs.Common.{subst}
use Rattle.transport.proofs.Assigning.{never_late}
use Rattle.transport.specs.Solved.{IsSolvedWithin}
use Rattle.transport.proofs.solver.solve_body.Goals as goal

pub unreachable-requires : goal.unreachable-requires
unreachable-requires c =
    never_late c.args.problem.now ((c.what_is_within_the_limits.ensures.rows _).0 c.requires)
    (subst (IsSolvedWithin c.args.problem.now (record { at_first = 18446744073709551615; per_cpu = 0 })) c.in-None.is c.in_ok-answer.ensures)
