use Rattle.std.proofs.Common.{sym, ap, ◌∙◌}
use Rattle.std.specs.Prelude.{cond}
use Rattle.std.specs.FinSet as set
use Rattle.apply_plan.specs.SetMemberLaws.{none_union}
use Rattle.apply_plan.proofs.overview.add_if.Goals as goal

pub returns-else-test : goal.returns-else-test
returns-else-test c = sym (ap (λ b. set.union c.args.all.now (cond b c.args.more.now set.empty)) c.if-test.false ∙ none_union c.args.all.now)
