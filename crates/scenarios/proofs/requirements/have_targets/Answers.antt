use Rattle.std.proofs.Common.{sym, subst, ◌∙◌}
use Rattle.std.proofs.lemmas.Bool.{false≢true}
use Rattle.apply_plan.specs.Targets.{HaveSomeTarget}
use Rattle.scenarios.proofs.ConditionLemmas.{cut_first, some_by_test, none_by_test}
use Rattle.scenarios.proofs.requirements.have_targets.Goals as goal

pub returns-then-is_empty : goal.returns-then-is_empty
returns-then-is_empty c =
    let e = cut_first c.loop-rest.rest.now c.first-item.result c.in-len1-up.len_at_least c.first-item.is in (
      λ yes. absurd (false≢true yes),
      λ all. absurd (false≢true (sym (subst HaveSomeTarget e (c.loop-rest.invariant.1 all)).0
          ∙ none_by_test c.first-item.result.target c.is_empty.result c.is_empty.ensures c.if-is_empty.true)),
    )

pub loop-rest-preserved : goal.loop-rest-preserved
loop-rest-preserved c =
    let e = cut_first c.loop-rest.rest.now c.first-item.result c.in-len1-up.len_at_least c.first-item.is in (
      λ later. c.loop-rest.invariant.0 (subst HaveSomeTarget (sym e) (some_by_test c.first-item.result.target c.is_empty.result c.is_empty.ensures c.if-is_empty.false, later)),
      λ all. (subst HaveSomeTarget e (c.loop-rest.invariant.1 all)).1,
    )
