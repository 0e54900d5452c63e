use Rattle.std.proofs.Common.{not, sym, ap, subst, ◌∙◌}
use Rattle.std.proofs.lemmas.Bool.{false≢true}
use Rattle.apply_plan.specs.Holders.{Pairwise}
use Rattle.apply_plan.specs.Targets.{HaveOtherGroups}
use Rattle.scenarios.proofs.ConditionLemmas.{cut_first}
use Rattle.scenarios.proofs.requirements.have_other_groups.Goals as goal

pub returns-then-is_among : goal.returns-then-is_among
returns-then-is_among c =
    let e = cut_first c.loop-rest.rest.now c.first-item.result c.in-len1-up.len_at_least c.first-item.is in (
      λ yes. absurd (false≢true yes),
      λ all. absurd (false≢true (sym (ap not c.if-is_among.true) ∙ c.is_among.ensures.1 (subst (Pairwise HaveOtherGroups) e (c.loop-rest.invariant.1 all)).0)),
    )

pub loop-rest-preserved : goal.loop-rest-preserved
loop-rest-preserved c =
    let e = cut_first c.loop-rest.rest.now c.first-item.result c.in-len1-up.len_at_least c.first-item.is in (
      λ later. c.loop-rest.invariant.0 (subst (Pairwise HaveOtherGroups) (sym e) (c.is_among.ensures.0 (ap not c.if-is_among.false), later)),
      λ all. (subst (Pairwise HaveOtherGroups) e (c.loop-rest.invariant.1 all)).1,
    )
