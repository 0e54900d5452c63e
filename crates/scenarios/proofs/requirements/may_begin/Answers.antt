use Rattle.std.proofs.Common.{◌≡◌, true, false, not, sym, ap, ◌∙◌}
use Rattle.std.proofs.lemmas.Bool.{false≢true}
use Rattle.apply_plan.specs.Holders.{Pairwise}
use Rattle.apply_plan.specs.Targets.{HaveOtherGroups, HaveSomeTarget}
use Rattle.scenarios.proofs.ConditionLemmas.{some_by_test, none_by_test}
use Rattle.scenarios.proofs.requirements.may_begin.Goals as goal
use Rattle.scenarios.proofs.requirements.may_begin.Goals.{then-not-is_empty, else-not-is_empty, then-have_targets, else-have_targets}

pub returns-then-have_other_groups : goal.returns-then-have_other_groups
returns-then-have_other_groups c =
    let groups : Pairwise HaveOtherGroups c.args.entries.now = elim c.if-have_targets.branch [
      | then-have_targets w ↦ w.have_other_groups.ensures.0 (sym w.value-is ∙ c.if-have_other_groups.true)
      | else-have_targets w ↦ absurd (false≢true (sym w.if-have_targets.false ∙ sym w.value-is ∙ c.if-have_other_groups.true))
    ] in
    let chain : c.if-not-is_empty.value ≡ true = elim c.if-have_targets.branch [
      | then-have_targets w ↦ w.if-have_targets.true
      | else-have_targets w ↦ absurd (false≢true (sym w.if-have_targets.false ∙ sym w.value-is ∙ c.if-have_other_groups.true))
    ] in
    let targets : HaveSomeTarget c.args.entries.now = elim c.if-not-is_empty.branch [
      | then-not-is_empty w ↦ w.have_targets.ensures.0 (sym w.value-is ∙ chain)
      | else-not-is_empty w ↦ absurd (false≢true (sym (ap not w.if-not-is_empty.false) ∙ sym w.value-is ∙ chain))
    ] in
    let some : c.is_empty.result ≡ false = elim c.if-not-is_empty.branch [
      | then-not-is_empty w ↦ w.if-not-is_empty.true
      | else-not-is_empty w ↦ absurd (false≢true (sym (ap not w.if-not-is_empty.false) ∙ sym w.value-is ∙ chain))
    ] in (
      λ yes. record {
        groups = groups;
        apart = c.are_apart.ensures.0 yes;
        some = targets;
        reserve = some_by_test c.args.reserved.now c.is_empty.result c.is_empty.ensures some;
      },
      λ valid. c.are_apart.ensures.1 valid.apart,
    )

pub returns-else-have_other_groups : goal.returns-else-have_other_groups
returns-else-have_other_groups c = (
  λ yes. absurd (false≢true (sym c.if-have_other_groups.false ∙ yes)),
  λ valid.
      let chain : c.if-not-is_empty.value ≡ true = elim c.if-not-is_empty.branch [
        | then-not-is_empty w ↦ w.value-is ∙ w.have_targets.ensures.1 valid.some
        | else-not-is_empty w ↦ absurd (false≢true (sym valid.reserve ∙ none_by_test c.args.reserved.now c.is_empty.result c.is_empty.ensures w.if-not-is_empty.false))
      ] in
      elim c.if-have_targets.branch [
        | then-have_targets w ↦ w.value-is ∙ w.have_other_groups.ensures.1 valid.groups
        | else-have_targets w ↦ absurd (false≢true (sym w.if-have_targets.false ∙ chain))
      ],
)
