use Rattle.std.proofs.Common.{sym, ap, ◌∙◌}
use Rattle.std.proofs.lemmas.Bool.{both_ways}
use Rattle.std.specs.FinSet as set
use Rattle.apply_plan.specs.KeptLemmas.{kept_all}
use Rattle.cpu_set.specs.SetLaws.{is_empty-some}
use Rattle.apply_plan.proofs.scan.keeps_all.Goals as goal

pub returns-then-not-is_empty : goal.returns-then-not-is_empty
returns-then-not-is_empty c = λ yes.
    kept_all c.args.reserved.now c.args.target.now c.args.held.now
    (ap (λ s. set.is_subset s c.args.reserved.now) (sym c.minus.ensures) ∙ sym c.is_subset.ensures ∙ yes)
    (is_empty-some _ (λ e. both_ways c.is_empty.result c.if-not-is_empty.true (c.is_empty.ensures.1 e)))
