use Rattle.std.proofs.Common.{sym, ◌∙◌, ap, refl}
use Rattle.std.proofs.lemmas.Bool.{iff_false}
use Rattle.std.specs.FinSet as set
use Rattle.apply_plan.specs.KeptLemmas.{kept_nothing, kept_some}
use Rattle.cpu_set.specs.SetLaws.{is_empty-empty, is_empty-some}
use Rattle.apply_plan.proofs.scan.kept_of.Goals as goal

pub returns-then-is_empty : goal.returns-then-is_empty
returns-then-is_empty c =
    let within = c.meet-within.ensures ∙ ap (set.intersection c.args.cpus.now) c.union.ensures in
    sym (kept_nothing c.args.reserved.now c.args.target.now c.args.cpus.now (is_empty-empty _ (sym within ∙ c.if-is_empty.ensures.0 refl)))

pub returns-else-is_empty : goal.returns-else-is_empty
returns-else-is_empty c =
    let within = c.meet-within.ensures ∙ ap (set.intersection c.args.cpus.now) c.union.ensures in
    within ∙ sym (kept_some c.args.reserved.now c.args.target.now c.args.cpus.now (is_empty-some _ (λ e. iff_false c.if-is_empty.ensures refl (within ∙ e))))
