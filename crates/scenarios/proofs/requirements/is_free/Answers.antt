use Rattle.std.proofs.Common.{◌≡◌, cond, sym, ap, ◌∙◌}
use Rattle.std.specs.FinSet as set
use Rattle.scenarios.proofs.ConditionLemmas.{meets_within}
use Rattle.scenarios.proofs.requirements.is_free.Goals as goal
use Rattle.scenarios.proofs.requirements.is_free.Goals.{then-entry, else-entry}

pub returns : goal.returns
returns c =
    let target = c.args.entry.now.target in
    let reserved = c.args.reserved.now in
    let is : c.if-entry.taken.now ≡ cond c.args.entry.now.pinned c.args.any.now c.args.pinned.now = elim c.if-entry.branch [
      | then-entry w ↦ ap (λ t. t.now) w.taken-is ∙ sym (ap (λ p. cond p c.args.any.now c.args.pinned.now) w.if-entry.true)
      | else-entry w ↦ ap (λ t. t.now) w.taken-is ∙ sym (ap (λ p. cond p c.args.any.now c.args.pinned.now) w.if-entry.false)
    ] in
    let e : c.is_subset.result ≡ set.is_subset (set.intersection target c.if-entry.taken.now) reserved =
    c.is_subset.ensures ∙ ap (λ s. set.is_subset s reserved) c.meet.ensures in
    let means = meets_within target c.if-entry.taken.now reserved in (
      λ yes cpu a b. means.0 (sym e ∙ yes) cpu a (ap (λ s. set.contains s cpu) is ∙ b),
      λ free. e ∙ means.1 (λ cpu a b. free cpu a (ap (λ s. set.contains s cpu) (sym is) ∙ b)),
    )
