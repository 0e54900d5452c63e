use Rattle.std.proofs.Common.{ap, ◌∙◌}
use Rattle.std.specs.Prelude.{[], ◌∷◌}
use Rattle.apply_plan.specs.declared.taking.Taking.TheVariants.{LettingGo, Growing}
use Rattle.apply_plan.specs.DirectWrite.{first_due, gets, is_mover, is_grower}
use Rattle.apply_plan.specs.Turns.{takes_by}
use Rattle.apply_plan.specs.TurnLemmas.{gets_same, mover_alike, growing_alike, only_one}
use Rattle.apply_plan.proofs.direct.later_target.Goals as goal

pub returns-in-Some : goal.returns-in-Some
returns-in-Some g c =
    let k = g.K.Kernel.state c.args.kernel.now in
    let reserved = c.args.reserved.now in
    let entries = c.args.entries.now in
    ap (λ o. first_due (o ∷ gets (is_grower k reserved entries) (λ e. e.target) entries ∷ []))
    (c.in-Some.ensures ∙ gets_same (takes_by k reserved entries c.args.rings LettingGo) (is_mover k reserved entries) (λ e. e.target) entries (mover_alike k reserved entries c.args.rings c.requires.guards))

pub returns-in-None : goal.returns-in-None
returns-in-None g c =
    let k = g.K.Kernel.state c.args.kernel.now in
    let reserved = c.args.reserved.now in
    let entries = c.args.entries.now in
    c.first_taking-in-None.ensures
    ∙ gets_same (takes_by k reserved entries c.args.rings Growing) (is_grower k reserved entries) (λ e. e.target) entries (growing_alike k reserved entries c.args.rings c.requires.guards)
    ∙ only_one (gets (is_grower k reserved entries) (λ e. e.target) entries)
    ∙ ap (λ o. first_due (o ∷ gets (is_grower k reserved entries) (λ e. e.target) entries ∷ []))
    (c.in-None.ensures ∙ gets_same (takes_by k reserved entries c.args.rings LettingGo) (is_mover k reserved entries) (λ e. e.target) entries (mover_alike k reserved entries c.args.rings c.requires.guards))
