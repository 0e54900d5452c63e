use Rattle.std.proofs.Common.{ap, ◌∙◌}
use Rattle.std.specs.Prelude.{[], ◌∷◌}
use Rattle.apply_plan.specs.DirectWrite.{first_due, gets, must_yield, squeezed}
use Rattle.apply_plan.specs.TurnLemmas.{only_one}
use Rattle.apply_plan.proofs.direct.way_of_pinned.Goals as goal

pub returns-in-Some : goal.returns-in-Some
returns-in-Some g c =
    let k = g.K.Kernel.state c.args.kernel.now in
    let reserved = c.args.reserved.now in
    let entries = c.args.entries.now in
    ap (λ o. first_due (o ∷ gets (must_yield k reserved entries) (squeezed k reserved entries) entries ∷ [])) c.in-Some.ensures

pub returns-in-None : goal.returns-in-None
returns-in-None g c =
    let k = g.K.Kernel.state c.args.kernel.now in
    let reserved = c.args.reserved.now in
    let entries = c.args.entries.now in
    c.first_giving-in-None.ensures ∙ only_one (gets (must_yield k reserved entries) (squeezed k reserved entries) entries)
    ∙ ap (λ o. first_due (o ∷ gets (must_yield k reserved entries) (squeezed k reserved entries) entries ∷ [])) c.in-None.ensures
