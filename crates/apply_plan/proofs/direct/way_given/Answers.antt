use Rattle.std.proofs.Common.{ap, ◌∙◌}
use Rattle.std.specs.Prelude.{[], ◌∷◌}
use Rattle.apply_plan.specs.Directed.{allowed_in}
use Rattle.apply_plan.specs.DirectWrite.{first_due, gets, steps_aside, aside, must_yield, squeezed}
use Rattle.apply_plan.proofs.direct.way_given.Goals as goal

pub returns-in-Some : goal.returns-in-Some
returns-in-Some g c =
    let k = g.K.Kernel.state c.args.kernel.now in
    let reserved = c.args.reserved.now in
    let entries = c.args.entries.now in
    let allowed = allowed_in entries c.args.allowed.now in
    ap (λ o. first_due (o ∷ gets (steps_aside k reserved entries allowed (g.C.Cores.least_of c.args.cores.now)) (aside k reserved entries allowed (g.C.Cores.least_of c.args.cores.now)) entries
    ∷ gets (must_yield k reserved entries) (squeezed k reserved entries) entries ∷ [])) c.in-Some.ensures

pub returns-in-None : goal.returns-in-None
returns-in-None g c =
    let k = g.K.Kernel.state c.args.kernel.now in
    let reserved = c.args.reserved.now in
    let entries = c.args.entries.now in
    let allowed = allowed_in entries c.args.allowed.now in
    c.way_of_pinned.ensures
    ∙ ap (λ o. first_due (o ∷ gets (steps_aside k reserved entries allowed (g.C.Cores.least_of c.args.cores.now)) (aside k reserved entries allowed (g.C.Cores.least_of c.args.cores.now)) entries
    ∷ gets (must_yield k reserved entries) (squeezed k reserved entries) entries ∷ [])) c.in-None.ensures
