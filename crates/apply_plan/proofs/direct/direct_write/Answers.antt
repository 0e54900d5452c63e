use Rattle.std.proofs.Common.{◌∙◌}
use Rattle.std.specs.Prelude.{[], ◌∷◌}
use Rattle.apply_plan.specs.DirectWords.{may_take}
use Rattle.apply_plan.specs.Directed.{allowed_in}
use Rattle.apply_plan.specs.DirectWrite.{gets, is_new, is_mover, is_grower, shares, shared_way, steps_aside, aside, must_yield, squeezed}
use Rattle.apply_plan.specs.TurnLemmas.{three_some, three_none}
use Rattle.apply_plan.proofs.direct.direct_write.Goals as goal

pub returns-in-Some-clause-due : goal.returns-in-Some-clause-due
returns-in-Some-clause-due g c =
    let k = g.K.Kernel.state c.args.kernel.now in
    let reserved = c.args.reserved.now in
    let entries = c.args.entries.now in
    let allowed = allowed_in entries c.args.allowed.now in
    three_some (gets (is_new k reserved entries) (λ e. e.target) entries) (gets (is_mover k reserved entries) (λ e. e.target) entries) (gets (is_grower k reserved entries) (λ e. e.target) entries)
    (gets (shares k reserved entries) (shared_way k reserved entries) entries
    ∷ gets (steps_aside k reserved entries allowed (g.C.Cores.least_of c.args.cores.now)) (aside k reserved entries allowed (g.C.Cores.least_of c.args.cores.now)) entries
    ∷ gets (must_yield k reserved entries) (squeezed k reserved entries) entries
    ∷ gets (may_take k reserved entries) (λ e. e.target) entries ∷ []) c.in-Some.write c.in-Some.ensures

pub returns-in-None-clause-due : goal.returns-in-None-clause-due
returns-in-None-clause-due g c =
    let k = g.K.Kernel.state c.args.kernel.now in
    let reserved = c.args.reserved.now in
    let entries = c.args.entries.now in
    let allowed = allowed_in entries c.args.allowed.now in
    c.given_or_grown.ensures.due
    ∙ three_none (gets (is_new k reserved entries) (λ e. e.target) entries) (gets (is_mover k reserved entries) (λ e. e.target) entries) (gets (is_grower k reserved entries) (λ e. e.target) entries)
    (gets (shares k reserved entries) (shared_way k reserved entries) entries
    ∷ gets (steps_aside k reserved entries allowed (g.C.Cores.least_of c.args.cores.now)) (aside k reserved entries allowed (g.C.Cores.least_of c.args.cores.now)) entries
    ∷ gets (must_yield k reserved entries) (squeezed k reserved entries) entries
    ∷ gets (may_take k reserved entries) (λ e. e.target) entries ∷ []) c.in-None.ensures
