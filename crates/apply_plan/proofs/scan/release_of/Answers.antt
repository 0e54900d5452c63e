use Rattle.std.proofs.Common.{◌≡◌, sym, subst}
use Rattle.apply_plan.specs.Kept.{kept}
use Rattle.apply_plan.specs.DueLemmas.{keeps_all_of_it}
use Rattle.apply_plan.proofs.scan.release_of.Goals as goal

pub returns-then-holds_target : goal.returns-then-holds_target
returns-then-holds_target g c =
    let reserved = c.args.reserved.now in
    let e = c.args.entry.now in
    sym (keeps_all_of_it (g.K.Kernel.state c.args.kernel.now) reserved e
    (subst (λ h. kept reserved e.target h ≡ h) c.requested-held.ensures (c.holds_target.ensures c.if-holds_target.true reserved)))
