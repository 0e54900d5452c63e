use Rattle.std.proofs.Common.{ℕ, Option, subst, ap, ◌∙◌}
use Rattle.std.specs.FinSet as set
use Rattle.machine.proofs.Lacking.{AreLeft, AreLeft-none, AreLeft-more, AreLeft-all}
use Rattle.machine.proofs.machine.Machine.cores_by_lacking.Goals as goal

pub loop-next-init : goal.loop-next-init
loop-next-init c =
    AreLeft-none c.args.self.now c.args.cpus.now c.args.lacking.now _ _ _ (rw (← c.self.view_is) c.self.invariant.firsts) c.stays_below_the_limit.ensures c.meet-cores.ensures
    (c.first-next.ensures.first, c.first-next.ensures.in_range)

pub loop-next-preserved : goal.loop-next-preserved
loop-next-preserved c =
    let Left : Option ℕ → Type 0 = λ next. AreLeft c.args.self.now c.args.cpus.now c.args.lacking.now c.loop-next.cores next in
    AreLeft-more c.args.self.now c.args.cpus.now c.args.lacking.now c.loop-next.cores _ c.in-Some.cpu c.next_after-next.result c.requires
    (subst Left c.in-Some.is c.loop-next.invariant)
    (c.remove.ensures ∙ ap (set.remove c.loop-next.cores) c.core_at-core.ensures.is)
    (c.next_after-next.ensures.first, c.next_after-next.ensures.in_range)

pub returns : goal.returns
returns c = AreLeft-all c.args.self.now c.args.cpus.now c.args.lacking.now _ c.loop-next.next c.requires c.loop-next.invariant c.in_default.not-Some
