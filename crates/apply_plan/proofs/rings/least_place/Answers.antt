use Rattle.std.proofs.Common.{◌≡◌, ◌<◌, ℕ, Option, subst, ap, arith}
use Rattle.cpu_set.specs.Members.{IsCpu}
use Rattle.apply_plan.proofs.CpuWalks.{IsLeastSoFar, IsLeastSoFar-none, IsLeastSoFar-more, IsLeastSoFar-all, stop, stop_rises}
use Rattle.apply_plan.proofs.rings.least_place.Goals as goal

pub loop-next-init : goal.loop-next-init
loop-next-init c = IsLeastSoFar-none _ _ _ _ (c.first-next.ensures.first, c.first-next.ensures.in_range)

pub loop-next-preserved : goal.loop-next-preserved
loop-next-preserved c =
    let Least : Option ℕ → Type 0 = λ next. IsLeastSoFar c.args.cpus.now c.args.places.now c.args.end c.loop-next.least next in
    IsLeastSoFar-more c.args.cpus.now c.args.places.now c.args.end c.loop-next.least _ c.in-Some.cpu _
    (subst Least c.in-Some.is c.loop-next.invariant) c.min-least.ensures (c.next_after-next.ensures.first, c.next_after-next.ensures.in_range)

pub loop-next-smaller : goal.loop-next-smaller
loop-next-smaller c =
    let Least : Option ℕ → Type 0 = λ next. IsLeastSoFar c.args.cpus.now c.args.places.now c.args.end c.loop-next.least next in
    let so_far = subst Least c.in-Some.is c.loop-next.invariant in
    let here : IsCpu c.in-Some.cpu = so_far.in_range in
    let rises : c.in-Some.cpu < stop c.next_after-next.result =
    stop_rises c.args.cpus.now c.in-Some.cpu c.next_after-next.result here (c.next_after-next.ensures.first, c.next_after-next.ensures.in_range) in
    let at : stop c.loop-next.next ≡ c.in-Some.cpu = ap stop c.in-Some.is in
    omega arith

pub returns : goal.returns
returns c = IsLeastSoFar-all _ _ _ _ c.loop-next.next c.loop-next.invariant c.in_default.not-Some
