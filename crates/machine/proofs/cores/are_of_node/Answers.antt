use Rattle.std.proofs.Common.{◌≡◌, ◌<◌, ℕ, Option, subst, refl, ap, arith}
use Rattle.std.proofs.lemmas.Bool.{false≢true}
use Rattle.cpu_set.specs.Members.{IsCpu}
use Rattle.machine.proofs.Marking.{AreOfNode, AreOfNode-none, AreOfNode-more, AreOfNode-all, place, place_rises}
use Rattle.machine.proofs.cores.are_of_node.Goals as goal

pub loop-next-init : goal.loop-next-init
loop-next-init c = AreOfNode-none _ _ _ _ (c.first-next.ensures.first, c.first-next.ensures.in_range)

pub bounds-places-cpu : goal.bounds-places-cpu
bounds-places-cpu c =
    let OfNode : Option ℕ → Type 0 = λ next. AreOfNode c.args.cpus.now c.args.places.now c.args.node next in
    let here : IsCpu c.in-Some.cpu = (subst OfNode c.in-Some.is c.loop-next.invariant).in_range in
    omega (arith, here, c.requires.room)

pub returns-then-places-cpu : goal.returns-then-places-cpu
returns-then-places-cpu c =
    let OfNode : Option ℕ → Type 0 = λ next. AreOfNode c.args.cpus.now c.args.places.now c.args.node next in
    let member = (subst OfNode c.in-Some.is c.loop-next.invariant).member in
    (λ is. absurd (false≢true is), λ all. let same = all c.in-Some.cpu member in absurd (omega (arith, same, c.if-places-cpu.true)))

pub loop-next-preserved : goal.loop-next-preserved
loop-next-preserved c =
    let OfNode : Option ℕ → Type 0 = λ next. AreOfNode c.args.cpus.now c.args.places.now c.args.node next in
    AreOfNode-more c.args.cpus.now c.args.places.now c.args.node c.in-Some.cpu _
    (subst OfNode c.in-Some.is c.loop-next.invariant) (omega (arith, c.if-places-cpu.false)) (c.next_after-next.ensures.first, c.next_after-next.ensures.in_range)

pub loop-next-smaller : goal.loop-next-smaller
loop-next-smaller c =
    let OfNode : Option ℕ → Type 0 = λ next. AreOfNode c.args.cpus.now c.args.places.now c.args.node next in
    let here : IsCpu c.in-Some.cpu = (subst OfNode c.in-Some.is c.loop-next.invariant).in_range in
    let rises : c.in-Some.cpu < place c.next_after-next.result =
    place_rises c.args.cpus.now c.in-Some.cpu c.next_after-next.result here (c.next_after-next.ensures.first, c.next_after-next.ensures.in_range) in
    let at : place c.loop-next.next ≡ c.in-Some.cpu = ap place c.in-Some.is in
    omega arith

pub returns : goal.returns
returns c = (λ _. AreOfNode-all _ _ _ c.loop-next.next c.loop-next.invariant c.in_default.not-Some, λ _. refl)
