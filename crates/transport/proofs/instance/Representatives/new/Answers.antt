use Rattle.std.proofs.Common.{◌≡◌, length, map, refl, ◌∙◌, arith}
use Rattle.transport.specs.Representatives.{first_of}
use Rattle.transport.proofs.Indexing.{index_none, index_more}
use Rattle.transport.proofs.instance.Representatives.new.Goals as goal
use Rattle.transport.proofs.instance.Representatives.new.Goals.{After-deref-cpu-items}

firsts_are : (c : After-deref-cpu-items) → c.deref-cpu-items.result.now ≡ map first_of c.args.classes.now
firsts_are c = c.deref-cpu-items.ensures.value ∙ c.in_ok-cpus.ensures

pub loop-class-init : goal.loop-class-init
loop-class-init c =
    let e = firsts_are (goal.at.loop-class-init c).After-deref-cpu-items in
    index_none _ _ _ (omega (arith, c.in_ok-class_of.ensures.len, c.in_ok-class_of.class_of.ok.0)) (λ g. rw e (c.requires.in_range g)) c.empty-set.ensures

pub loop-class-preserved : goal.loop-class-preserved
loop-class-preserved c =
    let e = firsts_are (goal.at.loop-class-preserved c).After-deref-cpu-items in
    rw c.insert.ensures (index_more _ _ _ _ _ c.loop-class.invariant (rw e c.requires.once) c.loop-class-test.true refl)

pub invariant_of-result : goal.invariant_of-result
invariant_of-result c =
    let e : c.loop-class.class ≡ length c.deref-cpu-items.result.now = omega (arith, c.loop-class-test.false, c.loop-class.auto.class-end) in
    rw (← c.deref-cpu-items.ensures.value, ← e) c.loop-class.invariant
