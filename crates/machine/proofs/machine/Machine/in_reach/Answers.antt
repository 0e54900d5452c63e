use Rattle.std.proofs.Common.{◌≡◌, ◌+◌, ◌<◌, ◌≤◌, length, get_or, ◌∙◌, arith}
use Rattle.std.proofs.lemmas.List.{get_or_default}
use Rattle.machine.specs.declared.TheConstants.{NODE_LIMIT}
use Rattle.machine.specs.Layout.{node_count}
use Rattle.machine.proofs.Reaching.{AreReached, AreReached-cut, AreReached-kept}
use Rattle.machine.proofs.machine.Machine.in_reach.Goals.{then-weights-i-ge-UNREACHABLE, else-weights-i-ge-UNREACHABLE}
use Rattle.machine.proofs.machine.Machine.in_reach.Goals as goal

pub loop-i-preserved : goal.loop-i-preserved
loop-i-preserved c =
    let m = c.args.self.now in
    let homes = c.args.homes.now in
    let weights = c.weights-weights.result in
    let lt : c.loop-i.i < node_count m = omega arith in
    let few : node_count m ≤ NODE_LIMIT = c.count-i-end.ensures.sound.few in
    let room : length weights ≡ NODE_LIMIT = c.weights-weights.ensures.weights.room in
    let same : get_or weights c.loop-i.i 255 ≡ get_or weights c.loop-i.i 0 = get_or_default weights c.loop-i.i 255 0 (omega arith) in
    elim c.if-weights-i-ge-UNREACHABLE.branch as (λ _. AreReached m homes c.if-weights-i-ge-UNREACHABLE.reach (c.loop-i.i + 1)) [
      | then-weights-i-ge-UNREACHABLE w ↦
          AreReached-cut m homes c.loop-i.reach _ w.cpus_at.result weights c.loop-i.i c.count-i-end.ensures.sound c.weights-weights.ensures.weights c.loop-i.invariant
          lt w.cpus_at.ensures.is (omega (arith, w.if-weights-i-ge-UNREACHABLE.true)) (w.reach-is ∙ w.minus-reach.ensures)
      | else-weights-i-ge-UNREACHABLE w ↦
          rw w.reach-is (AreReached-kept m homes c.loop-i.reach weights c.loop-i.i c.weights-weights.ensures.weights c.loop-i.invariant (omega (arith, w.if-weights-i-ge-UNREACHABLE.false)))
    ]
