use Rattle.std.proofs.Common.{arith}
use Rattle.std.proofs.lemmas.Result.{err_from_is_err_and}
use Rattle.machine.proofs.ItemLaws.{item_view, item_within, item_last}
use Rattle.machine.proofs.NodeSteps.{AreUnited-more, AreUnited-fault, AreUnited-all}
use Rattle.machine.proofs.node_sets.unite.Goals as goal

pub loop-item-preserved : goal.loop-item-preserved
loop-item-preserved c =
    let is = item_view c.args.items.now c.loop-item.item-index c.item-item.result c.loop-item-test.true c.item-item.is in
    rw c.union-all.ensures
    (AreUnited-more _ _ _ _ c.loop-item.invariant (item_within _ _ c.loop-item-test.true)
    (rw (← is) c.in_ok-cpus.ensures.fault) (rw (← is) c.in_ok-cpus.ensures.cpus) c.in_ok-cpus.ensures.apart)

pub returns-in_err-cpus-clause-fault : goal.returns-in_err-cpus-clause-fault
returns-in_err-cpus-clause-fault c =
    let p = err_from_is_err_and c.from_residual.result c.from_residual.ensures.1 in
    let is = item_view c.args.items.now c.loop-item.item-index c.item-item.result c.loop-item-test.true c.item-item.is in
    rw (p.1, p.2)
    (AreUnited-fault _ _ _ _ c.loop-item.invariant (item_within _ _ c.loop-item-test.true) (rw (← is) c.in_err-cpus.ensures.fault))

pub returns-clause-fault : goal.returns-clause-fault
returns-clause-fault c = (AreUnited-all _ _ _ c.loop-item.invariant (item_last _ _ c.loop-item-test.false (omega arith))).none

pub returns-clause-union : goal.returns-clause-union
returns-clause-union c = (AreUnited-all _ _ _ c.loop-item.invariant (item_last _ _ c.loop-item-test.false (omega arith))).union

pub returns-clause-apart : goal.returns-clause-apart
returns-clause-apart c = (AreUnited-all _ _ _ c.loop-item.invariant (item_last _ _ c.loop-item-test.false (omega arith))).apart

pub returns-clause-lists : goal.returns-clause-lists
returns-clause-lists c = (AreUnited-all _ _ _ c.loop-item.invariant (item_last _ _ c.loop-item-test.false (omega arith))).lists
