use Rattle.std.proofs.Common.{◌∙◌, arith}
use Rattle.machine.proofs.ItemLaws.{item_view, item_within, item_last}
use Rattle.machine.proofs.NodeSteps.{are_read_more, are_read_all}
use Rattle.machine.proofs.node_sets.sets_of.Goals as goal

pub cpus_of-requires : goal.cpus_of-requires
cpus_of-requires c =
    let is = item_view c.args.items.now c.loop-item.item-index c.item-item.result c.loop-item-test.true c.item-item.is in
    rw is (c.requires c.loop-item.item-index (item_within _ _ c.loop-item-test.true))

pub loop-item-preserved : goal.loop-item-preserved
loop-item-preserved c =
    let is = item_view c.args.items.now c.loop-item.item-index c.item-item.result c.loop-item-test.true c.item-item.is in
    c.in_ok-push.ensures.items
    ∙ are_read_more _ c.loop-item.item-index _ _ c.loop-item.invariant (item_within _ _ c.loop-item-test.true) (rw (← is) c.cpus_of.ensures)

pub returns : goal.returns
returns c = are_read_all _ _ _ c.loop-item.invariant (item_last _ _ c.loop-item-test.false (omega arith))
