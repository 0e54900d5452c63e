use Rattle.std.proofs.Common.{map, take, refl, sym, ap, ◌∙◌, Some, None}
use Rattle.serde_json.specs.View.{view}
use Rattle.machine.specs.Listed.{cpus_named}
use Rattle.machine.proofs.CoreSteps.{AreCoresRead-none, AreCoresRead-more, AreCoresRead-fault, AreCoresRead-all, left_fault-first, left_within, fault_none, fault_some, not_some, listed_at, listed_within, listed_last}
use Rattle.machine.proofs.ItemLaws.{item_view, item_within, item_last}
use Rattle.machine.proofs.cores.read_each.Goals as goal

pub loop-i-init : goal.loop-i-init
loop-i-init c = AreCoresRead-none _ _ _ _ _ c.requires.nodes.present c.each_cpu-lowest.ensures.room c.each_cpu-lowest.ensures.own

pub cpus_of-core-requires : goal.cpus_of-core-requires
cpus_of-core-requires c =
    let is = item_view c.args.items.now c.loop-i.i c.index-items-i.result c.loop-i-test.true c.index-items-i.is in
    rw is (c.requires.items c.loop-i.i (item_within _ _ c.loop-i-test.true))

pub returns-in_default-clause-fault : goal.returns-in_default-clause-fault
returns-in_default-clause-fault c =
    let is = item_view c.args.items.now c.loop-i.i c.index-items-i.result c.loop-i-test.true c.index-items-i.is in
    let lt = item_within c.args.items.now c.loop-i.i c.loop-i-test.true in
    let nodes = map cpus_named (map view c.args.nodes.now) in
    let cores = map cpus_named (map view c.args.items.now) in
    let fits = c.core_of.ensures.fits nodes c.places_of-places.ensures (left_within nodes (take c.loop-i.i cores) c.loop-i.left c.loop-i.invariant.left_is) in
    rw (AreCoresRead-fault nodes c.args.reserved.now cores c.loop-i.i c.loop-i.left c.loop-i.lowest c.cpus_of-core.result _ c.loop-i.invariant (listed_within _ _ lt)
    (c.cpus_of-core.ensures ∙ ap cpus_named is ∙ listed_at c.args.items.now c.loop-i.i lt)
    (fault_some nodes _ _ _ _ _ _ c.size_of-threads.ensures (sym fits ∙ not_some _ c.in_default.not-Some))) refl

pub mark-requires : goal.mark-requires
mark-requires c = record { room = c.loop-i.invariant.room }

pub loop-i-preserved : goal.loop-i-preserved
loop-i-preserved c =
    let is = item_view c.args.items.now c.loop-i.i c.index-items-i.result c.loop-i-test.true c.index-items-i.is in
    let lt = item_within c.args.items.now c.loop-i.i c.loop-i-test.true in
    let nodes = map cpus_named (map view c.args.nodes.now) in
    let cores = map cpus_named (map view c.args.items.now) in
    let fits = rw c.in-Some.is at (c.core_of.ensures.fits nodes c.places_of-places.ensures (left_within nodes (take c.loop-i.i cores) c.loop-i.left c.loop-i.invariant.left_is)) in
    AreCoresRead-more nodes c.args.reserved.now cores c.loop-i.i c.loop-i.left c.loop-i.lowest c.cpus_of-core.result c.in-Some.least _ _ c.loop-i.invariant (listed_within _ _ lt)
    (c.cpus_of-core.ensures ∙ ap cpus_named is ∙ listed_at c.args.items.now c.loop-i.i lt)
    (fault_none nodes _ _ _ _ _ _ c.size_of-threads.ensures (sym fits)) (rw c.in-Some.is at c.core_of.ensures.least) c.minus-left.ensures c.mark.ensures.room c.mark.ensures.each

pub returns-in-Some-first-clause-fault : goal.returns-in-Some-first-clause-fault
returns-in-Some-first-clause-fault c =
    let nodes = map cpus_named (map view c.args.nodes.now) in
    let cores = map cpus_named (map view c.args.items.now) in
    let all = AreCoresRead-all nodes c.args.reserved.now cores c.loop-i.i c.loop-i.left c.loop-i.lowest c.loop-i.invariant (listed_last _ _ (item_last _ _ c.loop-i-test.false c.loop-i.auto.i-end)) in
    rw (all.none, left_fault-first nodes cores c.loop-i.left (Some c.in-Some-first.cpu) all.left_is (c.in-Some-first.ensures.first, c.in-Some-first.ensures.in_range)) refl

pub returns-in-None-clause-fault : goal.returns-in-None-clause-fault
returns-in-None-clause-fault c =
    let nodes = map cpus_named (map view c.args.nodes.now) in
    let cores = map cpus_named (map view c.args.items.now) in
    let all = AreCoresRead-all nodes c.args.reserved.now cores c.loop-i.i c.loop-i.left c.loop-i.lowest c.loop-i.invariant (listed_last _ _ (item_last _ _ c.loop-i-test.false c.loop-i.auto.i-end)) in
    rw (all.none, left_fault-first nodes cores c.loop-i.left None all.left_is (c.in-None.ensures.first, tt)) refl

pub returns-in-None-clause-lowest : goal.returns-in-None-clause-lowest
returns-in-None-clause-lowest c =
    (AreCoresRead-all _ _ _ c.loop-i.i _ _ c.loop-i.invariant (listed_last _ _ (item_last _ _ c.loop-i-test.false c.loop-i.auto.i-end))).lowest_is
