use Rattle.std.proofs.Common.{map, refl, ap, ◌∙◌, arith}
use Rattle.serde_json.specs.View.{view}
use Rattle.machine.specs.Listed.{cpus_named}
use Rattle.machine.proofs.CoreSteps.{listed_at, listed_within, listed_last}
use Rattle.machine.proofs.ItemLaws.{item_view, item_within, item_last}
use Rattle.machine.proofs.Marking.{ArePlaced-more, ArePlaced-all}
use Rattle.machine.proofs.index.places_of.Goals as goal

pub cpus_of-cpus-requires : goal.cpus_of-cpus-requires
cpus_of-cpus-requires c =
    let is = item_view c.args.items.now c.loop-i.i c.index-items-i.result c.loop-i-test.true c.index-items-i.is in
    rw is (c.requires.lists c.loop-i.i (item_within _ _ c.loop-i-test.true))

pub loop-i-preserved : goal.loop-i-preserved
loop-i-preserved c =
    let is = item_view c.args.items.now c.loop-i.i c.index-items-i.result c.loop-i-test.true c.index-items-i.is in
    let lt = item_within c.args.items.now c.loop-i.i c.loop-i-test.true in
    ArePlaced-more (map cpus_named (map view c.args.items.now)) c.loop-i.i _ c.cpus_of-cpus.result c.loop-i.places _ c.requires.apart c.loop-i.invariant
    (listed_within _ _ lt) (c.cpus_of-cpus.ensures ∙ ap cpus_named is ∙ listed_at c.args.items.now c.loop-i.i lt) refl
    c.mark.ensures.room c.mark.ensures.each

pub returns : goal.returns
returns c = ArePlaced-all _ _ _ c.loop-i.invariant (listed_last _ _ (item_last _ _ (omega arith) (omega arith)))
