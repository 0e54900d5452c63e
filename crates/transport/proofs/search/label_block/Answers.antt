use Rattle.transport.specs.Weights.{weights}
use Rattle.transport.proofs.Blocks.{block_arc, block_more, left_within, left_fewer, passed_more}
use Rattle.transport.proofs.search.label_block.Goals as goal

pub loop-cpu-smaller : goal.loop-cpu-smaller
loop-cpu-smaller c = left_fewer _ _ _ c.in-Some.ensures.left c.in-Some.ensures.first.member

pub loop-cpu-preserved : goal.loop-cpu-preserved
loop-cpu-preserved c =
    let ws = weights c.args.instance.now in
    let s = c.args.assignment.now in
    let has = c.loop-cpu.invariant.within _ c.in-Some.ensures.first.member in
    let labelled = c.loop-cpu.invariant.labelled in
    let arc =
    c.in_ok-reach.ensures.labelled ws (block_arc ws s _ _ c.args.scan.row _ c.args.block.now _ _ c.in-Some.cpu c.class_of.result c.requires.block has.0 c.requires.passed has.1 c.class_of.ensures c.requires.there labelled) in
    record {
      labelled = block_more ws s _ _ _ c.args.scan.row _ c.args.block.now _ _ c.in-Some.cpu c.class_of.result labelled c.in-Some.ensures.left c.class_of.ensures arc;
      within = λ cpu on. c.loop-cpu.invariant.within cpu (left_within _ _ _ cpu c.in-Some.ensures.left on);
      passed = passed_more ws s _ _ _ _ _ c.in-Some.cpu c.args.scan.row c.class_of.result c.args.block.now.weight c.loop-cpu.invariant.passed
          (rw (← c.requires.scan.row) (rw (← c.in_ok-reach.ensures.reach) c.pass_if_at_0.ensures)) c.class_of.ensures arc;
    }
