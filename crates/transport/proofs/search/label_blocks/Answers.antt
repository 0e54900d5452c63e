use Rattle.std.proofs.Common.{◌<◌, length, arith}
use Rattle.transport.proofs.Labelling.{limit_same, past_of}
use Rattle.transport.proofs.Blocks.{blocks_start, blocks_labelled, blocks_past, blocks_all, block_can, not_past}
use Rattle.transport.proofs.search.label_blocks.Goals as goal

pub loop-at-init : goal.loop-at-init
loop-at-init c = record { labelled = blocks_start _ _ _ _ _ _ c.requires.running; passed = c.requires.passed; limit = c.requires.limit }

pub label_block-requires-clause-block : goal.label_block-requires-clause-block
label_block-requires-clause-block c =
    block_can _ _ _ _ c.args.sorted_arcs.now c.loop-at.at c.index-block.result.now c.args.limit c.requires.sorted_arcs c.requires.scanned
    (omega (arith, c.loop-at-test.true, c.len-at-end.ensures, c.args.sorted_arcs.now.blocks.ok.0)) c.index-block.ensures
    (not_past c.args.limit c.args.scan.bound _ c.requires.bound (omega (arith, c.if-block-scan.false)))

pub loop-at-preserved : goal.loop-at-preserved
loop-at-preserved c =
    let n = c.in_ok-label_block.ensures.labelled in
    record {
      labelled = blocks_labelled _ _ _ _ _ _ _ _ c.loop-at.at c.index-block.result.now c.index-block.ensures c.loop-at.invariant.labelled n;
      passed = c.in_ok-label_block.ensures.passed;
      limit = limit_same _ _ _ _ _ n.free_end c.loop-at.invariant.limit;
    }

pub returns-then-block-scan : goal.returns-then-block-scan
returns-then-block-scan c =
    let at_in : c.loop-at.at < length c.args.sorted_arcs.now.blocks.items = omega (arith, c.loop-at-test.true, c.len-at-end.ensures, c.args.sorted_arcs.now.blocks.ok.0) in
    record {
      passed = c.loop-at.invariant.passed;
      labelled = blocks_past _ _ _ _ _ _ _ _ _ c.loop-at.at _ c.index-block.result.now c.args.limit c.requires.sorted_arcs.blocks at_in c.index-block.ensures (omega arith)
          c.loop-at.invariant.labelled c.loop-at.invariant.limit
          (past_of c.args.limit c.args.scan.bound _ c.requires.bound (omega arith) (omega (arith, c.if-block-scan.true)));
    }

pub returns : goal.returns
returns c =
    record {
      passed = c.loop-at.invariant.passed;
      labelled = blocks_all _ _ _ _ _ _ _ _ _ c.loop-at.at _ c.requires.sorted_arcs.blocks (omega (arith, c.loop-at-test.false, c.len-at-end.ensures, c.args.sorted_arcs.now.blocks.ok.0)) (omega arith)
          c.loop-at.invariant.labelled;
    }
