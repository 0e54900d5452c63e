use Rattle.std.proofs.Common.{refl}
use Rattle.transport.proofs.Clearing.{unmarking_none, unmarking_more, unmarking_end}
use Rattle.transport.proofs.tree.unmark.Goals as goal

pub loop-index-init : goal.loop-index-init
loop-index-init c = unmarking_none c.args.marks.now c.args.places.now c.requires.all

pub loop-index-preserved : goal.loop-index-preserved
loop-index-preserved c = unmarking_more _ _ _ _ _ c.loop-index.invariant refl (c.requires.within _ c.loop-index-test.true)

pub returns-clause-none : goal.returns-clause-none
returns-clause-none c = unmarking_end _ _ _ _ c.loop-index.invariant c.loop-index-test.false
