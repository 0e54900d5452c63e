use Rattle.apply_plan.specs.FirstHolderLemmas.{firsts_none}
use Rattle.apply_plan.proofs.rings.note_holders.Goals as goal

pub loop-place-init : goal.loop-place-init
loop-place-init g c = record {
  room = c.requires.room;
  firsts = firsts_none (g.K.Kernel.state c.args.kernel.now) c.args.reserved.now c.args.entries.now c.args.any _ _ c.empty-seen.ensures;
}
