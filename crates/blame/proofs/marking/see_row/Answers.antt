use Rattle.blame.proofs.MarkingLemmas.{left_fewer, unseen_first, unseen_next, still_open}
use Rattle.blame.proofs.marking.see_row.Goals as goal

pub loop-cpu-init : goal.loop-cpu-init
loop-cpu-init c = record {
  marking = λ rows members owned m at. m;
  more = λ k on. on;
  queued = λ queued. queued;
  unseen = unseen_first c.args.cpus.now c.args.seen.now c.minus-left.result c.minus-left.ensures;
}

pub see_cpu-requires-clause-unseen : goal.see_cpu-requires-clause-unseen
see_cpu-requires-clause-unseen c = (c.loop-cpu.invariant.unseen c.in-Some.cpu c.in-Some.ensures.first.member).1

pub loop-cpu-smaller : goal.loop-cpu-smaller
loop-cpu-smaller c = left_fewer _ _ c.in-Some.cpu c.remove.ensures c.in-Some.ensures.first.member

pub loop-cpu-preserved : goal.loop-cpu-preserved
loop-cpu-preserved c =
    let was = c.loop-cpu.invariant in
    record {
      marking = λ rows members owned m at.
          c.in_ok-see_cpu.ensures.marking rows members owned (was.marking rows members owned m at)
          (still_open rows _ _ c.in-Some.cpu was.more (at c.in-Some.cpu (was.unseen c.in-Some.cpu c.in-Some.ensures.first.member).0));
      more = λ k on. c.in_ok-see_cpu.ensures.more k (was.more k on);
      queued = λ queued. c.in_ok-see_cpu.ensures.queued (was.queued queued);
      unseen = unseen_next _ _ _ _ _ c.in-Some.cpu was.unseen c.remove.ensures c.in_ok-see_cpu.ensures.seen;
    }
