use Rattle.direct_finish.proofs.Stops.{stop_rises}
use Rattle.direct_finish.proofs.queue.Queue.free.Goals as goal

pub loop-next-smaller : goal.loop-next-smaller
loop-next-smaller c = stop_rises c.args.cpus.now c.in-Some.cpu c.loop-next.next c.next_after-next.result c.in-Some.is c.loop-next.invariant c.next_after-next.ensures.first
