use Rattle.std.proofs.lemmas.Map.Iter.{rest_all}
use Rattle.std.specs.Map.Iter.{deref_pair}
use Rattle.node.proofs.AskingLemmas.{IsProblem, all_made}
use Rattle.node.proofs.problem.rows_in.Goals as goal

pub returns : goal.returns
returns g c =
    let k = g.K.Kernel.state c.args.kernel.now in
    let r : IsProblem k c.args.machine.now _ c.loop-id.rows.items =
    all_made k c.args.machine.now c.args.containers.now.entries c.loop-id.id-iterator c.loop-id.rows.items c.requires.asked c.requires.few c.requires.distinct c.loop-id.invariant.so_far
    (rest_all deref_pair c.loop-id.id-iterator _ c.next.result c.in-None.is c.next.ensures.steps) in
    record { rows = r.rows_are; fit = r.fit; can = r.can; apart = r.apart }
