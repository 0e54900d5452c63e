use Rattle.std.proofs.Common.{◌<◌, arith, length}
use Rattle.certificate_text.proofs.HeldSets.{set_more, value_more}
use Rattle.certificate_text.proofs.held.lists_of.Goals as goal

pub loop-at-preserved : goal.loop-at-preserved
loop-at-preserved c =
    let lt : c.loop-at.at < length c.args.held.now = omega (arith, c.loop-at-test.true, c.len-at-end.ensures) in
    record {
      sets = rw (c.in_ok-push.ensures.items, c.loop-at.invariant.sets) (set_more c.args.held.now c.loop-at.at c.cpus.result lt c.cpus.ensures);
      values = rw (c.in_ok-push-2.ensures.items, c.loop-at.invariant.values) (value_more c.args.held.now c.loop-at.at c.tag.result lt c.tag.ensures);
    }
