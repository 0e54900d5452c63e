use Rattle.cpu_set.specs.PointwiseLaws.{contains-empty}
use Rattle.std.proofs.Common.{arith, length, ◌<◌}
use Rattle.tagged_sets.proofs.Kept.{in_any_more}
use Rattle.tagged_sets.proofs.tagged_sets.union_of.Goals.{then-add_one, else-add_one}
use Rattle.tagged_sets.proofs.tagged_sets.union_of.Goals as goal

pub loop-at-init : goal.loop-at-init
loop-at-init g c = record { all = λ q. rw c.empty-all.ensures (contains-empty q); kept = omega arith }

pub loop-at-preserved : goal.loop-at-preserved
loop-at-preserved g c =
    let lt : c.loop-at.at < length c.args.sets.now = omega (arith, c.len-at-end.ensures, c.loop-at-test.true) in
    record {
      all = in_any_more c.args.sets.now c.loop-at.at c.loop-at.all c.add_one.new.all lt c.add_one.ensures c.loop-at.invariant.all;
      kept = elim c.if-add_one.branch [
        | then-add_one w ↦ omega (arith, w.kept-is, c.loop-at.invariant.kept)
        | else-add_one w ↦ omega (arith, w.kept-is, c.loop-at.invariant.kept)
      ];
    }
