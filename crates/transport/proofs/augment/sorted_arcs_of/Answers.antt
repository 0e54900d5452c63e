use Rattle.std.proofs.Common.{◌+◌, sym, subst}
use Rattle.transport.specs.Weights.{AreNewSortedArcs}
use Rattle.transport.proofs.OrdersLemmas.{all_sorted_more}
use Rattle.transport.proofs.augment.sorted_arcs_of.Goals as goal

pub loop-k-preserved : goal.loop-k-preserved
loop-k-preserved c =
    subst (λ arcs_by_kind. AreNewSortedArcs c.args.instance.now.rows.now c.args.instance.now.kinds.now arcs_by_kind (c.loop-k.k + 1)) (sym c.in_ok-push.ensures.items)
    (all_sorted_more _ _ _ _ _ c.loop-k.invariant c.in_ok-sorted_arcs.ensures)
