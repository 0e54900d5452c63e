use Rattle.std.proofs.Common.{sym, arith}
use Rattle.cpu_set.specs.Ids.{Ids}
use Rattle.certificate.specs.RowView.{RowView}
use Rattle.certificate.specs.Cost.{row_cost}
use Rattle.certificate.proofs.CostSums.{sum_zip_more}
use Rattle.certificate.proofs.costs.plan_cost.Goals as goal

pub loop-k-preserved : goal.loop-k-preserved
loop-k-preserved c = record {
  so_far =
      rw (c.loop-k.invariant.so_far, c.row_cost-total.ensures.cost)
      (sym (sum_zip_more (λ (e : RowView × Ids). row_cost e.0 e.1) c.args.rows.now c.args.sets.now c.loop-k.k c.index-rows-k.result c.index-sets-k.result
      c.loop-k-test.true (omega arith) c.index-rows-k.is c.index-sets-k.is));
  small = omega (arith, c.row_cost-total.ensures.small);
}
