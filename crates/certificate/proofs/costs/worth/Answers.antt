use Rattle.std.proofs.Common.{◌≡◌, ◌*◌, ◌≤◌, ℕ, ◌∙◌, ap, sym, get_or, arith}
use Rattle.std.proofs.lemmas.List.{get_or_default}
use Rattle.certificate.specs.RowView.{RowView}
use Rattle.certificate.specs.declared.limits.TheConstants.{MAX_DEMAND, MAX_AMOUNT}
use Rattle.certificate.proofs.CostSums.{worth_small, sum_zip_more}
use Rattle.certificate.proofs.costs.worth.Goals as goal
use Rattle.certificate.proofs.costs.worth.Goals.{After-from}

demand_is : (c : After-from) → c.from.result ≡ c.index-rows-k.result.demand
demand_is c = c.from.ensures ∙ ap (λ (r : RowView). r.demand) c.row.view_is

small : (c : After-from) → c.from.result * get_or c.args.values.now c.loop-k.k 0 ≤ MAX_DEMAND * MAX_AMOUNT
small c =
    rw (demand_is c)
    (worth_small c.args.rows.now c.args.values.now c.loop-k.k c.index-rows-k.result c.requires.fit c.requires.values c.requires.same c.loop-k-test.true c.index-rows-k.is)

pub overflow_mul-worth : goal.overflow_mul-worth
overflow_mul-worth c = let fits = small (goal.at.overflow_mul-worth c).After-from in omega arith

pub overflow_add-worth : goal.overflow_add-worth
overflow_add-worth c = let fits = small (goal.at.overflow_add-worth c).After-from in omega arith

pub loop-k-preserved : goal.loop-k-preserved
loop-k-preserved c =
    let before = (goal.at.loop-k-preserved c).After-from in
    let fits = small before in
    record {
      so_far =
          rw (c.loop-k.invariant.so_far, demand_is before)
          (sym (sum_zip_more (λ (e : RowView × ℕ). e.0.demand * e.1) c.args.rows.now c.args.values.now c.loop-k.k c.index-rows-k.result (get_or c.args.values.now c.loop-k.k 0)
          c.loop-k-test.true (omega arith) c.index-rows-k.is (get_or_default c.args.values.now c.loop-k.k 0 _ (omega arith))));
      small = omega arith;
    }
