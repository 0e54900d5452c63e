use Rattle.std.proofs.Common.{◌≡◌, ◌≤◌, refl, ap, ◌∙◌, arith}
use Rattle.std.proofs.lemmas.List.{take_all}
use Rattle.certificate.specs.RowView.{RowView}
use Rattle.certificate.specs.IsShortage.{chosen, asked}
use Rattle.certificate.specs.declared.limits.TheConstants.{MAX_DEMAND}
use Rattle.certificate.proofs.MemberRows.{IsRowAt, asked_more, row_small}
use Rattle.certificate.proofs.shortages.asked_by.Goals as goal
use Rattle.certificate.proofs.shortages.asked_by.Goals.{After-from-asked}

at : (c : After-from-asked) → IsRowAt c.args.rows.now c.args.members.now c.loop-k.k-index c.index-rows-k.result
at c = (c.loop-k-test.true, c.requires.rows c.loop-k.k-index 0 c.loop-k-test.true, c.index-rows-k.is)

demand : (c : After-from-asked) → c.from-asked.result ≡ c.index-rows-k.result.demand
demand c = c.from-asked.ensures ∙ ap (λ (r : RowView). r.demand) c.row.view_is

small : (c : After-from-asked) → c.from-asked.result ≤ MAX_DEMAND
small c = rw (demand c) (row_small c.args.rows.now c.args.members.now c.loop-k.k-index c.index-rows-k.result (at c) c.requires.fit)

pub overflow_add-asked : goal.overflow_add-asked
overflow_add-asked c = omega (arith, small c)

pub loop-k-preserved : goal.loop-k-preserved
loop-k-preserved c = record {
  sum = rw (c.loop-k.invariant.sum, demand c, asked_more c.args.rows.now c.args.members.now c.loop-k.k-index c.index-rows-k.result (at c)) refl;
  small = omega (arith, small c);
}

pub returns : goal.returns
returns c = c.loop-k.invariant.sum ∙ ap (λ ks. asked (chosen c.args.rows.now ks)) (take_all c.loop-k.k-index c.args.members.now (omega arith))
