use Rattle.std.proofs.Common.{◌≡◌, ℕ, is_some, ap, ◌∙◌, arith}
use Rattle.std.specs.FinSet as set
use Rattle.std.proofs.lemmas.List.{take_all}
use Rattle.cpu_set.specs.PointwiseLaws.{contains-empty}
use Rattle.certificate.specs.RowView.{RowView}
use Rattle.certificate.specs.Weight.{weight, weight_in}
use Rattle.certificate.specs.IsShortage.{chosen, is_offered}
use Rattle.certificate.proofs.MemberRows.{IsRowAt, offered_more}
use Rattle.certificate.proofs.shortages.offered_to.Goals as goal
use Rattle.certificate.proofs.shortages.offered_to.Goals.{After-union-offered}

pub loop-k-init : goal.loop-k-init
loop-k-init c = rw c.empty-offered.ensures contains-empty

at : (c : After-union-offered) → IsRowAt c.args.rows.now c.args.members.now c.loop-k.k-index c.index-rows-k.result
at c = (c.loop-k-test.true, c.requires c.loop-k.k-index 0 c.loop-k-test.true, c.index-rows-k.is)

its : (c : After-union-offered) (cpu : ℕ) → set.contains c.cpus.result cpu ≡ is_some (weight c.index-rows-k.result cpu)
its c cpu =
    c.cpus.ensures cpu
    ∙ ap (λ offers. is_some (weight_in offers cpu)) (ap (λ (r : RowView). r.offers) c.row.view_is)

pub loop-k-preserved : goal.loop-k-preserved
loop-k-preserved c = rw c.union-offered.ensures
    (offered_more c.args.rows.now c.args.members.now c.loop-k.k-index c.index-rows-k.result c.loop-k.offered c.cpus.result (at c) c.loop-k.invariant (its c))

pub returns : goal.returns
returns c = λ cpu.
    c.loop-k.invariant cpu
    ∙ ap (λ ks. is_offered (chosen c.args.rows.now ks) cpu) (take_all c.loop-k.k-index c.args.members.now (omega arith))
