use Rattle.std.proofs.Common.{◌<◌, List, sym, ap, ◌∙◌, ◌||◌, is_some, take, take_all, arith}
use Rattle.std.specs.FinSet as set
use Rattle.std.proofs.lemmas.List.Folds.{list_any_more}
use Rattle.cpu_set.specs.PointwiseLaws.{contains-empty, contains-union}
use Rattle.certificate.specs.RowView.{RowView}
use Rattle.certificate.specs.Weight.{weight, weight_in}
use Rattle.certificate.specs.declared.rows.Offer.{Offer}
use Rattle.certificate.specs.IsShortage.{is_offered}
use Rattle.twins.specs.Kinds.{kind_at}
use Rattle.twins.proofs.SameOffers.{kind_offers_none}
use Rattle.twins.proofs.RowCpus.{row_cpus_none, row_cpus_more, row_cpus_same}
use Rattle.twins.proofs.SettledCpus.{counted_start, counted_more, counted_repeated, counted_once}
use Rattle.twins.specs.KindLaws.{own_offers}
use Rattle.twins.proofs.grouping.offered_cpus.Goals as goal
use Rattle.twins.proofs.grouping.offered_cpus.Goals.{then-kinds-k+in_ok-push, else-kinds-k}

pub loop-k-init : goal.loop-k-init
loop-k-init c = record {
  offered = rw c.empty-offered.ensures contains-empty;
  counted = counted_start _ _ _;
  sets = rw c.requires.sets (row_cpus_none _ _);
}

pub loop-k-preserved : goal.loop-k-preserved
loop-k-preserved c = elim c.if-kinds-k.branch [
  | then-kinds-k+in_ok-push w ↦ rw (w.offered-is, w.twice-is, w.sets-is) (record {
    offered = λ cpu.
        ap (λ s. set.contains s cpu) w.union-offered.ensures ∙ contains-union _ _ cpu
        ∙ ap (λ b. b || set.contains w.cpus-cpus.result cpu) (c.loop-k.invariant.offered cpu)
        ∙ ap (λ b. is_offered (take c.loop-k.k c.args.rows.now) cpu || b)
        (w.cpus-cpus.ensures cpu ∙ ap (λ (row : RowView). is_some (weight row cpu)) (w.row.view_is ∙ w.index-rows-k.is))
        ∙ sym (list_any_more (λ (row : RowView). is_some (weight row cpu)) c.args.rows.now c.loop-k.k w.index-rows-k.result c.loop-k-test.true);
    counted =
        counted_more _ _ w.index-rows-k.result _ _ w.cpus-cpus.result _ _ c.loop-k-test.true w.index-rows-k.is c.loop-k.invariant.counted
        (λ cpu. w.cpus-cpus.ensures cpu ∙ ap (λ (row : RowView). is_some (weight row cpu)) w.row.view_is)
        (w.union-twice.ensures ∙ ap (λ s. set.union c.loop-k.twice s) w.meet.ensures) w.union-offered.ensures;
    sets =
        rw w.in_ok-push.ensures.items
        (row_cpus_more _ _ _ _ _ c.loop-k.invariant.sets (omega (arith, w.if-kinds-k.true)) (λ cpu. w.cpus-cpus.ensures cpu
        ∙ ap (λ (o : List Offer). is_some (weight_in o cpu)) (ap (λ (row : RowView). row.offers) w.row.view_is ∙ own_offers _ _ _ c.loop-k-test.true w.index-rows-k.is)));
  })
  | else-kinds-k w ↦ rw (w.offered-is, w.twice-is, w.sets-is) (
      let kind = c.requires.kinds.each c.loop-k.k c.loop-k-test.true in
      let earlier : kind_at c.args.kinds.now c.loop-k.k < c.loop-k.k = omega (arith, kind.no_later, w.if-kinds-k.false) in
      record {
        offered = λ cpu. c.loop-k.invariant.offered cpu ∙ sym (kind_offers_none _ _ _ _ kind earlier c.loop-k-test.true cpu);
        counted = counted_repeated _ _ _ _ _ _ kind earlier c.loop-k.invariant.counted;
        sets = row_cpus_same _ _ _ _ c.loop-k.invariant.sets earlier;
      })
]

pub returns-clause-offered : goal.returns-clause-offered
returns-clause-offered c = λ cpu. c.loop-k.invariant.offered cpu ∙ ap (λ rows. is_offered rows cpu) (take_all _ _ c.loop-k-test.false)

pub returns-clause-once : goal.returns-clause-once
returns-clause-once c = counted_once _ _ _ _ _ (omega (arith, c.loop-k-test.false)) c.loop-k.invariant.counted c.minus.ensures
