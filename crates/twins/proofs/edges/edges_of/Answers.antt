use Rattle.std.proofs.Common.{◌≡◌, ◌+◌, ◌<◌, List, take_all, ap, subst, arith}
use Rattle.certificate.specs.RowView.{RowView}
use Rattle.certificate.specs.Weight.{weight_in}
use Rattle.certificate.specs.declared.rows.Offer.{Offer}
use Rattle.twins.specs.Edges.{AreEdges}
use Rattle.twins.specs.Kinds.{kind_at}
use Rattle.twins.proofs.Ends.{off_before, all_edges}
use Rattle.twins.proofs.SameOffers.{kind_tells_none}
use Rattle.twins.proofs.Splitting.{twins_more}
use Rattle.twins.proofs.edges.edges_of.Goals as goal
use Rattle.twins.proofs.edges.edges_of.Goals.{then-kinds-k+else-count-half, else-kinds-k}

pub loop-k-init : goal.loop-k-init
loop-k-init c = λ cpu fits off j d lt. absurd (omega arith)

pub returns-then-count-half : goal.returns-then-count-half
returns-then-count-half c = λ cpu fits off j d lt. absurd (all_edges _ _ c.empty.ensures c.complement.ensures (cpu + 1) fits off)

pub loop-k-preserved : goal.loop-k-preserved
loop-k-preserved c = elim c.if-kinds-k.branch [
  | then-kinds-k+else-count-half w ↦ rw w.edges-is (λ cpu fits off.
      let before = c.loop-k.invariant cpu fits (off_before _ _ (w.add_edges.ensures.kept (cpu + 1)) off) in
      twins_more c.args.rows.now c.loop-k.k cpu (cpu + 1) w.index-rows-k.result c.loop-k-test.true w.index-rows-k.is before
      (subst (λ (o : List Offer). weight_in o cpu ≡ weight_in o (cpu + 1)) (ap (λ (row : RowView). row.offers) w.row.view_is) (w.add_edges.ensures.told cpu fits off)))
  | else-kinds-k w ↦ rw w.edges-is (λ cpu fits off.
      let kind = c.requires.each c.loop-k.k c.loop-k-test.true in
      let earlier : kind_at c.args.kinds.now c.loop-k.k < c.loop-k.k = omega (arith, kind.no_later, w.if-kinds-k.false) in
      kind_tells_none _ _ _ _ kind earlier c.loop-k-test.true cpu (cpu + 1) (c.loop-k.invariant cpu fits off))
]

pub returns : goal.returns
returns c = subst (λ rows. AreEdges rows c.loop-k.edges) (take_all _ _ c.loop-k-test.false) c.loop-k.invariant
