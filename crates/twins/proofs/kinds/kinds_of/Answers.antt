use Rattle.std.proofs.Common.{◌+◌, sym, subst, ◌∙◌, arith}
use Rattle.std.proofs.lemmas.List.{length-set}
use Rattle.twins.specs.Kinds.{AreKinds, IsNextKind}
use Rattle.twins.proofs.SameOffers.{kinds_none, kinds_more}
use Rattle.twins.proofs.kinds.kinds_of.Goals as goal

pub loop-k-init : goal.loop-k-init
loop-k-init c = record {
  kinds = subst (AreKinds c.args.rows.now 0) (sym c.in_ok-kinds.ensures.items) (kinds_none c.args.rows.now);
  latest = omega (arith, c.in_ok-latest.ensures.len, c.in_ok-latest.latest.ok.0);
}

pub loop-k-preserved : goal.loop-k-preserved
loop-k-preserved c = record {
  kinds = subst (AreKinds c.args.rows.now (c.loop-k.k + 1)) (sym c.in_ok-push.ensures.items)
      (kinds_more _ _ _ _ c.loop-k.invariant.kinds (subst (λ kinds. IsNextKind c.args.rows.now kinds c.loop-k.k c.kind_of-kind.result) c.deref.ensures.value c.kind_of-kind.ensures));
  latest = length-set _ _ _ ∙ c.loop-k.invariant.latest;
}
