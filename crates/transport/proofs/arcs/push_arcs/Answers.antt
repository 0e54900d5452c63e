use Rattle.std.proofs.Common.{◌≡◌, ℕ, true, List, Option, IfSome, subst}
use Rattle.std.specs.FinSet as set
use Rattle.certificate.specs.declared.rows.Offer.{Offer}
use Rattle.transport.specs.declared.arcs.WeightedOffer.{WeightedOffer}
use Rattle.transport.specs.SortedArcs.{IsOpening}
use Rattle.transport.proofs.SortedArcsLemmas.{arcs_start, arcs_more, next_member}
use Rattle.transport.proofs.arcs.push_arcs.Goals as goal

pub loop-next-init : goal.loop-next-init
loop-next-init c = record {
  opening = λ ws offers weighted opened can. arcs_start ws offers _ weighted opened _ _ _ _ _ can c.among-there.ensures.all c.first-next.ensures.first;
  member = next_member _ 0 _ c.first-next.ensures.first;
  in_range = c.first-next.ensures.in_range;
}

pub loop-next-preserved : goal.loop-next-preserved
loop-next-preserved c =
    let here : set.contains c.among-there.result c.in-Some.cpu ≡ true = subst (λ next. IfSome next (λ n. set.contains c.among-there.result n ≡ true)) c.in-Some.is c.loop-next.invariant.member in
    record {
      opening = λ (ws : ℕ → Option ℕ) (offers : List Offer) (weighted : List WeightedOffer) (opened : ℕ) can.
          arcs_more ws offers _ weighted opened _ _ _ _ _ _ _ _ _ can c.among-there.ensures.all (c.among-there.ensures.some _ here) (c.among-there.ensures.first _ here)
          c.class_of-class.ensures c.next_after-next.ensures.first c.in_ok-push.ensures.items
          (subst (λ next. IsOpening ws offers c.args.firsts.now weighted opened c.args.arcs.now.items c.loop-next.arcs.items next) c.in-Some.is (c.loop-next.invariant.opening ws offers weighted opened can));
      member = next_member _ _ _ c.next_after-next.ensures.first;
      in_range = c.next_after-next.ensures.in_range;
    }
