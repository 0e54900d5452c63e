use Rattle.std.proofs.Common.{◌≡◌, ◌+◌, ◌<◌, ◌≤◌, sym, ◌∙◌, subst, refl, arith}
use Rattle.machine.specs.Layout.{node_count}
use Rattle.machine.specs.Weight.{AreWeights}
use Rattle.machine.specs.declared.TheConstants.{NODE_LIMIT}
use Rattle.rows.specs.Chains.{AreChains}
use Rattle.rows.specs.Offers.{of_weight}
use Rattle.rows.proofs.ChainLemmas.{no_node}
use Rattle.rows.proofs.OfferLemmas.{Offering, are_of_weight, offering_start, offering_more, offering_none, offering_end}
use Rattle.rows.proofs.offers.offers_by_distance.Goals.{then-has+in_ok-push_some, else-has}
use Rattle.rows.proofs.offers.offers_by_distance.Goals as goal

pub farthest-farthest-requires : goal.farthest-farthest-requires
farthest-farthest-requires c = rw c.chains_of-chains.ensures.weights c.weights.ensures.weights.room

pub loop-weight-init : goal.loop-weight-init
loop-weight-init c = offering_start _ _ _ _ _ c.new-offers.ensures refl

pub loop-weight-preserved : goal.loop-weight-preserved
loop-weight-preserved c =
    let m = c.args.machine.now in
    let homes = c.args.homes.now in
    let cpus = c.args.cpus.now in
    let n = c.loop-weight.weight in
    let chains = c.chains_of-chains.result in
    let are : AreWeights m homes chains.weights = rw c.chains_of-chains.ensures.weights c.weights.ensures.weights in
    let few : node_count m ≤ NODE_LIMIT = c.weights.ensures.sound.few in
    let chained : AreChains chains.weights chains.last chains.next NODE_LIMIT =
    rw c.chains_of-chains.ensures.weights c.chains_of-chains.ensures.chains in
    let near : n < 255 = omega (arith, c.loop-weight-test.true, c.farthest-farthest.ensures.below) in
    elim c.if-has.branch as (λ _. Offering m homes cpus (n + 1) c.if-has.offers c.if-has.left) [
      | then-has+in_ok-push_some w ↦
          let is : w.meet-here.result ≡ of_weight m homes cpus n =
          are_of_weight m homes cpus w.cpus_at.result _ chains.weights n c.requires.reach are w.cpus_at.ensures w.meet-here.ensures in
          rw (w.offers-is, w.left-is)
          (offering_more m homes cpus c.loop-weight.left w.meet-here.result _ n _ c.loop-weight.offers _ c.loop-weight.invariant w.from.ensures is w.minus-left.ensures w.in_ok-push_some.ensures)
      | else-has w ↦
          rw (w.offers-is, w.left-is)
          (offering_none m homes cpus c.loop-weight.left chains.weights n c.loop-weight.offers c.requires.reach are
          (λ k. no_node chains.weights chains.last chains.next n k chained (λ i le. are.beyond i (omega (arith, few, le))) near
          (sym c.has.ensures ∙ w.if-has.false))
          c.loop-weight.invariant)
    ]

pub returns : goal.returns
returns c =
    let m = c.args.machine.now in
    let homes = c.args.homes.now in
    let cpus = c.args.cpus.now in
    let chains = c.chains_of-chains.result in
    let farthest = c.farthest-farthest.result in
    let are : AreWeights m homes chains.weights = rw c.chains_of-chains.ensures.weights c.weights.ensures.weights in
    let last : c.loop-weight.weight ≡ farthest = omega (arith, c.loop-weight-test.false, c.loop-weight.auto.weight-end) in
    offering_end m homes cpus c.loop-weight.left chains.weights farthest _ c.loop-weight.offers _ c.requires.reach are
    c.farthest-farthest.ensures.below c.farthest-farthest.ensures.most
    (subst (λ n. Offering m homes cpus n c.loop-weight.offers c.loop-weight.left) last c.loop-weight.invariant)
    c.from-2.ensures c.in_ok-push_some-2.ensures
