use Rattle.std.proofs.Common.{◌≡◌, ◌+◌, ◌<◌, length, get_or, refl, sym, arith}
use Rattle.std.proofs.lemmas.List.{get_or_default}
use Rattle.machine.specs.declared.TheConstants.{NODE_LIMIT}
use Rattle.rows.specs.Chains.{AreChains}
use Rattle.rows.proofs.ChainLemmas.{AreChains-none, AreChains-more, AreChains-other}
use Rattle.rows.proofs.chains.chains_of.Goals.{then-weight-lt-UNREACHABLE, else-weight-lt-UNREACHABLE}
use Rattle.rows.proofs.chains.chains_of.Goals as goal

pub loop-node-init : goal.loop-node-init
loop-node-init c = AreChains-none c.args.weights _ _ refl refl

pub loop-node-preserved : goal.loop-node-preserved
loop-node-preserved c =
    let room : length c.args.weights ≡ NODE_LIMIT = c.requires in
    let lt : c.loop-node.node < NODE_LIMIT = c.loop-node-test.true in
    let same : get_or c.args.weights c.loop-node.node 255 ≡ get_or c.args.weights c.loop-node.node 0 =
    get_or_default c.args.weights c.loop-node.node 255 0 (omega arith) in
    elim c.if-weight-lt-UNREACHABLE.branch as (λ _. AreChains c.args.weights c.if-weight-lt-UNREACHABLE.last c.if-weight-lt-UNREACHABLE.next (c.loop-node.node + 1)) [
      | then-weight-lt-UNREACHABLE w ↦
          AreChains-more c.args.weights c.loop-node.last c.loop-node.next _ _ c.loop-node.node (get_or c.args.weights c.loop-node.node 0) _ c.loop-node.invariant lt
          (sym same) w.if-weight-lt-UNREACHABLE.true refl w.next-is w.last-is
      | else-weight-lt-UNREACHABLE w ↦
          rw (w.last-is, w.next-is)
          (AreChains-other c.args.weights c.loop-node.last c.loop-node.next c.loop-node.node c.loop-node.invariant (omega (arith, w.if-weight-lt-UNREACHABLE.false)))
    ]
