use Rattle.std.proofs.Common.{◌≡◌, ◌<◌, ◌≤◌, inl, inr, get_or, arith, ap, ◌∙◌}
use Rattle.std.proofs.lemmas.Bool.{cases_lt}
use Rattle.std.proofs.lemmas.List.{get_or_default, get_or_past}
use Rattle.machine.specs.declared.TheConstants.{NODE_LIMIT}
use Rattle.rows.proofs.chains.Chains.farthest.Goals as goal

pub loop-node-init : goal.loop-node-init
loop-node-init c = record { below = omega arith; most = λ k lt near. absurd (omega arith) }

pub farther-farthest-requires : goal.farther-farthest-requires
farther-farthest-requires c = c.loop-node.invariant.below

pub loop-node-preserved : goal.loop-node-preserved
loop-node-preserved c = record {
  below = c.farther-farthest.ensures.below;
  most = λ k lt near. elim (cases_lt k c.loop-node.node) [
    | inl less ↦
        let had : get_or c.args.self.now.weights k 255 ≤ c.loop-node.farthest = c.loop-node.invariant.most k less near in
        omega (arith, had, c.farther-farthest.ensures.least)
    | inr not_less ↦
        let same : k ≡ c.loop-node.node = omega arith in
        let read : get_or c.args.self.now.weights c.loop-node.node 255 ≡ get_or c.args.self.now.weights c.loop-node.node 0 =
        get_or_default c.args.self.now.weights c.loop-node.node 255 0 (omega (arith, c.loop-node-test.true)) in
        let at : get_or c.args.self.now.weights k 255 ≡ get_or c.args.self.now.weights c.loop-node.node 0 = ap (λ i. get_or c.args.self.now.weights i 255) same ∙ read in
        let low : get_or c.args.self.now.weights c.loop-node.node 0 < 255 = omega (arith, at, near) in
        omega (arith, at, c.farther-farthest.ensures.most low)
  ];
}

pub returns : goal.returns
returns c = record {
  below = c.loop-node.invariant.below;
  most = λ k near. elim (cases_lt k NODE_LIMIT) [
    | inl lt ↦ c.loop-node.invariant.most k (omega (arith, lt, c.loop-node-test.false)) near
    | inr past ↦ absurd (omega (arith, near, get_or_past c.args.self.now.weights k 255 (omega (arith, past))))
  ];
}
