use Rattle.std.proofs.Common.{◌≡◌, sym, ap, ◌∙◌, arith}
use Rattle.machine.specs.Layout.{node_count}
use Rattle.machine.proofs.WeightLaws.{least_below, least_below-IsLeastDistance, weight-least_below}
use Rattle.machine.proofs.machine.Machine.weight.Goals as goal

pub returns-clause-is : goal.returns-clause-is
returns-clause-is c =
    let all : c.loop-home.home ≡ node_count c.args.self.now = omega arith in
    c.loop-home.invariant ∙ ap (least_below c.args.self.now c.args.homes.now c.node_of-node.result) all
    ∙ ap (λ i. least_below c.args.self.now c.args.homes.now i (node_count c.args.self.now)) c.node_of-node.ensures.is
    ∙ sym (weight-least_below _ _ c.args.cpu c.count-home-end.ensures.sound c.requires.homes)

pub returns-clause-least : goal.returns-clause-least
returns-clause-least c =
    let all : c.loop-home.home ≡ node_count c.args.self.now = omega arith in (
      c.node_of-node.result,
      c.node_of-node.ensures.node,
      rw (c.loop-home.invariant, all)
          (least_below-IsLeastDistance _ _ _ c.count-home-end.ensures.sound c.requires.homes c.node_of-node.ensures.node.is_node),
    )
