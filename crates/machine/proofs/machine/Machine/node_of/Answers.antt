use Rattle.std.proofs.Common.{sym, ◌∙◌}
use Rattle.machine.specs.NodeLaws.{IsPresent-IsOfNode, node_found}
use Rattle.machine.proofs.machine.Machine.node_of.Goals as goal

pub returns-clause-is : goal.returns-clause-is
returns-clause-is c =
    let some = IsPresent-IsOfNode c.args.self.now c.args.cpu c.requires in
    c.node_of_body.ensures.place some.0 some.1 ∙ sym (node_found c.args.self.now c.args.cpu some.0 c.node_of_body.ensures.sound some.1)

pub returns-clause-node : goal.returns-clause-node
returns-clause-node c =
    let some = IsPresent-IsOfNode c.args.self.now c.args.cpu c.requires in
    rw (c.node_of_body.ensures.place some.0 some.1) some.1

pub returns-clause-only : goal.returns-clause-only
returns-clause-only c = λ i of_node. sym (c.node_of_body.ensures.place i of_node)
