use Rattle.std.proofs.Common.{ap, ◌∙◌, arith}
use Rattle.std.specs.FinSet as set
use Rattle.machine.specs.NodeLaws.{contains-nodes_of, nodes_of-range}
use Rattle.machine.proofs.machine.Machine.nodes.Goals as goal

pub returns-clause-nodes : goal.returns-clause-nodes
returns-clause-nodes c =
    nodes_of-range c.args.self.now _ _ _ c.count-last.ensures.sound.some (omega (arith, c.count-last.ensures.count)) c.empty-nodes.ensures c.insert_range.ensures

pub returns-clause-each : goal.returns-clause-each
returns-clause-each c = λ n.
    ap (λ s. set.contains s n)
    (nodes_of-range c.args.self.now _ _ _ c.count-last.ensures.sound.some (omega (arith, c.count-last.ensures.count)) c.empty-nodes.ensures c.insert_range.ensures)
    ∙ contains-nodes_of c.args.self.now n
