use Rattle.demand.proofs.HomeNodes.{all_homes}
use Rattle.demand.proofs.lists.homes.Goals as goal

pub returns-then-is_empty-clause-homes : goal.returns-then-is_empty-clause-homes
returns-then-is_empty-clause-homes c =
    all_homes c.args.machine.now c.nodes-nodes.result c.nodes-nodes.ensures.sound c.nodes-nodes.ensures.each
