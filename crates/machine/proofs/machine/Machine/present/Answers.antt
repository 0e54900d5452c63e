use Rattle.std.proofs.Common.{ap, sym, ◌∙◌}
use Rattle.std.specs.FinSet as set
use Rattle.machine.specs.NodeLaws.{IsPresent-IsOfNode, IsOfNode-IsPresent}
use Rattle.machine.proofs.machine.Machine.present.Goals as goal

pub returns-clause-each : goal.returns-clause-each
returns-clause-each c = λ cpu.
    let same = ap (λ s. set.contains s cpu) c.union.ensures.is in (
      λ has. IsPresent-IsOfNode c.args.self.now cpu (sym same ∙ has),
      λ of_node. same ∙ IsOfNode-IsPresent c.args.self.now cpu of_node.0 of_node.1,
    )
