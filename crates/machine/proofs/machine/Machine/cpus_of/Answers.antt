use Rattle.std.proofs.Common.{ap, ◌∙◌}
use Rattle.std.specs.FinSet as set
use Rattle.machine.specs.NodeLaws.{of_one_weight}
use Rattle.machine.proofs.Reaching.{contains-cpus_of}
use Rattle.machine.proofs.machine.Machine.cpus_of.Goals as goal

pub returns-clause-alike : goal.returns-clause-alike
returns-clause-alike c = of_one_weight c.args.self.now c.args.node _ c.cpus_at.ensures.sound c.requires c.cpus_at.ensures.is

pub returns-clause-members : goal.returns-clause-members
returns-clause-members c = λ n.
    ap (λ s. set.contains s n) c.cpus_at.ensures.is ∙ contains-cpus_of c.args.self.now c.args.node n c.cpus_at.ensures.sound c.requires
