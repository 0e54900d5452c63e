use Rattle.std.proofs.Common.{ap, sym, ◌∙◌}
use Rattle.std.proofs.lemmas.Bool.{eqb-true}
use Rattle.machine.specs.CoreCountLaws.{all_are_whole}
use Rattle.machine.specs.Cores.{cpus_of_cores}
use Rattle.machine.specs.WholeLaws.{cpus_of_cores-cores_in, whole_in-IsWhole}
use Rattle.machine.proofs.machine.Machine.whole_in.Goals as goal

pub returns-clause-is : goal.returns-clause-is
returns-clause-is c =
    c.cpus_of_cores.ensures.is ∙ ap (cpus_of_cores c.args.self.now) c.cores_in.ensures.is
    ∙ cpus_of_cores-cores_in c.args.self.now c.args.cpus c.cores_in.ensures.sound.cores c.stays_below_the_limit.ensures

pub returns-clause-whole : goal.returns-clause-whole
returns-clause-whole c = rw (returns-clause-is c) (whole_in-IsWhole c.args.self.now c.args.cpus)

pub returns-then-is_single-clause-is : goal.returns-then-is_single-clause-is
returns-then-is_single-clause-is c =
    sym (all_are_whole c.args.self.now c.args.cpus c.is_single.ensures.sound.cores (eqb-true _ _ (sym c.is_single.ensures.is ∙ c.if-is_single.true)))

pub returns-then-is_single-clause-whole : goal.returns-then-is_single-clause-whole
returns-then-is_single-clause-whole c = rw (returns-then-is_single-clause-is c) (whole_in-IsWhole c.args.self.now c.args.cpus)
