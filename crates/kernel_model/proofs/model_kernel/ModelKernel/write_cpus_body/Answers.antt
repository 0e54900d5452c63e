use Rattle.std.proofs.Common.{[], ap}
use Rattle.std.specs.Prelude.{Ok, option_map}
use Rattle.cpuset_tree.specs.TreeState.{TreeState}
use Rattle.kernel_model.specs.Faults.{of_tree}
use Rattle.kernel_model.specs.Trace.{WroteCpus}
use Rattle.kernel_model.specs.KernelState.{KernelState, recorded}
use Rattle.kernel_model.specs.KernelLemmas.{formed_whatever_is_told, each_case_keeps}
use Rattle.kernel_model.proofs.model_kernel.ModelKernel.write_cpus_body.Goals as goal

pub invariant_of-self-2 : goal.invariant_of-self-2
invariant_of-self-2 c =
    let i = c.self.inside in
    let old : KernelState = record { tree = i.tree; table = i.table; present = i.present; reserved = i.reserved; failures = 0; trace = [] } in
    formed_whatever_is_told (record (recorded (WroteCpus c.args.group c.args.cpus (Ok tt)) old) { tree = c.write_cpus.new.self }) 0 [] ((each_case_keeps old (record (recorded (WroteCpus c.args.group c.args.cpus (Ok tt)) old) { tree = c.write_cpus.new.self }) c.self.invariant).cpus c.args.group c.args.cpus (Ok tt)
    (ap (option_map of_tree) c.in_ok-write_cpus.ensures.0, ap (λ (t : TreeState). record (recorded (WroteCpus c.args.group c.args.cpus (Ok tt)) old) { tree = t }) c.in_ok-write_cpus.ensures.1)).well_formed
