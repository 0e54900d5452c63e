use Rattle.std.proofs.Common.{[], ◌≡◌, Bool, ap, ◌∙◌, arith}
use Rattle.std.specs.Prelude.{Option, Some, None, Ok, option_map, nat_lt, if◌then◌else◌}
use Rattle.cpuset_tree.specs.declared.TreeFault.{TreeFault}
use Rattle.cpuset_tree.specs.TreeState.{TreeState}
use Rattle.proctable.specs.Processes.{count_in}
use Rattle.kernel_model.specs.declared.fault.KernelFault.TheVariants.{HasProcesses}
use Rattle.kernel_model.specs.Faults.{of_tree}
use Rattle.std.specs.Option.{option_or}
use Rattle.kernel_model.specs.RefusalLemmas.{nobody}
use Rattle.kernel_model.specs.Trace.{RemovedGroup}
use Rattle.kernel_model.specs.KernelState.{KernelState, recorded}
use Rattle.kernel_model.specs.KernelLemmas.{formed_whatever_is_told, each_case_keeps}
use Rattle.kernel_model.proofs.model_kernel.ModelKernel.remove_group_body.Goals as goal

pub invariant_of-self-2 : goal.invariant_of-self-2
invariant_of-self-2 c =
    let i = c.self.inside in
    let old : KernelState = record { tree = i.tree; table = i.table; present = i.present; reserved = i.reserved; failures = 0; trace = [] } in
    let none : count_in i.table c.args.group ≡ 0 = omega (arith, c.count_in.ensures, c.if-count_in-gt0.false) in
    formed_whatever_is_told (record (recorded (RemovedGroup c.args.group (Ok tt)) old) { tree = c.remove.new.self }) 0 [] ((each_case_keeps old (record (recorded (RemovedGroup c.args.group (Ok tt)) old) { tree = c.remove.new.self }) c.self.invariant).remove c.args.group (Ok tt) (
      ap (λ (o : Option TreeFault). option_or (option_map of_tree o) (if nat_lt 0 (count_in i.table c.args.group) then Some HasProcesses else None)) c.in_ok-remove.ensures.0
          ∙ ap (λ (b : Bool). if b then Some HasProcesses else None) (nobody (count_in i.table c.args.group) none),
      ap (λ (t : TreeState). record (recorded (RemovedGroup c.args.group (Ok tt)) old) { tree = t }) c.in_ok-remove.ensures.1,
    )).well_formed
