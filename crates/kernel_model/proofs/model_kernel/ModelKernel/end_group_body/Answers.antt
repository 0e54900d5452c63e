use Rattle.std.proofs.Common.{[], Bool, not, sym, ap}
use Rattle.std.specs.Prelude.{Some, None, Ok, if◌then◌else◌}
use Rattle.proctable.specs.TableState.{TableState}
use Rattle.kernel_model.specs.declared.fault.KernelFault.TheVariants.{NoGroup}
use Rattle.kernel_model.specs.Trace.{EndedGroup}
use Rattle.kernel_model.specs.KernelState.{KernelState, recorded}
use Rattle.kernel_model.specs.KernelLemmas.{formed_whatever_is_told, each_case_keeps}
use Rattle.kernel_model.proofs.model_kernel.ModelKernel.end_group_body.Goals as goal

pub invariant_of-self : goal.invariant_of-self
invariant_of-self c =
    let i = c.self.inside in
    let old : KernelState = record { tree = i.tree; table = i.table; present = i.present; reserved = i.reserved; failures = 0; trace = [] } in
    formed_whatever_is_told (record (recorded (EndedGroup c.args.group (Ok tt)) old) { table = c.end_in.new.self }) 0 [] ((each_case_keeps old (record (recorded (EndedGroup c.args.group (Ok tt)) old) { table = c.end_in.new.self }) c.self.invariant).end c.args.group (Ok tt) (
      ap (λ (b : Bool). if not b then Some NoGroup else None) (sym c.if-not-contains.ensures),
      ap (λ (t : TableState). record (recorded (EndedGroup c.args.group (Ok tt)) old) { table = t }) c.end_in.ensures,
    )).well_formed
