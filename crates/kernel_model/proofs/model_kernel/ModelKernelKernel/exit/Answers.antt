use Rattle.std.proofs.Common.{[], ap}
use Rattle.std.specs.Prelude.{Ok, option_map}
use Rattle.proctable.specs.TableState.{TableState}
use Rattle.kernel_model.specs.Faults.{of_proc}
use Rattle.kernel_model.specs.KernelState.{KernelState}
use Rattle.kernel_model.specs.KernelLemmas.{each_case_keeps}
use Rattle.kernel_model.proofs.model_kernel.ModelKernelKernel.exit.Goals as goal

pub invariant_of-self-2 : goal.invariant_of-self-2
invariant_of-self-2 c =
    let i = c.self.inside in
    let old : KernelState = record { tree = i.tree; table = i.table; present = i.present; reserved = i.reserved; failures = 0; trace = [] } in
    ((each_case_keeps old (record old { table = c.exit.new.self }) c.self.invariant).exit c.args.pid (Ok tt)
    (ap (option_map of_proc) c.in_ok-exit.ensures.0, ap (λ (t : TableState). record old { table = t }) c.in_ok-exit.ensures.1)).well_formed
