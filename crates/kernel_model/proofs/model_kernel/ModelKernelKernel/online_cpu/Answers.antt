use Rattle.std.proofs.Common.{[], ap, ◌∙◌}
use Rattle.std.specs.Prelude.{Ok}
use Rattle.std.specs.FinSet as set
use Rattle.cpu_set.specs.Ids.{Ids}
use Rattle.cpuset_tree.specs.TreeState.{TreeState}
use Rattle.cpuset_tree.specs.TreeChanges.{with_online}
use Rattle.kernel_model.specs.KernelState.{KernelState}
use Rattle.kernel_model.specs.KernelLemmas.{each_case_keeps}
use Rattle.kernel_model.specs.RefusalLemmas.{calls_are_free}
use Rattle.kernel_model.proofs.model_kernel.ModelKernelKernel.online_cpu.Goals as goal

pub invariant_of-self : goal.invariant_of-self
invariant_of-self c =
    let i = c.self.inside in
    let old : KernelState = record { tree = i.tree; table = i.table; present = i.present; reserved = i.reserved; failures = 0; trace = [] } in
    let cpu = c.in-Some.cpu in
    ((each_case_keeps old (record old { tree = c.set_online.new.self }) c.self.invariant).online cpu (Ok tt) (
      ((calls_are_free old).online cpu).1 c.in-Some.ensures.1,
      ap (λ (t : TreeState). record old { tree = t })
          (c.set_online.ensures ∙ ap (with_online i.tree) (c.insert.ensures ∙ ap (λ (s : Ids). set.insert s cpu) c.online-more.ensures)),
    )).well_formed
