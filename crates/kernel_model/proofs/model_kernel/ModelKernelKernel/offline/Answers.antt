use Rattle.std.proofs.Common.{[], sym, ap, ◌∙◌}
use Rattle.std.specs.Prelude.{Ok}
use Rattle.std.specs.FinSet as set
use Rattle.cpu_set.specs.Ids.{Ids}
use Rattle.cpuset_tree.specs.TreeState.{TreeState}
use Rattle.cpuset_tree.specs.TreeChanges.{with_online}
use Rattle.kernel_model.specs.KernelState.{KernelState}
use Rattle.kernel_model.specs.KernelLemmas.{each_case_keeps}
use Rattle.kernel_model.specs.RefusalLemmas.{calls_are_free}
use Rattle.kernel_model.proofs.model_kernel.ModelKernelKernel.offline.Goals as goal

pub invariant_of-self : goal.invariant_of-self
invariant_of-self c =
    let i = c.self.inside in
    let old : KernelState = record { tree = i.tree; table = i.table; present = i.present; reserved = i.reserved; failures = 0; trace = [] } in
    let cpu = c.in-Some.cpu in
    ((each_case_keeps old (record old { tree = c.set_online.new.self }) c.self.invariant).offline cpu (Ok tt) (
      ((calls_are_free old).offline cpu).1 (c.in-Some.ensures.1, sym c.if-contains.ensures),
      ap (λ (t : TreeState). record old { tree = t })
          (c.set_online.ensures ∙ ap (with_online i.tree) (c.remove.ensures ∙ ap (λ (s : Ids). set.remove s cpu) c.online-left.ensures)),
    )).well_formed
