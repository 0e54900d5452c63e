use Rattle.std.proofs.Common.{[], ℕ, refl, sym, ap, subst}
use Rattle.std.specs.Prelude.{Result, Ok, Err, option_map}
use Rattle.faults.specs.declared.or_memory.OrMemory.{OrMemory}
use Rattle.faults.specs.declared.or_memory.OrMemory.TheVariants.{Memory, Fault}
use Rattle.proctable.specs.declared.ProcFault.{ProcFault}
use Rattle.proctable.specs.TableState.{TableState}
use Rattle.proctable.specs.TableAnswers.{Forks}
use Rattle.kernel_model.specs.Faults.{of_proc}
use Rattle.kernel_model.specs.KernelState.{KernelState}
use Rattle.kernel_model.specs.KernelLemmas.{each_case_keeps}
use Rattle.kernel_model.specs.WellFormed.{IsWellFormed}
use Rattle.kernel_model.proofs.model_kernel.ModelKernelKernel.fork.Goals as goal

-- whatever the table answers
module _ (old : KernelState) (well_formed : IsWellFormed old) (parent : ℕ) (new : TableState) where
  forked : (r : Result ℕ (OrMemory ProcFault)) → Forks old.table parent r new → IsWellFormed (record old { table = new })
  forked (Ok pid) h = ((each_case_keeps old (record old { table = new }) well_formed).fork parent (Ok pid)
      (ap (option_map of_proc) h.0, record { does = h.1; rest = refl })).well_formed
  forked (Err Memory) h = subst (λ (t : TableState). IsWellFormed (record old { table = t })) (sym h.1) well_formed
  forked (Err (Fault fault)) h = subst (λ (t : TableState). IsWellFormed (record old { table = t })) (sym h.1) well_formed

pub invariant_of-self : goal.invariant_of-self
invariant_of-self c =
    let i = c.self.inside in
    let old : KernelState = record { tree = i.tree; table = i.table; present = i.present; reserved = i.reserved; failures = 0; trace = [] } in
    forked old c.self.invariant c.args.parent c.fork.new.self c.fork.result c.fork.ensures
