use Rattle.std.proofs.Common.{[], ◌≡◌, ℕ, Bool, true, not, refl, sym, ap, ◌∙◌, subst}
use Rattle.std.specs.Prelude.{Some, None, Result, Ok, Err, option_map, if◌then◌else◌}
use Rattle.faults.specs.declared.or_memory.OrMemory.{OrMemory}
use Rattle.faults.specs.declared.or_memory.OrMemory.TheVariants.{Memory, Fault}
use Rattle.cpuset_tree.specs.declared.Group.{Group}
use Rattle.cpuset_tree.specs.Groups.{has_group}
use Rattle.proctable.specs.declared.ProcFault.{ProcFault}
use Rattle.proctable.specs.TableState.{TableState}
use Rattle.proctable.specs.TableAnswers.{spawn_refusal, Spawns}
use Rattle.kernel_model.specs.declared.fault.KernelFault.TheVariants.{NoGroup}
use Rattle.kernel_model.specs.Faults.{of_proc}
use Rattle.std.specs.Option.{option_or}
use Rattle.kernel_model.specs.Trace.{Spawned}
use Rattle.kernel_model.specs.KernelState.{KernelState, recorded}
use Rattle.kernel_model.specs.KernelLemmas.{formed_whatever_is_told, each_case_keeps}
use Rattle.kernel_model.specs.WellFormed.{IsWellFormed}
use Rattle.kernel_model.proofs.model_kernel.ModelKernel.spawn_body.Goals as goal

-- whatever the table answers
module _ (old : KernelState) (well_formed : IsWellFormed old) (g : Group) (there : has_group old.tree g ≡ true) (new : TableState) where
  spawned : (r : Result ℕ (OrMemory ProcFault)) → Spawns old.table g r new → IsWellFormed (record old { table = new })
  spawned (Ok pid) h = formed_whatever_is_told (record (recorded (Spawned g (Ok pid)) old) { table = new }) old.failures old.trace (((each_case_keeps old (record (recorded (Spawned g (Ok pid)) old) { table = new }) well_formed).spawn g (Ok pid) (
    ap (λ (b : Bool). option_or (if not b then Some NoGroup else None) (option_map of_proc (spawn_refusal old.table))) there
        ∙ ap (option_map of_proc) h.0,
    record { does = h.1; rest = refl },
  )).well_formed)
  spawned (Err Memory) h = subst (λ (t : TableState). IsWellFormed (record old { table = t })) (sym h.1) well_formed
  spawned (Err (Fault fault)) h = subst (λ (t : TableState). IsWellFormed (record old { table = t })) (sym h.1) well_formed

pub invariant_of-self : goal.invariant_of-self
invariant_of-self c =
    let i = c.self.inside in
    let old : KernelState = record { tree = i.tree; table = i.table; present = i.present; reserved = i.reserved; failures = 0; trace = [] } in
    spawned old c.self.invariant c.args.group (sym c.if-not-contains.ensures) c.spawn.new.self c.spawn.result c.spawn.ensures
