-- What a step of a direct hand-over leaves while it is open.
use Rattle.std.proofs.Common.{◌≡◌, ◌+◌, ◌<◌, ◌≤◌, refl, sym, ap, ◌∙◌, subst, arith, [], ◌++◌}
use Rattle.std.specs.Prelude.{cond, Option, Some, None, is_some, IfSome, Result, Ok, Err}
use Rattle.kernel_model.specs.declared.KernelFault.{KernelFault}
use Rattle.kernel_model.specs.declared.KernelFault.TheVariants.{Failed}
use Rattle.kernel_model.specs.KernelState.{KernelState, writes}
use Rattle.kernel_model.specs.Cases.{rise}
use Rattle.kernel_model.specs.Laws.{StepKeeps}
use Rattle.kernel_model.specs.KernelLemmas.{each_case_keeps, keeps_itself, runs_keep, whatever_is_told}
use Rattle.kernel_model.specs.RefusalLemmas.{calls_are_free}
use Rattle.apply_plan.specs.declared.entry.Entry.{Entry}
use Rattle.apply_plan.specs.declared.scan.Write.{Write}
use Rattle.apply_plan.specs.declared.handover.Progress.{Progress}
use Rattle.apply_plan.specs.declared.handover.Progress.TheVariants.{More, Done}
use Rattle.apply_plan.specs.Targets.{IsPlaced}
use Rattle.apply_plan.specs.DueWrite.{written, asks_for, progress_of}
use Rattle.apply_plan.specs.KernelFactLemmas.{placed_alike}
use Rattle.apply_plan.specs.ListLemmas.{all_map}
use Rattle.apply_plan.specs.Runs.{IsOpen}
use Rattle.apply_plan.specs.MayWrite.{left_directly}
use Rattle.apply_plan.specs.Directed.{Directed, Least, Serves}
use Rattle.apply_plan.specs.DirectWrite.{due_directly, StepsDirectly, made_directly}
use Rattle.apply_plan.specs.DirectStepLemmas.{due_places, step_safe, step_lowers, step_on_way, step_done, step_counts, step_makes, step_keeps}
use Rattle.apply_plan.specs.SqueezeLemmas.{step_squeezes}
use Rattle.apply_plan.specs.DirectOneStep.{SpendsDirectly, StepLeavesDirectly, DirectStepsLeave}

module _ (d : Directed) (least : Least) (serves : Serves d least) (old new : KernelState) (before : IsOpen d.targets old) where
  due_kernel : (o : Option Write) → due_directly d least old ≡ o → StepKeeps old (written old o)
  due_kernel None is = runs_keep old old [] [] before.well_formed refl
  due_kernel (Some w) is =
      let there : IsPlaced old w.group = subst (λ o. IfSome o (λ v. IsPlaced old v.group)) is (due_places d before.handover least serves old before.placed) in
      (each_case_keeps old (written old (Some w)) before.well_formed).cpus w.group w.cpus (Ok tt) (((calls_are_free old).write w.group).1 (there.there, there.below), refl)

  step_kernel : (r : Result Progress KernelFault) → StepsDirectly d least old r new → StepKeeps old new
  step_kernel (Ok answer) s = subst (StepKeeps old) (sym s.0) (due_kernel (due_directly d least old) refl)
  step_kernel (Err fault) s =
      subst (StepKeeps old) (sym s.1) (whatever_is_told old old (old.failures + 1) (asks_for (due_directly d least old) (Err Failed) ++ old.trace) (keeps_itself old before.well_formed))

  step_stays_open : (r : Result Progress KernelFault) → StepsDirectly d least old r new → IsOpen d.targets new
  step_stays_open r s =
      let keeps = step_keeps d before.handover least serves old new before.placed r s in
      record {
        handover = before.handover;
        well_formed = (step_kernel r s).well_formed;
        placed = placed_alike old new d.targets.entries keeps.alike before.placed;
        given = all_map (λ (e : Entry). e.pid < old.table.next_pid) (λ (e : Entry). e.pid < new.table.next_pid)
            (λ e g. subst (λ t. e.pid < t.next_pid) (sym keeps.table) g) d.targets.entries before.given;
      }

  -- where more is due after a step, something was due before it
  more_was_due : (r : Result Progress KernelFault) → StepsDirectly d least old r new → r ≡ Ok More → left_directly d.targets new + 1 ≤ left_directly d.targets old
  more_was_due (Err fault) s is = absurd (let x : ⊥ = cc is in x)
  more_was_due (Ok answer) s is = by (due_directly d least old) refl where
    lowers : left_directly d.targets new + cond (is_some (due_directly d least old)) 1 0 ≤ left_directly d.targets old
    lowers = step_lowers d before.handover least serves old new before.placed (Ok answer) s

    by : (o : Option Write) → due_directly d least old ≡ o → left_directly d.targets new + 1 ≤ left_directly d.targets old
    by (Some w) was = subst (λ o. left_directly d.targets new + cond (is_some o) 1 0 ≤ left_directly d.targets old) was lowers
    by None was =
        let same : new ≡ old = s.0 ∙ ap (written old) was in
        let rests : progress_of (due_directly d least new) ≡ Done = ap (λ k. progress_of (due_directly d least k)) same ∙ ap progress_of was in
        let more : progress_of (due_directly d least new) ≡ More = sym s.1 ∙ cc is in
        absurd (let x : ⊥ = cc (rests, more) in x)

  step_spends : (r : Result Progress KernelFault) → StepsDirectly d least old r new → SpendsDirectly d old (rise r) new
  step_spends (Ok answer) s =
      let a : left_directly d.targets new + cond (is_some (due_directly d least old)) 1 0 ≤ left_directly d.targets old =
      step_lowers d before.handover least serves old new before.placed (Ok answer) s in
      let b : writes new ≡ writes old + made_directly d least old = step_makes d before.handover least serves old new before.placed (Ok answer) s in
      omega (arith, a, b)
  step_spends (Err fault) s =
      let a : left_directly d.targets new ≡ left_directly d.targets old = step_lowers d before.handover least serves old new before.placed (Err fault) s in
      let b : writes new ≡ writes old + 1 = step_makes d before.handover least serves old new before.placed (Err fault) s ∙ ap (λ x. writes old + cond x 1 0) s.2 in
      let r : rise {A = Progress} (Err fault) ≡ 1 = ap (λ (f : KernelFault). rise {A = Progress} (Err f)) s.0 in
      omega (arith, a, b, r)

  step_leaves : (r : Result Progress KernelFault) → StepsDirectly d least old r new → StepLeavesDirectly d least old r new
  step_leaves r s =
      let after = step_stays_open r s in
      record {
        open_still = after;
        safe = step_safe d before.handover least serves old new before.placed r s;
        rest = step_keeps d before.handover least serves old new before.placed r s;
        done = step_done d before.handover least serves old new before.placed r s after.placed;
        falls = more_was_due r s;
        lowers = step_lowers d before.handover least serves old new before.placed r s;
        on_way = λ first. step_on_way d before.handover least serves old new before.placed first r s;
        squeezes = step_squeezes d before.handover least serves old before.placed new r s;
        counted = step_counts d before.handover least serves old new before.placed r s;
        made = step_makes d before.handover least serves old new before.placed r s;
        spends = step_spends r s;
        kernel = step_kernel r s;
      }

pub direct_steps_leave : DirectStepsLeave
direct_steps_leave d least old r new serves before s = step_leaves d least serves old new before r s
