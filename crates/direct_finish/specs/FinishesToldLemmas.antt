-- A kernel was asked for just the writes of a direct hand-over.
use Rattle.std.proofs.Common.{◌≡◌, List, [], ◌∷◌, ◌++◌, refl, sym, ap, ◌∙◌}
use Rattle.std.proofs.lemmas.List.{append_assoc}
use Rattle.std.specs.Prelude.{Some, Ok, Err}
use Rattle.kernel_model.specs.declared.KernelFault.{KernelFault}
use Rattle.kernel_model.specs.Trace.{WritingCall, WroteCpus}
use Rattle.kernel_model.specs.KernelState.{KernelState}
use Rattle.apply_plan.specs.declared.scan.Write.{Write}
use Rattle.apply_plan.specs.DueWrite.{written}
use Rattle.direct_finish.specs.FinishesDirectly.{after}
use Rattle.direct_finish.specs.FinishesTold.{made_told, FinishesAreTold}

abbrev trace_of : KernelState → List WritingCall
trace_of k = k.trace

after_told : (ws : List Write) (k : KernelState) → (after k ws).trace ≡ made_told ws ++ k.trace
after_told [] k = refl
after_told (w ∷ later) k =
    after_told later (written k (Some w)) ∙ sym (append_assoc (made_told later) (WroteCpus w.group w.cpus (Ok tt) ∷ []) k.trace)

pub finishes_are_told : FinishesAreTold
finishes_are_told d least old (Ok _) new f = ap trace_of f.ends.0 ∙ after_told f.writes old
finishes_are_told d least old (Err fault) new f =
    ap trace_of f.ends.1.2
    ∙ ap (λ (x : KernelFault). WroteCpus f.ends.1.0.group f.ends.1.0.cpus (Err x) ∷ (after old f.writes).trace) (sym f.ends.0)
    ∙ ap (λ (t : List WritingCall). WroteCpus f.ends.1.0.group f.ends.1.0.cpus (Err fault) ∷ t) (after_told f.writes old)
