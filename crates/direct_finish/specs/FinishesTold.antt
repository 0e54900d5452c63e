-- What a kernel was asked for by all writes of a direct hand-over, as its trace has it: the newest first.
use Rattle.std.specs.Prelude.{◌≡◌, List, [], ◌∷◌, ◌++◌, Result, Ok, Err}
use Rattle.kernel_model.specs.declared.KernelFault.{KernelFault}
use Rattle.kernel_model.specs.Trace.{WritingCall, WroteCpus}
use Rattle.kernel_model.specs.KernelState.{KernelState}
use Rattle.apply_plan.specs.declared.scan.Write.{Write}
use Rattle.apply_plan.specs.Directed.{Directed, Least}
use Rattle.direct_finish.specs.FinishesDirectly.{FinishesDirectly}

-- writes that were made one after another
abbrev pub made_told : List Write → List WritingCall
made_told [] = []
made_told (w ∷ later) = made_told later ++ WroteCpus w.group w.cpus (Ok tt) ∷ []

-- all of a hand-over, and the one that failed behind them
abbrev pub finish_told : (d : Directed) (least : Least) (old : KernelState) (r : Result (Unit {0}) KernelFault) (new : KernelState)
    → FinishesDirectly d least old r new → List WritingCall
finish_told d least old (Ok _) new f = made_told f.writes
finish_told d least old (Err fault) new f = WroteCpus f.ends.1.0.group f.ends.1.0.cpus (Err fault) ∷ made_told f.writes

-- it was asked for just these since, in their order and with their answers
abbrev pub FinishesAreTold : Type 0
FinishesAreTold =
    (d : Directed) (least : Least) (old : KernelState) (r : Result (Unit {0}) KernelFault) (new : KernelState) (f : FinishesDirectly d least old r new)
    → new.trace ≡ finish_told d least old r new f ++ old.trace
