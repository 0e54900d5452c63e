-- What holds of an answer and of the state after a call.
use Rattle.std.proofs.Common.{◌≡◌, false, refl, sym, subst}
use Rattle.std.specs.Prelude.{Option, Some, None, Result, Ok, Err}
use Rattle.faults.specs.declared.or_memory.OrMemory.{OrMemory}
use Rattle.faults.specs.declared.or_memory.OrMemory.TheVariants.{Memory, Fault}
use Rattle.faults.specs.Calls.{Decides, Grows}
use Rattle.kernel_model.specs.declared.fault.KernelFault.{KernelFault}
use Rattle.kernel_model.specs.declared.fault.KernelFault.TheVariants.{Failed}
use Rattle.kernel_model.specs.KernelState.{KernelState, recorded, failed}
use Rattle.kernel_model.specs.Trace.{WritingCall, is_failed}
use Rattle.kernel_model.specs.Cases.{Writes, GrowingWrites}

module _ {A : Type 0} (refusal : Option KernelFault) (Does : A → KernelState → Type 0) (old : KernelState) where
  -- what holds of an answer and of what the call makes of the state, of a refusal and the state before, and of a failure
  module _ (call : Result A KernelFault → WritingCall) (P : Result A KernelFault → KernelState → Type 0)
      (does : (value : A) (new : KernelState) → refusal ≡ None → Does value new → P (Ok value) new)
      (fails : P (Err Failed) (failed (call (Err Failed)) old))
      (kept : (fault : KernelFault) → is_failed fault ≡ false → refusal ≡ Some fault → P (Err fault) (recorded (call (Err fault)) old)) where
    pub Writes-answers : (answer : Result A KernelFault) (new : KernelState) → Writes call refusal Does old answer new → P answer new
    Writes-answers (Ok value) new h = does value new h.0 h.1
    Writes-answers (Err Failed) new h = subst (λ (k : KernelState). P (Err Failed) k) (sym h) fails
    Writes-answers (Err fault) new h = subst (λ (k : KernelState). P (Err fault) k) (sym h.1) (kept fault refl h.0)

  module _ (P : Result A KernelFault → KernelState → Type 0)
      (does : (value : A) (new : KernelState) → refusal ≡ None → Does value new → P (Ok value) new) (kept : (fault : KernelFault) → refusal ≡ Some fault → P (Err fault) old) where
    pub Decides-answers : (answer : Result A KernelFault) (new : KernelState) → Decides refusal Does old answer new → P answer new
    Decides-answers (Ok value) new h = does value new h.0 h.1
    Decides-answers (Err fault) new h = subst (λ (k : KernelState). P (Err fault) k) (sym h.1) (kept fault h.0)

  -- the same where it allocates, and of an allocation failure
  module _ (P : Result A (OrMemory KernelFault) → KernelState → Type 0)
      (does : (value : A) (new : KernelState) → refusal ≡ None → Does value new → P (Ok value) new) (wants : P (Err Memory) old)
      (kept : (fault : KernelFault) → refusal ≡ Some fault → P (Err (Fault fault)) old) where
    pub Grows-answers : (answer : Result A (OrMemory KernelFault)) (new : KernelState) → Grows refusal Does old answer new → P answer new
    Grows-answers (Ok value) new h = does value new h.0 h.1
    Grows-answers (Err Memory) new h = subst (λ (k : KernelState). P (Err Memory) k) (sym h.1) wants
    Grows-answers (Err (Fault fault)) new h = subst (λ (k : KernelState). P (Err (Fault fault)) k) (sym h.1) (kept fault h.0)

  module _ (call : Result A (OrMemory KernelFault) → WritingCall) (P : Result A (OrMemory KernelFault) → KernelState → Type 0)
      (does : (value : A) (new : KernelState) → refusal ≡ None → Does value new → P (Ok value) new) (wants : P (Err Memory) (recorded (call (Err Memory)) old))
      (fails : P (Err (Fault Failed)) (failed (call (Err (Fault Failed))) old))
      (kept : (fault : KernelFault) → is_failed fault ≡ false → refusal ≡ Some fault → P (Err (Fault fault)) (recorded (call (Err (Fault fault))) old)) where
    pub GrowingWrites-answers : (answer : Result A (OrMemory KernelFault)) (new : KernelState) → GrowingWrites call refusal Does old answer new → P answer new
    GrowingWrites-answers (Ok value) new h = does value new h.0 h.1
    GrowingWrites-answers (Err Memory) new h = subst (λ (k : KernelState). P (Err Memory) k) (sym h.1) wants
    GrowingWrites-answers (Err (Fault Failed)) new h = subst (λ (k : KernelState). P (Err (Fault Failed)) k) (sym h) fails
    GrowingWrites-answers (Err (Fault fault)) new h = subst (λ (k : KernelState). P (Err (Fault fault)) k) (sym h.1) (kept fault refl h.0)

-- what holds of the state before and of what an event makes of it holds after the event
module _ {A : Type 0} (P : KernelState → Type 0) (refusal : Option KernelFault) (Does : A → KernelState → Type 0) (old : KernelState)
    (does : (value : A) (new : KernelState) → refusal ≡ None → Does value new → P new) where
  module _ (kept : P old) where
    pub Decides-keeps : (answer : Result A KernelFault) (new : KernelState) → Decides refusal Does old answer new → P new
    Decides-keeps = Decides-answers refusal Does old (λ _. P) does (λ fault against. kept)

    pub Grows-keeps : (answer : Result A (OrMemory KernelFault)) (new : KernelState) → Grows refusal Does old answer new → P new
    Grows-keeps = Grows-answers refusal Does old (λ _. P) does kept (λ fault against. kept)

  -- what holds of the state with any one writing call more, of that with one failure more too, and of what the call makes, holds
  -- after the call
  module _ (kept : (call : WritingCall) → P (recorded call old)) (fails : (call : WritingCall) → P (failed call old)) where
    pub Writes-keeps : (call : Result A KernelFault → WritingCall) (answer : Result A KernelFault) (new : KernelState) → Writes call refusal Does old answer new → P new
    Writes-keeps call = Writes-answers refusal Does old call (λ _. P) does (fails (call (Err Failed))) (λ fault other against. kept (call (Err fault)))

    pub GrowingWrites-keeps : (call : Result A (OrMemory KernelFault) → WritingCall) (answer : Result A (OrMemory KernelFault)) (new : KernelState)
        → GrowingWrites call refusal Does old answer new → P new
    GrowingWrites-keeps call =
        GrowingWrites-answers refusal Does old call (λ _. P) does (kept (call (Err Memory))) (fails (call (Err (Fault Failed))))
        (λ fault other against. kept (call (Err (Fault fault))))
