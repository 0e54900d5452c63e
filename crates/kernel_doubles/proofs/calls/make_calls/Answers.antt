use Rattle.std.proofs.Common.{List, [], ◌∷◌, ◌++◌, take, refl, subst, arith}
use Rattle.std.proofs.lemmas.List.{take_more}
use Rattle.std.specs.Prelude.{Result}
use Rattle.faults.specs.declared.OrMemory.{OrMemory}
use Rattle.kernel_model.specs.declared.KernelFault.{KernelFault}
use Rattle.kernel_model.specs.declared.Call.{Call}
use Rattle.kernel_model.specs.declared.Reply.{Reply}
use Rattle.kernel_model.specs.KernelState.{KernelState}
use Rattle.kernel_model.specs.Runs.{Step, Run}
use Rattle.kernel_doubles.proofs.calls.make_calls.Goals as goal

-- one call more
Run-push : (old mid new : KernelState) (calls : List Call) (replies : List (Result Reply (OrMemory KernelFault))) (call : Call)
    (r : Result Reply (OrMemory KernelFault))
    → Run old calls replies mid → Step mid call r new → Run old (calls ++ call ∷ []) (replies ++ r ∷ []) new
Run-push old mid new [] [] call r h step = (new, subst (λ (k : KernelState). Step k call r new) h step, refl)
Run-push old mid new [] (first ∷ replies) call r h step = absurd h
Run-push old mid new (head ∷ calls) [] call r h step = absurd h
Run-push old mid new (head ∷ calls) (first ∷ replies) call r (next, one, rest) step = (next, one, Run-push next mid new calls replies call r rest step)

pub loop-call-preserved : goal.loop-call-preserved
loop-call-preserved g c = (
  rw (take_more c.args.calls.now c.loop-call.call-index c.call-item.result (omega arith), ← c.call-item.is, c.push_reserved.ensures.items)
      (Run-push
      (g.K.Kernel.state c.args.kernel.now)
      (g.K.Kernel.state c.loop-call.kernel)
      (g.K.Kernel.state c.make_call.new.kernel)
      (take c.loop-call.call-index c.args.calls.now)
      c.loop-call.replies.items
      c.call-item.result
      c.make_call.result
      c.loop-call.invariant.0
      c.make_call.ensures),
  omega (arith, c.push_reserved.ensures.len, c.loop-call.invariant.1),
  omega (arith, c.push_reserved.ensures.capacity, c.loop-call.invariant.2),
)
