-- What was asked of trees while a script was run in one.
use Rattle.std.proofs.Common.{Bool, ℕ, List, ◌++◌, Option, Result, inl, inr, append_assoc}
use Rattle.faults.specs.declared.OrMemory.{OrMemory}
use Rattle.kernel_model.specs.declared.KernelFault.{KernelFault}
use Rattle.cgroup_tree.specs.Asked.{Asked, Stranger, Opening, Closes, HandsOut, HandsBack}
use Rattle.cgroup_tree.specs.Site.{Site}
use Rattle.machine.specs.Layout.{Layout}
use Rattle.node.specs.NodeState.{NodeState}
use Rattle.runtime.specs.MirroredNodes.{BootsNot}
use Rattle.runtime.specs.RuntimeState.{Told}
use Rattle.script.specs.declared.fault.ScriptFault.{ScriptFault}
use Rattle.cli.specs.Program.{ScriptsMirroredAt}
use Rattle.cli.specs.RunAnswer.{PlaysMirrored}
use Rattle.answers.specs.declared.console.Console.{Console}

-- what was asked of the files comes behind what their tree was opened by
pub behind : {T : Type 0} (asked_of : T → Bool → List Asked → Type 0) (old mid new : T) (opened : List Asked) → HandsOut asked_of old opened mid
    → (calls : List Asked) → Closes asked_of mid calls new → HandsBack asked_of old (calls ++ opened) new
behind asked_of old mid new opened out calls closes before held = rw (append_assoc calls opened before) (closes (opened ++ before) (out before held))

-- whatever follows from what holds of these calls
module _ {F : Type 0} (asked : F → Opening → List Asked → Type 0) (site : Site) (First Then : List Asked → Type 0)
    (follows : (calls : List Asked) → First calls → Then calls) where
  pub boots_not_more : (m : Layout) (error : OrMemory KernelFault) → BootsNot asked site m error First → BootsNot asked site m error Then
  boots_not_more m error (inl (memory, leaves)) = inl (memory, follows _ leaves)
  boots_not_more m error (inr (its, leaves)) = inr (its, follows its.mirrored.calls leaves)

  pub plays_more : (finds : List ℕ → Option (List ℕ) → Type 0) (most : ℕ) (n : NodeState) (told : Told) (strangers : List Stranger) (read read' out out' : Option (List ℕ)) (end : Result (Unit {0}) ScriptFault)
      → PlaysMirrored asked site First finds most n told strangers read read' out out' end → PlaysMirrored asked site Then finds most n told strangers read read' out out' end
  plays_more finds most n told strangers read read' out out' end (final, ends, (its, leaves), trace, lines) = (final, ends, (its, follows its.mirrored.calls leaves), trace, lines)

  module _ {W E : Type 0} (out : W → Option (List ℕ)) (err : E → Option (List ℕ)) (old new : Console W E) (status : ℕ) (m : Layout)
      (finds : List ℕ → Option (List ℕ) → Type 0) (told : Told) (strangers : List Stranger) (script script' : Option (List ℕ)) where
    pub leaves_more : ScriptsMirroredAt out err old new status asked m site First finds told strangers script script'
        → ScriptsMirroredAt out err old new status asked m site Then finds told strangers script script'
    leaves_more (inl (n, boots, (mid, end, (final, ends, (its, leaves), trace, lines), same, finishes))) =
        inl (n, boots, (mid, end, (final, ends, (its, follows its.mirrored.calls leaves), trace, lines), same, finishes))
    leaves_more (inr (error, boots, says, unread)) = inr (error, boots_not_more m error boots, says, unread)
