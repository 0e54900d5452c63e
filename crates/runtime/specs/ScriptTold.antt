-- The writing calls of the kernel that a script's lines stand for, line by line, the newest first.
use Rattle.std.proofs.Common.{◌≡◌, ◌⊎◌, ℕ, List, [], ◌∷◌, ◌++◌, Option, Some, None, Result, Ok, Err, inl, inr, codes}
use Rattle.cpuset_tree.specs.declared.Group.{Group}
use Rattle.cpuset_tree.specs.Groups.{root_of}
use Rattle.kernel_model.specs.Trace.{WritingCall, MadeGroup}
use Rattle.kernel_model.specs.KernelState.{KernelState}
use Rattle.machine.specs.Layout.{Layout}
use Rattle.node.specs.NodeState.{NodeState}
use Rattle.node.specs.Told.{event_told}
use Rattle.script.specs.Commands.{Asked}
use Rattle.script.specs.Ends.{EndsBy}
use Rattle.script.specs.Lines.{line_kept, words_of}
use Rattle.script.specs.Requests.{Wanted, nothing, bad, asks, request_of}
use Rattle.script.specs.Runs.{AnswersLine, AnswersRequest, Runs}
use Rattle.script.specs.declared.fault.ScriptFault.{ScriptFault}
use Rattle.script.specs.declared.fault.ScriptFault.TheVariants.{Read, TooManyReads, Write}
use Rattle.runtime.specs.Answered.{AnsweredWhere}
use Rattle.runtime.specs.Boots.{Boots, IsKernelOf}
use Rattle.runtime.specs.RuntimeState.{RuntimeState, Told}
use Rattle.runtime.specs.ScriptLaws.{Sees, IsCall, IsNoCall, is_call}

-- a command that makes a call of the node, or an event: those that this makes; and none where it is refused with no call
abbrev pub call_told : (sees : Sees) (command : Asked) (old : NodeState) (text : List ℕ) (new : NodeState)
    → IsCall sees command old text new ⊎ IsNoCall sees command old text new → List WritingCall
call_told sees command old text new (inl call) = event_told old call.event new call.step
call_told sees command old text new (inr none) = []

module _ (sees : Told → Sees) where
  -- what is wanted of a line; one that is bad or empty makes none
  abbrev pub request_told : (old : RuntimeState) (wanted : Wanted) (text : List ℕ) (new : RuntimeState) → AnswersRequest (AnsweredWhere sees) old wanted text new
      → List WritingCall
  request_told old nothing text new none = []
  request_told old bad text new none = []
  request_told old (asks command) text new h =
      call_told (sees old.told) command old.node text new.node (is_call (sees old.told) old.node command text new.node h.0)

  -- a line; one that is too long makes none
  abbrev pub line_told : (old : RuntimeState) (line : Option (List ℕ)) (text : List ℕ) (new : RuntimeState) → AnswersLine (AnsweredWhere sees) old line text new
      → List WritingCall
  line_told old None text new none = []
  line_told old (Some line) text new h = request_told old (request_of (words_of line)) text new h

  -- lines, one after another
  abbrev pub lines_told : (old : RuntimeState) (lines : List (List ℕ)) (text : List ℕ) (new : RuntimeState) → Runs (AnsweredWhere sees) old lines text new
      → List WritingCall
  lines_told old [] text new none = []
  lines_told old (line ∷ lines) text new (mid, first, more, answers, rest, is) =
      lines_told mid lines more new rest ++ line_told old (line_kept line) first mid answers

  -- those of the lines that were answered, however the script ended; where a write failed, those of the line that was run too
  abbrev pub script_told : (most : ℕ) (read read' out out' : Option (List ℕ)) (old : RuntimeState) (end : Result (Unit {0}) ScriptFault) (new : RuntimeState)
      → EndsBy most (AnsweredWhere sees) read read' out out' old end new → List WritingCall
  script_told most read read' out out' old (Ok done) new e = lines_told old _ e.text new e.run
  script_told most read read' out out' old (Err (Read kind)) new (reads, few, e) = lines_told old e.lines e.text new e.run
  script_told most read read' out out' old (Err TooManyReads) new e = lines_told old e.lines e.text new e.run
  script_told most read read' out out' old (Err Write) new e =
      line_told e.mid (line_kept e.line) e.answer new e.answered ++ lines_told old e.before e.text e.mid e.run

  -- however a script ends, the kernel was asked for just what its lines stand for, line by line, in order
  abbrev pub ScriptsAreTold : Type 0
  ScriptsAreTold = (most : ℕ) (read read' out out' : Option (List ℕ)) (old : RuntimeState) (end : Result (Unit {0}) ScriptFault) (new : RuntimeState)
      (ends : EndsBy most (AnsweredWhere sees) read read' out out' old end new)
      → new.node.kernel.trace ≡ script_told most read read' out out' old end new ends ++ old.node.kernel.trace

-- the kernel of a node from the beginning was asked to make the group of all containers, and for nothing else
abbrev pub BootsAreTold : Type 0
BootsAreTold = (m : Layout) (n : NodeState) → Boots m n
    → (k : KernelState) × (root : Group) × IsKernelOf m k × (root_of k.tree ≡ Some root)
    × (n.kernel.trace ≡ MadeGroup root (codes "numarun") (Ok n.parent) ∷ [])
