-- However a script ends, the kernel was asked for just what its lines stand for.
use Rattle.std.proofs.Common.{◌≡◌, ◌⊎◌, ℕ, List, [], ◌∷◌, ◌++◌, Option, Some, None, Ok, Err, inl, inr, codes, ap, ◌∙◌, refl, sym, subst, append_assoc}
use Rattle.cpuset_tree.specs.declared.Group.{Group}
use Rattle.cpuset_tree.specs.Groups.{child_of}
use Rattle.kernel_model.specs.Trace.{WritingCall, MadeGroup}
use Rattle.kernel_model.specs.Cases.{MakesGroup}
use Rattle.kernel_model.specs.KernelLemmas.{tells_each_write}
use Rattle.node.specs.Launch.{FindsOr}
use Rattle.node.specs.NodeState.{NodeState}
use Rattle.node.specs.ToldLemmas.{events_are_told}
use Rattle.script.specs.Commands.{Asked}
use Rattle.script.specs.Lines.{line_kept, words_of}
use Rattle.script.specs.Requests.{Wanted, nothing, bad, asks, request_of}
use Rattle.script.specs.Runs.{AnswersLine, AnswersRequest, Runs}
use Rattle.script.specs.declared.fault.ScriptFault.TheVariants.{Read, TooManyReads, Write}
use Rattle.runtime.specs.Answered.{AnsweredWhere}
use Rattle.runtime.specs.RuntimeState.{RuntimeState, Told}
use Rattle.runtime.specs.ScriptLaws.{Sees, IsCall, IsNoCall, is_call}
use Rattle.runtime.specs.ScriptTold.{call_told, request_told, line_told, lines_told, ScriptsAreTold, BootsAreTold}

call_is_told : (sees : Sees) (command : Asked) (old : NodeState) (text : List ℕ) (new : NodeState)
    (made : IsCall sees command old text new ⊎ IsNoCall sees command old text new)
    → new.kernel.trace ≡ call_told sees command old text new made ++ old.kernel.trace
call_is_told sees command old text new (inl call) = events_are_told old call.event new call.step
call_is_told sees command old text new (inr none) = ap (λ (n : NodeState). n.kernel.trace) none.1

abbrev trace_of : RuntimeState → List WritingCall
trace_of s = s.node.kernel.trace

told_then : (later earlier new mid old : List WritingCall) → new ≡ later ++ mid → mid ≡ earlier ++ old → new ≡ (later ++ earlier) ++ old
told_then later earlier new mid old a b = a ∙ ap (λ (t : List WritingCall). later ++ t) b ∙ sym (append_assoc later earlier old)

module _ (sees : Told → Sees) where
  request_is_told : (old : RuntimeState) (wanted : Wanted) (text : List ℕ) (new : RuntimeState) (h : AnswersRequest (AnsweredWhere sees) old wanted text new)
      → trace_of new ≡ request_told sees old wanted text new h ++ trace_of old
  request_is_told old nothing text new h = ap trace_of h.1
  request_is_told old bad text new h = ap trace_of h.1
  request_is_told old (asks command) text new h =
      call_is_told (sees old.told) command old.node text new.node (is_call (sees old.told) old.node command text new.node h.0)

  line_is_told : (old : RuntimeState) (line : Option (List ℕ)) (text : List ℕ) (new : RuntimeState) (h : AnswersLine (AnsweredWhere sees) old line text new)
      → trace_of new ≡ line_told sees old line text new h ++ trace_of old
  line_is_told old None text new h = ap trace_of h.1
  line_is_told old (Some line) text new h = request_is_told old (request_of (words_of line)) text new h

  pub lines_are_told : (old : RuntimeState) (lines : List (List ℕ)) (text : List ℕ) (new : RuntimeState) (run : Runs (AnsweredWhere sees) old lines text new)
      → trace_of new ≡ lines_told sees old lines text new run ++ trace_of old
  lines_are_told old [] text new h = ap trace_of h.1
  lines_are_told old (line ∷ lines) text new (mid, first, more, answers, rest, is) =
      told_then (lines_told sees mid lines more new rest) (line_told sees old (line_kept line) first mid answers) (trace_of new) (trace_of mid) (trace_of old)
      (lines_are_told mid lines more new rest) (line_is_told old (line_kept line) first mid answers)

  pub scripts_are_told : ScriptsAreTold sees
  scripts_are_told most read read' out out' old (Ok done) new e = lines_are_told old _ e.text new e.run
  scripts_are_told most read read' out out' old (Err (Read kind)) new (reads, few, e) = lines_are_told old e.lines e.text new e.run
  scripts_are_told most read read' out out' old (Err TooManyReads) new e = lines_are_told old e.lines e.text new e.run
  scripts_are_told most read read' out out' old (Err Write) new e =
      told_then (line_told sees e.mid (line_kept e.line) e.answer new e.answered) (lines_told sees old e.before e.text e.mid e.run)
      (trace_of new) (trace_of e.mid) (trace_of old)
      (line_is_told e.mid (line_kept e.line) e.answer new e.answered) (lines_are_told old e.before e.text e.mid e.run)

-- a new kernel has no group below its root
pub boots_are_told : BootsAreTold
boots_are_told m n (k, first, (root, top, finds, is)) =
    let alone : child_of k.tree root (codes "numarun") ≡ None = rw first.first_tree.is refl in
    let made : MakesGroup k root (codes "numarun") (Ok n.parent) n.kernel =
    subst (λ (o : Option Group). FindsOr o k root (codes "numarun") (Ok n.parent) n.kernel) alone finds in (
      k,
      root,
      first,
      top,
      tells_each_write k (MadeGroup root (codes "numarun") (Ok n.parent)) n.kernel made ∙ ap (λ (t : List WritingCall). MadeGroup root (codes "numarun") (Ok n.parent) ∷ t) first.none_written,
    )
