-- However a script beside strangers ends, the kernel was asked for just what its lines stand for.
use Rattle.std.proofs.Common.{◌≡◌, ◌⊎◌, ℕ, Bool, true, false, List, [], ◌∷◌, ◌++◌, Option, Some, None, Ok, Err, inl, inr, ap, ◌∙◌, sym, append_assoc}
use Rattle.kernel_model.specs.Trace.{WritingCall}
use Rattle.node.specs.NodeState.{NodeState}
use Rattle.node.specs.ToldLemmas.{events_are_told}
use Rattle.script.specs.Commands.{Asked}
use Rattle.script.specs.Commands as ask
use Rattle.script.specs.Lines.{line_kept, lines_of, words_of}
use Rattle.script.specs.Requests.{Wanted, nothing, bad, asks, request_of}
use Rattle.script.specs.Runs.{AnswersLine, AnswersRequest, Runs}
use Rattle.script.specs.declared.fault.ScriptFault.TheVariants.{Read, TooManyReads, Write}
use Rattle.runtime.specs.Answered.{AnsweredWhere}
use Rattle.runtime.specs.RuntimeState.{RuntimeState, Told}
use Rattle.runtime.specs.ScriptLaws.{Sees, IsCall, IsNoCall, is_call}
use Rattle.runtime.specs.ScriptTold.{call_told, request_told}
use Rattle.strangers.specs.GuardState.{GuardState}
use Rattle.strangers.specs.Guarded.{AnswersAway, Forgets, Guards, away, knows, withheld}
use Rattle.strangers.specs.Told.{away_told, guard_told, request_guard_told, line_guard_told, lines_guard_told, GuardedAreTold}

call_is_told : (sees : Sees) (command : Asked) (old : NodeState) (text : List ℕ) (new : NodeState)
    (made : IsCall sees command old text new ⊎ IsNoCall sees command old text new)
    → new.kernel.trace ≡ call_told sees command old text new made ++ old.kernel.trace
call_is_told sees command old text new (inl call) = events_are_told old call.event new call.step
call_is_told sees command old text new (inr none) = ap (λ (n : NodeState). n.kernel.trace) none.1

abbrev trace_of : GuardState → List WritingCall
trace_of g = g.runtime.node.kernel.trace

told_then : (later earlier new mid old : List WritingCall) → new ≡ later ++ mid → mid ≡ earlier ++ old → new ≡ (later ++ earlier) ++ old
told_then later earlier new mid old a b = a ∙ ap (λ (t : List WritingCall). later ++ t) b ∙ sym (append_assoc later earlier old)

module _ (sees : Told → Sees) where
  -- a command of the runtime alone
  alone_is_told : (old : RuntimeState) (command : Asked) (text : List ℕ) (new : RuntimeState) (h : AnsweredWhere sees old command text new)
      → new.node.kernel.trace ≡ request_told sees old (asks command) text new h ++ old.node.kernel.trace
  alone_is_told old command text new h =
      call_is_told (sees old.told) command old.node text new.node (is_call (sees old.told) old.node command text new.node h.0)

  -- that CPUs go and come leaves the trace
  away_is_told : (old : GuardState) (command : Asked) (text : List ℕ) (new : GuardState) (h : AnswersAway sees old command text new)
      → trace_of new ≡ away_told sees old command text new h ++ trace_of old
  away_is_told old command text new (last, answered, is) =
      ap trace_of is ∙ alone_is_told (away old.runtime (withheld old)) command text last answered

  forget_is_none : (b : Bool) (old : GuardState) (id text : List ℕ) (new : GuardState) → Forgets sees b old id text new → trace_of new ≡ trace_of old
  forget_is_none true old id text new (said, is) = ap trace_of is
  forget_is_none false old id text new (answers, same) = ap (λ (n : NodeState). n.kernel.trace) answers.0.1

  guard_is_told : (old : GuardState) (command : Asked) (text : List ℕ) (new : GuardState) (h : Guards sees old command text new)
      → trace_of new ≡ guard_told sees old command text new h ++ trace_of old
  guard_is_told old (ask.forget id) text new h = forget_is_none (knows old.strangers id) old id text new h
  guard_is_told old (ask.rebalance direct) text new h = away_is_told old (ask.rebalance direct) text new h
  guard_is_told old (ask.begin direct) text new h = away_is_told old (ask.begin direct) text new h
  guard_is_told old ask.step text new h = away_is_told old ask.step text new h
  guard_is_told old command text new h = alone_is_told old.runtime command text new.runtime h.0

  request_is_told : (old : GuardState) (wanted : Wanted) (text : List ℕ) (new : GuardState) (h : AnswersRequest (Guards sees) old wanted text new)
      → trace_of new ≡ request_guard_told sees old wanted text new h ++ trace_of old
  request_is_told old nothing text new h = ap trace_of h.1
  request_is_told old bad text new h = ap trace_of h.1
  request_is_told old (asks command) text new h = guard_is_told old command text new h

  line_is_told : (old : GuardState) (line : Option (List ℕ)) (text : List ℕ) (new : GuardState) (h : AnswersLine (Guards sees) old line text new)
      → trace_of new ≡ line_guard_told sees old line text new h ++ trace_of old
  line_is_told old None text new h = ap trace_of h.1
  line_is_told old (Some line) text new h = request_is_told old (request_of (words_of line)) text new h

  lines_are_told : (old : GuardState) (lines : List (List ℕ)) (text : List ℕ) (new : GuardState) (run : Runs (Guards sees) old lines text new)
      → trace_of new ≡ lines_guard_told sees old lines text new run ++ trace_of old
  lines_are_told old [] text new h = ap trace_of h.1
  lines_are_told old (line ∷ lines) text new (mid, first, more, answers, rest, is) =
      told_then (lines_guard_told sees mid lines more new rest) (line_guard_told sees old (line_kept line) first mid answers) (trace_of new) (trace_of mid) (trace_of old)
      (lines_are_told mid lines more new rest) (line_is_told old (line_kept line) first mid answers)

  pub guarded_are_told : GuardedAreTold sees
  guarded_are_told most read read' out out' old (Ok done) new e = lines_are_told old (lines_of e.input) e.text new e.run
  guarded_are_told most read read' out out' old (Err (Read kind)) new (reads, few, e) = lines_are_told old e.lines e.text new e.run
  guarded_are_told most read read' out out' old (Err TooManyReads) new e = lines_are_told old e.lines e.text new e.run
  guarded_are_told most read read' out out' old (Err Write) new e =
      told_then (line_guard_told sees e.mid (line_kept e.line) e.answer new e.answered) (lines_guard_told sees old e.before e.text e.mid e.run)
      (trace_of new) (trace_of e.mid) (trace_of old)
      (line_is_told e.mid (line_kept e.line) e.answer new e.answered) (lines_are_told old e.before e.text e.mid e.run)
