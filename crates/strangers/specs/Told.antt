-- The writing calls of the kernel that a script's lines stand for beside strangers, line by line, the newest first.
use Rattle.std.specs.Prelude.{◌≡◌, ℕ, List, [], ◌∷◌, ◌++◌, Option, Some, None, Result, Ok, Err}
use Rattle.kernel_model.specs.Trace.{WritingCall}
use Rattle.script.specs.Commands.{Asked}
use Rattle.script.specs.Commands as ask
use Rattle.script.specs.Ends.{EndsBy}
use Rattle.script.specs.Lines.{line_kept, lines_of, words_of}
use Rattle.script.specs.Requests.{Wanted, nothing, bad, asks, request_of}
use Rattle.script.specs.Runs.{AnswersLine, AnswersRequest, Runs}
use Rattle.script.specs.declared.fault.ScriptFault.{ScriptFault}
use Rattle.script.specs.declared.fault.ScriptFault.TheVariants.{Read, TooManyReads, Write}
use Rattle.runtime.specs.RuntimeState.{Told}
use Rattle.runtime.specs.ScriptLaws.{Sees}
use Rattle.runtime.specs.ScriptTold.{request_told}
use Rattle.strangers.specs.GuardState.{GuardState}
use Rattle.strangers.specs.Guarded.{AnswersAway, Guards, away, withheld}

module _ (sees : Told → Sees) where
  -- a command that is answered while the CPUs that strangers hold are offline: those that it makes of the runtime then. That
  -- they go and come asks for none.
  abbrev pub away_told : (old : GuardState) (command : Asked) (text : List ℕ) (new : GuardState) → AnswersAway sees old command text new → List WritingCall
  away_told old command text new (last, answered, is) = request_told sees (away old.runtime (withheld old)) (asks command) text last answered

  -- any command: those that it makes of the runtime; none if it lets go of a folder
  abbrev pub guard_told : (old : GuardState) (command : Asked) (text : List ℕ) (new : GuardState) → Guards sees old command text new → List WritingCall
  guard_told old (ask.forget id) text new h = []
  guard_told old (ask.rebalance direct) text new h = away_told old (ask.rebalance direct) text new h
  guard_told old (ask.begin direct) text new h = away_told old (ask.begin direct) text new h
  guard_told old ask.step text new h = away_told old ask.step text new h
  guard_told old command text new h = request_told sees old.runtime (asks command) text new.runtime h.0

  -- what is wanted of a line; one that is bad or empty makes none
  abbrev pub request_guard_told : (old : GuardState) (wanted : Wanted) (text : List ℕ) (new : GuardState) → AnswersRequest (Guards sees) old wanted text new
      → List WritingCall
  request_guard_told old nothing text new none = []
  request_guard_told old bad text new none = []
  request_guard_told old (asks command) text new h = guard_told old command text new h

  -- a line; one that is too long makes none
  abbrev pub line_guard_told : (old : GuardState) (line : Option (List ℕ)) (text : List ℕ) (new : GuardState) → AnswersLine (Guards sees) old line text new
      → List WritingCall
  line_guard_told old None text new none = []
  line_guard_told old (Some line) text new h = request_guard_told old (request_of (words_of line)) text new h

  -- lines, one after another
  abbrev pub lines_guard_told : (old : GuardState) (lines : List (List ℕ)) (text : List ℕ) (new : GuardState) → Runs (Guards sees) old lines text new
      → List WritingCall
  lines_guard_told old [] text new none = []
  lines_guard_told old (line ∷ lines) text new (mid, first, more, answers, rest, is) =
      lines_guard_told mid lines more new rest ++ line_guard_told old (line_kept line) first mid answers

  -- those of the lines that were answered, however the script ended; where a write failed, those of the line that was run too
  abbrev pub script_guard_told : (most : ℕ) (read read' out out' : Option (List ℕ)) (old : GuardState) (end : Result (Unit {0}) ScriptFault) (new : GuardState)
      → EndsBy most (Guards sees) read read' out out' old end new → List WritingCall
  script_guard_told most read read' out out' old (Ok done) new e = lines_guard_told old (lines_of e.input) e.text new e.run
  script_guard_told most read read' out out' old (Err (Read kind)) new (reads, few, e) = lines_guard_told old e.lines e.text new e.run
  script_guard_told most read read' out out' old (Err TooManyReads) new e = lines_guard_told old e.lines e.text new e.run
  script_guard_told most read read' out out' old (Err Write) new e =
      line_guard_told e.mid (line_kept e.line) e.answer new e.answered ++ lines_guard_told old e.before e.text e.mid e.run

  -- however a script ends, the kernel was asked for just what its lines stand for, line by line, in order
  abbrev pub GuardedAreTold : Type 0
  GuardedAreTold = (most : ℕ) (read read' out out' : Option (List ℕ)) (old : GuardState) (end : Result (Unit {0}) ScriptFault) (new : GuardState)
      (ends : EndsBy most (Guards sees) read read' out out' old end new)
      → new.runtime.node.kernel.trace ≡ script_guard_told most read read' out out' old end new ends ++ old.runtime.node.kernel.trace
