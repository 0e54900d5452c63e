-- The lines of a script over the runtime alone that a script beside strangers stands for.
use Rattle.std.specs.Prelude.{◌≡◌, ℕ, if◌then◌else◌, List, [], ◌∷◌, ◌++◌, map, codes, Option, Some, None, Result, Ok, Err}
use Rattle.std.specs.List.{flat_map}
use Rattle.cpu_set.specs.Ids.{Ids}
use Rattle.cpu_set.specs.Members.{members}
use Rattle.script.specs.Commands as ask
use Rattle.script.specs.CpuLines.{offline_line, online_line}
use Rattle.script.specs.Ends.{EndsBy}
use Rattle.script.specs.Lines.{line_kept, lines_of, words_of}
use Rattle.script.specs.Requests.{Wanted, asks, request_of}
use Rattle.script.specs.Runs.{Runs}
use Rattle.script.specs.declared.fault.ScriptFault.{ScriptFault}
use Rattle.script.specs.declared.fault.ScriptFault.TheVariants.{Read, TooManyReads, Write}
use Rattle.node.specs.IsNode.{IsNode}
use Rattle.runtime.specs.Answered.{AnsweredWhere}
use Rattle.runtime.specs.ScriptTold.{lines_told}
use Rattle.runtime.specs.RuntimeState.{Told}
use Rattle.strangers.specs.GuardState.{GuardState}
use Rattle.strangers.specs.Guarded.{Guards, knows, withheld}

-- a line, and the text that answers it
abbrev pub Exchange : Type 0
Exchange = List ℕ × List ℕ

-- a CPU goes offline
abbrev pub goes : ℕ → Exchange
goes cpu = (offline_line cpu, codes "ok\n")

-- and it comes online
abbrev pub comes : ℕ → Exchange
comes cpu = (online_line cpu, codes "ok\n")

-- a line behind which these CPUs come online, and before which they go offline, the lowest first
abbrev pub around : Ids → Exchange → List Exchange
around cpus x = map goes (members cpus) ++ (x ∷ map comes (members cpus))

-- what an answered line stands for, by what it asks for: itself; with the CPUs of strangers away if it plans or moves; nothing
-- if it lets go of a stranger
abbrev pub stands_for : GuardState → Exchange → Wanted → List Exchange
stands_for g x (asks (ask.rebalance direct)) = around (withheld g) x
stands_for g x (asks (ask.begin direct)) = around (withheld g) x
stands_for g x (asks ask.step) = around (withheld g) x
stands_for g x (asks (ask.forget id)) = if knows g.strangers id then [] else x ∷ []
stands_for g x wanted = x ∷ []

-- a line that is too long stands for itself
abbrev pub line_stands_for : GuardState → Exchange → (kept : Option (List ℕ)) → List Exchange
line_stands_for g x None = x ∷ []
line_stands_for g x (Some kept) = stands_for g x (request_of (words_of kept))

module _ (sees : Told → List ℕ → Option (List ℕ) → Type 0) where
  -- what lines stand for that were answered beside strangers, one after another
  abbrev pub lines_within : (old : GuardState) (lines : List (List ℕ)) (text : List ℕ) (new : GuardState) → Runs (Guards sees) old lines text new → List Exchange
  lines_within old [] text new run = []
  lines_within old (line ∷ lines) text new (mid, first, more, answers, rest, is) =
      line_stands_for old (line, first) (line_kept line) ++ lines_within mid lines more new rest

  -- those of the lines that were answered, however the script ended; where a write failed, of the line that was run too
  abbrev pub script_within : (most : ℕ) (read read' out out' : Option (List ℕ)) (old : GuardState) (end : Result (Unit {0}) ScriptFault) (new : GuardState)
      → EndsBy most (Guards sees) read read' out out' old end new → List Exchange
  script_within most read read' out out' old (Ok done) new e = lines_within old (lines_of e.input) e.text new e.run
  script_within most read read' out out' old (Err (Read kind)) new (reads, few, e) = lines_within old e.lines e.text new e.run
  script_within most read read' out out' old (Err TooManyReads) new e = lines_within old e.lines e.text new e.run
  script_within most read read' out out' old (Err Write) new e =
      lines_within old e.before e.text e.mid e.run ++ line_stands_for e.mid (e.line, e.answer) (line_kept e.line)

  -- the runtime answered these lines by these texts, one after another, so it went from what it was to what it is now. The kernel
  -- was asked for just what they stand for, line by line, in order.
  pub record IsWithin (old : GuardState) (exchanges : List Exchange) (new : GuardState) : Type 0 where
    pub run : Runs (AnsweredWhere sees) old.runtime (map (λ x. x.0) exchanges) (flat_map (λ x. x.1) exchanges) new.runtime
    pub told :
        new.runtime.node.kernel.trace
        ≡ lines_told sees old.runtime (map (λ x. x.0) exchanges) (flat_map (λ x. x.1) exchanges) new.runtime run ++ old.runtime.node.kernel.trace

  -- what each of these lines stands for led from what there was before the line to what there was behind it
  abbrev pub EachIsWithin : (old : GuardState) (lines : List (List ℕ)) (text : List ℕ) (new : GuardState) → Runs (Guards sees) old lines text new → Type 0
  EachIsWithin old [] text new run = Unit {0}
  EachIsWithin old (line ∷ lines) text new (mid, first, more, answers, rest, is) =
      IsWithin old (line_stands_for old (line, first) (line_kept line)) mid × EachIsWithin mid lines more new rest

  -- so it is with each line of a script
  abbrev pub EachOfScript : (most : ℕ) (read read' out out' : Option (List ℕ)) (old : GuardState) (end : Result (Unit {0}) ScriptFault) (new : GuardState)
      → EndsBy most (Guards sees) read read' out out' old end new → Type 0
  EachOfScript most read read' out out' old (Ok done) new e = EachIsWithin old (lines_of e.input) e.text new e.run
  EachOfScript most read read' out out' old (Err (Read kind)) new (reads, few, e) = EachIsWithin old e.lines e.text new e.run
  EachOfScript most read read' out out' old (Err TooManyReads) new e = EachIsWithin old e.lines e.text new e.run
  EachOfScript most read read' out out' old (Err Write) new e =
      EachIsWithin old e.before e.text e.mid e.run × IsWithin e.mid (line_stands_for e.mid (e.line, e.answer) (line_kept e.line)) new

  -- lines that were answered beside strangers are within the runtime all together, and each of them
  abbrev pub LinesAreWithin : Type 0
  LinesAreWithin = (old new : GuardState) (lines : List (List ℕ)) (text : List ℕ) → IsNode old.runtime.node → (run : Runs (Guards sees) old lines text new)
      → IsWithin old (lines_within old lines text new run) new × EachIsWithin old lines text new run

  -- a script is within the runtime, however it ended: all its lines together, and each of them
  abbrev pub ScriptIsWithin : (most : ℕ) (read read' out out' : Option (List ℕ)) (old : GuardState) (end : Result (Unit {0}) ScriptFault) (new : GuardState)
      → EndsBy most (Guards sees) read read' out out' old end new → Type 0
  ScriptIsWithin most read read' out out' old end new ends =
      IsWithin old (script_within most read read' out out' old end new ends) new × EachOfScript most read read' out out' old end new ends

  -- so it is with each script beside strangers
  abbrev pub ScriptsAreWithin : Type 0
  ScriptsAreWithin = (most : ℕ) (read read' out out' : Option (List ℕ)) (old : GuardState) (end : Result (Unit {0}) ScriptFault) (new : GuardState) → IsNode old.runtime.node
      → (ends : EndsBy most (Guards sees) read read' out out' old end new) → ScriptIsWithin most read read' out out' old end new ends
