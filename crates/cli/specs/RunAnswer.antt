-- What is run of a script, and how its end is told.
use Rattle.std.specs.Prelude.{◌≡◌, ℕ, List, ◌++◌, Option, Some, None, Result}
use Rattle.cgroup_tree.specs.Asked.{Asked, Opening, Stranger}
use Rattle.cgroup_tree.specs.Site.{Site}
use Rattle.node.specs.NodeState.{NodeState}
use Rattle.runtime.specs.Answered.{AnsweredBy}
use Rattle.runtime.specs.Found.{IsSeen}
use Rattle.runtime.specs.MirroredNodes.{IsMirroredNode}
use Rattle.runtime.specs.RuntimeState.{RuntimeState, Told}
use Rattle.script.specs.Ends.{EndsBy}
use Rattle.script.specs.declared.fault.ScriptFault.{ScriptFault}
use Rattle.script.specs.declared.fault.ScriptFault.TheVariants as fault
use Rattle.strangers.specs.GuardState.{GuardState}
use Rattle.strangers.specs.Guarded.{GuardedBy}
use Rattle.strangers.specs.Told.{script_guard_told}
use Rattle.strangers.specs.Within.{ScriptIsWithin}
use Rattle.program_io.specs.ReadFaults.{IsTold}
use Rattle.program_io.specs.declared.fault.ReadFault.{ReadFault}
use Rattle.program_io.specs.declared.fault.ReadFault.TheVariants.{TooManyReads}

-- why the script could not be read; none if an answer could not be written
abbrev pub is_unread : ScriptFault → Option ReadFault → Type 0
is_unread (fault.Read kind) why = (told : ReadFault) × IsTold kind told × (why ≡ Some told)
is_unread fault.TooManyReads why = why ≡ Some TooManyReads
is_unread fault.Write why = why ≡ None

-- the script is run over the node and the bundles, from its first line on, by n reads at most, until this end
abbrev pub Plays : (List ℕ → Option (List ℕ) → Type 0) → ℕ → NodeState → Told → Option (List ℕ) → Option (List ℕ) → Option (List ℕ) → Option (List ℕ) → Result (Unit {0}) ScriptFault → Type 0
Plays finds most n told read read' out out' end =
    (final : RuntimeState) × EndsBy most (AnsweredBy finds) read read' out out' (record { node = n; told = told }) end final

-- a runtime over a node and bundles, beside these folders of a run before
abbrev pub beside : NodeState → Told → List Stranger → GuardState
beside n told strangers = record { runtime = record { node = n; told = told }; strangers = strangers }

-- the script is run over a node whose kernel's writes are made in files too, beside the folders of a run before. At the end all
-- that these files were asked for is what the calls of the node's kernel stand for, in their order, in this place; and this holds
-- of just these calls. The writing calls among them are those that the script's lines stand for, line by line, behind those by
-- which the node began. A line that plans or moves stands for itself, with the CPUs that those folders hold away; so the script is
-- one over the runtime alone, of the lines that each line stands for.
abbrev pub PlaysMirrored : {F : Type 0} → (F → Opening → List Asked → Type 0) → Site → (List Asked → Type 0) → (List ℕ → Option (List ℕ) → Type 0) → ℕ → NodeState → Told → List Stranger → Option (List ℕ) → Option (List ℕ) → Option (List ℕ) → Option (List ℕ) → Result (Unit {0}) ScriptFault → Type 0
PlaysMirrored asked site Leaves finds most n told strangers read read' out out' end =
    (final : GuardState) × (ends : EndsBy most (GuardedBy finds) read read' out out' (beside n told strangers) end final)
    × ((its : IsMirroredNode asked site final.runtime.node) × Leaves its.mirrored.calls)
    × (final.runtime.node.kernel.trace ≡ script_guard_told (IsSeen finds) most read read' out out' (beside n told strangers) end final ends ++ n.kernel.trace)
    × ScriptIsWithin (IsSeen finds) most read read' out out' (beside n told strangers) end final ends
