-- What the program does: which bytes go to which stream, and its exit status.
use Rattle.std.specs.Prelude.{◌≡◌, ◌⊎◌, ℕ, ◌-◌, ◌^◌, List, [], ◌++◌, Bool, Option, Some, None, Result, Ok, Err, unwrap_or}
use Rattle.std.specs.declared.io.ErrorKind.{ErrorKind as SystemKind}
use Rattle.cgroup_tree.specs.Asked.{Asked as FileCall, Asks, HandsBack, Opening, Stranger}
use Rattle.cgroup_tree.specs.Roots.{AnswersRoot, Finding, RootTells}
use Rattle.cgroup_tree.specs.Site.{Site}
use Rattle.cgroup_tree.specs.declared.RootOptions.{RootOptions}
use Rattle.clap.specs.Words.{IsAmong, Text}
use Rattle.clap.specs.declared.error.kind.ErrorKind.{ErrorKind}
use Rattle.clap.specs.declared.error.kind.ErrorKind.TheVariants.{DisplayHelp, DisplayVersion, OutOfMemory}
use Rattle.cpu_set.specs.Ids.{Ids}
use Rattle.faults.specs.declared.OrMemory.{OrMemory}
use Rattle.kernel_model.specs.declared.KernelFault.{KernelFault}
use Rattle.machine.specs.Layout.{Layout}
use Rattle.machine.specs.Nodes.{nodes_of}
use Rattle.node.specs.NodeState.{NodeState}
use Rattle.runtime.specs.Boots.{Boots}
use Rattle.runtime.specs.MirroredNodes.{BootsNot, site_of}
use Rattle.runtime.specs.RuntimeState.{Told}
use Rattle.script.specs.declared.running.TheConstants.{MOST_READS}
use Rattle.script.specs.declared.fault.ScriptFault.{ScriptFault}
use Rattle.command_line.specs.Asked.{Asked, asked_for, check, list, run, slit, solve}
use Rattle.cli.specs.Defects.{defect_line}
use Rattle.command_line.specs.Mistakes.{mistakes}
use Rattle.answers.specs.Named.{name_of, reads_named}
use Rattle.answers.specs.Notes.{note_of, shown, standard_input, unread_line, unwritten_line}
use Rattle.program_io.specs.Pages.{TakesIfRoom, contents_of}
use Rattle.program_io.specs.Readings.{Reading, Reads}
use Rattle.cli.specs.Ready.{SetsUp, refusal_of}
use Rattle.cli.specs.Roots.{IsNotRooted, root_line, root_note, unrooted_of}
use Rattle.program_io.specs.RefusalLine.{refusal_line}
use Rattle.cli.specs.RunAnswer.{Plays, PlaysMirrored, is_unread}
use Rattle.answers.specs.Says.{Complains, Says}
use Rattle.answers.specs.Tells.{Checks, Lists, Solves, Tabulates}
use Rattle.answers.specs.declared.console.Console.{Console}
use Rattle.program_io.specs.declared.fault.ReadFault.{ReadFault}
use Rattle.program_io.specs.declared.refusal.Refusal.TheVariants as refusal
use Rattle.cli.specs.declared.unready.Unready.{Unready}
use Rattle.cli.specs.declared.unrooted.Unrooted.{Unrooted}
use Rattle.cli.specs.declared.unready.Unready.TheVariants as unready

-- the words ask for the help or for the version
abbrev pub IsRequest : ErrorKind → Type 0
IsRequest kind = (kind ≡ DisplayHelp) ⊎ (kind ≡ DisplayVersion)

-- what standard error says beside the refusal of the machine file or of the table
abbrev pub note_in : Text → Option Text → Unready → List ℕ
note_in machine table (unready.Machine why) = note_of machine why
note_in machine table (unready.NotJson defect) = defect_line machine defect
note_in machine table (unready.Slit why) = note_of (unwrap_or table []) why

-- the streams where the script ended and at the end of the program
module _ {W E : Type 0} (out : W → Option (List ℕ)) (err : E → Option (List ℕ)) (mid new : Console W E) (status : ℕ) where
  -- the last answer went out and the status is 0; or a last line says that the script can't be read, and why, and the status
  -- is 1; or an answer could not be written
  abbrev pub Finishes : Result (Unit {0}) ScriptFault → Type 0
  Finishes (Ok done) = Says out err mid new status [] 0 []
  Finishes (Err end) =
      ((why : ReadFault) × is_unread end (Some why) × Says out err mid new status (refusal_line (refusal.ReadFault why)) 1 (unread_line standard_input why))
      ⊎ (is_unread end None × (status ≡ 1) × (new.out ≡ mid.out) × TakesIfRoom err mid.err new.err unwritten_line)

-- the two streams before and after, as far as their bytes are known, and the exit status
module _ {W E : Type 0} (out : W → Option (List ℕ)) (err : E → Option (List ℕ)) (old new : Console W E) (status : ℕ) where
  -- the script was run over the node and the bundles, by n reads at most
  abbrev pub Performs : (Text → Option Text → Type 0) → ℕ → NodeState → Told → Option (List ℕ) → Option (List ℕ) → Type 0
  Performs finds most n told script script' = (mid : Console W E) × (end : Result (Unit {0}) ScriptFault)
      × Plays finds most n told script script' (contents_of out old.out) (contents_of out mid.out) end × (mid.err ≡ old.err) × Finishes out err mid new status end

  -- the script was run so over a node whose kernel's writes are made in files too, beside the folders of a run before; and this
  -- holds of what the files were asked for
  abbrev pub PerformsMirrored : {F : Type 0} → (F → Opening → List FileCall → Type 0) → Site → (List FileCall → Type 0) → (Text → Option Text → Type 0) → ℕ → NodeState → Told → List Stranger → Option (List ℕ) → Option (List ℕ) → Type 0
  PerformsMirrored asked site Leaves finds most n told strangers script script' = (mid : Console W E) × (end : Result (Unit {0}) ScriptFault)
      × PlaysMirrored asked site Leaves finds most n told strangers script script' (contents_of out old.out) (contents_of out mid.out) end × (mid.err ≡ old.err) × Finishes out err mid new status end

  -- one of the two files is refused
  abbrev pub Refuses : Text → Option Text → Unready → Type 0
  Refuses machine table why = Says out err old new status (refusal_line (refusal_of why)) 1 (note_in machine table why)

  -- the allocation of a node failed
  abbrev pub LacksRoom : Type 0
  LacksRoom = Says out err old new status (refusal_line refusal.Memory) 1 []

  -- the root is refused
  abbrev pub RefusesRoot : Text → Unrooted → Type 0
  RefusesRoot root why = Says out err old new status (root_line why) 1 (root_note root why)

  -- the script was run over a new node of the machine, whose kernel's writes are made in this place too; or its group can't
  -- be made there, and no byte of the script was read. This holds of what the files were asked for.
  abbrev pub ScriptsMirroredAt : {F : Type 0} → (F → Opening → List FileCall → Type 0) → Layout → Site → (List FileCall → Type 0) → (Text → Option Text → Type 0) → Told → List Stranger → Option (List ℕ) → Option (List ℕ) → Type 0
  ScriptsMirroredAt asked m site Leaves finds told strangers script script' =
      ((n : NodeState) × Boots m n × PerformsMirrored asked site Leaves finds (2 ^ 64 - 1) n told strangers script script')
      ⊎ ((error : OrMemory KernelFault) × BootsNot asked site m error Leaves × Says out err old new status (root_line (unrooted_of error)) 1 [] × (script' ≡ script))

  -- the files that may be opened under a name, the errors by which that may fail, and what the reading of one may answer
  module _ {I : Type 0} (opens : Text → I → Type 0) (fails : Text → SystemKind → Type 0) (gives : I → Reading → Type 0) where
    -- what a run prints. The script was run over a new node of the machine of these files; or its allocation failed, or one
    -- of the files is refused, and no byte of the script was read.
    abbrev pub Scripts : (Text → Option Text → Type 0) → Told → Option (List ℕ) → Option (List ℕ) → Text → Option Text → Type 0
    Scripts sees told script script' machine table =
        ((m : Layout) × SetsUp opens fails gives machine table (Ok m)
        × (((n : NodeState) × Boots m n × Performs sees MOST_READS n told script script') ⊎ (LacksRoom × (script' ≡ script))))
        ⊎ ((why : Unready) × SetsUp opens fails gives machine table (Err why) × Refuses machine table why × (script' ≡ script))

    -- what the files of a cgroup tree were asked for, and what a look at a path may find; what was asked of trees, before and after
    module _ {F T : Type 0} (asked : F → Opening → List FileCall → Type 0) (finds : Text → Finding → Type 0) (asked_of : T → Bool → List FileCall → Type 0) (trees trees' : T) where
      -- nothing was asked of any tree
      abbrev pub Unasked : Type 0
      Unasked = Asks asked_of trees [] trees'

      -- the same as `Scripts` in a cgroup tree, below the root that is named, opened by these options; or the root is refused.
      -- What was asked of trees is what the root was opened by, and then what the node's kernel asked for. If a file is refused
      -- nothing was asked. If the root or a file is refused no byte of the script was read.
      abbrev pub ScriptsMirrored : (Text → Option Text → Type 0) → Told → Option (List ℕ) → Option (List ℕ) → Text → Option Text → Text → RootOptions → Type 0
      ScriptsMirrored sees told script script' machine table root options =
          ((m : Layout) × SetsUp opens fails gives machine table (Ok m)
          × (((found : Ids × List Stranger) × AnswersRoot finds root m.online (nodes_of m) options.partition options.adopt (Ok found)
          × ((opened : List FileCall) × RootTells finds root m.online (nodes_of m) options.adopt (Ok found) opened
          × ScriptsMirroredAt asked m (site_of m root found.0 options) (λ calls. HandsBack asked_of trees (calls ++ opened) trees') sees told found.1 script script'))
          ⊎ ((why : Unrooted) × IsNotRooted finds root options m why (λ calls. Asks asked_of trees calls trees') × RefusesRoot root why × (script' ≡ script))))
          ⊎ ((why : Unready) × SetsUp opens fails gives machine table (Err why) × Refuses machine table why × (script' ≡ script) × Unasked)

      -- what is asked for is done, over these files, these bundles, and what the reading of standard input may answer. Of trees
      -- nothing is asked, unless a script is run in one.
      abbrev pub Does : (Text → Option Text → Type 0) → (Reading → Type 0) → Option (List ℕ) → Asked → Type 0
      Does sees input script (check file) = Checks out err old new status (reads_named (Reads opens fails gives) input (name_of file)) (shown (name_of file)) × Unasked
      Does sees input script (list text) = Lists out err old new status text × Unasked
      Does sees input script (slit file) = Tabulates out err old new status (reads_named (Reads opens fails gives) input file) (shown file) × Unasked
      Does sees input script (run machine table None options) = ((script' : Option (List ℕ)) × Scripts sees None script script' machine table) × Unasked
      Does sees input script (run machine table (Some root) options) = (script' : Option (List ℕ)) × ScriptsMirrored sees None script script' machine table root options
      Does sees input script (solve file) = Solves out err old new status (reads_named (Reads opens fails gives) input (name_of file)) (shown (name_of file)) × Unasked

  -- the help or the version goes to standard output with status 0, and what a mistake is to standard error with
  -- status 2; clap's contracts don't tell the text
  abbrev pub Explains : ErrorKind → Type 0
  Explains kind = (text : List ℕ) × (IsRequest kind → Says out err old new status text 0 []) × ((IsRequest kind → ⊥) → Complains out err old new status text)

  -- an allocation for the words failed
  abbrev pub LacksMemory : Type 0
  LacksMemory = Says out err old new status (refusal_line refusal.Memory) 2 []

  -- a mistake of this kind is explained, or an allocation for its text failed
  abbrev pub ExplainsOrLacks : Type 0 → ErrorKind → Type 0
  ExplainsOrLacks lacks kind = Explains kind ⊎ (lacks × LacksMemory)

  -- what the program does with words: they are obeyed; or explained, or an allocation failed while they were parsed, and
  -- nothing was asked of any tree
  abbrev pub Runs : (List Text → ErrorKind → Type 0) → (lacks unasked : Type 0) → (Asked → Type 0) → List Text → Type 0
  Runs fails lacks unasked does words =
      ((mistakes words ≡ []) × does (asked_for words))
      ⊎ ((((kind : ErrorKind) × IsAmong kind (mistakes words) × fails words kind × ExplainsOrLacks lacks kind)
      ⊎ (fails words OutOfMemory × LacksMemory)) × unasked)
