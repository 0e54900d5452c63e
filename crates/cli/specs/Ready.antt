-- What is ready before a script begins: the machine of a file, perhaps with a distance table beside it.
use Rattle.std.specs.Prelude.{◌≡◌, ◌≢◌, ◌⊎◌, ℕ, List, Option, Some, None, Result, Ok, Err}
use Rattle.std.specs.declared.io.ErrorKind.{ErrorKind}
use Rattle.machine.specs.Layout.{Layout}
use Rattle.machine.specs.MachineOf.{machine_of, text_fault}
use Rattle.machine.specs.declared.fault.MachineFault.TheVariants.{NotJson}
use Rattle.slit.specs.Table.{Table}
use Rattle.answers.specs.Answer.{AnswersInput}
use Rattle.cli.specs.Defects.{IsDefectOf}
use Rattle.program_io.specs.FaultRefusal.{read_refusal}
use Rattle.program_io.specs.Readings.{IsUnopened, Reading}
use Rattle.answers.specs.SlitAnswer.{IsTableOrRefusal}
use Rattle.program_io.specs.declared.fault.ReadFault.{ReadFault}
use Rattle.program_io.specs.declared.refusal.Refusal.{Refusal}
use Rattle.program_io.specs.declared.refusal.Refusal.TheVariants as refusal
use Rattle.cli.specs.declared.defect.Defect.{Defect}
use Rattle.cli.specs.declared.unready.Unready.{Unready}
use Rattle.cli.specs.declared.unready.Unready.TheVariants as unready
use Rattle.faults.specs.declared.or_memory.OrMemory.{OrMemory}

-- the machine file is no JSON object of its size
abbrev pub not_json : Refusal
not_json = refusal.Machine NotJson

abbrev pub refusal_of : Unready → Refusal
refusal_of (unready.Machine why) = why
refusal_of (unready.NotJson defect) = not_json
refusal_of (unready.Slit why) = why

-- the machine that the text describes beside the table, or what is wrong with the text; an allocation failure only if no
-- fault shows before it is read as JSON
abbrev pub IsReady : Option Table → List ℕ → Result Layout Refusal → Type 0
IsReady table text (Ok m) = machine_of table text ≡ Ok m
IsReady table text (Err (refusal.Machine fault)) = machine_of table text ≡ Err fault
IsReady table text (Err refusal.Memory) = text_fault text ≡ None
IsReady table text (Err _) = ⊥

-- of open inputs of a machine file and of a table, if there is one
module _ {I : Type 0} (gives : I → Reading → Type 0) where
  -- the table that the input holds
  abbrev pub IsTableIn : Option I → Option Table → Type 0
  IsTableIn None found = found ≡ None
  IsTableIn (Some input) found = (t : Table) × (found ≡ Some t) × AnswersInput IsTableOrRefusal (gives input) (Ok t)

  -- why it holds none
  abbrev pub IsBadTable : Option I → Refusal → Type 0
  IsBadTable None why = ⊥
  IsBadTable (Some input) why = AnswersInput IsTableOrRefusal (gives input) (Err why)

  -- from open inputs: the machine file was read, and then the table
  abbrev pub LeadsTo : I → Option I → Result Layout Refusal → Type 0
  LeadsTo machine table answer = (text : List ℕ) × gives machine (Ok text) × ((found : Option Table) × IsTableIn table found × IsReady found text answer)

  -- likewise, and the machine file is no JSON object of its size, for this
  abbrev pub LeadsNowhere : I → Option I → Defect → Type 0
  LeadsNowhere machine table defect =
      (text : List ℕ) × gives machine (Ok text) × IsDefectOf text defect × ((found : Option Table) × IsTableIn table found × IsReady found text (Err not_json))

  -- the machine file can't be read
  abbrev pub IsUnread : I → Refusal → Type 0
  IsUnread machine why = (e : OrMemory ReadFault) × gives machine (Err e) × (why ≡ read_refusal e)

  -- the machine that the two lead to; or, in this order, the machine file can't be read, the table is refused, or the machine
  -- is
  abbrev pub Readies : I → Option I → Result Layout Unready → Type 0
  Readies machine table (Ok m) = LeadsTo machine table (Ok m)
  Readies machine table (Err (unready.Slit why)) = ((text : List ℕ) × gives machine (Ok text)) × IsBadTable table why
  Readies machine table (Err (unready.Machine why)) = IsUnread machine why ⊎ (LeadsTo machine table (Err why) × (why ≢ not_json))
  Readies machine table (Err (unready.NotJson defect)) = LeadsNowhere machine table defect

-- of files by their names
module _ {S I : Type 0} (opens : S → I → Type 0) (fails : S → ErrorKind → Type 0) (gives : I → Reading → Type 0) where
  -- a file can't be opened, which is this refusal
  abbrev pub IsClosed : S → Refusal → Type 0
  IsClosed name why = (fault : ReadFault) × IsUnopened opens fails gives name fault × (why ≡ refusal.ReadFault fault)

  -- the machine file is open, and so is the table's, if there is one; or that can't be opened
  abbrev pub SetsUpBeside : I → Option S → Result Layout Unready → Type 0
  SetsUpBeside machine None result = Readies gives machine None result
  SetsUpBeside machine (Some name) result =
      ((table : I) × opens name table × Readies gives machine (Some table) result)
      ⊎ ((why : Refusal) × IsClosed name why × (result ≡ Err (unready.Slit why)))

  -- from files: both are opened, the machine's first, and then read
  abbrev pub SetsUp : S → Option S → Result Layout Unready → Type 0
  SetsUp name table result =
      ((machine : I) × opens name machine × SetsUpBeside machine table result)
      ⊎ ((why : Refusal) × IsClosed name why × (result ≡ Err (unready.Machine why)))
