-- Command lines in plain words, and what each asks for.
use Rattle.std.specs.Prelude.{◌≡◌, Bool, List, [], ◌∷◌, Some, None, codes, true, false}
use Rattle.cgroup_tree.specs.declared.RootOptions.{RootOptions}
use Rattle.clap.specs.Lexer.{strip_byte}
use Rattle.clap.specs.Words.{Text}
use Rattle.clap.specs.declared.error.kind.ErrorKind.TheVariants.{MissingRequiredArgument}
use Rattle.command_line.specs.Asked.{Asked, asked_for, check, list, run, slit, solve}
use Rattle.command_line.specs.Mistakes.{lacking, mistakes}

-- the word doesn't begin with a hyphen
abbrev pub IsPlain : Text → Type 0
IsPlain word = strip_byte 45 word ≡ None

-- the words have no mistake, and ask for this
pub record Spells (words : List Text) (wanted : Asked) : Type 0 where
  pub asks : asked_for words ≡ wanted
  pub right : mistakes words ≡ []

-- numarun; numarun check; numarun check FILE; and behind `--` any word is a file
pub record CheckSpellings : Type 0 where
  pub nothing : Spells [] (check None)
  pub bare : Spells (codes "check" ∷ []) (check None)
  pub file : (word : Text) → IsPlain word → Spells (codes "check" ∷ word ∷ []) (check (Some word))
  pub escaped : (word : Text) → Spells (codes "check" ∷ codes "--" ∷ word ∷ []) (check (Some word))

-- numarun list TEXT; TEXT may also be a lone hyphen
pub record ListSpellings : Type 0 where
  pub text : (word : Text) → IsPlain word → Spells (codes "list" ∷ word ∷ []) (list word)
  pub hyphen : Spells (codes "list" ∷ codes "-" ∷ []) (list (codes "-"))
  pub escaped : (word : Text) → Spells (codes "list" ∷ codes "--" ∷ word ∷ []) (list word)

-- numarun slit FILE
pub record SlitSpellings : Type 0 where
  pub file : (word : Text) → IsPlain word → Spells (codes "slit" ∷ word ∷ []) (slit word)
  pub escaped : (word : Text) → Spells (codes "slit" ∷ codes "--" ∷ word ∷ []) (slit word)

-- how a tree is opened: with folders of a run before or without, at a partition root or at any root
abbrev pub opened : (adopt partition : Bool) → RootOptions
opened adopt partition = record { adopt = adopt; partition = partition }

-- numarun run MACHINE; with --slit FILE, with --cgroup ROOT, and with --adopt and --partition beside that, behind the machine or
-- before it. Without ROOT --adopt is a mistake, and so is --partition, in whatever words.
pub record RunSpellings : Type 0 where
  pub machine : (word : Text) → IsPlain word → Spells (codes "run" ∷ word ∷ []) (run word None None (opened false false))
  pub escaped : (word : Text) → Spells (codes "run" ∷ codes "--" ∷ word ∷ []) (run word None None (opened false false))
  pub slit_behind : (word table : Text) → IsPlain word → IsPlain table → Spells (codes "run" ∷ word ∷ codes "--slit" ∷ table ∷ []) (run word (Some table) None (opened false false))
  pub slit_before : (word table : Text) → IsPlain word → IsPlain table → Spells (codes "run" ∷ codes "--slit" ∷ table ∷ word ∷ []) (run word (Some table) None (opened false false))
  pub cgroup_behind : (word root : Text) → IsPlain word → IsPlain root → Spells (codes "run" ∷ word ∷ codes "--cgroup" ∷ root ∷ []) (run word None (Some root) (opened false false))
  pub cgroup_before : (word root : Text) → IsPlain word → IsPlain root → Spells (codes "run" ∷ codes "--cgroup" ∷ root ∷ word ∷ []) (run word None (Some root) (opened false false))
  pub adopt_behind : (word root : Text) → IsPlain word → IsPlain root
      → Spells (codes "run" ∷ word ∷ codes "--cgroup" ∷ root ∷ codes "--adopt" ∷ []) (run word None (Some root) (opened true false))
  pub adopt_before : (word root : Text) → IsPlain word → IsPlain root
      → Spells (codes "run" ∷ codes "--adopt" ∷ codes "--cgroup" ∷ root ∷ word ∷ []) (run word None (Some root) (opened true false))
  pub partition_behind : (word root : Text) → IsPlain word → IsPlain root
      → Spells (codes "run" ∷ word ∷ codes "--cgroup" ∷ root ∷ codes "--partition" ∷ []) (run word None (Some root) (opened false true))
  pub partition_before : (word root : Text) → IsPlain word → IsPlain root
      → Spells (codes "run" ∷ codes "--partition" ∷ codes "--cgroup" ∷ root ∷ word ∷ []) (run word None (Some root) (opened false true))
  pub all : (word table root : Text) → IsPlain word → IsPlain table → IsPlain root
      → Spells (codes "run" ∷ word ∷ codes "--slit" ∷ table ∷ codes "--cgroup" ∷ root ∷ codes "--adopt" ∷ codes "--partition" ∷ [])
      (run word (Some table) (Some root) (opened true true))
  pub adopt_alone : (word : Text) → IsPlain word → mistakes (codes "run" ∷ word ∷ codes "--adopt" ∷ []) ≡ MissingRequiredArgument ∷ []
  pub partition_alone : (word : Text) → IsPlain word → mistakes (codes "run" ∷ word ∷ codes "--partition" ∷ []) ≡ MissingRequiredArgument ∷ []
  pub flags_beside : (words : List Text) → mistakes words ≡ [] → lacking (asked_for words) ≡ []

-- numarun solve; numarun solve FILE; and behind `--` any word is a file
pub record SolveSpellings : Type 0 where
  pub bare : Spells (codes "solve" ∷ []) (solve None)
  pub file : (word : Text) → IsPlain word → Spells (codes "solve" ∷ word ∷ []) (solve (Some word))
  pub escaped : (word : Text) → Spells (codes "solve" ∷ codes "--" ∷ word ∷ []) (solve (Some word))
