-- The words behind `run`, one after another.
use Rattle.std.proofs.Common.{◌≡◌, refl, sym, ap, ◌∙◌, [], ◌∷◌, ◌++◌, List, ℕ, Some, None, codes, true, false, rules, append_assoc}
use Rattle.std.proofs.lemmas.List.{append-nil}
use Rattle.std.specs.Prelude.{is_some, fold}
use Rattle.clap.proofs.OnLiterals.{clap_on_literals}
use Rattle.clap.specs.Walk.{Held, Names, Rule, Step, Text, Waiting, Walk, idle, option, positional, word_met, walked, walk, walk_from, nothing_held, plain_word, after_step, rows_after, finished, settled}
use Rattle.clap.specs.Simple.{Shape, built, built_leaf, entered, inherited, marked_built, names_of, subcommand_of, with_leaf_noted}
use Rattle.clap.specs.Faults.{fault_of, check_fault, defaults_fault, entered_fault, level_fault, settle_fault, step_fault, turn_fault, walk_fault, word_fault}
use Rattle.clap.specs.Kinds.{Kinds, or_else}
use Rattle.clap.specs.declared.error.kind.ErrorKind.TheVariants.{MissingRequiredArgument}
use Rattle.command_line.specs.Asked.{Asked, asked_by, asked_for, asked_in, run}
use Rattle.command_line.specs.CommandLine.{numarun, run_command}
use Rattle.command_line.specs.Mistakes.{lacking, mistakes}
use Rattle.command_line.specs.Spellings.{IsPlain, RunSpellings, Spells, opened}
use Rattle.command_line.proofs.ReadWords.{Reads, lacked, no_dashes, spelled}

or_none : (kinds : Kinds) → or_else kinds [] ≡ kinds
or_none [] = refl
or_none (k ∷ ks) = refl

-- a walk that has met a subcommand, and the words behind it
abbrev stopped : Text → List Text → Walk
stopped name words = record { held = nothing_held; waiting = idle; position = 1; is_trailing = false; stopped = Some (name, words) }

stopped_walk : (c : List Rule) (names : Names) (name : Text) (before words : List Text)
    → fold (walked c names) (stopped name before) words ≡ stopped name (before ++ words)
unfolding walked
stopped_walk c names name before [] = ap (λ (b : List Text). stopped name b) (sym (append-nil before))
stopped_walk c names name before (word ∷ words) =
    stopped_walk c names name (before ++ word ∷ []) words ∙ ap (λ (b : List Text). stopped name b) (append_assoc before (word ∷ []) words)

stopped_right : (s : Shape) (names : Names) (name : Text) (before words : List Text) → walk_fault s names (stopped name before) words ≡ []
unfolding walked walk_fault
stopped_right s names name before [] = refl
stopped_right s names name before (word ∷ words) = stopped_right s names name (before ++ word ∷ []) words

abbrev run_shape : Shape
run_shape = built_leaf (inherited (with_leaf_noted (marked_built numarun.top)) run_command)

abbrev start : Walk
start = walk_from nothing_held

run_walk : (words : List Text) → walk (built numarun).top.rules (names_of (built numarun)) nothing_held (codes "run" ∷ words) ≡ stopped (codes "run") words
unfolding clap_on_literals
run_walk words = stopped_walk (built numarun).top.rules (names_of (built numarun)) (codes "run") [] words

run_rows : (words : List Text) → subcommand_of numarun (codes "run" ∷ words) ≡ Some (codes "run", rows_after run_shape.rules [] words)
run_rows words = ap (λ (w : Walk). entered (built numarun) w.stopped) (run_walk words)

abbrev faults_at : Walk → Kinds → Kinds
faults_at w walking =
    or_else walking (or_else (entered_fault (built numarun) w.stopped)
    (or_else (settle_fault (built numarun).top.rules false w.held)
    (or_else (defaults_fault (settled (built numarun).top.rules w.held).rows (built numarun).top.rules)
    (check_fault (built numarun).top (finished (built numarun).top.rules w.held) (is_some (entered (built numarun) w.stopped))))))

run_right : (words : List Text) → walk_fault (built numarun).top (names_of (built numarun)) start (codes "run" ∷ words) ≡ []
unfolding clap_on_literals
run_right words = stopped_right (built numarun).top (names_of (built numarun)) (codes "run") [] words

run_fault : (words : List Text) → fault_of numarun (codes "run" ∷ words) ≡ level_fault run_shape [] nothing_held words false []
unfolding defaults_fault
run_fault words =
    ap (λ (w : Walk). faults_at w (walk_fault (built numarun).top (names_of (built numarun)) start (codes "run" ∷ words))) (run_walk words)
    ∙ ap (λ (k : Kinds). faults_at (stopped (codes "run") words) k) (run_right words)
    ∙ or_none (level_fault run_shape [] nothing_held words false [])

-- these words lead the walk from here to there, without a mistake
record Walks (w : Walk) (words : List Text) (end : Walk) : Type 0 where
  ends : fold (walked run_shape.rules []) w words ≡ end
  right : walk_fault run_shape [] w words ≡ []

at_end : (w : Walk) → Walks w [] w
unfolding walk_fault
at_end w = record { ends = refl; right = refl }

-- one word more
by_word : (w next end : Walk) (word : Text) (rest : List Text) → walked run_shape.rules [] w word ≡ next → turn_fault run_shape [] w word ≡ []
    → Walks next rest end → Walks w (word ∷ rest) end
unfolding walk_fault
by_word w next end word rest goes right more = record {
  ends = ap (λ (x : Walk). fold (walked run_shape.rules []) x rest) goes ∙ more.ends;
  right = ap (λ (k : Kinds). or_else k (walk_fault run_shape [] (walked run_shape.rules [] w word) rest)) right
      ∙ ap (λ (x : Walk). walk_fault run_shape [] x rest) goes ∙ more.right;
}

abbrev after_plain : Walk → Text → Walk
after_plain w word = let met = plain_word run_shape.rules w.waiting word w.held in after_step run_shape.rules word w met.0 met.1

-- a walk that goes on
abbrev going : Held → Waiting → ℕ → Walk
going h waiting position = record { held = h; waiting = waiting; position = position; is_trailing = false; stopped = None }

-- a word that begins with no hyphen is the value of the option that waits, or goes to a place
plain_met : (c : List Rule) (h : Held) (waiting : Waiting) (position : ℕ) (word : Text) → IsPlain word
    → word_met c [] false waiting position word h ≡ plain_word c waiting word h
plain_met c h idle position [] plain = refl
plain_met c h (option id) position [] plain = refl
plain_met c h positional position [] plain = refl
plain_met c h idle position (x ∷ xs) plain = let other = no_dashes (x ∷ xs) plain in simp (other, plain)
plain_met c h (option id) position (x ∷ xs) plain = let other = no_dashes (x ∷ xs) plain in simp (other, plain)
plain_met c h positional position (x ∷ xs) plain = let other = no_dashes (x ∷ xs) plain in simp (other, plain)

plain_right : (s : Shape) (h : Held) (waiting : Waiting) (word : Text) → IsPlain word → word_fault s [] false waiting word h ≡ []
plain_right s h idle [] plain = refl
plain_right s h (option id) [] plain = refl
plain_right s h positional [] plain = refl
plain_right s h idle (x ∷ xs) plain = let other = no_dashes (x ∷ xs) plain in simp (other, plain)
plain_right s h (option id) (x ∷ xs) plain = let other = no_dashes (x ∷ xs) plain in simp (other, plain)
plain_right s h positional (x ∷ xs) plain = let other = no_dashes (x ∷ xs) plain in simp (other, plain)

-- one such word more
by_plain : (h : Held) (waiting : Waiting) (position : ℕ) (end : Walk) (word : Text) (rest : List Text) → IsPlain word
    → (let met = plain_word run_shape.rules waiting word h in step_fault run_shape position met.0 met.1) ≡ []
    → Walks (after_plain (going h waiting position) word) rest end → Walks (going h waiting position) (word ∷ rest) end
unfolding walked
by_plain h waiting position end word rest plain right more =
    let met = plain_met run_shape.rules h waiting position word plain in
    by_word (going h waiting position) (after_plain (going h waiting position) word) end word rest
    (ap (λ (m : Held × Step). after_step run_shape.rules word (going h waiting position) m.0 m.1) met)
    (ap (λ (k : Kinds). or_else k (let m = word_met run_shape.rules [] false waiting position word h in step_fault run_shape position m.0 m.1)) (plain_right run_shape h waiting word plain)
    ∙ ap (λ (m : Held × Step). step_fault run_shape position m.0 m.1) met ∙ right)
    more

-- the mistakes behind the last word
abbrev faults_behind : Walk → Kinds
faults_behind end =
    or_else (settle_fault run_shape.rules false end.held)
    (or_else (defaults_fault (settled run_shape.rules end.held).rows run_shape.rules) (check_fault run_shape (finished run_shape.rules end.held) false))

read : (words : List Text) (end : Walk) (wanted : Asked) → Walks start words end → asked_by (codes "run", finished run_shape.rules end.held) ≡ wanted
    → faults_behind end ≡ [] → Reads (codes "run" ∷ words) wanted []
read words end wanted walks same right = record {
  asks = ap asked_in (run_rows words) ∙ ap (λ (w : Walk). asked_by (codes "run", finished run_shape.rules w.held)) walks.ends ∙ same;
  faulty = run_fault words
      ∙ ap (λ (k : Kinds). or_else k (faults_behind (walk run_shape.rules [] nothing_held words))) walks.right
      ∙ ap faults_behind walks.ends ∙ right;
}

-- what these words read as, and that nothing is wrong with them
spells : (words : List Text) (end : Walk) (wanted : Asked) → Walks start words end → asked_by (codes "run", finished run_shape.rules end.held) ≡ wanted
    → faults_behind end ≡ [] → lacking wanted ≡ [] → Spells (codes "run" ∷ words) wanted
spells words end wanted walks same right enough = spelled (codes "run") words wanted enough (read words end wanted walks same right)

run_machine : (word : Text) → IsPlain word → Spells (codes "run" ∷ word ∷ []) (run word None None (opened false false))
unfolding clap_on_literals
run_machine word plain = spells (word ∷ []) _ _ (by_plain _ _ _ _ word _ plain refl (at_end _)) refl refl refl

run_escaped : (word : Text) → Spells (codes "run" ∷ codes "--" ∷ word ∷ []) (run word None None (opened false false))
unfolding clap_on_literals
run_escaped word = record { asks = refl; right = refl }

run_slit_behind : (word table : Text) → IsPlain word → IsPlain table → Spells (codes "run" ∷ word ∷ codes "--slit" ∷ table ∷ []) (run word (Some table) None (opened false false))
unfolding clap_on_literals
run_slit_behind word table plain plain' =
    spells (word ∷ codes "--slit" ∷ table ∷ []) _ _
    (by_plain _ _ _ _ word _ plain refl (by_word _ _ _ (codes "--slit") _ refl refl (by_plain _ _ _ _ table _ plain' refl (at_end _)))) refl refl refl

run_slit_before : (word table : Text) → IsPlain word → IsPlain table → Spells (codes "run" ∷ codes "--slit" ∷ table ∷ word ∷ []) (run word (Some table) None (opened false false))
unfolding clap_on_literals
run_slit_before word table plain plain' =
    spells (codes "--slit" ∷ table ∷ word ∷ []) _ _
    (by_word _ _ _ (codes "--slit") _ refl refl (by_plain _ _ _ _ table _ plain' refl (by_plain _ _ _ _ word _ plain refl (at_end _)))) refl refl refl

run_cgroup_behind : (word root : Text) → IsPlain word → IsPlain root → Spells (codes "run" ∷ word ∷ codes "--cgroup" ∷ root ∷ []) (run word None (Some root) (opened false false))
unfolding clap_on_literals
run_cgroup_behind word root plain plain' =
    spells (word ∷ codes "--cgroup" ∷ root ∷ []) _ _
    (by_plain _ _ _ _ word _ plain refl (by_word _ _ _ (codes "--cgroup") _ refl refl (by_plain _ _ _ _ root _ plain' refl (at_end _)))) refl refl refl

run_cgroup_before : (word root : Text) → IsPlain word → IsPlain root → Spells (codes "run" ∷ codes "--cgroup" ∷ root ∷ word ∷ []) (run word None (Some root) (opened false false))
unfolding clap_on_literals
run_cgroup_before word root plain plain' =
    spells (codes "--cgroup" ∷ root ∷ word ∷ []) _ _
    (by_word _ _ _ (codes "--cgroup") _ refl refl (by_plain _ _ _ _ root _ plain' refl (by_plain _ _ _ _ word _ plain refl (at_end _)))) refl refl refl

run_adopt_behind : (word root : Text) → IsPlain word → IsPlain root
    → Spells (codes "run" ∷ word ∷ codes "--cgroup" ∷ root ∷ codes "--adopt" ∷ []) (run word None (Some root) (opened true false))
unfolding clap_on_literals
run_adopt_behind word root plain plain' =
    spells (word ∷ codes "--cgroup" ∷ root ∷ codes "--adopt" ∷ []) _ _
    (by_plain _ _ _ _ word _ plain refl (by_word _ _ _ (codes "--cgroup") _ refl refl (by_plain _ _ _ _ root _ plain' refl
    (by_word _ _ _ (codes "--adopt") _ refl refl (at_end _))))) refl refl refl

run_adopt_before : (word root : Text) → IsPlain word → IsPlain root
    → Spells (codes "run" ∷ codes "--adopt" ∷ codes "--cgroup" ∷ root ∷ word ∷ []) (run word None (Some root) (opened true false))
unfolding clap_on_literals
run_adopt_before word root plain plain' =
    spells (codes "--adopt" ∷ codes "--cgroup" ∷ root ∷ word ∷ []) _ _
    (by_word _ _ _ (codes "--adopt") _ refl refl (by_word _ _ _ (codes "--cgroup") _ refl refl (by_plain _ _ _ _ root _ plain' refl
    (by_plain _ _ _ _ word _ plain refl (at_end _))))) refl refl refl

run_partition_behind : (word root : Text) → IsPlain word → IsPlain root
    → Spells (codes "run" ∷ word ∷ codes "--cgroup" ∷ root ∷ codes "--partition" ∷ []) (run word None (Some root) (opened false true))
unfolding clap_on_literals
run_partition_behind word root plain plain' =
    spells (word ∷ codes "--cgroup" ∷ root ∷ codes "--partition" ∷ []) _ _
    (by_plain _ _ _ _ word _ plain refl (by_word _ _ _ (codes "--cgroup") _ refl refl (by_plain _ _ _ _ root _ plain' refl
    (by_word _ _ _ (codes "--partition") _ refl refl (at_end _))))) refl refl refl

run_partition_before : (word root : Text) → IsPlain word → IsPlain root
    → Spells (codes "run" ∷ codes "--partition" ∷ codes "--cgroup" ∷ root ∷ word ∷ []) (run word None (Some root) (opened false true))
unfolding clap_on_literals
run_partition_before word root plain plain' =
    spells (codes "--partition" ∷ codes "--cgroup" ∷ root ∷ word ∷ []) _ _
    (by_word _ _ _ (codes "--partition") _ refl refl (by_word _ _ _ (codes "--cgroup") _ refl refl (by_plain _ _ _ _ root _ plain' refl
    (by_plain _ _ _ _ word _ plain refl (at_end _))))) refl refl refl

run_all : (word table root : Text) → IsPlain word → IsPlain table → IsPlain root
    → Spells (codes "run" ∷ word ∷ codes "--slit" ∷ table ∷ codes "--cgroup" ∷ root ∷ codes "--adopt" ∷ codes "--partition" ∷ [])
    (run word (Some table) (Some root) (opened true true))
unfolding clap_on_literals
run_all word table root plain plain' plain'' =
    spells (word ∷ codes "--slit" ∷ table ∷ codes "--cgroup" ∷ root ∷ codes "--adopt" ∷ codes "--partition" ∷ []) _ _
    (by_plain _ _ _ _ word _ plain refl (by_word _ _ _ (codes "--slit") _ refl refl (by_plain _ _ _ _ table _ plain' refl
    (by_word _ _ _ (codes "--cgroup") _ refl refl (by_plain _ _ _ _ root _ plain'' refl (by_word _ _ _ (codes "--adopt") _ refl refl
    (by_word _ _ _ (codes "--partition") _ refl refl (at_end _)))))))) refl refl refl

run_adopt_alone : (word : Text) → IsPlain word → mistakes (codes "run" ∷ word ∷ codes "--adopt" ∷ []) ≡ MissingRequiredArgument ∷ []
unfolding clap_on_literals
run_adopt_alone word plain =
    lacked (codes "run") (word ∷ codes "--adopt" ∷ []) (run word None None (opened true false))
    (read (word ∷ codes "--adopt" ∷ []) _ _ (by_plain _ _ _ _ word _ plain refl (by_word _ _ _ (codes "--adopt") _ refl refl (at_end _))) refl refl)

run_partition_alone : (word : Text) → IsPlain word → mistakes (codes "run" ∷ word ∷ codes "--partition" ∷ []) ≡ MissingRequiredArgument ∷ []
unfolding clap_on_literals
run_partition_alone word plain =
    lacked (codes "run") (word ∷ codes "--partition" ∷ []) (run word None None (opened false true))
    (read (word ∷ codes "--partition" ∷ []) _ _ (by_plain _ _ _ _ word _ plain refl (by_word _ _ _ (codes "--partition") _ refl refl (at_end _))) refl refl)

-- where nothing is wrong, nothing lacks
none_behind : (kinds other : Kinds) → or_else kinds other ≡ [] → other ≡ []
none_behind [] other none = none
none_behind (k ∷ ks) other none = cc

run_flags_beside : (words : List Text) → mistakes words ≡ [] → lacking (asked_for words) ≡ []
run_flags_beside [] none = refl
run_flags_beside (word ∷ rest) none = none_behind (fault_of numarun (word ∷ rest)) (lacking (asked_for (word ∷ rest))) none

pub run_spelled : RunSpellings
run_spelled = record {
  machine = run_machine;
  escaped = run_escaped;
  slit_behind = run_slit_behind;
  slit_before = run_slit_before;
  cgroup_behind = run_cgroup_behind;
  cgroup_before = run_cgroup_before;
  adopt_behind = run_adopt_behind;
  adopt_before = run_adopt_before;
  partition_behind = run_partition_behind;
  partition_before = run_partition_before;
  all = run_all;
  adopt_alone = run_adopt_alone;
  partition_alone = run_partition_alone;
  flags_beside = run_flags_beside;
}
