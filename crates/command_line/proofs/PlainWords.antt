-- Command lines in plain words, computed.
use Rattle.std.proofs.Common.{[], ◌∷◌, Some, None, codes, refl}
use Rattle.clap.proofs.OnLiterals.{clap_on_literals}
use Rattle.clap.specs.Words.{Text}
use Rattle.command_line.specs.Asked.{check, list, slit, solve}
use Rattle.command_line.specs.Spellings.{CheckSpellings, IsPlain, ListSpellings, SlitSpellings, SolveSpellings, Spells}
use Rattle.command_line.proofs.ReadWords.{no_dashes, spelled}

check_file : (word : Text) → IsPlain word → Spells (codes "check" ∷ word ∷ []) (check (Some word))
unfolding clap_on_literals
check_file word plain = let other = no_dashes word plain in spelled _ _ _ refl (record { asks = simp (other, plain); faulty = simp (other, plain) })

check_escaped : (word : Text) → Spells (codes "check" ∷ codes "--" ∷ word ∷ []) (check (Some word))
unfolding clap_on_literals
check_escaped word = spelled _ _ _ refl (record { asks = refl; faulty = refl })

check_bare : Spells (codes "check" ∷ []) (check None)
unfolding clap_on_literals
check_bare = spelled _ _ _ refl (record { asks = refl; faulty = refl })

pub check_spelled : CheckSpellings
check_spelled = record {
  nothing = record { asks = refl; right = refl };
  bare = check_bare;
  file = check_file;
  escaped = check_escaped;
}

list_text : (word : Text) → IsPlain word → Spells (codes "list" ∷ word ∷ []) (list word)
unfolding clap_on_literals
list_text word plain = let other = no_dashes word plain in spelled _ _ _ refl (record { asks = simp (other, plain); faulty = simp (other, plain) })

list_hyphen : Spells (codes "list" ∷ codes "-" ∷ []) (list (codes "-"))
unfolding clap_on_literals
list_hyphen = spelled _ _ _ refl (record { asks = refl; faulty = refl })

list_escaped : (word : Text) → Spells (codes "list" ∷ codes "--" ∷ word ∷ []) (list word)
unfolding clap_on_literals
list_escaped word = spelled _ _ _ refl (record { asks = refl; faulty = refl })

pub list_spelled : ListSpellings
list_spelled = record { text = list_text; hyphen = list_hyphen; escaped = list_escaped }

slit_file : (word : Text) → IsPlain word → Spells (codes "slit" ∷ word ∷ []) (slit word)
unfolding clap_on_literals
slit_file word plain = let other = no_dashes word plain in spelled _ _ _ refl (record { asks = simp (other, plain); faulty = simp (other, plain) })

slit_escaped : (word : Text) → Spells (codes "slit" ∷ codes "--" ∷ word ∷ []) (slit word)
unfolding clap_on_literals
slit_escaped word = spelled _ _ _ refl (record { asks = refl; faulty = refl })

pub slit_spelled : SlitSpellings
slit_spelled = record { file = slit_file; escaped = slit_escaped }

solve_file : (word : Text) → IsPlain word → Spells (codes "solve" ∷ word ∷ []) (solve (Some word))
unfolding clap_on_literals
solve_file word plain = let other = no_dashes word plain in spelled _ _ _ refl (record { asks = simp (other, plain); faulty = simp (other, plain) })

solve_escaped : (word : Text) → Spells (codes "solve" ∷ codes "--" ∷ word ∷ []) (solve (Some word))
unfolding clap_on_literals
solve_escaped word = spelled _ _ _ refl (record { asks = refl; faulty = refl })

solve_bare : Spells (codes "solve" ∷ []) (solve None)
unfolding clap_on_literals
solve_bare = spelled _ _ _ refl (record { asks = refl; faulty = refl })

pub solve_spelled : SolveSpellings
solve_spelled = record { bare = solve_bare; file = solve_file; escaped = solve_escaped }
