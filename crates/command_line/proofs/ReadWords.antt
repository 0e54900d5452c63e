-- What words ask for, and what is wrong with them.
use Rattle.std.proofs.Common.{◌≡◌, refl, ap, ◌∙◌, [], ◌∷◌, List, bytes_eq, false, rules}
use Rattle.clap.specs.Kinds.{Kinds, or_else}
use Rattle.clap.specs.Words.{Text, fault_of}
use Rattle.command_line.specs.Asked.{Asked, asked_for}
use Rattle.command_line.specs.CommandLine.{numarun}
use Rattle.command_line.specs.Mistakes.{lacking, mistakes}
use Rattle.command_line.specs.Spellings.{IsPlain, Spells}

-- a word that begins with no hyphen isn't `--`
pub no_dashes : (word : Text) → IsPlain word → bytes_eq word (45 ∷ 45 ∷ []) ≡ false
no_dashes [] plain = refl
no_dashes (x ∷ xs) plain = search rules

-- what the words ask for, and what is wrong with them by the builder's rules
pub record Reads (words : List Text) (wanted : Asked) (faults : Kinds) : Type 0 where
  pub asks : asked_for words ≡ wanted
  pub faulty : fault_of numarun words ≡ faults

-- what is wrong with them beside
pub lacked : (word : Text) (rest : List Text) (wanted : Asked) → Reads (word ∷ rest) wanted [] → mistakes (word ∷ rest) ≡ lacking wanted
lacked word rest wanted reads = ap (λ (k : Kinds). or_else k (lacking (asked_for (word ∷ rest)))) reads.faulty ∙ ap lacking reads.asks

pub spelled : (word : Text) (rest : List Text) (wanted : Asked) → lacking wanted ≡ [] → Reads (word ∷ rest) wanted [] → Spells (word ∷ rest) wanted
spelled word rest wanted enough reads = record { asks = reads.asks; right = lacked word rest wanted reads ∙ enough }
