-- Which words say a total, and how one is written.
use Rattle.std.proofs.Common.{◌≡◌, ℕ, ◌^◌, List, [], ◌∷◌, ◌++◌, sym, ap, ◌∙◌, append_assoc}
use Rattle.std.specs.Prelude.{codes, decimal, ◌==◌}
use Rattle.certificate.specs.Packed.{packed, distance_of, moves_of}
use Rattle.certificate.specs.declared.weights.Weights.{Weights}
use Rattle.certificate.specs.declared.weights.Weights.TheVariants.{Plain, WithMoves}
use Rattle.certificate_text.specs.NumberWord.{IsNumber}
use Rattle.certificate_text.specs.Line.{TotalLine, EndLine, words, AreMovesWords, SayTotal}
use Rattle.certificate_text.specs.Written.{line_text}
use Rattle.certificate_text.proofs.Cuts.{never_empty}

-- several words are no total in one number
pub only_moves : (text first rest : List ℕ) → words text ≡ first ∷ words rest → ((total : ℕ) → AreMovesWords (words text) total → ⊥)
    → (weights : Weights) (total : ℕ) → SayTotal weights (words text) total → ⊥
only_moves text first rest e none WithMoves total h = none total h
only_moves text first rest e none Plain total h = never_empty (λ x. x == 32) rest (let words_are = h.words_are in cc)

-- and one word is none in two
pub only_plain : (text : List ℕ) → words text ≡ text ∷ [] → ((n : ℕ) → IsNumber (2 ^ 64) text n → ⊥)
    → (weights : Weights) (total : ℕ) → SayTotal weights (words text) total → ⊥
only_plain text e none Plain total h =
    let same : text ∷ [] ≡ h.number ∷ [] = sym e ∙ h.words_are in
    let number : h.number ≡ text = cc in
    none total (rw number at h.total_is)
only_plain text e none WithMoves total h =
    let same : text ∷ [] ≡ h.first ∷ codes "moves" ∷ h.second ∷ [] = sym e ∙ h.words_are in
    absurd cc

module _ (text a b d : List ℕ) (are : words text ≡ a ∷ b ∷ d ∷ []) where
  module _ (total : ℕ) (h : AreMovesWords (words text) total) where
    same : a ∷ b ∷ d ∷ [] ≡ h.first ∷ codes "moves" ∷ h.second ∷ []
    same = sym are ∙ h.words_are

    pub before : IsNumber (2 ^ 48) a h.distance
    before = let s = same in let first : h.first ≡ a = cc in rw first at h.distance_is

    pub behind : IsNumber (2 ^ 16) d h.moves
    behind = let s = same in let second : h.second ≡ d = cc in rw second at h.moves_is

  pub no_distance : ((n : ℕ) → IsNumber (2 ^ 48) a n → ⊥) → (total : ℕ) → AreMovesWords (words text) total → ⊥
  no_distance none total h = none h.distance (before total h)

  pub no_moves : ((n : ℕ) → IsNumber (2 ^ 16) d n → ⊥) → (total : ℕ) → AreMovesWords (words text) total → ⊥
  no_moves none total h = none h.moves (behind total h)

  pub are_moves : (total n m : ℕ) → b ≡ codes "moves" → IsNumber (2 ^ 48) a n → IsNumber (2 ^ 16) d m → total ≡ packed n m → AreMovesWords (words text) total
  are_moves total n m word distance moves e = record {
    first = a;
    second = d;
    distance = n;
    moves = m;
    words_are = are ∙ ap (λ w. a ∷ w ∷ d ∷ []) word;
    distance_is = distance;
    moves_is = moves;
    total_is = e;
  }

-- the total's two numbers, and the last line
pub moves_line : (n m : List ℕ)
    → (codes "total " ++ (n ++ codes " moves ")) ++ (m ++ codes "\nend\n") ≡ (codes "total " ++ ((n ++ (codes " moves " ++ m)) ++ codes "\n")) ++ codes "end\n"
moves_line n m =
    ap (λ x. codes "total " ++ x) (append_assoc n (codes " moves ") (m ++ codes "\nend\n")
    ∙ sym (append_assoc n (codes " moves " ++ m) (codes "\nend\n")) ∙ sym (append_assoc (n ++ (codes " moves " ++ m)) (codes "\n") (codes "end\n")))

pub total_line : (total : ℕ)
    → line_text (TotalLine WithMoves total) ++ line_text EndLine
    ≡ (codes "total " ++ (decimal (distance_of total) ++ codes " moves ")) ++ (decimal (moves_of total) ++ codes "\nend\n")
total_line total = sym (moves_line (decimal (distance_of total)) (decimal (moves_of total)))
