-- What a script prints: the answers to its lines, one after another.
use Rattle.std.specs.Prelude.{◌≡◌, ℕ, List, [], ◌∷◌, ◌++◌, codes, Option, Some, None}
use Rattle.script.specs.Commands.{Asked}
use Rattle.script.specs.Lines.{line_kept, words_of}
use Rattle.script.specs.Requests.{Wanted, nothing, bad, asks, request_of}

-- the text answers what is wanted, of a target that answers commands like this and goes from old to new
abbrev pub AnswersRequest : {S : Type 0} → (S → Asked → List ℕ → S → Type 0) → S → Wanted → List ℕ → S → Type 0
AnswersRequest Answers old nothing text new = (text ≡ []) × (new ≡ old)
AnswersRequest Answers old bad text new = (text ≡ codes "refused E110 BadLine\n") × (new ≡ old)
AnswersRequest Answers old (asks command) text new = Answers old command text new

-- the text answers a line; it is none if the line is too long
abbrev pub AnswersLine : {S : Type 0} → (S → Asked → List ℕ → S → Type 0) → S → Option (List ℕ) → List ℕ → S → Type 0
AnswersLine Answers old None text new = (text ≡ codes "refused E112 LineTooLong\n") × (new ≡ old)
AnswersLine Answers old (Some line) text new = AnswersRequest Answers old (request_of (words_of line)) text new

-- the text answers the lines, one after another, over any target and whatever that may answer
abbrev pub Runs : {S : Type 0} → (S → Asked → List ℕ → S → Type 0) → S → List (List ℕ) → List ℕ → S → Type 0
Runs Answers old [] text new = (text ≡ []) × (new ≡ old)
Runs Answers old (line ∷ lines) text new = (mid : _) × (first : List ℕ) × (more : List ℕ)
    × AnswersLine Answers old (line_kept line) first mid × Runs Answers mid lines more new × (text ≡ first ++ more)
