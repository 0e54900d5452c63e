-- What looks at bundles find is no more than what is told of them allows.
use Rattle.std.specs.Prelude.{ℕ, List, Option}
use Rattle.script.specs.Runs.{Runs}
use Rattle.runtime.specs.Answered.{Answered, AnsweredBy}
use Rattle.runtime.specs.RuntimeState.{RuntimeState}

-- lines that are answered by what looks at bundles find are answered by what is told of them; so the laws of scripts hold of
-- them
abbrev pub LooksAreTold : (List ℕ → Option (List ℕ) → Type 0) → Type 0
LooksAreTold finds = (old new : RuntimeState) (lines : List (List ℕ)) (text : List ℕ) → Runs (AnsweredBy finds) old lines text new → Runs Answered old lines text new
