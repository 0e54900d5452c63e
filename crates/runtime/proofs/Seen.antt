-- What looks at bundles find is told of the bundles too.
use Rattle.std.proofs.Common.{ℕ, List, [], ◌∷◌, Option, Some, None, inl, inr}
use Rattle.node.specs.NodeState.{NodeState}
use Rattle.script.specs.Commands.{Asked}
use Rattle.script.specs.Commands as ask
use Rattle.script.specs.Lines.{line_kept, words_of}
use Rattle.script.specs.Requests.{Wanted, nothing, bad, asks, request_of}
use Rattle.script.specs.Runs.{AnswersLine, AnswersRequest, Runs}
use Rattle.runtime.specs.Answered.{Answered, AnsweredBy, AnswersBy}
use Rattle.runtime.specs.Found.{IsFound, IsSeen}
use Rattle.runtime.specs.RuntimeState.{RuntimeState, Told}

module _ (finds : List ℕ → Option (List ℕ) → Type 0) where
  by_command : (told : Told) (old : NodeState) (command : Asked) (text : List ℕ) (new : NodeState) → AnswersBy (IsSeen finds told) old command text new
      → AnswersBy (IsFound told) old command text new
  by_command told old (ask.create id bundle) text new (inl h) = inl h
  by_command told old (ask.create id bundle) text new (inr (found, seen, h)) = inr (found, seen.0, h)
  by_command told old (ask.adopt id bundle list) text new (inl h) = inl h
  by_command told old (ask.adopt id bundle list) text new (inr (found, seen, h)) = inr (found, seen.0, h)
  by_command told old (ask.update id bundle) text new (inl h) = inl h
  by_command told old (ask.update id bundle) text new (inr (found, seen, h)) = inr (found, seen.0, h)
  by_command told old (ask.start id) text new h = h
  by_command told old (ask.kill id signal) text new h = h
  by_command told old (ask.delete id) text new h = h
  by_command told old (ask.forget id) text new h = h
  by_command told old (ask.state id) text new h = h
  by_command told old ask.list text new h = h
  by_command told old (ask.sets id) text new h = h
  by_command told old (ask.rebalance direct) text new h = h
  by_command told old (ask.begin direct) text new h = h
  by_command told old ask.step text new h = h
  by_command told old ask.phase text new h = h
  by_command told old ask.certificate text new h = h
  by_command told old (ask.fork pid) text new h = h
  by_command told old (ask.exit pid) text new h = h
  by_command told old (ask.offline cpu) text new h = h
  by_command told old (ask.online cpu) text new h = h

  by_request : (old new : RuntimeState) (request : Wanted) (text : List ℕ) → AnswersRequest (AnsweredBy finds) old request text new → AnswersRequest Answered old request text new
  by_request old new nothing text h = h
  by_request old new bad text h = h
  by_request old new (asks command) text h = (by_command old.told old.node command text new.node h.0, h.1)

  by_line : (old new : RuntimeState) (line : Option (List ℕ)) (text : List ℕ) → AnswersLine (AnsweredBy finds) old line text new → AnswersLine Answered old line text new
  by_line old new None text h = h
  by_line old new (Some line) text h = by_request old new (request_of (words_of line)) text h

  pub by_lines : (old new : RuntimeState) (lines : List (List ℕ)) (text : List ℕ) → Runs (AnsweredBy finds) old lines text new → Runs Answered old lines text new
  by_lines old new [] text h = h
  by_lines old new (line ∷ lines) text (mid, first, more, answers, rest, cut) =
      (mid, first, more, by_line old mid (line_kept line) first answers, by_lines mid new lines more rest, cut)
