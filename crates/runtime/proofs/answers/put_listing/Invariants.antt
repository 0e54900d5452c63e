use Rattle.byte_output.specs.Sending.{HasSent}
use Rattle.node.specs.Listed.{listing}
use Rattle.runtime.specs.AnswerTexts.{listing_text}
use Rattle.runtime.proofs.answers.put_listing.Given as goal

abbrev pub invariant-loop-id : goal.invariant-loop-id
invariant-loop-id g l =
    (goal.iterator-loop-id g).can_next l.id-iterator ×
    (goal.iterator-loop-id g).is_finite l.id-iterator ×
    HasSent (g.W.Write.contents l.initial.w) (g.W.Write.contents l.w) (listing_text (listing l.node)) (listing_text l.id-iterator)
