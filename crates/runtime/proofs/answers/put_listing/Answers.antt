-- The lines before went out, and at a fault a front of the next one.
use Rattle.std.proofs.lemmas.Result.{err_from_is_err_and}
use Rattle.byte_output.specs.SendingLemmas.{HasSent-then, HasSent-fails}
use Rattle.runtime.proofs.Listing.{listing_text-next, Writes-last}
use Rattle.runtime.proofs.answers.put_listing.Goals as goal

pub loop-id-preserved : goal.loop-id-preserved
loop-id-preserved g c = (
  tt,
  tt,
  HasSent-then _ _ _ _ _ _ _ c.loop-id.invariant.2
      (listing_text-next c.loop-id.id-iterator c.next.new.self (c.in-Some.id.now, c.in-Some.status) c.in-Some.ensures.steps)
      (rw c.word.ensures at c.in_ok-put_entry.ensures),
)

pub returns-in_err-put_entry : goal.returns-in_err-put_entry
returns-in_err-put_entry g c =
    let fault = err_from_is_err_and c.from_residual.result c.from_residual.ensures.1 in
    rw fault.1 (HasSent-fails _ _ _ _ _ _ _ c.loop-id.invariant.2
    (listing_text-next c.loop-id.id-iterator c.next.new.self (c.in-Some.id.now, c.in-Some.status) c.in-Some.ensures.steps)
    (rw c.word.ensures at c.in_err-put_entry.ensures))

pub returns : goal.returns
returns g c = Writes-last _ _ _ c.put.result _ _ (rw c.in-None.ensures.steps.0 at c.loop-id.invariant.2) c.put.ensures
