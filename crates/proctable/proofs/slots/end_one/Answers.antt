use Rattle.std.proofs.Common.{◌≡◌, ◌+◌, ◌<◌, List, length, refl, sym, ap, ◌∙◌, subst}
use Rattle.std.specs.Prelude.{is_some}
use Rattle.std.proofs.lemmas.Bool.{both_ways}
use Rattle.proctable.specs.Processes.{process_among}
use Rattle.proctable.specs.declared.slots.Slot.{Slot}
use Rattle.proctable.specs.Kept.{live_of, pid_at, PidsRise, AreEnded}
use Rattle.proctable.proofs.PlaceLemmas.{ended_alone, pids_set, one_more_ended}
use Rattle.proctable.proofs.slots.end_one.Goals as goal

pub returns-in-Ok-clause-live : goal.returns-in-Ok-clause-live
returns-in-Ok-clause-live c =
    let found = c.in-Ok.ensures.found in
    ap live_of c.end_at.ensures
    ∙ ended_alone c.args.slots.now.items c.args.pid c.in-Ok.place c.requires
    (subst (λ (l : List Slot). c.in-Ok.place < length l) c.as_slice.ensures.value found.0)
    (subst (λ (l : List Slot). pid_at l c.in-Ok.place ≡ c.args.pid) c.as_slice.ensures.value found.1)

pub returns-in-Ok-clause-rising : goal.returns-in-Ok-clause-rising
returns-in-Ok-clause-rising c = λ next rises.
    subst (λ (l : List Slot). PidsRise 0 next l) (sym c.end_at.ensures)
    (pids_set 0 next c.args.slots.now.items c.in-Ok.place _ rises refl
    (subst (λ (l : List Slot). c.in-Ok.place < length l) c.as_slice.ensures.value c.in-Ok.ensures.found.0))

pub returns-in-Ok-clause-ended : goal.returns-in-Ok-clause-ended
returns-in-Ok-clause-ended c = λ ended h.
    let found = c.in-Ok.ensures.found in
    subst (λ (l : List Slot). AreEnded l (ended + 1)) (sym c.end_at.ensures)
    (one_more_ended c.args.slots.now.items c.args.pid c.in-Ok.place ended c.requires
    (subst (λ (l : List Slot). c.in-Ok.place < length l) c.as_slice.ensures.value found.0)
    (subst (λ (l : List Slot). pid_at l c.in-Ok.place ≡ c.args.pid) c.as_slice.ensures.value found.1) h)

pub returns-in-Err-clause-ended : goal.returns-in-Err-clause-ended
returns-in-Err-clause-ended c =
    absurd (both_ways (is_some (process_among (live_of c.args.slots.now.items) c.args.pid))
    (ap is_some (ap (λ (l : List Slot). process_among (live_of l) c.args.pid) (sym c.as_slice.ensures.value) ∙ c.in-Err.ensures.absent)) c.requires.alive)
