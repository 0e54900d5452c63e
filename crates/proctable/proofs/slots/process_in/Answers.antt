use Rattle.std.proofs.Common.{sym, ap, ◌∙◌}
use Rattle.std.proofs.lemmas.List.{get_or_default}
use Rattle.proctable.specs.Kept.{alive_in, nobody}
use Rattle.proctable.proofs.PlaceLemmas.{found_at}
use Rattle.proctable.proofs.slots.process_in.Goals as goal

pub returns-in-Ok : goal.returns-in-Ok
returns-in-Ok c =
    let found = c.in-Ok.ensures.found in
    c.alive_of.ensures ∙ ap alive_in (get_or_default c.args.slots.now c.in-Ok.place _ nobody found.0)
    ∙ sym (found_at 0 c.requires.0 c.args.slots.now c.requires.1 c.args.pid c.in-Ok.place found.0 found.1)
