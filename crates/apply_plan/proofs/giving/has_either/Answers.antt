use Rattle.std.proofs.Common.{◌≡◌, false, not, ◌||◌, ◌==◌, sym, ap, ◌∙◌}
use Rattle.std.specs.FinSet as set
use Rattle.apply_plan.specs.DirectWrite.{has_room, has_place}
use Rattle.apply_plan.proofs.giving.has_either.Goals as goal

pub returns-else-not-is_subset : goal.returns-else-not-is_subset
returns-else-not-is_subset g c =
    let k = g.K.Kernel.state c.args.kernel.now in
    let reserved = c.args.reserved.now in
    let entries = c.args.entries.now in
    let e = c.args.entry.now in
    let least = g.C.Cores.least_of c.args.cores.now in
    let none : has_room k reserved entries e ≡ false =
    ap not (sym (c.is_subset.ensures ∙ ap (λ s. set.is_subset s reserved) (c.meet.ensures ∙ (λ i. set.intersection (c.way.ensures i) (c.online.ensures i)))) ∙ c.if-not-is_subset.false) in
    c.has_place.ensures ∙ ap (λ s. not (set.len (least s 1) == 0)) c.places.ensures
    ∙ sym (ap (λ b. b || has_place k reserved entries (λ _. c.args.allowed.now) least e) none)
