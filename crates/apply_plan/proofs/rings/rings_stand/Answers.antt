use Rattle.std.proofs.Common.{◌≡◌, ◌<◌, length, sym, ◌∙◌, arith}
use Rattle.apply_plan.specs.NextLemmas.{any_if}
use Rattle.apply_plan.proofs.rings.rings_stand.Goals as goal

pub returns-then-is_in_ring : goal.returns-then-is_in_ring
returns-then-is_in_ring c =
    let room : length c.args.marks.now ≡ length c.args.nexts.now = c.requires.room in
    let within : c.loop-place.place < length c.args.nexts.now = omega (arith, room, c.loop-place-test.true) in
    sym (any_if c.args.nexts.now (length c.args.nexts.now) c.loop-place.place within (sym (c.requires.tells c.loop-place.place within) ∙ sym c.is_in_ring.ensures ∙ c.if-is_in_ring.true))
