use Rattle.std.proofs.Common.{Vec, ℕ, Global, ap, ◌∙◌}
use Rattle.transport.specs.Numbers.{is_marked}
use Rattle.transport.proofs.Members.{places_marked, places_unmarked}
use Rattle.transport.proofs.solver.places_of.Goals as goal
use Rattle.transport.proofs.solver.places_of.Goals.{then-mark+in_ok-push, else-mark}

pub loop-k-preserved : goal.loop-k-preserved
loop-k-preserved c = elim c.if-mark.branch [
  | then-mark+in_ok-push w ↦
      ap (λ (v : Vec ℕ Global). v.items) w.places-is ∙ w.in_ok-push.ensures.items
      ∙ places_marked (is_marked c.args.marks.now) c.loop-k.places.items c.loop-k.k c.loop-k.invariant w.if-mark.true
  | else-mark w ↦
      ap (λ (v : Vec ℕ Global). v.items) w.places-is
      ∙ places_unmarked (is_marked c.args.marks.now) c.loop-k.places.items c.loop-k.k c.loop-k.invariant w.if-mark.false
]
