use Rattle.std.proofs.Common.{◌&&◌, ◌≡◌, Bool, true, false, refl, sym, ap, ◌∙◌}
use Rattle.apply_plan.specs.DirectWords.{blocks}
use Rattle.apply_plan.specs.DirectedLemmas.{found_at}
use Rattle.apply_plan.proofs.giving.must_yield.Goals as goal

pub blocks-requires-clause-at : goal.blocks-requires-clause-at
blocks-requires-clause-at g c = found_at c.args.entries.now c.args.place c.args.entry.now c.requires.valid.groups c.requires.within c.requires.at

and_true : (x : Bool) → (x && true) ≡ x
and_true true = refl
and_true false = refl

pub returns-then-is_in_ring : goal.returns-then-is_in_ring
returns-then-is_in_ring g c =
    let k = g.K.Kernel.state c.args.kernel.now in
    let reserved = c.args.reserved.now in
    let entries = c.args.entries.now in
    let e = c.args.entry.now in
    let ring = sym (c.requires.rings.tells c.args.place e c.requires.within c.requires.at) ∙ sym c.is_in_ring.ensures ∙ c.if-is_in_ring.true in
    c.blocks-then-is_in_ring.ensures ∙ sym (ap (λ b. blocks k reserved entries e && b) ring ∙ and_true (blocks k reserved entries e))
