use Rattle.std.proofs.Common.{◌≡◌, ℕ, ◌+◌, ◌-◌, ◌/◌, ◌<◌, true, length, get_or, sym, subst, ◌∙◌, arith}
use Rattle.std.proofs.lemmas.List.{get_or_default}
use Rattle.slab.specs.Slab.{get}
use Rattle.cpuset_tree.specs.Kept.{is_older}
use Rattle.cpuset_tree.proofs.RefreshLemmas.{IsInOrder-from}
use Rattle.cpuset_tree.proofs.refresh.place_of_older.Goals as goal

pub loop-low-preserved-then-is_older : goal.loop-low-preserved-then-is_older
loop-low-preserved-then-is_older c =
    let keys = c.args.order.now.items in
    let middle : ℕ = c.loop-low.low + (c.loop-low.high - c.loop-low.low) / 2 in
    let within : c.loop-low.low + (c.loop-low.high - c.loop-low.low) / 2 < length keys = omega (arith, c.loop-low-test.true, c.loop-low.invariant.0) in
    let here : c.index.result.now ≡ get_or keys middle 0 = c.index.ensures ∙ get_or_default keys middle c.index.result.now 0 within in (
      omega (arith, c.loop-low-test.true, c.loop-low.invariant.0),
      IsInOrder-from c.args.groups.now c.args.written middle keys within c.requires
          (subst (λ (k : ℕ). is_older c.args.written (get c.args.groups.now k) ≡ true) here (sym c.if-is_older.ensures)),
    )
