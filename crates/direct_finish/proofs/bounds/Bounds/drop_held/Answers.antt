use Rattle.std.proofs.Common.{◌≡◌, Bool, true, false, not, ◌&&◌, refl, sym, ap, ◌∙◌}
use Rattle.std.specs.Prelude.{cond}
use Rattle.std.specs.FinSet as set
use Rattle.cpu_set.specs.Ids.{Ids}
use Rattle.cpu_set.specs.PointwiseLaws.{same_members, contains-difference, contains-empty}
use Rattle.direct_finish.specs.Bounded.{own_of}
use Rattle.direct_finish.proofs.bounds.Bounds.drop_held.Goals as goal
use Rattle.direct_finish.proofs.bounds.Bounds.drop_held.Goals.{else-worth-via-then-worth+else-entry, else-worth-via-else-worth}

and_true : (x : Bool) → (x && true) ≡ x
and_true true = refl
and_true false = refl

minus_none : (s : Ids) → set.difference s set.empty ≡ s
minus_none s = same_members _ _ (λ q.
    contains-difference s set.empty q ∙ ap (λ b. set.contains s q && not b) (contains-empty q) ∙ and_true (set.contains s q))

kept : (s held : Ids) (dropped : Bool) → dropped ≡ false → s ≡ set.difference s (cond dropped held set.empty)
kept s held dropped off = sym (ap (λ p. set.difference s (cond p held set.empty)) off ∙ minus_none s)

pub returns-else-worth-clause-held : goal.returns-else-worth-clause-held
returns-else-worth-clause-held c =
    let off : (c.args.worth && c.args.entry.now.pinned) ≡ false = elim c.else-worth.branch [
      | else-worth-via-then-worth+else-entry w ↦ ap (λ p. c.args.worth && p) w.if-entry.false ∙ ap (λ x. x && false) w.if-worth.true
      | else-worth-via-else-worth w ↦ ap (λ x. x && c.args.entry.now.pinned) w.if-worth.false
    ] in
    kept c.args.self.now.held c.args.held.now _ off

pub returns-else-worth-clause-own : goal.returns-else-worth-clause-own
returns-else-worth-clause-own c =
    let off : (c.args.worth && c.args.entry.now.pinned) ≡ false = elim c.else-worth.branch [
      | else-worth-via-then-worth+else-entry w ↦ ap (λ p. c.args.worth && p) w.if-entry.false ∙ ap (λ x. x && false) w.if-worth.true
      | else-worth-via-else-worth w ↦ ap (λ x. x && c.args.entry.now.pinned) w.if-worth.false
    ] in
    kept (own_of c.args.self.now) c.args.held.now _ off
