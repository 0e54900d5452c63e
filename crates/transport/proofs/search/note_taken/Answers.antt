use Rattle.std.proofs.Common.{◌≡◌, ◌≤◌, true, length, MatchOption, refl, sym, ◌∙◌, subst, inl, inr, arith}
use Rattle.std.proofs.lemmas.Bool.{or_cases, eqb-true}
use Rattle.std.specs.FinSet as set
use Rattle.cpu_set.specs.PointwiseLaws.{contains-insert}
use Rattle.transport.specs.Numbers.{number}
use Rattle.transport.specs.Blocks.{IsFirstOf}
use Rattle.transport.proofs.Blocks.{noted_more, noted_past}
use Rattle.transport.proofs.Numbers.{read_number}
use Rattle.transport.proofs.search.note_taken.Goals as goal
use Rattle.transport.proofs.search.note_taken.Goals.{After-first, in-Some, in_default}

-- the class at the place that was read, by its first CPU
at_place : (c : After-first) → MatchOption c.first.result (length c.args.firsts.now ≤ number c.args.tree_classes.now.order.items c.loop-at.at) (IsFirstOf c.args.firsts.now (number c.args.tree_classes.now.order.items c.loop-at.at))
at_place c =
    rw (read_number c.args.tree_classes.now.order.items c.loop-at.at _ _ (omega (arith, c.loop-at-test.true, c.len-listed.ensures, c.args.tree_classes.now.order.ok.0)) refl c.index.ensures) c.first.ensures.its

pub loop-at-preserved : goal.loop-at-preserved
loop-at-preserved c =
    let order = c.args.tree_classes.now.order.items in
    let place = at_place (goal.at.loop-at-preserved c).After-first in
    record {
      only = λ cpu on. elim c.match-first.branch [
        | in-Some w ↦
            let s = c.loop-at.taken_firsts in
            let there : set.contains (set.insert s w.in-Some.cpu) cpu ≡ true = subst (λ x. set.contains x cpu ≡ true) (w.taken_firsts-is ∙ w.insert.ensures) on in
            elim (or_cases _ _ (sym (contains-insert s w.in-Some.cpu cpu) ∙ there)) [
              | inl is ↦
                  let first : IsFirstOf c.args.firsts.now (number order c.loop-at.at) w.in-Some.cpu = subst (λ r. MatchOption r (length c.args.firsts.now ≤ number order c.loop-at.at) (IsFirstOf c.args.firsts.now (number order c.loop-at.at))) w.in-Some.is place in
                  inr (record { at = c.loop-at.at; within = omega (arith, c.loop-at-test.true, c.len-listed.ensures, c.args.tree_classes.now.order.ok.0); first = subst (IsFirstOf c.args.firsts.now (number order c.loop-at.at)) (sym (eqb-true cpu w.in-Some.cpu is)) first })
              | inr was ↦ c.loop-at.invariant.only cpu was
            ]
        | in_default w ↦ c.loop-at.invariant.only cpu (subst (λ x. set.contains x cpu ≡ true) w.taken_firsts-is on)
      ];
      all = λ h. elim c.match-first.branch [
        | in-Some w ↦ noted_more _ _ _ _ c.loop-at.at w.in-Some.cpu (w.taken_firsts-is ∙ w.insert.ensures)
            (subst (λ r. MatchOption r (length c.args.firsts.now ≤ number order c.loop-at.at) (IsFirstOf c.args.firsts.now (number order c.loop-at.at))) w.in-Some.is place).is (c.loop-at.invariant.all h)
        | in_default w ↦ rw w.taken_firsts-is (noted_past _ _ _ c.loop-at.at
            (subst (λ r. MatchOption r (length c.args.firsts.now ≤ number order c.loop-at.at) (IsFirstOf c.args.firsts.now (number order c.loop-at.at))) w.in_default.is place) (c.loop-at.invariant.all h))
      ];
    }
