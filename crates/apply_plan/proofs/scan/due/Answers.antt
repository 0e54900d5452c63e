use Rattle.std.proofs.Common.{◌≡◌, true, false, sym, ap, ◌∙◌, subst}
use Rattle.std.specs.Option.{option_or, option_copied}
use Rattle.cpu_set.specs.Ids.{is_same, is_empty}
use Rattle.proctable.specs.Processes.{is_alive}
use Rattle.apply_plan.specs.Kept.{kept}
use Rattle.apply_plan.specs.Walks.{release_from}
use Rattle.apply_plan.specs.DueWrite.{held, must_release, must_move}
use Rattle.apply_plan.specs.DueLemmas.{holds_its_target, keeps_its_target, lets_none_go, lets_go_nothing, lives_if_asked, must_move_if_alive, some_mapped, found_stays, found_here, passed_over, release_if_alive, release_is_due}
use Rattle.apply_plan.specs.ListLemmas.{all_at}
use Rattle.apply_plan.proofs.scan.due.Goals as goal

pub loop-place-preserved-then-eq : goal.loop-place-preserved-then-eq
loop-place-preserved-then-eq g c =
    let k = g.K.Kernel.state c.args.kernel.now in
    let reserved = c.args.reserved.now in
    let entries = c.args.entries.now in
    let place = c.loop-place.place in
    let e = c.index-entries-place.result in
    let stays : must_move k e ≡ false =
    holds_its_target k e (ap (λ s. is_same s e.target) (sym c.requested-held.ensures) ∙ sym c.eq.ensures ∙ c.if-eq.true) in
    record {
      releases =
          sym (passed_over (must_release k reserved) entries place e c.loop-place-test.true c.index-entries-place.is
          (keeps_its_target k reserved e (all_at (λ a. is_empty a.target ≡ false) entries place e c.requires.some c.loop-place-test.true c.index-entries-place.is) stays))
          ∙ c.loop-place.invariant.releases;
      moves =
          ap (option_or (option_copied c.loop-place.moving)) (sym (passed_over (must_move k) entries place e c.loop-place-test.true c.index-entries-place.is stays))
          ∙ c.loop-place.invariant.moves;
    }

pub loop-place-preserved-then-keeps_at_sight : goal.loop-place-preserved-then-keeps_at_sight
loop-place-preserved-then-keeps_at_sight g c =
    let k = g.K.Kernel.state c.args.kernel.now in
    let reserved = c.args.reserved.now in
    let entries = c.args.entries.now in
    let place = c.loop-place.place in
    let e = c.index-entries-place.result in
    let stays : must_release k reserved e ≡ false =
    lets_none_go k reserved e (subst (λ h. kept reserved e.target h ≡ h) c.requested-held.ensures (c.keeps_at_sight.ensures c.if-keeps_at_sight.true)) in
    record {
      releases =
          sym (passed_over (must_release k reserved) entries place e c.loop-place-test.true c.index-entries-place.is stays)
          ∙ c.loop-place.invariant.releases;
      moves = found_stays (option_copied c.loop-place.moving) _ _ (some_mapped _ c.loop-place.moving (sym c.is_some.ensures ∙ c.if-is_some.true)) ∙ c.loop-place.invariant.moves;
    }

pub loop-place-preserved : goal.loop-place-preserved
loop-place-preserved g c =
    let k = g.K.Kernel.state c.args.kernel.now in
    let reserved = c.args.reserved.now in
    let entries = c.args.entries.now in
    let place = c.loop-place.place in
    let e = c.index-entries-place.result in
    let lives : is_alive k.table e.pid ≡ true =
    lives_if_asked _ _ (sym c.has_ended-ended.ensures ∙ c.if-ended.false) (sym c.has_ended-ended-in-loop-place.ensures ∙ c.if-ended-2.false) in
    let other : is_same (held k e) e.target ≡ false = ap (λ s. is_same s e.target) (sym c.requested-held.ensures) ∙ sym c.eq.ensures ∙ c.if-eq.false in
    let stays : must_release k reserved e ≡ false =
    lets_go_nothing k reserved e (sym c.in_default.is ∙ c.release_if_some.ensures ∙ ap (release_from reserved e) c.requested-held.ensures) in
    record {
      releases =
          sym (passed_over (must_release k reserved) entries place e c.loop-place-test.true c.index-entries-place.is stays)
          ∙ c.loop-place.invariant.releases;
      moves =
          c.first_of.ensures
          ∙ ap (option_or (option_copied c.loop-place.moving)) (sym (found_here (must_move k) entries place e c.loop-place-test.true c.index-entries-place.is (must_move_if_alive k e lives other)))
          ∙ c.loop-place.invariant.moves;
    }

pub returns-in-Some : goal.returns-in-Some
returns-in-Some g c =
    let k = g.K.Kernel.state c.args.kernel.now in
    let reserved = c.args.reserved.now in
    let e = c.index-entries-place.result in
    release_is_due k reserved c.args.entries.now c.loop-place.place e c.in-Some.write
    c.loop-place-test.true c.index-entries-place.is c.loop-place.invariant.releases
    (sym c.in-Some.is ∙ c.release_if_some.ensures ∙ ap (release_from reserved e) c.requested-held.ensures
    ∙ release_if_alive k reserved e
    (lives_if_asked _ _ (sym c.has_ended-ended.ensures ∙ c.if-ended.false) (sym c.has_ended-ended-in-loop-place.ensures ∙ c.if-ended-2.false)))
