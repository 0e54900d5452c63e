use Rattle.std.proofs.Common.{IfSome, subst, arith}
use Rattle.cpu_set.specs.Ids.{IsFirstFrom}
use Rattle.cpu_set.specs.Members.{IsCpu}
use Rattle.twins.specs.IsDeal.{IsMoved}
use Rattle.twins.proofs.Deals.{move_start, move_more, first_of_some, first_of_none, next_first, still_some}
use Rattle.twins.proofs.dealing.move_lowest.Goals as goal
use Rattle.twins.proofs.dealing.move_lowest.Goals.{in-Some, in_default}

pub loop-init : goal.loop-init
loop-init c = record { moved = move_start _ _; first = c.requires.first; in_range = c.requires.in_range }

pub remove-requires : goal.remove-requires
remove-requires c = subst (λ next. IfSome next (λ n. IsCpu n)) c.in-Some.is c.loop.invariant.in_range

pub insert-requires : goal.insert-requires
insert-requires c = subst (λ next. IfSome next (λ n. IsCpu n)) c.in-Some.is c.loop.invariant.in_range

pub loop-preserved : goal.loop-preserved
loop-preserved c =
    elim c.match-next.branch [
      | in-Some w ↦
          let first : IsFirstFrom c.loop.rest 0 w.in-Some.cpu = first_of_some _ _ _ c.loop.invariant.first w.in-Some.is in
          rw (w.rest-is, w.own-is, w.next-is, w.remove.ensures, w.insert.ensures) (record {
            moved = move_more _ _ _ _ _ _ c.loop.invariant.moved first;
            first = next_first _ _ _ first (rw (← w.remove.ensures) w.next_after-next.ensures.first);
            in_range = w.next_after-next.ensures.in_range;
          })
      | in_default w ↦ absurd (still_some _ _ c.loop.invariant.moved.0 _ _ c.loop.invariant.moved.1 c.loop-test.true c.requires.count (first_of_none _ _ c.loop.invariant.first w.in_default.not-Some))
    ]

pub returns-clause-moved : goal.returns-clause-moved
returns-clause-moved c =
    subst (λ n. IsMoved c.args.rest.now c.loop.rest c.args.own.now c.loop.own n) (omega (arith, c.loop-test.false, c.loop.auto.counter-end)) c.loop.invariant.moved
