use Rattle.std.proofs.Common.{Some, option_map, ap, ◌∙◌, arith, below_more}
use Rattle.cpu_set.specs.PointwiseLaws.{contains-empty}
use Rattle.faults.specs.FirstLaws.{first_below-at, first_below-none}
use Rattle.certificate.specs.PlanFault.{twice_fault, apart_fault}
use Rattle.certificate.specs.declared.fault.CheckFault.TheVariants.{HeldTwice}
use Rattle.certificate.specs.ApartTestLemmas.{is_in_one_more}
use Rattle.certificate.proofs.RowFaults.{twice_is}
use Rattle.certificate.proofs.row_checks.check_apart.Goals as goal

pub loop-own-init : goal.loop-own-init
loop-own-init c = rw c.empty-held.ensures (record { same = contains-empty; none = λ j lt. absurd (omega arith) })

pub returns-in-Some : goal.returns-in-Some
unfolding apart_fault
returns-in-Some c =
    first_below-at _ _ (twice_fault c.args.sets.now) (HeldTwice c.in-Some.cpu) c.loop-own-test.true c.loop-own.invariant.none
    (twice_is c.args.sets.now c.loop-own.own-index c.own-item.result c.loop-own.held (Some c.in-Some.cpu)
    c.loop-own-test.true c.own-item.is c.loop-own.invariant.same
    (rw (← c.meet.ensures) c.in-Some.ensures.first, c.in-Some.ensures.in_range))

pub loop-own-preserved : goal.loop-own-preserved
loop-own-preserved c = rw c.union-held.ensures (record {
  same = is_in_one_more (λ s. s) _ _ _ c.loop-own.held c.loop-own-test.true c.own-item.is c.loop-own.invariant.same;
  none = below_more _ _ c.loop-own.invariant.none
      (twice_is c.args.sets.now c.loop-own.own-index c.own-item.result c.loop-own.held c.first.result
      c.loop-own-test.true c.own-item.is c.loop-own.invariant.same
      (rw (← c.meet.ensures) c.first.ensures.first, c.first.ensures.in_range)
      ∙ ap (option_map HeldTwice) c.in_default.is);
})

pub returns : goal.returns
unfolding apart_fault
returns c = first_below-none _ (twice_fault c.args.sets.now) (λ j lt. c.loop-own.invariant.none j (omega arith))
