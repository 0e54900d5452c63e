use Rattle.std.proofs.Common.{◌+◌, ◌<◌, ◌≤◌, ℕ, Option, subst, ap, sym, ◌∙◌, arith}
use Rattle.std.proofs.lemmas.Bool.{eqb-true}
use Rattle.std.specs.FinSet as set
use Rattle.machine.specs.CoreCountLaws.{single_cpus_of_cores}
use Rattle.machine.proofs.CoreSets.{AreFilled, AreFilled-none, AreFilled-more, AreFilled-all}
use Rattle.machine.proofs.Lacking.{lacking_cores}
use Rattle.machine.proofs.Marking.{IsNext, place, place_rises}
use Rattle.machine.proofs.machine.Machine.cpus_of_cores.Goals as goal

pub returns-then-is_single-clause-is : goal.returns-then-is_single-clause-is
returns-then-is_single-clause-is c =
    sym (single_cpus_of_cores c.args.self.now c.args.cores.now c.is_single.ensures.sound.cores (eqb-true _ _ (sym c.is_single.ensures.is ∙ c.if-is_single.true)) c.stays_below_the_limit.ensures)

pub cpus_by_lacking-requires : goal.cpus_by_lacking-requires
cpus_by_lacking-requires c =
    lacking_cores c.args.self.now _ _ c.args.cores.now _ (rw (← c.self.view_is) c.self.invariant.firsts) c.self.invariant.in_range
    (rw (← c.self.view_is) c.self.invariant.all) (c.minus-lacking.ensures ∙ ap (λ s. set.difference s c.args.cores.now) c.meet.ensures)

pub loop-next-init : goal.loop-next-init
loop-next-init c = (AreFilled-none _ _ _ _ c.empty-cpus.ensures (c.first-next.ensures.first, c.first-next.ensures.in_range), omega arith)

pub loop-next-preserved : goal.loop-next-preserved
loop-next-preserved c =
    let Filled : Option ℕ → Type 0 = λ next. AreFilled c.args.self.now c.args.cores.now c.loop-next.cpus next in
    let are = subst Filled c.in-Some.is c.loop-next.invariant.0 in
    let following : IsNext c.args.cores.now (c.in-Some.core + 1) c.next_after-next.result = (c.next_after-next.ensures.first, c.next_after-next.ensures.in_range) in
    let before : c.loop-next.walked ≤ c.in-Some.core = subst (λ next. c.loop-next.walked ≤ place next) c.in-Some.is c.loop-next.invariant.1 in
    let up : c.in-Some.core < place c.next_after-next.result = place_rises c.args.cores.now c.in-Some.core c.next_after-next.result are.in_range following in
    (AreFilled-more c.args.self.now c.args.cores.now c.loop-next.cpus _ c.in-Some.core c.next_after-next.result are c.add_core.ensures following, omega arith)

pub returns-clause-is : goal.returns-clause-is
returns-clause-is c = AreFilled-all c.args.self.now c.args.cores.now _ c.loop-next.next c.loop-next.invariant.0 c.in_default.not-Some
