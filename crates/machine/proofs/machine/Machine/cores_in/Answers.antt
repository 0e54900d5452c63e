use Rattle.std.proofs.Common.{◌+◌, ◌<◌, ◌≤◌, ℕ, Option, subst, ap, sym, ◌∙◌, arith}
use Rattle.std.proofs.lemmas.Bool.{eqb-true}
use Rattle.std.specs.FinSet as set
use Rattle.machine.specs.Cores.{is_core_in}
use Rattle.machine.specs.CoreCountLaws.{single_cores_in}
use Rattle.machine.proofs.CoreSets.{IsPicked, IsPicked-none, IsPicked-more, added_one, left_out, cores_in-picked}
use Rattle.machine.proofs.Marking.{IsNext, place, place_rises}
use Rattle.machine.proofs.machine.Machine.cores_in.Goals.{then-has_core, else-has_core}
use Rattle.machine.proofs.machine.Machine.cores_in.Goals as goal

pub returns-then-is_single-clause-is : goal.returns-then-is_single-clause-is
returns-then-is_single-clause-is c =
    sym (single_cores_in c.args.self.now c.args.cpus.now c.is_single.ensures.sound.cores (eqb-true _ _ (sym c.is_single.ensures.is ∙ c.if-is_single.true)))

pub cores_by_lacking-requires : goal.cores_by_lacking-requires
cores_by_lacking-requires c = rw (← c.self.view_is) (c.minus-lacking.ensures ∙ ap (λ s. set.difference s c.args.cpus.now) c.self.invariant.all)

pub loop-next-init : goal.loop-next-init
loop-next-init c = (IsPicked-none _ _ _ _ c.empty-cores.ensures (c.first-next.ensures.first, c.first-next.ensures.in_range), omega arith)

pub loop-next-preserved : goal.loop-next-preserved
loop-next-preserved c =
    let Picked : Option ℕ → Type 0 = λ next. IsPicked c.args.cpus.now (is_core_in c.args.self.now c.args.cpus.now) c.loop-next.cores next in
    let are = subst Picked c.in-Some.is c.loop-next.invariant.0 in
    let following : IsNext c.args.cpus.now (c.in-Some.cpu + 1) c.next_after-next.result = (c.next_after-next.ensures.first, c.next_after-next.ensures.in_range) in
    let before : c.loop-next.walked ≤ c.in-Some.cpu = subst (λ next. c.loop-next.walked ≤ place next) c.in-Some.is c.loop-next.invariant.1 in
    let up : c.in-Some.cpu < place c.next_after-next.result = place_rises c.args.cpus.now c.in-Some.cpu c.next_after-next.result are.in_range following in (
      IsPicked-more c.args.cpus.now (is_core_in c.args.self.now c.args.cpus.now) c.loop-next.cores c.if-has_core.cores c.in-Some.cpu c.next_after-next.result are
          (elim c.if-has_core.branch [
            | then-has_core w ↦ added_one c.loop-next.cores c.if-has_core.cores c.in-Some.cpu _ (sym c.has_core.ensures ∙ w.if-has_core.true) (w.cores-is ∙ w.insert.ensures)
            | else-has_core w ↦ left_out c.loop-next.cores c.if-has_core.cores c.in-Some.cpu _ (sym c.has_core.ensures ∙ w.if-has_core.false) w.cores-is
          ])
          following,
      omega arith,
    )

pub returns-clause-is : goal.returns-clause-is
returns-clause-is c = cores_in-picked c.args.self.now c.args.cpus.now _ c.loop-next.next c.loop-next.invariant.0 c.in_default.not-Some
