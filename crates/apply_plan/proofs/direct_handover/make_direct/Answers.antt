use Rattle.std.proofs.Common.{sym, ap, ◌∙◌, subst}
use Rattle.std.specs.Prelude.{IfSome, cond}
use Rattle.apply_plan.specs.declared.handover.Progress.TheVariants.{More, Done}
use Rattle.apply_plan.specs.Targets.{IsPlaced}
use Rattle.apply_plan.specs.DueWrite.{written}
use Rattle.apply_plan.specs.KernelFactLemmas.{made_is_placed}
use Rattle.apply_plan.specs.DirectStepLemmas.{due_places, told}
use Rattle.apply_plan.proofs.direct_handover.make_direct.Goals as goal

pub make_if_any-requires : goal.make_if_any-requires
make_if_any-requires g c =
    subst (λ o. IfSome o (λ w. IsPlaced (g.K.Kernel.state c.args.kernel.now) w.group)) (sym c.direct_write-write.ensures.due)
    (due_places (record { targets = record { entries = c.args.entries.now; reserved = c.args.reserved.now }; allowed = c.args.allowed.now }) c.requires.valid.handover
    (g.C.Cores.least_of c.args.cores.now) (record { told = c.gives_least.ensures; ranged = c.requires.valid.ranged }) (g.K.Kernel.state c.args.kernel.now) c.requires.placed)

pub all_arrived-requires : goal.all_arrived-requires
all_arrived-requires g c = made_is_placed _ _ c.direct_write-write.result c.make_if_any.result c.make_if_any.ensures c.args.entries.now c.requires.placed

pub returns-then-all_arrived-clause-placed : goal.returns-then-all_arrived-clause-placed
returns-then-all_arrived-clause-placed g c = made_is_placed _ _ c.direct_write-write.result c.make_if_any.result c.make_if_any.ensures c.args.entries.now c.requires.placed

pub returns-else-all_arrived-clause-placed : goal.returns-else-all_arrived-clause-placed
returns-else-all_arrived-clause-placed g c = made_is_placed _ _ c.direct_write-write.result c.make_if_any.result c.make_if_any.ensures c.args.entries.now c.requires.placed

pub returns-then-all_arrived-clause-step : goal.returns-then-all_arrived-clause-step
returns-then-all_arrived-clause-step g c =
    let old = g.K.Kernel.state c.args.kernel.now in (
      c.in_ok-make_if_any.ensures ∙ ap (written old) c.direct_write-write.ensures.due,
      told (record { targets = record { entries = c.args.entries.now; reserved = c.args.reserved.now }; allowed = c.args.allowed.now }) c.requires.valid.handover
          (g.C.Cores.least_of c.args.cores.now) (record { told = c.gives_least.ensures; ranged = c.requires.valid.ranged }) (g.K.Kernel.state c.make_if_any.new.kernel)
          (made_is_placed _ _ c.direct_write-write.result c.make_if_any.result c.make_if_any.ensures c.args.entries.now c.requires.placed) Done
          (ap (λ b. cond b Done More) (sym c.if-all_arrived.true ∙ c.all_arrived.ensures)),
    )

pub returns-else-all_arrived-clause-step : goal.returns-else-all_arrived-clause-step
returns-else-all_arrived-clause-step g c =
    let old = g.K.Kernel.state c.args.kernel.now in (
      c.in_ok-make_if_any.ensures ∙ ap (written old) c.direct_write-write.ensures.due,
      told (record { targets = record { entries = c.args.entries.now; reserved = c.args.reserved.now }; allowed = c.args.allowed.now }) c.requires.valid.handover
          (g.C.Cores.least_of c.args.cores.now) (record { told = c.gives_least.ensures; ranged = c.requires.valid.ranged }) (g.K.Kernel.state c.make_if_any.new.kernel)
          (made_is_placed _ _ c.direct_write-write.result c.make_if_any.result c.make_if_any.ensures c.args.entries.now c.requires.placed) More
          (ap (λ b. cond b Done More) (sym c.if-all_arrived.false ∙ c.all_arrived.ensures)),
    )
