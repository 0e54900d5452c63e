use Rattle.std.proofs.Common.{◌≡◌, refl, sym, ◌∙◌, get_or, arith}
use Rattle.std.proofs.lemmas.Bool.{eq-eqb, ne_eqb}
use Rattle.std.proofs.lemmas.List.{get_or_default}
use Rattle.machine.proofs.CoreSets.{added_one, left_out}
use Rattle.machine.proofs.Lacking.{AreFirstsBelow-none, AreFirstsBelow-more}
use Rattle.machine.proofs.Siblings.{at}
use Rattle.machine.proofs.cores.firsts_of.Goals.{then-lowest-cpu, else-lowest-cpu}
use Rattle.machine.proofs.cores.firsts_of.Goals as goal

pub loop-cpu-init : goal.loop-cpu-init
loop-cpu-init c = AreFirstsBelow-none _ _ _ refl c.empty-firsts.ensures

pub loop-cpu-preserved : goal.loop-cpu-preserved
loop-cpu-preserved c =
    let lowest = c.args.lowest.now in
    let n = c.loop-cpu.cpu in
    let same : get_or lowest n 0 ≡ at lowest n = get_or_default lowest n 0 n (omega (arith, c.requires, c.loop-cpu-test.true)) in
    AreFirstsBelow-more lowest n c.loop-cpu.firsts _ c.loop-cpu.invariant
    (elim c.if-lowest-cpu.branch [
      | then-lowest-cpu w ↦ added_one c.loop-cpu.firsts _ n _ (eq-eqb _ _ (sym same ∙ w.if-lowest-cpu.true)) (w.firsts-is ∙ w.insert.ensures)
      | else-lowest-cpu w ↦ left_out c.loop-cpu.firsts _ n _ (ne_eqb _ _ (λ e. w.if-lowest-cpu.false (same ∙ e))) w.firsts-is
    ])
