use Rattle.std.proofs.Common.{◌≡◌, ◌++◌, [], ◌∷◌, arith}
use Rattle.std.proofs.lemmas.Grind.{common_steps}
use Rattle.std.proofs.lemmas.Result.{err_from_is_err_and}
use Rattle.machine.proofs.ItemLaws.{item_view, item_within, item_last}
use Rattle.machine.proofs.RowSteps.{AreCellsRead-more, AreCellsRead-fault, AreCellsRead-all}
use Rattle.machine.proofs.table.read_row.Goals as goal

pub loop-j-preserved : goal.loop-j-preserved
loop-j-preserved c =
    let is = item_view c.args.cells.now c.loop-j.j c.index-cells-j.result c.loop-j-test.true c.index-cells-j.is in
    let pushed : c.push.new.self.items ≡ c.loop-j.entries.items ++ c.in_ok-entry.entry ∷ [] = grind (arith, common_steps) in
    AreCellsRead-more _ _ _ _ _ _ _ c.loop-j.invariant (item_within _ _ c.loop-j-test.true)
    (rw (← is) c.in_ok-entry.ensures.fault) (rw (← is) c.in_ok-entry.ensures.entry) c.in_ok-entry.ensures.allowed pushed

pub returns-in_err-entry-clause-fault : goal.returns-in_err-entry-clause-fault
returns-in_err-entry-clause-fault c =
    let p = err_from_is_err_and c.from_residual.result c.from_residual.ensures.1 in
    let is = item_view c.args.cells.now c.loop-j.j c.index-cells-j.result c.loop-j-test.true c.index-cells-j.is in
    rw (p.1, p.2)
    (AreCellsRead-fault _ _ _ _ _ _ c.loop-j.invariant (item_within _ _ c.loop-j-test.true) (rw (← is) c.in_err-entry.ensures.fault))

pub returns-clause-fault : goal.returns-clause-fault
returns-clause-fault c =
    (AreCellsRead-all _ _ _ _ _ c.loop-j.invariant (item_last _ _ c.loop-j-test.false c.loop-j.auto.j-end)).none

pub returns-clause-added : goal.returns-clause-added
returns-clause-added c =
    (AreCellsRead-all _ _ _ _ _ c.loop-j.invariant (item_last _ _ c.loop-j-test.false c.loop-j.auto.j-end)).added

pub returns-clause-allowed : goal.returns-clause-allowed
returns-clause-allowed c =
    (AreCellsRead-all _ _ _ _ _ c.loop-j.invariant (item_last _ _ c.loop-j-test.false c.loop-j.auto.j-end)).allowed
