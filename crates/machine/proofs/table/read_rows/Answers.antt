use Rattle.std.proofs.Common.{◌≡◌, ap, ◌∙◌, length, map}
use Rattle.std.proofs.lemmas.List.{length-map}
use Rattle.std.proofs.lemmas.Result.{err_from_is_err_and}
use Rattle.serde_json.specs.View.{view}
use Rattle.machine.specs.Members.{items_of}
use Rattle.machine.proofs.ItemLaws.{item_view, item_within, item_last}
use Rattle.machine.proofs.RowSteps.{AreRowsRead-more, AreRowsRead-fault, AreRowsRead-all, AreRowsRead-room}
use Rattle.machine.proofs.table.read_rows.Goals as goal

pub read_row-requires : goal.read_row-requires
read_row-requires c =
    let is = item_view c.args.rows.now c.loop-i.i c.index-rows-i.result c.loop-i-test.true c.index-rows-i.is in
    let len = c.cells.ensures.len ∙ ap (λ d. length (items_of d)) is in
    let rows : length (map view c.args.rows.now) ≡ c.args.count = length-map c.args.rows.now view ∙ c.requires.rows in
    rw len (AreRowsRead-room _ _ _ _ c.loop-i.invariant rows c.requires.columns (item_within _ _ c.loop-i-test.true) c.requires.few)

pub loop-i-preserved : goal.loop-i-preserved
loop-i-preserved c =
    let is = item_view c.args.rows.now c.loop-i.i c.index-rows-i.result c.loop-i-test.true c.index-rows-i.is in
    let cells = c.cells.ensures.cells ∙ ap items_of is in
    AreRowsRead-more _ _ _ _ c.loop-i.invariant (item_within _ _ c.loop-i-test.true)
    (rw (← cells) c.in_ok-read_row.ensures.fault) (rw (← cells) c.in_ok-read_row.ensures.allowed) (rw (← cells) c.in_ok-read_row.ensures.added)

pub returns-in_err-read_row-clause-fault : goal.returns-in_err-read_row-clause-fault
returns-in_err-read_row-clause-fault c =
    let p = err_from_is_err_and c.from_residual.result c.from_residual.ensures.1 in
    let is = item_view c.args.rows.now c.loop-i.i c.index-rows-i.result c.loop-i-test.true c.index-rows-i.is in
    let cells = c.cells.ensures.cells ∙ ap items_of is in
    rw (p.1, p.2)
    (AreRowsRead-fault _ _ _ _ c.loop-i.invariant (item_within _ _ c.loop-i-test.true) (rw (← cells) c.in_err-read_row.ensures.fault))

pub returns-clause-fault : goal.returns-clause-fault
returns-clause-fault c =
    (AreRowsRead-all _ _ _ c.loop-i.invariant (item_last _ _ c.loop-i-test.false c.loop-i.auto.i-end)).0

pub returns-clause-entries : goal.returns-clause-entries
returns-clause-entries c =
    (AreRowsRead-all _ _ _ c.loop-i.invariant (item_last _ _ c.loop-i-test.false c.loop-i.auto.i-end)).1

pub returns-clause-allowed : goal.returns-clause-allowed
returns-clause-allowed c =
    (AreRowsRead-all _ _ _ c.loop-i.invariant (item_last _ _ c.loop-i-test.false c.loop-i.auto.i-end)).2
