use Rattle.std.proofs.Common.{◌≡◌, length, map, ◌∙◌}
use Rattle.std.specs.List.{flat_map}
use Rattle.std.proofs.lemmas.List.{length-map}
use Rattle.serde_json.specs.View.{view}
use Rattle.machine.specs.Distances.{row_entries, AreEntries, AreRowsAllowed}
use Rattle.machine.proofs.RowSteps.{AreEntries-rows, IfOk-both}
use Rattle.machine.proofs.table.from_rows.Goals as goal

pub returns-clause-are : goal.returns-clause-are
returns-clause-are c =
    let ds = map view c.in_ok-rows.rows.now in
    let rows : length ds ≡ c.args.count = length-map c.in_ok-rows.rows.now view ∙ c.in_ok-check_shape.ensures.rows in
    IfOk-both c.read_rows.result (λ v. v.items ≡ flat_map row_entries ds) (λ _. AreRowsAllowed ds) (λ v. AreEntries c.args.count v.items)
    (λ v is allowed. rw is (AreEntries-rows ds _ rows c.in_ok-check_shape.ensures.columns allowed))
    c.read_rows.ensures.entries c.read_rows.ensures.allowed
