-- What the text and the table lead to.
use Rattle.std.proofs.Common.{◌≢◌, ℕ, Bor, List, Option, Result, Err, inl, inr, option_map, rules, subst}
use Rattle.program_io.specs.declared.refusal.Refusal.{Refusal}
use Rattle.machine.specs.Layout.{Layout}
use Rattle.slit.specs.Table.{Table}
use Rattle.cli.specs.Ready.{IsReady, not_json}
use Rattle.cli.proofs.run.ready.Goals as goal

pub returns-in-Err : goal.returns-in-Err
returns-in-Err g c = inl (c.in-Err.error, c.in-Err.ensures.err, c.from.ensures)

pub returns-in-Err-table_in : goal.returns-in-Err-table_in
returns-in-Err-table_in g c = ((c.in-Ok.text.items, c.in-Ok.ensures.bytes), c.in-Err-table_in.ensures.refused)

pub returns-in-Ok-described : goal.returns-in-Ok-described
returns-in-Ok-described g c = (
  c.in-Ok.text.items,
  c.in-Ok.ensures.bytes,
  (c.in-Ok-table_in.table, c.in-Ok-table_in.ensures.table, rw (c.as_ref.ensures.value, c.as_slice.ensures.value) at c.in-Ok-described.ensures),
)

pub returns : goal.returns
returns g c =
    let why : Result Layout Refusal = Err c.in-Err-described.refusal in
    let read : IsReady (option_map (λ (t : Bor Table). t.now) c.as_ref.result) c.in-Ok.text.items why =
    subst (λ (text : List ℕ). IsReady (option_map (λ (t : Bor Table). t.now) c.as_ref.result) text why) c.as_slice.ensures.value c.in-Err-described.ensures in
    let other : c.in-Err-described.refusal ≢ not_json = search rules in
    inr (
      (
        c.in-Ok.text.items,
        c.in-Ok.ensures.bytes,
        (c.in-Ok-table_in.table, c.in-Ok-table_in.ensures.table, subst (λ (table : Option Table). IsReady table c.in-Ok.text.items why) c.as_ref.ensures.value read),
      ),
      other,
    )
