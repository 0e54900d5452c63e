use Rattle.std.proofs.Common.{◌≡◌, ◌∙◌, Some, None, length, refl, ap, sym}
use Rattle.std.specs.Str.{bytes_eq}
use Rattle.std.specs.List.{slice_get}
use Rattle.std.proofs.lemmas.Option.{slice_get_read, slice_get_past}
use Rattle.certificate.specs.RowView.{RowView}
use Rattle.certificate_text.specs.DraftView.{is_id_of}
use Rattle.certificate_text.specs.Held.{sets_of}
use Rattle.certificate_text.proofs.HeldSets.{sets_length}
use Rattle.certificate_text.proofs.Ids.{bytes_eq_sym}
use Rattle.certificate_text.proofs.draft.Draft.awaits.Goals as goal

pub returns-in-Some : goal.returns-in-Some
returns-in-Some c =
    let rows = c.self.inside.rows.items in
    let place : c.len.result ≡ length (sets_of c.self.inside.held) = c.len.ensures ∙ sym (sets_length c.self.inside.held) in
    let found : slice_get rows c.len.result ≡ Some c.in-Some.row.now =
    slice_get_read rows (length rows) c.len.result c.in-Some.row.now refl (rw c.deref.ensures.value at c.in-Some.ensures.lookup.3.0)
    (rw c.deref.ensures.value at (c.in-Some.ensures.lookup.3.1 c.in-Some.row.now)) in
    let id : c.as_bytes.result.now ≡ c.in-Some.row.now.id = c.as_bytes.ensures.value ∙ ap (λ (r : RowView). r.id) c.row.view_is in
    rw (← c.self.view_is) (c.eq.ensures ∙ ap (λ bs. bytes_eq bs c.args.id.now) id ∙ bytes_eq_sym c.in-Some.row.now.id c.args.id.now
    ∙ sym (ap (is_id_of c.args.id.now) (rw place at found)))

pub returns-in-None : goal.returns-in-None
returns-in-None c =
    let rows = c.self.inside.rows.items in
    let place : c.len.result ≡ length (sets_of c.self.inside.held) = c.len.ensures ∙ sym (sets_length c.self.inside.held) in
    let past : slice_get rows c.len.result ≡ None = slice_get_past rows c.len.result (rw c.deref.ensures.value at c.in-None.ensures.lookup.3) in
    rw (← c.self.view_is) (sym (ap (is_id_of c.args.id.now) (rw place at past)))
