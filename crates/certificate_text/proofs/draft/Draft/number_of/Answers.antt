use Rattle.std.proofs.Common.{◌≡◌, ◌<◌, ◌∙◌, Some, refl, ap, sym, length, true, false, arith, rules}
use Rattle.std.specs.Str.{bytes_eq}
use Rattle.std.specs.List.{slice_get}
use Rattle.std.proofs.lemmas.Option.{slice_get_read}
use Rattle.certificate.specs.RowView.{RowView}
use Rattle.certificate_text.specs.DraftView.{number_of}
use Rattle.certificate_text.proofs.Ids.{bytes_eq_sym}
use Rattle.certificate_text.proofs.DraftTakes.{number_here, number_later}
use Rattle.certificate_text.proofs.draft.Draft.number_of.Goals as goal

pub returns-then-eq-clause-number : goal.returns-then-eq-clause-number
unfolding number_of
returns-then-eq-clause-number c =
    let rows = c.self.inside.rows.items in
    let len : c.len.result ≡ length rows = search rules in
    let lt : c.loop-number.number < length rows = omega (arith, len, c.loop-number-test.true) in
    let at : slice_get rows c.loop-number.number ≡ Some c.index.result.now = slice_get_read rows (length rows) c.loop-number.number c.index.result.now refl lt c.index.ensures in
    let id : c.as_bytes.result.now ≡ c.index.result.now.id = c.as_bytes.ensures.value ∙ ap (λ (r : RowView). r.id) c.behind-self.view_is in
    let same : bytes_eq c.args.id.now c.index.result.now.id ≡ true =
    bytes_eq_sym c.args.id.now c.index.result.now.id ∙ ap (λ bs. bytes_eq bs c.args.id.now) (sym id) ∙ sym c.eq.ensures ∙ c.if-eq.true in
    sym (c.loop-number.invariant ∙ number_here c.args.id.now rows c.loop-number.number c.index.result.now at same) ∙ ap (number_of c.args.id.now) c.self.view_is

pub loop-number-preserved : goal.loop-number-preserved
loop-number-preserved c =
    let rows = c.self.inside.rows.items in
    let len : c.len.result ≡ length rows = search rules in
    let lt : c.loop-number.number < length rows = omega (arith, len, c.loop-number-test.true) in
    let at : slice_get rows c.loop-number.number ≡ Some c.index.result.now = slice_get_read rows (length rows) c.loop-number.number c.index.result.now refl lt c.index.ensures in
    let id : c.as_bytes.result.now ≡ c.index.result.now.id = c.as_bytes.ensures.value ∙ ap (λ (r : RowView). r.id) c.behind-self.view_is in
    let other : bytes_eq c.args.id.now c.index.result.now.id ≡ false =
    bytes_eq_sym c.args.id.now c.index.result.now.id ∙ ap (λ bs. bytes_eq bs c.args.id.now) (sym id) ∙ sym c.eq.ensures ∙ c.if-eq.false in
    c.loop-number.invariant ∙ number_later c.args.id.now rows c.loop-number.number c.index.result.now at other
