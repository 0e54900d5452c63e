use Rattle.std.proofs.Common.{◌≡◌, ◌++◌, ◌∷◌, [], List, ap, sym, ◌∙◌, refl, arith, length, length-append}
use Rattle.std.specs.Prelude.{Some}
use Rattle.std.proofs.lemmas.Result.{err_from_is_err_and}
use Rattle.certificate.specs.RowView.{RowView}
use Rattle.certificate_text.specs.DraftView.{has_id, has_no_plan}
use Rattle.certificate_text.specs.DraftRead.{draft_view, keeps_id}
use Rattle.certificate_text.proofs.Ids.{ids_more}
use Rattle.certificate_text.proofs.DraftTakes.{row_once, row_more, is_some_of}
use Rattle.certificate_text.proofs.draft.Draft.add_row.Goals as goal

pub returns-then-contains : goal.returns-then-contains
returns-then-contains c =
    let known : has_id c.args.row.id c.self.inside.rows.items ≡ c.contains.result =
    sym (c.self.invariant.ids c.args.row.id) ∙ ap (keeps_id c.self.inside.ids) (sym c.requires) ∙ sym c.contains.ensures in
    rw (← c.self.view_is) (row_once (draft_view c.self.inside) c.args.row c.in-Body.is (known ∙ c.if-contains.true), refl)

pub returns-in_err-reserve : goal.returns-in_err-reserve
returns-in_err-reserve c =
    let known : has_id c.args.row.id c.self.inside.rows.items ≡ c.contains.result =
    sym (c.self.invariant.ids c.args.row.id) ∙ ap (keeps_id c.self.inside.ids) (sym c.requires) ∙ sym c.contains.ensures in
    let taken = row_more (draft_view c.self.inside) c.args.row c.in-Body.is (ap has_no_plan c.self.view_is ∙ sym c.has_no_plan.ensures ∙ c.if-not-has_no_plan.false) (known ∙ c.if-contains.false) in
    let p = err_from_is_err_and c.from_residual.result c.from_residual.ensures.1 in
    rw (p.1, p.2, ← c.self.view_is) (tt, is_some_of _ _ taken, ap (λ (l : List RowView). record (draft_view c.self.inside) { rows = l }) c.in_err-reserve.ensures.items)

pub returns-in_err-insert : goal.returns-in_err-insert
returns-in_err-insert c =
    let known : has_id c.args.row.id c.self.inside.rows.items ≡ c.contains.result =
    sym (c.self.invariant.ids c.args.row.id) ∙ ap (keeps_id c.self.inside.ids) (sym c.requires) ∙ sym c.contains.ensures in
    let taken = row_more (draft_view c.self.inside) c.args.row c.in-Body.is (ap has_no_plan c.self.view_is ∙ sym c.has_no_plan.ensures ∙ c.if-not-has_no_plan.false) (known ∙ c.if-contains.false) in
    let p = err_from_is_err_and c.from_residual-in_err-insert.result c.from_residual-in_err-insert.ensures.1 in
    rw (p.1, p.2, ← c.self.view_is) (tt, is_some_of _ _ taken, ap (λ (l : List RowView). record (draft_view c.self.inside) { rows = l }) c.in_ok-reserve.ensures.items)

pub invariant_of-self-2 : goal.invariant_of-self-2
invariant_of-self-2 c =
    let items : c.push.new.self.items ≡ c.self.inside.rows.items ++ c.args.row ∷ [] = c.in_ok-push.ensures.items ∙ ap (λ (l : List RowView). l ++ c.args.row ∷ []) c.in_ok-reserve.ensures.items in
    let long = ap (λ (l : List RowView). length l) items in
    record {
      ids = λ k. ids_more c.self.inside.rows.items c.args.row c.args.id c.self.inside.ids c.insert.new.self c.in_ok-insert.ensures.updates c.requires c.self.invariant.ids k
          ∙ ap (has_id k) (sym items);
      within = omega (arith, c.self.invariant.within, long, length-append c.self.inside.rows.items (c.args.row ∷ []));
    }

pub returns : goal.returns
returns c =
    let known : has_id c.args.row.id c.self.inside.rows.items ≡ c.contains.result =
    sym (c.self.invariant.ids c.args.row.id) ∙ ap (keeps_id c.self.inside.ids) (sym c.requires) ∙ sym c.contains.ensures in
    let taken = row_more (draft_view c.self.inside) c.args.row c.in-Body.is (ap has_no_plan c.self.view_is ∙ sym c.has_no_plan.ensures ∙ c.if-not-has_no_plan.false) (known ∙ c.if-contains.false) in
    let items : c.push.new.self.items ≡ c.self.inside.rows.items ++ c.args.row ∷ [] = c.in_ok-push.ensures.items ∙ ap (λ (l : List RowView). l ++ c.args.row ∷ []) c.in_ok-reserve.ensures.items in
    rw (← c.self.view_is) (taken ∙ ap (λ (l : List RowView). Some (record (draft_view c.self.inside) { rows = l })) (sym items))
