use Rattle.std.proofs.Common.{◌≡◌, None, ◌∷◌, ap, ◌∙◌, arith}
use Rattle.std.specs.Prelude.{codes}
use Rattle.std.proofs.lemmas.Result.{err_from_is_err_and}
use Rattle.certificate_text.specs.Line.{words}
use Rattle.certificate_text.proofs.Refusing.{no_row, no_hold, no_price, no_total, no_word, no_headers, same_word, other_word}
use Rattle.certificate_text.proofs.line.read_line.Goals as goal

pub returns-in_default-clause-bad : goal.returns-in_default-clause-bad
returns-in_default-clause-bad c = λ _ bad. no_word c.args.line.now (record {
  no_header = no_headers c.args.line.now (other_word c.args.line.now c.as_slice.result.now (codes "numarun-certificate 1") c.if-eq.ensures c.as_slice.ensures)
      (other_word c.args.line.now c.as_slice-2.result.now (codes "numarun-certificate 2") c.if-eq-2.ensures c.as_slice-2.ensures);
  no_end = other_word c.args.line.now c.as_slice-3.result.now (codes "end") c.if-eq-3.ensures c.as_slice-3.ensures;
}) c.in_default.ensures

pub returns-in_err-read_row-clause-bad : goal.returns-in_err-read_row-clause-bad
returns-in_err-read_row-clause-bad c =
    let kind : c.in-Some.kind.now ≡ codes "row" = same_word c.in-Some.kind.now c.as_slice-4.result.now (codes "row") c.if-eq-4.ensures c.as_slice-4.ensures in
    let p = err_from_is_err_and c.from_residual.result c.from_residual.ensures.1 in
    rw (p.1, p.2) (λ _ bad. no_row c.args.line.now (words c.in-Some.text.now) (c.in-Some.ensures.0 ∙ ap (λ k. k ∷ words c.in-Some.text.now) kind) (c.in_err-read_row.ensures.bad _ bad))

pub returns-in_default-read_hold-clause-bad : goal.returns-in_default-read_hold-clause-bad
returns-in_default-read_hold-clause-bad c =
    let kind : c.in-Some.kind.now ≡ codes "hold" = same_word c.in-Some.kind.now c.as_slice-5.result.now (codes "hold") c.if-eq-5.ensures c.as_slice-5.ensures in
    λ _ bad. no_hold c.args.line.now (words c.in-Some.text.now) (c.in-Some.ensures.0 ∙ ap (λ k. k ∷ words c.in-Some.text.now) kind) c.in_default-read_hold.ensures

pub returns-in_err-price-clause-bad : goal.returns-in_err-price-clause-bad
returns-in_err-price-clause-bad c =
    let kind : c.in-Some.kind.now ≡ codes "price" = same_word c.in-Some.kind.now c.as_slice-6.result.now (codes "price") c.if-eq-6.ensures c.as_slice-6.ensures in
    let p = err_from_is_err_and c.from_residual-in_err-price.result c.from_residual-in_err-price.ensures.1 in
    let none : c.read_price.result ≡ None = grind arith in
    rw (p.1, p.2) (λ _ bad. no_price c.args.line.now (words c.in-Some.text.now) (c.in-Some.ensures.0 ∙ ap (λ k. k ∷ words c.in-Some.text.now) kind) (rw none at c.read_price.ensures))

pub returns-in_err-total-clause-bad : goal.returns-in_err-total-clause-bad
returns-in_err-total-clause-bad c =
    let kind : c.in-Some.kind.now ≡ codes "total" = same_word c.in-Some.kind.now c.as_slice-7.result.now (codes "total") c.if-eq-7.ensures c.as_slice-7.ensures in
    let p = err_from_is_err_and c.from_residual-in_err-total.result c.from_residual-in_err-total.ensures.1 in
    let none : c.read_total.result ≡ None = grind arith in
    rw (p.1, p.2) (λ _ bad. no_total c.args.line.now (words c.in-Some.text.now) (c.in-Some.ensures.0 ∙ ap (λ k. k ∷ words c.in-Some.text.now) kind) (rw none at c.read_total.ensures))
