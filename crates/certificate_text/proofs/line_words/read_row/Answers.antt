use Rattle.std.proofs.Common.{◌∷◌, [], ap, ◌∙◌, rules}
use Rattle.std.proofs.lemmas.Result.{err_from_is_err_and}
use Rattle.certificate_text.specs.Line.{words}
use Rattle.certificate_text.proofs.line_words.read_row.Goals as goal

pub returns-in_err-offers-in-Some-split_once-clause-memory : goal.returns-in_err-offers-in-Some-split_once-clause-memory
returns-in_err-offers-in-Some-split_once-clause-memory c =
    let p = err_from_is_err_and c.from_residual-in_err-offers-in-Some-split_once.result c.from_residual-in_err-offers-in-Some-split_once.ensures.1 in
    rw (p.1, p.2) (λ is. let os = c.in_err-offers-in-Some-split_once.ensures.memory is in (
      record { id = c.in-Some.id.now; demand = c.in_ok-demand-in-Some-split_once.demand; offers = os.0 },
      record {
        asked = c.in-Some-split_once.demand.now;
        more = words c.in-Some-split_once.offers.now;
        words_are = c.in-Some.ensures.0 ∙ ap (λ ws. c.in-Some.id.now ∷ ws) c.in-Some-split_once.ensures.0;
        id_is = search rules;
        demand_is = search rules;
        offers_are = os.1;
      },
    ))

pub returns-in_err-id-in-Some-split_once-clause-memory : goal.returns-in_err-id-in-Some-split_once-clause-memory
returns-in_err-id-in-Some-split_once-clause-memory c =
    let p = err_from_is_err_and c.from_residual-in_err-id-in-Some-split_once.result c.from_residual-in_err-id-in-Some-split_once.ensures.1 in
    rw (p.1, p.2) (λ is. (
      record { id = c.in-Some.id.now; demand = c.in_ok-demand-in-Some-split_once.demand; offers = c.in_ok-offers-in-Some-split_once.offers },
      record {
        asked = c.in-Some-split_once.demand.now;
        more = words c.in-Some-split_once.offers.now;
        words_are = c.in-Some.ensures.0 ∙ ap (λ ws. c.in-Some.id.now ∷ ws) c.in-Some-split_once.ensures.0;
        id_is = c.in_err-id-in-Some-split_once.ensures.memory is;
        demand_is = search rules;
        offers_are = c.in_ok-offers-in-Some-split_once.ensures.ok;
      },
    ))

pub returns-in_err-id-in-None-clause-memory : goal.returns-in_err-id-in-None-clause-memory
returns-in_err-id-in-None-clause-memory c =
    let p = err_from_is_err_and c.from_residual-in_err-id-in-None.result c.from_residual-in_err-id-in-None.ensures.1 in
    rw (p.1, p.2) (λ is. (
      record { id = c.in-Some.id.now; demand = c.in_ok-demand-in-None.demand; offers = [] },
      record {
        asked = c.in-Some.rest.now;
        more = [];
        words_are = c.in-Some.ensures.0 ∙ ap (λ ws. c.in-Some.id.now ∷ ws) c.in-None.ensures;
        id_is = c.in_err-id-in-None.ensures.memory is;
        demand_is = search rules;
        offers_are = tt;
      },
    ))
