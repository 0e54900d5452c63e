use Rattle.std.proofs.Common.{rules, ◌++◌, sym, ap, ◌∙◌}
use Rattle.std.proofs.lemmas.Bool.{false≢true}
use Rattle.std.proofs.lemmas.List.{append-nil}
use Rattle.std.proofs.lemmas.Result.{on_ok_weaker}
use Rattle.rows.specs.PartLemmas.{none_pushed, some_pushed}
use Rattle.rows.proofs.parts.push_some.Goals as goal

pub returns-then-is_empty : goal.returns-then-is_empty
returns-then-is_empty c =
    sym (ap (λ l. c.args.offers.now ++ l) (none_pushed _ _ (c.is_empty.ensures.0 (search rules))) ∙ append-nil _)

pub returns : goal.returns
returns c =
    on_ok_weaker c.push.result
    (λ pushed. pushed ∙ ap (λ l. c.args.offers.now ++ l) (sym (some_pushed c.args.weight c.args.cpus (λ none. false≢true (sym (search rules) ∙ c.is_empty.ensures.1 none)))))
    c.push.ensures.ok
