use Rattle.std.proofs.Common.{not, refl, rules}
use Rattle.std.proofs.lemmas.Fn.{filter_same}
use Rattle.transport.specs.Numbers.{is_marked}
use Rattle.transport.proofs.labels.Labels.strike_taken.Goals as goal

pub returns : goal.returns
returns c = record {
  labelled = filter_same _ (λ g. not (is_marked c.args.taken.now g)) _ (λ x b f' k. search rules) _ _ c.retain.ensures.filtered;
  of_class = refl;
  due = refl;
  free_end = refl;
}
