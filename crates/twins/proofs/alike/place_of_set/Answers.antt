use Rattle.std.proofs.Common.{None, arith, sym, ◌∙◌}
use Rattle.std.proofs.lemmas.List.{get_or_default}
use Rattle.twins.proofs.alike.place_of_set.Goals as goal

pub returns-in-Some-clause-made : goal.returns-in-Some-clause-made
returns-in-Some-clause-made c =
    c.requires.spans.made c.args.at c.in-Some.place
    (sym (c.index.ensures ∙ get_or_default c.args.spans.now.places.items c.args.at c.index.result.now None (omega (arith, c.requires.spans.places))) ∙ c.in-Some.is)
