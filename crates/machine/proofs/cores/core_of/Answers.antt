use Rattle.std.proofs.Common.{sym, ◌∙◌}
use Rattle.machine.proofs.PlaceLaws.{is_core-none, is_core-outside, is_core-apart, first_is_least}
use Rattle.machine.proofs.cores.core_of.Goals as goal

pub returns-in_default-clause-fits : goal.returns-in_default-clause-fits
returns-in_default-clause-fits c = λ nodes are within. sym (is_core-none nodes _ _ _ _ c.in_default.ensures.first)

pub returns-then-not-is_within-clause-fits : goal.returns-then-not-is_within-clause-fits
returns-then-not-is_within-clause-fits c = λ nodes are within. sym (is_core-outside nodes _ _ _ _ (sym c.is_within.ensures ∙ c.if-not-is_within.true))

pub returns-then-not-are_of_node-clause-fits : goal.returns-then-not-are_of_node-clause-fits
returns-then-not-are_of_node-clause-fits c = λ nodes are within.
    sym (is_core-apart nodes _ _ _ _ c.args.places.now c.in-Some.least _ are within (sym c.is_within.ensures ∙ c.if-not-is_within.false) c.in-Some.ensures.first.member c.are_of_node.ensures
    ∙ c.if-not-are_of_node.true)

pub returns-clause-fits : goal.returns-clause-fits
returns-clause-fits c = λ nodes are within.
    sym (is_core-apart nodes _ _ _ _ c.args.places.now c.in-Some.least _ are within (sym c.is_within.ensures ∙ c.if-not-is_within.false) c.in-Some.ensures.first.member c.are_of_node.ensures
    ∙ c.if-not-are_of_node.false)

pub returns-clause-least : goal.returns-clause-least
returns-clause-least c = first_is_least _ _ c.in-Some.ensures.first c.in-Some.ensures.in_range
