use Rattle.std.proofs.Common.{sym, ◌∙◌}
use Rattle.machine.proofs.ItemLaws.{all_listed_items}
use Rattle.machine.proofs.cores.check_lists.Goals as goal

pub returns-clause-lists : goal.returns-clause-lists
returns-clause-lists c = all_listed_items _ _ (sym c.are_lists.ensures ∙ c.if-not-are_lists.false)
