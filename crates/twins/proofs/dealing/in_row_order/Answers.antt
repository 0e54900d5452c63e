use Rattle.std.proofs.Common.{rules}
use Rattle.std.proofs.lemmas.List.Sorted.{IsNonDecreasingBy-from_sort_by_key}
use Rattle.twins.specs.declared.holders.Share.{Share}
use Rattle.twins.proofs.dealing.in_row_order.Goals as goal

pub returns-clause-rising : goal.returns-clause-rising
returns-clause-rising c = IsNonDecreasingBy-from_sort_by_key (λ (s : Share). s.row) _ c.in_ok-sort_by_key.ensures.sorted (λ a r q k. search rules)
