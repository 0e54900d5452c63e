use Rattle.std.proofs.Common.{◌<◌, length, arith}
use Rattle.std.specs.List.Sorted.{IsPermutation}
use Rattle.std.proofs.lemmas.List.Sorted.{All-permutation, sum_by-IsPermutation}
use Rattle.twins.specs.declared.holders.Share.{Share}
use Rattle.twins.proofs.Deals.{dealt_as}
use Rattle.twins.proofs.dealing.deal_class.Goals as goal
use Rattle.twins.proofs.dealing.deal_class.Goals.{After-as_slice}

same : (c : After-as_slice) → IsPermutation c.args.shares.now c.as_slice.result.now
same c = rw c.as_slice.ensures.value c.in_ok-sorted.ensures.same

pub deal_in_order-requires-2-clause-rows : goal.deal_in_order-requires-2-clause-rows
deal_in_order-requires-2-clause-rows c =
    All-permutation (λ (s : Share). s.row < length c.args.sets.now) _ _ (same (goal.at.deal_in_order-requires-2-clause-rows c).After-as_slice) c.requires.rows

pub deal_in_order-requires-2-clause-room : goal.deal_in_order-requires-2-clause-room
deal_in_order-requires-2-clause-room c =
    omega (arith, c.requires.room, sum_by-IsPermutation (λ (s : Share). s.amount) _ _ (same (goal.at.deal_in_order-requires-2-clause-room c).After-as_slice))

pub returns : goal.returns
returns c = dealt_as _ _ _ _ _ (same (goal.at.returns c).After-as_slice) c.deal_in_order-2.ensures
