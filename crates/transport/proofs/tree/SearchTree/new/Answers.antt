use Rattle.std.proofs.Common.{rules}
use Rattle.transport.proofs.Starting.{tidy_none}
use Rattle.transport.proofs.tree.SearchTree.new.Goals as goal

pub returns : goal.returns
returns c =
    tidy_none _ _ _ c.in_ok-reached_rows.ensures (c.in_ok-of_class.ensures.items_if_clones_equal (λ y e. search rules)) c.new-2.ensures.items (c.in_ok-due.ensures.items_if_clones_equal (λ y e. e))
    (c.in_ok-taken.ensures.items_if_clones_equal (λ y e. e)) c.new-3.ensures.items
