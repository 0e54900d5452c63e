-- The one remark, or both in their order.
use Rattle.std.proofs.Common.{◌++◌, inl, inr, refl}
use Rattle.std.proofs.lemmas.List.{append_assoc}
use Rattle.cgroup_tree.proofs.root.tell_others.Goals as goal

pub returns-in-None : goal.returns-in-None
returns-in-None g c = (_, inl (c.in-None.ensures, refl), c.tell.ensures)

pub returns-in-Some : goal.returns-in-Some
returns-in-Some g c =
    let lacks = c.tell_unless_none.ensures in
    let besides = c.tell_unless_none-in-Some.ensures in (
      besides.0 ++ lacks.0,
      inr (
        c.in-Some.found,
        c.in-Some.ensures,
        (lacks.0, besides.0, rw c.minus-lacks.ensures at lacks.1, rw c.minus-besides.ensures at besides.1, refl),
      ),
      λ how before held. rw (append_assoc besides.0 lacks.0 before) (besides.2 how _ (lacks.2 how before held)),
    )
