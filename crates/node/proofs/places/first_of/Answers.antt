use Rattle.std.proofs.Common.{subst, arith}
use Rattle.node.proofs.LeastLemmas.{Walks, walk_begins, walk_goes_on, walk_has_enough, walk_is_over}
use Rattle.node.proofs.places.first_of.Goals as goal

pub loop-next-init : goal.loop-next-init
loop-next-init c = walk_begins c.args.set.now c.args.count c.empty-taken.result c.empty-taken.ensures c.first-next.result c.first-next.ensures.first c.first-next.ensures.in_range

pub insert-requires : goal.insert-requires
insert-requires c = (subst (Walks c.args.set.now c.args.count c.loop-next.taken c.loop-next.left) c.in-Some.is c.loop-next.invariant).in_range

pub loop-next-preserved : goal.loop-next-preserved
loop-next-preserved c =
    walk_goes_on c.args.set.now c.args.count c.loop-next.taken c.loop-next.left c.in-Some.n _ c.next_after-next.result
    (subst (Walks c.args.set.now c.args.count c.loop-next.taken c.loop-next.left) c.in-Some.is c.loop-next.invariant) (omega (arith, c.if-left-eq0.false)) c.insert.ensures
    c.next_after-next.ensures.first c.next_after-next.ensures.in_range

pub returns-then-left-eq0 : goal.returns-then-left-eq0
returns-then-left-eq0 c =
    walk_has_enough c.args.set.now c.args.count c.loop-next.taken c.loop-next.left c.in-Some.n
    (subst (Walks c.args.set.now c.args.count c.loop-next.taken c.loop-next.left) c.in-Some.is c.loop-next.invariant) c.if-left-eq0.true

pub returns : goal.returns
returns c =
    walk_is_over c.args.set.now c.args.count c.loop-next.taken c.loop-next.left c.loop-next.next c.loop-next.invariant c.in_default.not-Some
