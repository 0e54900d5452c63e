use Rattle.std.proofs.Common.{◌≡◌, ℕ, ◌-◌, get_or, subst, ◌∙◌, arith}
use Rattle.std.proofs.lemmas.List.{get_or_default}
use Rattle.cpuset_tree.specs.Kept.{ChangesAt, passed}
use Rattle.cpuset_tree.proofs.RefreshLemmas.{IsRefreshing-first, IsRefreshing-more}
use Rattle.cpuset_tree.proofs.refresh.refresh.Goals as goal

pub loop-place-init : goal.loop-place-init
loop-place-init c =
    IsRefreshing-first c.args.resource c.args.groups.now c.args.top.now c.args.written c.args.order.now.items c.place_of_older-older.result
    c.requires.in_order c.place_of_older-older.ensures.older c.requires.granted

pub loop-place-preserved : goal.loop-place-preserved
loop-place-preserved c =
    let old = c.loop-place.groups in
    let new = c.pass_group.new.groups in
    let keys = c.args.order.now.items in
    let place = c.loop-place.place - 1 in
    let here : c.index.result.now ≡ get_or keys place 0 = c.index.ensures ∙ get_or_default keys place c.index.result.now 0 (omega arith) in
    let change : ChangesAt old new (get_or keys place 0) (passed c.args.resource old c.args.top.now c.args.written) =
    subst (λ (k : ℕ). ChangesAt old new k (passed c.args.resource old c.args.top.now c.args.written)) here c.pass_group.ensures in
    IsRefreshing-more c.args.resource c.args.groups.now c.args.top.now c.args.written keys old new c.loop-place.place place
    (omega arith) (omega arith) c.requires.granted change c.loop-place.invariant
