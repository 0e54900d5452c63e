use Rattle.std.proofs.Common.{◌≡◌, ◌<◌, length, subst, arith}
use Rattle.std.proofs.lemmas.List.{take_all}
use Rattle.transport.specs.Numbers.{number}
use Rattle.transport.specs.States.{HasTaken}
use Rattle.transport.proofs.Running.{taken_start, taken_more, nearest_at}
use Rattle.transport.proofs.search.take_nearest.Goals as goal
use Rattle.transport.proofs.search.take_nearest.Goals.{After-index-class}

pub loop-at-init : goal.loop-at-init
loop-at-init c = taken_start _ _ c.args.tree.now.nearest.items

in_list : (c : After-index-class) → c.loop-at.at < length c.args.tree.now.nearest.items
in_list c = omega (arith, c.loop-at-test.true, c.len-at-end.ensures, c.args.tree.now.nearest.ok.0)

here : (c : After-index-class) → c.index-class.result.now ≡ number c.args.tree.now.nearest.items c.loop-at.at
here c = nearest_at c.args.tree.now.nearest c.loop-at.tree.nearest _ _ c.loop-at.invariant.nearest (in_list c) c.index-class.ensures

pub take_if_nearest-requires : goal.take_if_nearest-requires
take_if_nearest-requires c = record {
  class = (let i = (goal.at.take_if_nearest-requires c).After-index-class in rw (here i) (c.requires.within _ (in_list i)));
  running = (c.requires.running.0, c.loop-at.invariant.running _ c.requires.running.1);
}

pub loop-at-preserved : goal.loop-at-preserved
loop-at-preserved c =
    let i = (goal.at.loop-at-preserved c).After-index-class in
    taken_more _ _ _ _ c.args.tree.now.nearest.items c.loop-at.at _ (in_list i) (here i) c.loop-at.invariant c.in_ok-take_if_nearest.ensures

pub returns : goal.returns
returns c =
    subst (λ xs. HasTaken c.args.assignment.now c.args.tree.now c.loop-at.tree xs)
    (take_all c.loop-at.at c.args.tree.now.nearest.items (omega (arith, c.loop-at-test.false, c.len-at-end.ensures, c.args.tree.now.nearest.ok.0)))
    c.loop-at.invariant
