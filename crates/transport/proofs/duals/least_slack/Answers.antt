use Rattle.std.proofs.Common.{◌≡◌, ◌<◌, true, length, take, sym, ap, subst, arith}
use Rattle.std.proofs.lemmas.List.{take_all}
use Rattle.transport.specs.Numbers.{number}
use Rattle.transport.specs.States.{IsLeastUpTo}
use Rattle.transport.specs.declared.labels.Labels.{Labels}
use Rattle.transport.specs.declared.tree.SearchTree.{SearchTree}
use Rattle.transport.specs.declared.tree.TreeClasses.{TreeClasses}
use Rattle.transport.proofs.Running.{free_end_in_reach}
use Rattle.transport.proofs.LeastSlack.{least_none, least_free_end, least_skip, least_more, root_below, listed_slack, listed_taken}
use Rattle.transport.proofs.duals.least_slack.Goals as goal
use Rattle.transport.proofs.duals.least_slack.Goals.{in-Some, in-None, then-not-index+in_ok-lesser, else-not-index}

pub slack-requires-clause-class : goal.slack-requires-clause-class
slack-requires-clause-class c = (free_end_in_reach _ _ _ _ c.requires.running c.in-Some.is).class

pub slack-requires-clause-row : goal.slack-requires-clause-row
slack-requires-clause-row c = (free_end_in_reach _ _ _ _ c.requires.running c.in-Some.is).row

pub loop-class-init : goal.loop-class-init
loop-class-init c =
    let s = c.args.assignment.now in
    let ns = c.args.labels.now in
    let ts = c.args.tree_classes.now in
    elim c.match-labels.branch [
      | in-Some w ↦ subst (IsLeastUpTo s.values.items s.prices.items ns ts (take 0 ns.labelled.items) c.clear.new.self.items) (sym w.least-is)
          (least_free_end s.values.items s.prices.items ns ts ns.labelled.items c.clear.new.self.items w.in-Some.free_end w.slack.result c.clear.ensures.items w.in-Some.is w.slack.ensures)
      | in-None w ↦ subst (IsLeastUpTo s.values.items s.prices.items ns ts (take 0 ns.labelled.items) c.clear.new.self.items) (sym w.least-is)
          (least_none s.values.items s.prices.items ns ts ns.labelled.items c.clear.new.self.items w.in-None.is)
    ]

-- the tree of the search that runs
abbrev tree : Labels → TreeClasses → SearchTree → SearchTree
tree ns ts t = record { reached_rows = t.reached_rows; labels = ns; tree_classes = ts; nearest = t.nearest }

pub overflow_sub-slack : goal.overflow_sub-slack
overflow_sub-slack c =
    let r = c.requires in
    root_below r.ws c.args.assignment.now (tree c.args.labels.now c.args.tree_classes.now r.tree) _ _ r.running c.deref-class-items.ensures.value c.loop-class-test.true _ c.index.ensures
    _ _ _ c.if-not-index.true c.index-then-not-index.ensures r.root_at c.index-root_value.ensures

pub loop-class-preserved : goal.loop-class-preserved
loop-class-preserved c =
    let s = c.args.assignment.now in
    let ns = c.args.labels.now in
    let ts = c.args.tree_classes.now in
    let r = c.requires in
    let t = tree ns ts r.tree in
    let i = c.loop-class.class-index in
    let xs = ns.labelled.items in
    let x = number c.deref-class-items.result.now i in
    let is : x ≡ number xs i = ap (λ ys. number ys i) c.deref-class-items.ensures.value in
    let lt : i < length xs = omega (arith, ap length c.deref-class-items.ensures.value, c.loop-class-test.true) in
    elim c.if-not-index.branch [
      | then-not-index+in_ok-lesser w ↦ rw (w.nearest-is, w.least-is)
          (least_more s.values.items s.prices.items ns ts xs c.loop-class.nearest.items _ i x _ _ lt is
          (listed_slack r.ws s t _ _ r.running c.deref-class-items.ensures.value c.loop-class-test.true _ c.index.ensures _ _ _ w.if-not-index.true w.index-then-not-index.ensures r.root_at c.index-root_value.ensures)
          c.loop-class.least w.in_ok-lesser.ensures c.loop-class.invariant)
      | else-not-index w ↦ rw (w.nearest-is, w.least-is)
          (least_skip s.values.items s.prices.items ns ts xs c.loop-class.nearest.items i x c.loop-class.least lt is
          (λ n its. listed_taken r.ws s t _ _ r.running c.deref-class-items.ensures.value c.loop-class-test.true _ c.index.ensures true w.if-not-index.false)
          c.loop-class.invariant)
    ]

pub returns : goal.returns
returns c =
    let s = c.args.assignment.now in
    let ns = c.args.labels.now in
    subst (λ xs. IsLeastUpTo s.values.items s.prices.items ns c.args.tree_classes.now xs c.loop-class.nearest.items c.loop-class.least)
    (take_all c.loop-class.class-index ns.labelled.items (omega (arith, ap length c.deref-class-items.ensures.value, c.loop-class-test.false)))
    c.loop-class.invariant
