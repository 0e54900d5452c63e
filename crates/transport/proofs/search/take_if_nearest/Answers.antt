use Rattle.std.proofs.Common.{◌≡◌, false, Some, sym, ◌∙◌, subst, arith}
use Rattle.std.proofs.lemmas.Result.{on_ok_weaker}
use Rattle.transport.specs.Numbers.{is_marked, IsEachOnce}
use Rattle.transport.specs.Shares.{AllBelow, holders_of}
use Rattle.transport.specs.Searches.{label_of}
use Rattle.transport.specs.States.{IsInReach, shares_of}
use Rattle.transport.proofs.Numbers.{read_mark}
use Rattle.transport.proofs.Running.{taken_left, taken_one, label_read, labelled_in_reach, shares_read, shares_below, taken_far, taken_unseen}
use Rattle.transport.proofs.search.take_if_nearest.Goals as goal
use Rattle.transport.proofs.search.take_if_nearest.Goals.{In-Some, After-deref}

label_here : (c : In-Some) → label_of c.args.tree.now.labels c.args.class ≡ Some c.in-Some.label
label_here c = label_read _ _ _ _ _ c.requires.class c.requires.running.1.search.labels_long c.index-2.ensures c.in-Some.is

here : (c : In-Some) → IsInReach c.args.assignment.now c.args.tree.now c.args.class c.in-Some.label
here c = labelled_in_reach _ _ _ _ _ c.requires.running.1 (label_here c)

off : (c : In-Some) → is_marked c.args.tree.now.tree_classes.taken.items c.args.class ≡ false
off c = read_mark _ _ _ _ _ c.requires.class c.requires.running.1.search.taken_long c.index.ensures c.if-index.false

pub slack-requires-clause-row : goal.slack-requires-clause-row
slack-requires-clause-row c = (here (goal.at.slack-requires-clause-row c).In-Some).row

pub slack-requires-clause-below : goal.slack-requires-clause-below
slack-requires-clause-below c = (here (goal.at.slack-requires-clause-below c).In-Some).below

are : (c : After-deref) → c.deref.result.now ≡ shares_of c.args.assignment.now.holdings.items c.args.class
are c = c.deref.ensures.value ∙ c.behind-assignment.view_is ∙ shares_read _ _ _ _ c.requires.class c.requires.running.1.holdings.long c.index-in-Some.ensures

pub take_class-requires-clause-rows : goal.take_class-requires-clause-rows
take_class-requires-clause-rows c =
    let h = c.requires.running.1 in
    subst (λ n. AllBelow n c.deref.result.now) (sym h.search.reached_rows.reached_long)
    (shares_below _ _ _ _ _ h.holdings (are c))

pub take_class-requires-clause-once : goal.take_class-requires-clause-once
take_class-requires-clause-once c = subst (λ shares. IsEachOnce (holders_of shares)) (sym (are c)) (c.requires.running.1.holdings.once c.args.class)

pub take_class-requires-clause-from : goal.take_class-requires-clause-from
take_class-requires-clause-from c = (here (goal.at.take_class-requires-clause-from c).In-Some).in_bottlenecks

pub take_class-requires-clause-bottleneck : goal.take_class-requires-clause-bottleneck
take_class-requires-clause-bottleneck c = (here (goal.at.take_class-requires-clause-bottleneck c).In-Some).some_bottleneck

pub returns-in-Some : goal.returns-in-Some
returns-in-Some c =
    let i = (goal.at.returns-in-Some c).In-Some in
    on_ok_weaker c.take_class.result
    (taken_one c.args.assignment.now c.args.tree.now c.take_class.new.tree c.args.class c.in-Some.label c.deref.result.now (label_here i) (off i)
    (omega (arith, c.slack.ensures, c.if-slack-eq0.true)) c.requires.class c.requires.running.1.search.taken_long (are (goal.at.returns-in-Some c).After-deref))
    c.take_class.ensures

pub returns-then-index : goal.returns-then-index
returns-then-index c =
    taken_left c.args.assignment.now c.args.tree.now c.args.class
    (λ n its e. read_mark _ _ _ _ _ c.requires.class c.requires.running.1.search.taken_long c.index.ensures c.if-index.true)

pub returns-in_default : goal.returns-in_default
returns-in_default c =
    taken_far _ _ _ c.slack.result c.in-Some.label (label_read _ _ _ _ _ c.requires.class c.requires.running.1.search.labels_long c.index-2.ensures c.in-Some.is) c.slack.ensures c.if-slack-eq0.false

pub returns-in_default-2 : goal.returns-in_default-2
returns-in_default-2 c =
    taken_unseen _ _ _ (label_read _ _ _ _ _ c.requires.class c.requires.running.1.search.labels_long c.index-2.ensures c.in_default.is)
