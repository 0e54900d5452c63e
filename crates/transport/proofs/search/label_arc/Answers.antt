use Rattle.std.proofs.Common.{◌≡◌, ℕ, ◌+◌, ◌-◌, Option, refl, arith}
use Rattle.transport.specs.Numbers.{number}
use Rattle.transport.specs.ReachedRows.{row_at}
use Rattle.transport.specs.Scans.{CanImprove, CanLabelArc}
use Rattle.transport.proofs.Numbers.{read_number}
use Rattle.transport.proofs.Labelling.{arc_labelled, can_improve}
use Rattle.transport.proofs.search.label_arc.Goals as goal
use Rattle.transport.proofs.search.label_arc.Goals.{After-index, Else-reach-scan}

is_due :
    (c : Else-reach-scan) (ws : ℕ → ℕ → Option ℕ) (can : CanLabelArc ws c.args.assignment.now c.args.tree.now c.args.scan.row c.args.arc)
    → CanImprove c.args.assignment.now.values.items (number c.args.assignment.now.prices.items c.args.arc.class + number c.args.assignment.now.values.items (row_at c.args.tree.now.reached_rows 0)) c.args.tree.now.labels c.args.arc.class
    (record { row = c.args.scan.row; weight = c.args.arc.weight }) (c.args.arc.weight + c.index.result.now + c.args.scan.root_value - c.args.scan.row_value)
is_due c ws can =
    let price = read_number _ _ _ _ (can.running.fit.class _ _ _ can.weighs) refl c.index.ensures in
    let below = can.running.search.dual.below _ _ _ can.weighs in
    can_improve ws _ _ _ c.args.arc _ can (omega (arith, price, below, c.requires.scan.row, c.requires.scan.root))

pub improve-requires : goal.improve-requires
improve-requires c = (_, _, is_due (goal.at.improve-requires c).Else-reach-scan c.requires.can.0 c.requires.can.1)

pub returns-clause-labelled : goal.returns-clause-labelled
returns-clause-labelled c = λ ws can. arc_labelled ws _ _ _ _ c.args.arc can refl refl (c.in_ok-improve.ensures _ _ (is_due (goal.at.returns-clause-labelled c).Else-reach-scan ws can))

-- the arc's weight with its price, as it was worked out
is_reach :
    (c : After-index) → c.args.arc.weight + c.index.result.now ≡ c.args.arc.weight + number c.args.assignment.now.prices.items c.args.arc.class
is_reach c =
    let can = c.requires.can.1 in
    omega (arith, read_number _ _ _ _ (can.running.fit.class _ _ _ can.weighs) refl c.index.ensures)

pub returns-clause-reach : goal.returns-clause-reach
returns-clause-reach c = is_reach (goal.at.returns-clause-reach c).After-index

pub returns-then-reach-scan-clause-reach : goal.returns-then-reach-scan-clause-reach
returns-then-reach-scan-clause-reach c = is_reach (goal.at.returns-then-reach-scan-clause-reach c).After-index
