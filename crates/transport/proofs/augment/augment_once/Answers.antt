use Rattle.std.proofs.Common.{◌≡◌, ◌<◌, min, length, refl, sym, ap, ◌∙◌, subst, arith}
use Rattle.transport.specs.Numbers.{number}
use Rattle.transport.specs.ReachedRows.{row_at, bottleneck}
use Rattle.transport.specs.Weights.{weights}
use Rattle.transport.specs.Settled.{IsFresh}
use Rattle.certificate.specs.RowView.{RowView}
use Rattle.transport.specs.Outcomes.{demand_of}
use Rattle.transport.specs.States.{IsRunning, IsNoHolder}
use Rattle.transport.proofs.Assigning.{demand_read}
use Rattle.transport.specs.Answers.{IsAnswer, IsFound}
use Rattle.std.proofs.lemmas.Bool.{eqb-true}
use Rattle.transport.proofs.Numbers.{read_number}
use Rattle.transport.proofs.Starting.{running_start}
use Rattle.transport.proofs.HandingOut.{answer_running, turns_fit, taken_up, no_free_end, turns_fit_free_end, taken_up_free_end, free_end_row, free_end_class, bottleneck_deficit, fewer, augmented, tree_left}
use Rattle.transport.proofs.augment.augment_once.Goals as goal
use Rattle.transport.proofs.augment.augment_once.Goals.{In_ok-start, In_ok-found, In-Some, After-min-amount}

wanted : (c : In_ok-start) → c.index-wanted.result.now ≡ number c.args.assignment.now.deficit.items c.args.row
wanted c = sym (read_number _ _ _ _ c.requires.can.in_rows c.requires.can.deficit_long c.index-wanted.ensures)

fresh : (c : In_ok-start) → IsFresh (length c.args.assignment.now.values.items) (length c.args.assignment.now.prices.items) c.args.row c.index-wanted.result.now c.start.new.self
fresh c = c.in_ok-start.ensures _ _ c.requires.tidy c.requires.can.in_rows

pub find_augmenting_path-requires-clause-running : goal.find_augmenting_path-requires-clause-running
find_augmenting_path-requires-clause-running c =
    let s = (goal.at.find_augmenting_path-requires-clause-running c).In_ok-start in
    running_start _ _ _ _ _ c.requires.can.settled (fresh s) (omega (arith, wanted s, c.requires.lacks))

running : (c : In_ok-found) → IsRunning (weights c.args.instance.now) c.find_augmenting_path.new.assignment c.find_augmenting_path.new.tree
running c = answer_running _ _ _ _ c.in_ok-found.ensures.answer

root_at : (c : In_ok-found) → row_at c.find_augmenting_path.new.tree.reached_rows 0 ≡ c.args.row
root_at c = c.in_ok-found.ensures.root.row ∙ (c.in_ok-start.ensures _ _ c.requires.tidy c.requires.can.in_rows).at_root.root_at

bottleneck_is : (c : In_ok-found) (w : c.index-wanted.result.now ≡ number c.args.assignment.now.deficit.items c.args.row) → bottleneck c.find_augmenting_path.new.tree.reached_rows c.args.row ≡ number c.args.assignment.now.deficit.items c.args.row
bottleneck_is c w =
    let f = c.in_ok-start.ensures _ _ c.requires.tidy c.requires.can.in_rows in
    subst (λ k. bottleneck c.find_augmenting_path.new.tree.reached_rows k ≡ bottleneck c.start.new.self.reached_rows k) f.at_root.root_at c.in_ok-found.ensures.root.bottlenecks
    ∙ f.at_root.some_bottleneck ∙ w

pub overflow_add-turns-2 : goal.overflow_add-turns-2
overflow_add-turns-2 c =
    let i = (goal.at.overflow_add-turns-2 c).In_ok-found in
    let w = wanted (goal.at.overflow_add-turns-2 c).In_ok-start in
    omega (
      arith,
      c.len.ensures,
      c.len-2.ensures,
      c.find_augmenting_path.new.tree.reached_rows.order.ok.0,
      c.find_augmenting_path.new.tree.tree_classes.order.ok.0,
      turns_fit _ _ _ _ _ _ _ _ c.requires.can c.requires.lacks (running i) c.in_ok-found.ensures.rows c.in_ok-found.ensures.rest (root_at i) (bottleneck_is i w) c.in_ok-found.ensures.arcs_by_kind,
    )

pub returns-in_default-clause-searched : goal.returns-in_default-clause-searched
returns-in_default-clause-searched c =
    let i = (goal.at.returns-in_default-clause-searched c).In_ok-found in
    let w = wanted (goal.at.returns-in_default-clause-searched c).In_ok-start in
    no_free_end _ _ _ _ _ _ _ _ c.requires.can c.requires.lacks (running i) c.in_ok-found.ensures.rows c.in_ok-found.ensures.rest (root_at i) (bottleneck_is i w) c.in_ok-found.ensures.arcs_by_kind _
    (omega (arith, c.len.ensures, c.len-2.ensures, c.find_augmenting_path.new.tree.reached_rows.order.ok.0, c.find_augmenting_path.new.tree.tree_classes.order.ok.0))
    (subst (IsAnswer (weights c.args.instance.now) c.find_augmenting_path.new.assignment c.find_augmenting_path.new.tree) c.in_default.is c.in_ok-found.ensures.answer)

found : (c : In-Some) → IsFound (weights c.args.instance.now) c.find_augmenting_path.new.assignment c.find_augmenting_path.new.tree c.in-Some.free_end
found c = subst (IsAnswer (weights c.args.instance.now) c.find_augmenting_path.new.assignment c.find_augmenting_path.new.tree) c.in-Some.is c.in_ok-found.ensures.answer

pub overflow_add-turns-3 : goal.overflow_add-turns-3
overflow_add-turns-3 c =
    let i = (goal.at.overflow_add-turns-3 c).In_ok-found in
    let w = wanted (goal.at.overflow_add-turns-3 c).In_ok-start in
    let f = found (goal.at.overflow_add-turns-3 c).In-Some in
    omega (
      arith,
      c.len.ensures,
      c.len-2.ensures,
      c.find_augmenting_path.new.tree.reached_rows.order.ok.0,
      c.find_augmenting_path.new.tree.tree_classes.order.ok.0,
      turns_fit_free_end _ _ _ _ _ _ _ _ c.requires.can c.requires.lacks (running i) c.in_ok-found.ensures.rows c.in_ok-found.ensures.rest (root_at i) (bottleneck_is i w) c.in_ok-found.ensures.arcs_by_kind _ f,
    )

pub index-requires : goal.index-requires
index-requires c =
    let i = (goal.at.index-requires c).In_ok-found in
    let w = wanted (goal.at.index-requires c).In_ok-start in
    let f = found (goal.at.index-requires c).In-Some in
    omega (
      arith,
      c.find_augmenting_path.new.tree.reached_rows.bottleneck.ok.0,
      free_end_row _ _ _ _ _ _ _ _ c.requires.can c.requires.lacks (running i) c.in_ok-found.ensures.rows c.in_ok-found.ensures.rest (root_at i) (bottleneck_is i w) c.in_ok-found.ensures.arcs_by_kind _ f,
    )

pub index-requires-2 : goal.index-requires-2
index-requires-2 c =
    let i = (goal.at.index-requires-2 c).In_ok-found in
    let w = wanted (goal.at.index-requires-2 c).In_ok-start in
    let f = found (goal.at.index-requires-2 c).In-Some in
    omega (
      arith,
      c.find_augmenting_path.new.assignment.residual.ok.0,
      free_end_class _ _ _ _ _ _ _ _ c.requires.can c.requires.lacks (running i) c.in_ok-found.ensures.rows c.in_ok-found.ensures.rest (root_at i) (bottleneck_is i w) c.in_ok-found.ensures.arcs_by_kind _ f,
    )

amount_is : (c : After-min-amount) → c.index-wanted.result.now ≡ number c.args.assignment.now.deficit.items c.args.row → IsFound (weights c.args.instance.now) c.find_augmenting_path.new.assignment c.find_augmenting_path.new.tree c.in-Some.free_end
    → row_at c.find_augmenting_path.new.tree.reached_rows 0 ≡ c.args.row → bottleneck c.find_augmenting_path.new.tree.reached_rows c.args.row ≡ number c.args.assignment.now.deficit.items c.args.row
    → c.min-amount.result ≡ min (bottleneck c.find_augmenting_path.new.tree.reached_rows c.in-Some.free_end.label.row) (number c.find_augmenting_path.new.assignment.residual.items c.in-Some.free_end.class)
amount_is c w f at is =
    let in_bottlenecks = free_end_row _ _ _ _ _ _ _ _ c.requires.can c.requires.lacks f.running c.in_ok-found.ensures.rows c.in_ok-found.ensures.rest at is c.in_ok-found.ensures.arcs_by_kind _ f in
    let in_residual = free_end_class _ _ _ _ _ _ _ _ c.requires.can c.requires.lacks f.running c.in_ok-found.ensures.rows c.in_ok-found.ensures.rest at is c.in_ok-found.ensures.arcs_by_kind _ f in
    omega (arith, c.min-amount.ensures, read_number _ _ _ _ in_bottlenecks refl c.index.ensures, read_number _ _ _ _ in_residual refl c.index-2.ensures)

pub augment-requires-clause-deficit : goal.augment-requires-clause-deficit
augment-requires-clause-deficit c =
    let i = (goal.at.augment-requires-clause-deficit c).In_ok-found in
    let w = wanted (goal.at.augment-requires-clause-deficit c).In_ok-start in
    let f = found (goal.at.augment-requires-clause-deficit c).In-Some in
    omega (
      arith,
      amount_is (goal.at.augment-requires-clause-deficit c).After-min-amount w f (root_at i) (bottleneck_is i w),
      bottleneck_deficit _ _ _ _ _ _ _ _ c.requires.can c.requires.lacks (running i) c.in_ok-found.ensures.rows c.in_ok-found.ensures.rest (root_at i) (bottleneck_is i w) c.in_ok-found.ensures.arcs_by_kind _ f,
    )

pub returns-clause-searched : goal.returns-clause-searched
returns-clause-searched c =
    let i = (goal.at.returns-clause-searched c).In_ok-found in
    let w = wanted (goal.at.returns-clause-searched c).In_ok-start in
    let f = found (goal.at.returns-clause-searched c).In-Some in
    let is = amount_is (goal.at.returns-clause-searched c).After-min-amount w f (root_at i) (bottleneck_is i w) in (
      augmented _ _ _ _ _ _ _ _ c.requires.can c.requires.lacks (running i) c.in_ok-found.ensures.rows c.in_ok-found.ensures.rest (root_at i) (bottleneck_is i w) c.in_ok-found.ensures.arcs_by_kind _ f _ _ c.in_ok-augment.ensures is _
          (omega (arith, c.len.ensures, c.len-2.ensures, c.find_augmenting_path.new.tree.reached_rows.order.ok.0, c.find_augmenting_path.new.tree.tree_classes.order.ok.0)),
      fewer _ _ _ _ _ _ _ _ c.requires.can c.requires.lacks (running i) c.in_ok-found.ensures.rows c.in_ok-found.ensures.rest (root_at i) (bottleneck_is i w) c.in_ok-found.ensures.arcs_by_kind _ f _ _ c.in_ok-augment.ensures is,
      tree_left _ _ _ _ _ _ _ _ c.requires.can c.requires.lacks (running i) c.in_ok-found.ensures.rows c.in_ok-found.ensures.rest (root_at i) (bottleneck_is i w) c.in_ok-found.ensures.arcs_by_kind _ f _ _ c.in_ok-augment.ensures is,
    )

pub augment-requires-clause-fresh : goal.augment-requires-clause-fresh
augment-requires-clause-fresh c = λ new.
    let i = (goal.at.augment-requires-clause-fresh c).In_ok-found in
    let w = wanted (goal.at.augment-requires-clause-fresh c).In_ok-start in
    let in_rows : c.args.row < length c.args.instance.now.rows.now = omega (arith, c.requires.can.in_rows, c.requires.can.rows) in
    let all : c.index-wanted.result.now ≡ c.asked.inside.demand = eqb-true _ _ new in
    let asks : c.asked.inside.demand ≡ demand_of c.args.instance.now.rows.now c.args.row =
    ap (λ (r : RowView). r.demand) (c.asked.view_is ∙ sym c.index-instance-row.is) ∙ demand_read _ _ _ in_rows c.index-instance-row.is in
    let none : IsNoHolder c.args.row c.find_augmenting_path.new.assignment.holdings.items = rw c.in_ok-found.ensures.rest.holdings (c.requires.can.fresh (sym w ∙ all ∙ asks)) in
    subst (λ k. IsNoHolder k c.find_augmenting_path.new.assignment.holdings.items) (sym (root_at i)) none

pub returns-in_default-clause-once : goal.returns-in_default-clause-once
returns-in_default-clause-once c =
    let i = (goal.at.returns-in_default-clause-once c).In_ok-found in
    let w = wanted (goal.at.returns-in_default-clause-once c).In_ok-start in
    omega (
      arith,
      c.len.ensures,
      c.len-2.ensures,
      c.find_augmenting_path.new.tree.reached_rows.order.ok.0,
      c.find_augmenting_path.new.tree.tree_classes.order.ok.0,
      taken_up _ _ _ _ _ _ _ _ c.requires.can c.requires.lacks (running i) c.in_ok-found.ensures.rows c.in_ok-found.ensures.rest (root_at i) (bottleneck_is i w) c.in_ok-found.ensures.arcs_by_kind,
    )

pub returns-clause-once : goal.returns-clause-once
returns-clause-once c =
    let i = (goal.at.returns-clause-once c).In_ok-found in
    let w = wanted (goal.at.returns-clause-once c).In_ok-start in
    let f = found (goal.at.returns-clause-once c).In-Some in
    omega (
      arith,
      c.len.ensures,
      c.len-2.ensures,
      c.find_augmenting_path.new.tree.reached_rows.order.ok.0,
      c.find_augmenting_path.new.tree.tree_classes.order.ok.0,
      taken_up_free_end _ _ _ _ _ _ _ _ c.requires.can c.requires.lacks (running i) c.in_ok-found.ensures.rows c.in_ok-found.ensures.rest (root_at i) (bottleneck_is i w) c.in_ok-found.ensures.arcs_by_kind _ f,
    )
