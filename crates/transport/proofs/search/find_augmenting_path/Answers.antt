use Rattle.std.proofs.Common.{◌≡◌, ◌-◌, ◌<◌, ◌≤◌, IfNone, length, inl, inr, refl, sym, ap, ◌∙◌, subst, arith}
use Rattle.cpu_set.specs.PointwiseLaws.{contains-empty}
use Rattle.transport.specs.Blocks.{AreFirstsOfTaken, AreTakenFirsts, AreNoted}
use Rattle.transport.proofs.Blocks.{taken_firsts_more, taken_firsts_kept, noted_kept}
use Rattle.transport.proofs.Numbers.{read_number}
use Rattle.transport.specs.States.{IsRunning, HasScanned, IsLeastOf, IsLeastUpTo, IsSameRoot}
use Rattle.transport.specs.declared.tree.ReachedRows.{ReachedRows}
use Rattle.transport.specs.declared.tree.TreeClasses.{TreeClasses}
use Rattle.transport.specs.Scans.{IsBetter}
use Rattle.transport.specs.Sought.{AreSought}
use Rattle.transport.specs.Weights.{weights}
use Rattle.transport.proofs.Labelling.{with_nearest, better_listed, better_more, scanned_better}
use Rattle.transport.proofs.LeastSlack.{least_some}
use Rattle.transport.proofs.Steps.{closed, raise_rows, raise_classes, raise_values_fit, raise_prices_fit, nearest_in, step_raised, step_running, step_scanned_on, step_root, step_smaller}
use Rattle.transport.proofs.Striking.{running_struck, scanned_struck}
use Rattle.std.proofs.lemmas.Bool.{both_ways}
use Rattle.transport.proofs.search.find_augmenting_path.Goals as goal
use Rattle.transport.proofs.search.find_augmenting_path.Goals.{After-note_taken-noted, After-least_slack, In-Some-least, After-update_duals}

pub steps-init : goal.steps-init
steps-init c = record {
  running = c.requires.running;
  rows = c.requires.rows;
  arcs_by_kind = c.requires.arcs_by_kind;
  from = omega arith;
  scanned = record { covered = λ k g w on here its off. absurd (omega (arith, here)) };
  rest = record { residual = refl; deficit = refl; holdings = refl };
  root = record { row = refl; bottlenecks = refl };
  taken = λ cpu g on lt is. absurd (both_ways _ (rw c.empty-taken.ensures (contains-empty cpu)) on);
  noted_in = omega arith;
  noted = λ i lt. absurd (omega (arith, lt));
}

better : (c : After-least_slack) → IsBetter (weights c.args.instance.now) c.steps.assignment c.steps.tree (with_nearest c.scan_rows.new.tree c.least_slack.new.nearest)
better c = better_listed _ _ _ _ c.least_slack.new.nearest (better_more _ _ _ _ _ c.in_ok-free_end.ensures.better c.in_ok-scan_rows.ensures.better)

pub least_slack-requires : goal.least_slack-requires
least_slack-requires c = record {
  ws = weights c.args.instance.now;
  tree = c.scan_rows.new.tree;
  running = c.in_ok-scan_rows.ensures.better.running;
  root_at = read_number _ 0 _ _ c.in_ok-scan_rows.ensures.better.running.search.rooted refl c.index.ensures;
}

-- the first CPUs of all that is taken up are noted by then
all_noted : (c : After-note_taken-noted) → AreNoted c.args.instance.now.firsts c.note_taken-noted.new.taken_firsts c.find_free_class.new.tree.tree_classes.order.items c.note_taken-noted.result
all_noted c =
    c.note_taken-noted.ensures.all
    (subst (λ (ts : TreeClasses). AreNoted c.args.instance.now.firsts c.steps.taken ts.order.items c.steps.noted) (sym c.in_ok-free_end.ensures.better.tree_classes) c.steps.invariant.noted)

noted : (c : After-note_taken-noted) → AreTakenFirsts c.args.instance.now.firsts c.note_taken-noted.new.taken_firsts c.find_free_class.new.tree.tree_classes
noted c =
    let b = c.in_ok-free_end.ensures.better in
    taken_firsts_more _ c.steps.taken _ c.find_free_class.new.tree.tree_classes (subst (AreFirstsOfTaken c.args.instance.now.firsts c.steps.taken) (sym b.tree_classes) c.steps.invariant.taken) b.running.search.listing
    c.note_taken-noted.ensures.only
    (subst (AreNoted c.args.instance.now.firsts c.note_taken-noted.new.taken_firsts c.find_free_class.new.tree.tree_classes.order.items) c.note_taken-noted.ensures.listed (all_noted c))

pub scan_rows-requires : goal.scan_rows-requires
scan_rows-requires c =
    let b = c.in_ok-free_end.ensures.better in
    record {
      running = b.running;
      rows = c.steps.invariant.rows;
      arcs_by_kind = c.in_ok-free_end.ensures.arcs_by_kind;
      from = rw b.reached_rows c.steps.invariant.from;
      scanned = scanned_better _ _ _ _ _ b c.steps.invariant.scanned;
      taken = noted (goal.at.scan_rows-requires c).After-note_taken-noted;
      sought = subst (λ found. IfNone found (AreSought c.args.instance.now c.steps.assignment c.find_free_class.new.tree c.find_free_class.new.arcs_by_kind c.steps.scanned (length c.find_free_class.new.tree.reached_rows.order.items))) c.in_default.is c.in_ok-free_end.ensures.sought;
    }

pub returns-in_default-least-clause-answer : goal.returns-in_default-least-clause-answer
returns-in_default-least-clause-answer c =
    let t = c.scan_rows.new.tree in
    closed _ _ _ (better (goal.at.returns-in_default-least-clause-answer c).After-least_slack).running c.in_ok-scan_rows.ensures.scanned
    (subst (IsLeastUpTo c.steps.assignment.values.items c.steps.assignment.prices.items t.labels t.tree_classes t.labels.labelled.items c.least_slack.new.nearest.items) c.in_default-least.is c.in_ok-least.ensures)

least : (c : In-Some-least) → IsLeastOf c.steps.assignment.values.items c.steps.assignment.prices.items c.scan_rows.new.tree.labels c.scan_rows.new.tree.tree_classes c.scan_rows.new.tree.labels.labelled.items c.least_slack.new.nearest.items c.in-Some-least.least
least c = least_some _ _ _ _ _ _ _ _ c.in-Some-least.is c.in_ok-least.ensures

pub update_duals-requires-clause-rows : goal.update_duals-requires-clause-rows
update_duals-requires-clause-rows c =
    let i = goal.at.update_duals-requires-clause-rows c in
    raise_rows _ _ c.steps.assignment _ _ _ (better i.After-least_slack) c.in_ok-scan_rows.ensures.scanned (least i.In-Some-least)

pub update_duals-requires-clause-classes : goal.update_duals-requires-clause-classes
update_duals-requires-clause-classes c =
    let i = goal.at.update_duals-requires-clause-classes c in
    raise_classes _ _ c.steps.assignment _ _ _ (better i.After-least_slack) c.in_ok-scan_rows.ensures.scanned (least i.In-Some-least)

pub update_duals-requires-clause-values_fit : goal.update_duals-requires-clause-values_fit
update_duals-requires-clause-values_fit c =
    let i = goal.at.update_duals-requires-clause-values_fit c in
    raise_values_fit _ _ c.steps.assignment _ _ _ (better i.After-least_slack) c.in_ok-scan_rows.ensures.scanned (least i.In-Some-least)

pub update_duals-requires-clause-prices_fit : goal.update_duals-requires-clause-prices_fit
update_duals-requires-clause-prices_fit c =
    let i = goal.at.update_duals-requires-clause-prices_fit c in
    raise_prices_fit _ _ c.steps.assignment _ _ _ (better i.After-least_slack) c.in_ok-scan_rows.ensures.scanned (least i.In-Some-least)

raised : (c : After-update_duals) → IsRunning (weights c.args.instance.now) c.update_duals.new.assignment (with_nearest c.scan_rows.new.tree c.least_slack.new.nearest)
raised c =
    let b = better_listed _ _ _ _ c.least_slack.new.nearest (better_more _ _ _ _ _ c.in_ok-free_end.ensures.better c.in_ok-scan_rows.ensures.better) in
    step_raised _ _ c.update_duals.new.assignment _ _ _ b c.in_ok-scan_rows.ensures.scanned (least_some _ _ _ _ _ _ _ _ c.in-Some-least.is c.in_ok-least.ensures)
    c.update_duals.ensures.values c.update_duals.ensures.prices c.update_duals.ensures.residual c.update_duals.ensures.holdings

pub free_end_at_0-requires : goal.free_end_at_0-requires
free_end_at_0-requires c = (weights c.args.instance.now, raised (goal.at.free_end_at_0-requires c).After-update_duals)

pub take_nearest-requires : goal.take_nearest-requires
take_nearest-requires c =
    let i = goal.at.take_nearest-requires c in
    record {
      running = (weights c.args.instance.now, raised i.After-update_duals);
      within = rw c.update_duals.ensures.prices.long (nearest_in _ _ c.steps.assignment _ _ _ (better i.After-least_slack) c.in_ok-scan_rows.ensures.scanned (least i.In-Some-least));
    }

pub returns-in-Some-free_end_at_0-clause-answer : goal.returns-in-Some-free_end_at_0-clause-answer
returns-in-Some-free_end_at_0-clause-answer c = record {
  running = raised (goal.at.returns-in-Some-free_end_at_0-clause-answer c).After-update_duals;
  its = c.in-Some-free_end_at_0.ensures.its;
  equal = c.in-Some-free_end_at_0.ensures.equal;
}

pub steps-preserved : goal.steps-preserved
steps-preserved c =
    let i = goal.at.steps-preserved c in
    let x = c.strike_when_many-struck.ensures.struck in
    let v = c.take_nearest.new.tree in
    let u = c.strike_when_many-struck.new.tree in
    let b = better i.After-least_slack in
    let all = c.in_ok-scan_rows.ensures.scanned in
    let l = least i.In-Some-least in
    let r = c.update_duals.ensures in
    let q = c.scan_rows.new.tree.tree_classes in
    let n : c.note_taken-noted.result ≡ length q.order.items = omega (arith, c.note_taken-noted.ensures.listed, ap (λ (ts : TreeClasses). length ts.order.items) c.in_ok-scan_rows.ensures.better.tree_classes) in
    let more : length q.order.items ≤ length v.tree_classes.order.items = elim c.in_ok-take_nearest.ensures.grew [ inl same ↦ omega (arith, ap (λ (ts : TreeClasses). length ts.order.items) same) | inr longer ↦ omega (arith, longer) ] in
    let e : c.len-scanned.result ≡ length c.scan_rows.new.tree.reached_rows.order.items = omega (arith, c.len-scanned.ensures, c.scan_rows.new.tree.reached_rows.order.ok.0) in
    record {
      running = running_struck (weights c.args.instance.now) c.update_duals.new.assignment v u x (step_running _ _ c.update_duals.new.assignment _ _ _ b all l r.values r.prices r.residual r.holdings _ c.in_ok-take_nearest.ensures);
      rows = c.steps.invariant.rows ∙ sym r.values.long;
      arcs_by_kind = rw r.residual c.in_ok-scan_rows.ensures.arcs_by_kind;
      from = omega (arith, e, c.in_ok-take_nearest.ensures.longer, ap (λ (q : ReachedRows). length q.order.items) x.reached_rows);
      scanned = scanned_struck (weights c.args.instance.now) c.update_duals.new.assignment v u x c.len-scanned.result (subst (λ n. HasScanned (weights c.args.instance.now) c.update_duals.new.assignment v n) (sym e)
          (step_scanned_on _ _ c.update_duals.new.assignment _ _ _ b all l r.values r.prices r.residual r.holdings _ c.in_ok-take_nearest.ensures));
      rest = record { residual = r.residual ∙ c.steps.invariant.rest.residual; deficit = r.deficit ∙ c.steps.invariant.rest.deficit; holdings = r.holdings ∙ c.steps.invariant.rest.holdings };
      taken = subst (AreFirstsOfTaken c.args.instance.now.firsts c.note_taken-noted.new.taken_firsts) (sym x.tree_classes)
          (taken_firsts_kept _ _ c.scan_rows.new.tree.tree_classes v.tree_classes
          (subst (AreFirstsOfTaken c.args.instance.now.firsts c.note_taken-noted.new.taken_firsts) (sym c.in_ok-scan_rows.ensures.better.tree_classes) (noted i.After-note_taken-noted).only) c.in_ok-take_nearest.ensures.kept);
      noted_in = omega (arith, n, more, ap (λ (ts : TreeClasses). length ts.order.items) x.tree_classes);
      noted = subst (λ (ts : TreeClasses). AreNoted c.args.instance.now.firsts c.note_taken-noted.new.taken_firsts ts.order.items c.note_taken-noted.result) (sym x.tree_classes)
          (noted_kept _ _ c.scan_rows.new.tree.tree_classes.order.items v.tree_classes.order.items _ (omega (arith, n)) c.in_ok-take_nearest.ensures.before
          (subst (λ (ts : TreeClasses). AreNoted c.args.instance.now.firsts c.note_taken-noted.new.taken_firsts ts.order.items c.note_taken-noted.result) (sym c.in_ok-scan_rows.ensures.better.tree_classes) (all_noted i.After-note_taken-noted)));
      root = subst (IsSameRoot c.args.tree.now.reached_rows) (sym x.reached_rows) (step_root _ _ c.update_duals.new.assignment _ _ _ b all l r.values r.prices r.residual r.holdings _ c.in_ok-take_nearest.ensures c.args.tree.now c.steps.invariant.root);
    }

pub steps-smaller : goal.steps-smaller
steps-smaller c =
    let i = goal.at.steps-smaller c in
    let r = c.update_duals.ensures in
    subst (λ (ts : TreeClasses). length c.update_duals.new.assignment.prices.items - length ts.order.items < length c.steps.assignment.prices.items - length c.steps.tree.tree_classes.order.items) (sym c.strike_when_many-struck.ensures.struck.tree_classes)
    (step_smaller _ _ c.update_duals.new.assignment _ _ _ (better i.After-least_slack) c.in_ok-scan_rows.ensures.scanned (least i.In-Some-least) r.values r.prices r.residual r.holdings _ c.in_ok-take_nearest.ensures
    c.in_default-free_end_at_0.ensures)
