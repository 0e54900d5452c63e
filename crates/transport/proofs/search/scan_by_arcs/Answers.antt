use Rattle.std.proofs.Common.{subst, sym, refl, arith}
use Rattle.transport.specs.Weights.{weights}
use Rattle.transport.specs.Scans.{CanLimit, IsLimit, CanLabelArcs, HasLabelled, HasLabelledFrom}
use Rattle.transport.specs.SortedArcs.{IsSortedArcs}
use Rattle.twins.specs.Kinds.{offers_of}
use Rattle.transport.proofs.SortedArcsLemmas.{scanned_same}
use Rattle.transport.proofs.Labelling.{better_same, labelled_from_first}
use Rattle.transport.proofs.Scanning.{arcs_can, can_limit, after_look}
use Rattle.transport.proofs.search.scan_by_arcs.Goals as goal
use Rattle.transport.proofs.search.scan_by_arcs.Goals.{After-limit_of-limit, After-scan_of-scan, In_ok-label_others}

pub limit_of-limit-requires : goal.limit_of-limit-requires
limit_of-limit-requires c = subst (λ v. CanLimit v c.args.row c.args.tree.now.labels.free_end) (sym c.deref.ensures.value) (can_limit _ _ _ _ c.requires.running c.requires.there)

limit : (c : After-limit_of-limit) → IsLimit c.args.assignment.now.values.items c.args.row c.args.tree.now.labels.free_end c.limit_of-limit.result
limit c = subst (λ v. IsLimit v c.args.row c.args.tree.now.labels.free_end c.limit_of-limit.result) c.deref.ensures.value c.limit_of-limit.ensures

sorted : (c : After-scan_of-scan) → IsSortedArcs (weights c.args.instance.now c.args.row) (offers_of c.args.instance.now.rows.now c.args.row) c.args.instance.now.firsts c.args.assignment.now.residual.items c.block_arcs.new.self
sorted c = c.in_ok-block_arcs.ensures.sorted_arcs (weights c.args.instance.now c.args.row) _ _ c.requires.sorted_arcs

can : (c : After-scan_of-scan) → CanLabelArcs (weights c.args.instance.now) c.args.assignment.now c.args.tree.now c.scan_of-scan.result.row c.block_arcs.new.self.arcs.items c.block_arcs.new.self.cursor
can c = arcs_can (weights c.args.instance.now) _ _ _ _ _ _ c.block_arcs.new.self _ (sorted c) c.requires.running c.requires.there refl c.scan_of-scan.ensures.row

pub label_others-requires : goal.label_others-requires
label_others-requires c =
    let i = (goal.at.label_others-requires c).After-scan_of-scan in
    let l = c.block_arcs.new.self in
    rw c.deref-2.ensures.value (record {
      from = omega arith;
      upto = (sorted i).cursor_in;
      rising = (sorted i).arcs.rising;
      scan = c.scan_of-scan.ensures.values;
      bound = (c.limit_of-limit.result, subst (λ r. IsLimit c.args.assignment.now.values.items r c.args.tree.now.labels.free_end c.limit_of-limit.result) (sym c.scan_of-scan.ensures.row) (limit (goal.at.label_others-requires c).After-limit_of-limit), c.scan_of-scan.ensures.bound);
      can = (weights c.args.instance.now, can i);
    })

pub returns-then-len-gt0-2-clause-sorted_arcs : goal.returns-then-len-gt0-2-clause-sorted_arcs
returns-then-len-gt0-2-clause-sorted_arcs c = c.in_ok-block_arcs.ensures.sorted_arcs (weights c.args.instance.now c.args.row) _ _ c.requires.sorted_arcs

labelled : (c : In_ok-label_others) → CanLabelArcs (weights c.args.instance.now) c.args.assignment.now c.args.tree.now c.scan_of-scan.result.row c.block_arcs.new.self.arcs.items c.block_arcs.new.self.cursor
    → HasLabelled (weights c.args.instance.now) c.args.assignment.now c.args.row c.args.tree.now c.label_others.new.tree c.block_arcs.new.self.arcs.items c.block_arcs.new.self.cursor
labelled c its =
    let ws = weights c.args.instance.now in
    let s = c.args.assignment.now in
    subst (λ k. HasLabelled ws s k c.args.tree.now c.label_others.new.tree c.block_arcs.new.self.arcs.items c.block_arcs.new.self.cursor) c.scan_of-scan.ensures.row
    (labelled_from_first ws s c.args.tree.now c.label_others.new.tree c.scan_of-scan.result.row c.block_arcs.new.self.arcs.items c.block_arcs.new.self.cursor
    (subst (λ xs. HasLabelledFrom ws s c.scan_of-scan.result.row c.args.tree.now c.label_others.new.tree xs 0 c.block_arcs.new.self.cursor) c.deref-2.ensures.value (c.in_ok-label_others.ensures ws (rw c.deref-2.ensures.value its))))

pub returns-clause-sorted_arcs : goal.returns-clause-sorted_arcs
returns-clause-sorted_arcs c = c.in_ok-block_arcs.ensures.sorted_arcs (weights c.args.instance.now c.args.row) _ _ c.requires.sorted_arcs

pub returns-clause-better : goal.returns-clause-better
returns-clause-better c =
    let i = goal.at.returns-clause-better c in
    (labelled i.In_ok-label_others (can i.After-scan_of-scan)).better

pub returns-clause-seen : goal.returns-clause-seen
returns-clause-seen c = λ _.
    let i = goal.at.returns-clause-seen c in
    let b = c.in_ok-block_arcs.ensures in
    after_look (weights c.args.instance.now) c.args.assignment.now c.args.tree.now c.args.tree.now c.label_others.new.tree c.args.row c.block_arcs.new.self c.limit_of-limit.result (better_same _ _ _ c.requires.running)
    (scanned_same (weights c.args.instance.now c.args.row) c.args.sorted_arcs.now c.block_arcs.new.self c.limit_of-limit.result b.arcs b.cursor (c.requires.sought c.limit_of-limit.result (limit i.After-limit_of-limit))) (limit i.After-limit_of-limit) (labelled i.In_ok-label_others (can i.After-scan_of-scan))
