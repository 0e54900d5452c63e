use Rattle.std.proofs.Common.{subst}
use Rattle.std.proofs.lemmas.Result.{on_ok_weaker}
use Rattle.transport.specs.Weights.{weights}
use Rattle.transport.specs.Scans.{CanLabelArcs, HasLabelled, HasLabelledFrom}
use Rattle.transport.proofs.Labelling.{labelled_all}
use Rattle.transport.proofs.Scanning.{reached_still, arcs_can}
use Rattle.transport.proofs.Blocks.{passed_better}
use Rattle.transport.proofs.search.label_arcs.Goals as goal
use Rattle.transport.proofs.search.label_arcs.Goals.{After-label_others}

can : (c : After-label_others) → CanLabelArcs (weights c.args.instance.now) c.args.assignment.now c.label_blocks.new.tree c.scan_of-scan.result.row c.deref.result.now c.args.sorted_arcs.now.cursor
can c =
    let b = c.in_ok-label_blocks.ensures.labelled.better in
    arcs_can (weights c.args.instance.now) _ _ _ _ _ _ c.args.sorted_arcs.now _ c.requires.sorted_arcs b.running (reached_still _ _ _ _ _ b c.requires.there) c.deref.ensures.value c.scan_of-scan.ensures.row

pub returns-clause-passed : goal.returns-clause-passed
returns-clause-passed c =
    on_ok_weaker c.label_others.result (λ n. passed_better (weights c.args.instance.now) _ _ _ _ _ (n (weights c.args.instance.now) (can c)).better c.in_ok-label_blocks.ensures.passed)
    c.label_others.ensures

pub returns-clause-labelled : goal.returns-clause-labelled
returns-clause-labelled c =
    let ws = weights c.args.instance.now in
    let s = c.args.assignment.now in
    on_ok_weaker c.label_others.result
    (λ n. subst (λ k. HasLabelled ws s k c.args.tree.now c.label_others.new.tree c.args.sorted_arcs.now.arcs.items c.args.sorted_arcs.now.cursor) c.scan_of-scan.ensures.row
    (labelled_all ws s _ c.label_blocks.new.tree _ _ _ _ _ c.in_ok-label_blocks.ensures.labelled
    (subst (λ xs. HasLabelledFrom ws s c.scan_of-scan.result.row c.label_blocks.new.tree c.label_others.new.tree xs c.args.sorted_arcs.now.blocked c.args.sorted_arcs.now.cursor) c.deref.ensures.value (n ws (can c)))))
    c.label_others.ensures
