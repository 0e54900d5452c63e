use Rattle.std.proofs.Common.{◌≡◌, subst, sym, arith}
use Rattle.std.proofs.lemmas.Result.{on_ok_weaker}
use Rattle.transport.specs.Weights.{weights}
use Rattle.transport.specs.Scans.{CanLimit, IsLimit}
use Rattle.transport.specs.SortedArcs.{IsScanned}
use Rattle.transport.specs.declared.arcs.SortedArcs.{SortedArcs}
use Rattle.transport.proofs.SortedArcsLemmas.{scanned_same}
use Rattle.transport.proofs.Labelling.{better_same}
use Rattle.transport.proofs.Scanning.{can_limit, after_look}
use Rattle.transport.proofs.Seeking.{further_on}
use Rattle.transport.proofs.search.scan_row.Goals as goal
use Rattle.transport.proofs.search.scan_row.Goals.{After-limit_of-limit}

pub limit_of-limit-requires : goal.limit_of-limit-requires
limit_of-limit-requires c = subst (λ v. CanLimit v c.args.row c.args.tree.now.labels.free_end) (sym c.deref.ensures.value) (can_limit _ _ _ _ c.requires.running c.requires.there)

limit : (c : After-limit_of-limit) → IsLimit c.args.assignment.now.values.items c.args.row c.args.tree.now.labels.free_end c.limit_of-limit.result
limit c = subst (λ v. IsLimit v c.args.row c.args.tree.now.labels.free_end c.limit_of-limit.result) c.deref.ensures.value c.limit_of-limit.ensures

-- the classes that were scanned are so still
scanned :
    (c : After-limit_of-limit) (l : SortedArcs) → l.arcs ≡ c.args.sorted_arcs.now.arcs → l.cursor ≡ c.args.sorted_arcs.now.cursor → IsScanned (weights c.args.instance.now c.args.row) l c.limit_of-limit.result
scanned c l arcs cursor = scanned_same (weights c.args.instance.now c.args.row) c.args.sorted_arcs.now l c.limit_of-limit.result arcs cursor (c.requires.sought c.limit_of-limit.result (limit c))

pub label_arcs-requires : goal.label_arcs-requires
label_arcs-requires c =
    let i = (goal.at.label_arcs-requires c).After-limit_of-limit in
    record {
      running = c.requires.running;
      there = c.requires.there;
      sorted_arcs = c.in_ok-block_arcs.ensures.sorted_arcs (weights c.args.instance.now c.args.row) _ _ c.requires.sorted_arcs;
      limit = limit i;
      scanned = scanned i c.block_arcs.new.self c.in_ok-block_arcs.ensures.arcs c.in_ok-block_arcs.ensures.cursor;
      passed = c.requires.passed;
    }

pub returns : goal.returns
returns c =
    let i = (goal.at.returns c).After-limit_of-limit in
    let b = c.in_ok-block_arcs.ensures in
    record {
      sorted_arcs = on_ok_weaker c.label_arcs.result (λ _. b.sorted_arcs (weights c.args.instance.now c.args.row) _ _ c.requires.sorted_arcs) c.label_arcs.ensures.passed;
      passed = c.label_arcs.ensures.passed;
      seen = on_ok_weaker c.label_arcs.result
          (λ n. after_look (weights c.args.instance.now) c.args.assignment.now c.args.tree.now c.args.tree.now c.label_arcs.new.tree c.args.row c.block_arcs.new.self c.limit_of-limit.result
          (better_same _ _ _ c.requires.running) (scanned i c.block_arcs.new.self b.arcs b.cursor) (limit i) n)
          c.label_arcs.ensures.labelled;
      further = on_ok_weaker c.label_arcs.result (λ _. further_on c.args.sorted_arcs.now c.block_arcs.new.self b.arcs (omega (arith, b.cursor))) c.label_arcs.ensures.passed;
      free_end = on_ok_weaker c.label_arcs.result (λ n. n.free_end) c.label_arcs.ensures.labelled;
    }
