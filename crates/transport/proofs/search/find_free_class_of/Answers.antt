use Rattle.std.proofs.Common.{ℕ, Option, refl, sym, subst}
use Rattle.transport.specs.SortedArcs.{IsScanned}
use Rattle.transport.specs.Weights.{weights}
use Rattle.transport.specs.Scans.{CanLimit, IsLimit, IsBetter}
use Rattle.transport.specs.declared.tree.SearchTree.{SearchTree}
use Rattle.transport.proofs.Scanning.{can_limit, free_end_better, free_end_scanned}
use Rattle.transport.proofs.Seeking.{no_further_found}
use Rattle.transport.proofs.search.find_free_class_of.Goals as goal
use Rattle.transport.proofs.search.find_free_class_of.Goals.{After-label_free_end}

pub limit_of-limit-requires : goal.limit_of-limit-requires
limit_of-limit-requires c = subst (λ v. CanLimit v c.args.row c.args.tree.now.labels.free_end) (sym c.deref.ensures.value) (can_limit _ _ _ _ c.requires.running c.requires.there)

new : After-label_free_end → SearchTree
new c = record { reached_rows = c.args.tree.now.reached_rows; labels = c.label_free_end.new.labels; tree_classes = c.args.tree.now.tree_classes; nearest = c.args.tree.now.nearest }

limit_old : (c : After-label_free_end) → IsLimit c.args.assignment.now.values.items c.args.row c.args.tree.now.labels.free_end c.limit_of-limit.result
limit_old c = subst (λ v. IsLimit v c.args.row c.args.tree.now.labels.free_end c.limit_of-limit.result) c.deref.ensures.value c.limit_of-limit.ensures

better : (c : After-label_free_end) → IsBetter (weights c.args.instance.now) c.args.assignment.now c.args.tree.now (new c)
unfolding new
better c =
    free_end_better (weights c.args.instance.now) c.args.assignment.now c.args.tree.now (new c) c.args.row c.nearest_free_class.new.sorted_arcs c.limit_of-limit.result
    c.requires.running c.requires.there (limit_old c) refl refl c.in_ok-found.found c.in_ok-found.ensures.found c.label_free_end.ensures

scanned : (c : After-label_free_end) (limit : Option ℕ) → IsLimit c.args.assignment.now.values.items c.args.row c.label_free_end.new.labels.free_end limit → IsScanned (weights c.args.instance.now c.args.row) c.nearest_free_class.new.sorted_arcs limit
unfolding new
scanned c limit at =
    free_end_scanned (weights c.args.instance.now) c.args.assignment.now c.args.tree.now (new c) c.args.row c.nearest_free_class.new.sorted_arcs c.limit_of-limit.result
    c.requires.running c.requires.there (limit_old c) refl refl c.in_ok-found.found c.in_ok-found.ensures.found c.label_free_end.ensures limit at

pub returns : goal.returns
unfolding new
returns c =
    let i = (goal.at.returns c).After-label_free_end in
    record {
      sorted_arcs = c.in_ok-found.ensures.sorted_arcs;
      better = better i;
      sought = scanned i;
      further = c.in_ok-found.ensures.further;
      nearer = no_further_found (weights c.args.instance.now c.args.row) _ _ c.args.tree.now.labels c.label_free_end.new.labels c.args.row c.nearest_free_class.new.sorted_arcs c.limit_of-limit.result c.in_ok-found.found
          (limit_old i) c.in_ok-found.ensures.found c.label_free_end.ensures;
    }
