-- How many entries a plan has: one for each live container.
use Rattle.std.proofs.Common.{◌≡◌, ℕ, Bool, true, false, suc, cond, List, [], ◌∷◌, length, refl, ap}
use Rattle.std.specs.Prelude.{drop, filter, map, slice_index_or}
use Rattle.std.specs.FinSet as set
use Rattle.cpu_set.specs.Ids.{Ids}
use Rattle.kernel_model.specs.KernelState.{KernelState}
use Rattle.node.specs.NodeState.{ContainerState}
use Rattle.node.specs.Owners.{is_pinned}
use Rattle.node.specs.Status.{is_live}
use Rattle.node.specs.Entries.{entry_of, targets_in, entries_in}

module _ (k : KernelState) (pool : Ids) where
  pub entries_live : (containers : List (List ℕ × ContainerState)) (sets : List Ids)
      → length (entries_in k pool containers sets) ≡ length (filter (λ e. is_live k e.1) containers)
  entries_live [] sets = refl
  entries_live (e ∷ later) sets = by (is_live k e.1) (is_pinned e.1.demand.kind) (entries_live later) where
    by : (live pinned : Bool) → ((sets : List Ids) → length (entries_in k pool later sets) ≡ length (filter (λ x. is_live k x.1) later))
        → length (map entry_of (cond live (cond pinned ((e, slice_index_or sets 0 set.empty) ∷ targets_in k pool later (drop 1 sets)) ((e, pool) ∷ targets_in k pool later sets)) (targets_in k pool later sets)))
        ≡ length (cond live (e ∷ filter (λ x. is_live k x.1) later) (filter (λ x. is_live k x.1) later))
    by true true rest = ap suc (rest (drop 1 sets))
    by true false rest = ap suc (rest sets)
    by false pinned rest = rest sets
