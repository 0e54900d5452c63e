-- Where each core has one CPU, cores say nothing.
use Rattle.std.proofs.Common.{◌≡◌, List, [], ◌∷◌, refl, sym, ap, ap₂, ◌∙◌}
use Rattle.std.specs.FinSet as set
use Rattle.cpu_set.specs.Ids.{Ids}
use Rattle.cpu_set.specs.PointwiseLaws.{contains-intersection}
use Rattle.machine.specs.CoreCountLaws.{all_are_whole, own_core, single_cores_in}
use Rattle.node.specs.NodeState.{NodeState}
use Rattle.node.specs.IsNode.{IsNode}
use Rattle.node.specs.Rows.{as_cores}
use Rattle.node.specs.WithoutCores.{WithoutCores}

module _ (n : NodeState) (h : IsNode n) (one : n.machine.threads ≡ 1) where
  same_sets : (sets : List Ids) → as_cores n.machine sets ≡ sets
  same_sets [] = refl
  same_sets (s ∷ sets) = ap₂ (λ t ts. t ∷ ts) (single_cores_in n.machine s h.layout.sound.cores one) (same_sets sets)

pub without_cores : WithoutCores
without_cores n h one = record {
  whole = λ cpus a b there_a there_b same.
      ap (set.contains cpus) (sym (own_core n.machine a h.layout.sound.cores one) ∙ same ∙ own_core n.machine b h.layout.sound.cores one);
  cores = same_sets n h one;
  moves = λ e cpus.
      ap₂ (λ s t. set.len (set.difference s t)) (single_cores_in n.machine cpus h.layout.sound.cores one) (single_cores_in n.machine _ h.layout.sound.cores one);
  allowed = λ cpu e.
      ap (λ s. set.contains s cpu) (all_are_whole n.machine _ h.layout.sound.cores one)
      ∙ contains-intersection e.1.demand.allowed n.kernel.tree.online cpu;
}
