use Rattle.std.proofs.Common.{ℕ}
use Rattle.slab.specs.Slab.{get}
use Rattle.cpuset_tree.specs.declared.groups.Resource.TheVariants.{Cpus}
use Rattle.cpuset_tree.specs.Kept.{effective_kept}
use Rattle.cpuset_tree.specs.Near.{IsNear}
use Rattle.cpuset_tree.proofs.RefreshLemmas.{IsRefreshing}
use Rattle.cpuset_tree.proofs.one_cpu.refresh_by_cpu.Given as goal

-- the groups from this place on are up to date, and what is kept of each is near what was
abbrev pub invariant-loop-place : goal.invariant-loop-place
invariant-loop-place l = record {
  so_far : IsRefreshing Cpus l.fn.groups l.groups l.top l.written l.order.items l.place;
  near : (key : ℕ) → IsNear l.cpu (effective_kept Cpus (get l.fn.groups key)) (effective_kept Cpus (get l.groups key));
}
