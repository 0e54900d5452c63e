-- What the kernel's laws say of the one write that a hand-over makes.
use Rattle.std.proofs.Common.{◌≡◌, ◌+◌, true, refl, sym, ap, ◌∙◌, subst, arith}
use Rattle.std.specs.Prelude.{cond, List, Option, Some, None, is_some, Result, Ok, Err}
use Rattle.cpu_set.specs.Ids.{Ids}
use Rattle.cpuset_tree.specs.declared.Group.{Group}
use Rattle.cpuset_tree.specs.Groups.{has_group, is_root}
use Rattle.cpuset_tree.specs.TreeChanges.{with_cpus}
use Rattle.cpuset_tree.specs.TreeLaws.{StandAlike}
use Rattle.cpuset_tree.specs.TreeLemmas.{writes_request, writes_leave_places}
use Rattle.kernel_model.specs.declared.fault.KernelFault.{KernelFault}
use Rattle.kernel_model.specs.Trace.{WroteCpus}
use Rattle.kernel_model.specs.KernelState.{KernelState, writes, recorded}
use Rattle.apply_plan.specs.declared.entry.Entry.{Entry}
use Rattle.apply_plan.specs.declared.scan.Write.{Write}
use Rattle.apply_plan.specs.Targets.{IsPlaced, ArePlaced}
use Rattle.apply_plan.specs.DueWrite.{missed}
use Rattle.apply_plan.specs.Walks.{IsMadeIfAny}
use Rattle.apply_plan.specs.ListLemmas.{all_map}
use Rattle.apply_plan.specs.WriteLemmas.{IsWrite}

module _ (k : KernelState) (g : Group) (cpus : Ids) where
  -- the kernel where the group requests these
  abbrev pub with_request : KernelState
  with_request = record (recorded (WroteCpus g cpus (Ok tt)) k) { tree = with_cpus k.tree g cpus }

  pub is_write : has_group k.tree g ≡ true → IsWrite k with_request g cpus
  is_write there = record { own = (writes_request.0 k.tree g cpus).own there; others = (writes_request.0 k.tree g cpus).others; table = refl }

  pub stands : StandAlike k.tree with_request.tree
  stands = writes_leave_places.0 k.tree g cpus

-- entries stay where they are among groups that stand alike
pub placed_alike : (old new : KernelState) (entries : List Entry) → StandAlike old.tree new.tree → ArePlaced old entries → ArePlaced new entries
placed_alike old new entries alike placed =
    all_map (λ e. IsPlaced old e.group) (λ e. IsPlaced new e.group)
    (λ e p. record { there = alike.there e.group ∙ p.there; below = alike.rootness e.group ∙ p.below }) entries placed

placed_alike_tree : (old new : KernelState) (entries : List Entry) → new.tree ≡ old.tree → ArePlaced old entries → ArePlaced new entries
placed_alike_tree old new entries same placed =
    all_map (λ e. IsPlaced old e.group) (λ e. IsPlaced new e.group)
    (λ e p. record { there = ap (λ t. has_group t e.group) same ∙ p.there; below = ap (λ t. is_root t e.group) same ∙ p.below }) entries placed

-- one writing call more, if there was a write
pub missed_makes : (d : Option Write) (k : KernelState) → writes (missed d k) ≡ writes k + cond (is_some d) 1 0
missed_makes None k = omega arith
missed_makes (Some w) k = omega arith

-- after a write that was made, if there was one, all that was placed is
pub made_is_placed : (old new : KernelState) (d : Option Write) (r : Result (Unit {0}) KernelFault) → IsMadeIfAny d old r new → (entries : List Entry) → ArePlaced old entries
    → ArePlaced new entries
made_is_placed old new None (Ok _) made entries placed = subst (λ k. ArePlaced k entries) (sym made) placed
made_is_placed old new (Some w) (Ok _) made entries placed =
    subst (λ k. ArePlaced k entries) (sym made) (placed_alike old (with_request old w.group w.cpus) entries (stands old w.group w.cpus) placed)
made_is_placed old new d (Err fault) made entries placed = subst (λ k. ArePlaced k entries) (sym made.1) (placed_alike_tree old (missed d old) entries refl placed)
