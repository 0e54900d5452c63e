-- What events, and the end of a container's processes, leave of what holds of a node.
use Rattle.std.proofs.Common.{◌≡◌, ℕ, List, refl, ap, sym, ◌∙◌}
use Rattle.std.specs.Prelude.{Option, Some, None, Result, Ok, Err}
use Rattle.std.specs.List.{AllByRecursion}
use Rattle.faults.specs.declared.OrMemory.{OrMemory}
use Rattle.cpuset_tree.specs.declared.Group.{Group}
use Rattle.cpuset_tree.specs.TreeState.{TreeState}
use Rattle.cpuset_tree.specs.Groups.{same_group}
use Rattle.proctable.specs.TableChanges.{ends_with}
use Rattle.kernel_model.specs.declared.KernelFault.{KernelFault}
use Rattle.kernel_model.specs.declared.KernelFault.TheVariants.{Failed}
use Rattle.kernel_model.specs.Trace.{WritingCall}
use Rattle.kernel_model.specs.KernelState.{KernelState}
use Rattle.kernel_model.specs.Cases.{Writes, RemovesGroup, EndsGroup, Forks, Exits, GoesOffline, ComesOnline}
use Rattle.kernel_model.specs.CaseLemmas.{Writes-answers}
use Rattle.kernel_model.specs.Laws.{StepKeeps}
use Rattle.kernel_model.specs.KernelLemmas.{each_case_keeps, events_keep_groups, writes_keep_tree, writes_keep_processes, writes_leave_groups, calls_leave_processes}
use Rattle.node.specs.Owners.{Owner}
use Rattle.node.specs.IsNode.{AreOwned, Holds}
use Rattle.node.proofs.HoldsLemmas.{EachKept, KeepsPlaces, each_kept, same_places, kept, same_owned, ended_owned, added_owned, owned_alike}
use Rattle.node.proofs.LaunchLemmas.{Stays}

-- what stays, and what is left of each container
pub record Passes (old new : KernelState) (parent : Group) (owners : List Owner) : Type 0 where
  pub stays : Stays old new parent owners
  pub each : AllByRecursion (EachKept old new) owners

module _ (parent : Group) (owners : List Owner) (old new : KernelState) (h : Holds old parent owners) where
  passes : StepKeeps old new → new.tree.groups ≡ old.tree.groups → AreOwned new.table owners → Passes old new parent owners
  passes keeps same owned =
      let places : KeepsPlaces old.tree new.tree parent owners = same_places old.tree new.tree same parent owners h.home h.shallow h.placed in
      record {
        stays = record { holds = kept old new keeps parent owners h places owned; machine = keeps.machine };
        each = each_kept old new keeps parent owners h places;
      }

  fork_owned : (pid : ℕ) (r : Result ℕ (OrMemory KernelFault)) → Forks old pid r new → AreOwned new.table owners
  fork_owned pid (Ok q) f =
      let made = (calls_leave_processes.fork old new pid (Ok q) f).made in
      added_owned old.table new.table owners h.owned made.process.group made.process.first q made.added (λ p a b. owned_alike p made.process owners a b (h.owned pid made.process made.there))
  fork_owned pid (Err e) f = same_owned old.table new.table owners h.owned (calls_leave_processes.fork old new pid (Err e) f).refused

  pub fork_passes : (pid : ℕ) (r : Result ℕ (OrMemory KernelFault)) → Forks old pid r new → Passes old new parent owners
  fork_passes pid r f = passes ((each_case_keeps old new h.kernel).fork pid r f) (events_keep_groups.fork old new pid r f).0.groups (fork_owned pid r f)

  exit_owned : (pid : ℕ) (r : Result (Unit {0}) KernelFault) → Exits old pid r new → AreOwned new.table owners
  exit_owned pid (Ok v) f = ended_owned old.table new.table owners h.owned (ends_with pid) (calls_leave_processes.exit old new pid (Ok v) h.kernel f).ended
  exit_owned pid (Err e) f = same_owned old.table new.table owners h.owned (calls_leave_processes.exit old new pid (Err e) h.kernel f).refused

  pub exit_passes : (pid : ℕ) (r : Result (Unit {0}) KernelFault) → Exits old pid r new → Passes old new parent owners
  exit_passes pid r f = passes ((each_case_keeps old new h.kernel).exit pid r f) (events_keep_groups.exit old new pid r f).0.groups (exit_owned pid r f)

  pub offline_passes : (cpu : ℕ) (r : Result (Unit {0}) KernelFault) → GoesOffline old cpu r new → Passes old new parent owners
  offline_passes cpu r f =
      let left = events_keep_groups.offline old new cpu r f in
      passes ((each_case_keeps old new h.kernel).offline cpu r f) left.0.groups (same_owned old.table new.table owners h.owned left.1)

  pub online_passes : (cpu : ℕ) (r : Result (Unit {0}) KernelFault) → ComesOnline old cpu r new → Passes old new parent owners
  online_passes cpu r f =
      let left = events_keep_groups.online old new cpu r f in
      passes ((each_case_keeps old new h.kernel).online cpu r f) left.0.groups (same_owned old.table new.table owners h.owned left.1)

  end_owned : (g : Group) (r : Result (Unit {0}) KernelFault) → EndsGroup old g r new → AreOwned new.table owners
  end_owned g (Ok v) f = ended_owned old.table new.table owners h.owned (λ p. same_group p.group g) (calls_leave_processes.end old new g (Ok v) h.kernel f).ended
  end_owned g (Err e) f = same_owned old.table new.table owners h.owned (calls_leave_processes.end old new g (Err e) h.kernel f).refused

  pub end_passes : (g : Group) (r : Result (Unit {0}) KernelFault) → EndsGroup old g r new → Passes old new parent owners
  end_passes g r f =
      passes ((each_case_keeps old new h.kernel).end g r f) (ap (λ (t : TreeState). t.groups) (writes_keep_tree.end old new g r f)) (end_owned g r f)

  -- a removal that is refused
  pub remove_refused : (g : Group) (e : KernelFault) → RemovesGroup old g (Err e) new → Passes old new parent owners
  remove_refused g e r =
      passes ((each_case_keeps old new h.kernel).remove g (Err e) r) (ap (λ (t : TreeState). t.groups) (writes_leave_groups.remove old new g (Err e) r).refused)
      (same_owned old.table new.table owners h.owned (writes_keep_processes.remove old new g (Err e) r).0)

-- a write that nothing stands against is refused only where it fails
abbrev OnlyFailed : {A : Type 0} → Result A KernelFault → KernelState → Type 0
OnlyFailed (Ok value) k = Unit {0}
OnlyFailed (Err fault) k = fault ≡ Failed

pub only_failed : {A : Type 0} (call : Result A KernelFault → WritingCall) (refusal : Option KernelFault) (Does : A → KernelState → Type 0) (old new : KernelState) (fault : KernelFault) → refusal ≡ None
    → Writes call refusal Does old (Err fault) new → fault ≡ Failed
only_failed call refusal Does old new fault free w =
    Writes-answers refusal Does old call (λ r k. OnlyFailed r k) (λ value k none does. tt) refl
    (λ f other against. absurd (let e : None ≡ Some f = sym free ∙ against in let no : ⊥ = cc e in no))
    (Err fault) new w
