-- What a call of somebody else leaves of the entries of a hand-over.
use Rattle.std.proofs.Common.{◌≡◌, ℕ, ◌<◌, ◌≤◌, true, false, List, refl, ap, ◌∙◌, arith}
use Rattle.std.proofs.lemmas.Bool.{false≢true}
use Rattle.std.specs.Prelude.{Option, Some, None, is_some, Result, Ok, Err}
use Rattle.std.specs.List.{AllByRecursion}
use Rattle.faults.specs.declared.OrMemory.{OrMemory}
use Rattle.cpuset_tree.specs.declared.Group.{Group}
use Rattle.cpuset_tree.specs.Groups.{same_group, entry_among, entry_of, is_root_entry}
use Rattle.cpuset_tree.specs.GroupLemmas.{same_group_sym}
use Rattle.proctable.specs.declared.Process.{Process}
use Rattle.proctable.specs.Processes.{process_of, is_alive}
use Rattle.kernel_model.specs.declared.KernelFault.{KernelFault}
use Rattle.kernel_model.specs.declared.Call.{Call}
use Rattle.kernel_model.specs.declared.Call.TheVariants.{MakeGroup, RemoveGroup, WriteCpus, WriteMems, Spawn, EndGroup, Root, FindGroup, RequestedCpus, EffectiveCpus, RequestedMems, EffectiveMems, Online, Nodes, FirstAlive, Fork, Exit, Offline, OnlineCpu}
use Rattle.kernel_model.specs.declared.Reply.{Reply}
use Rattle.kernel_model.specs.KernelState.{KernelState}
use Rattle.kernel_model.specs.Laws.{MakeLeaves}
use Rattle.kernel_model.specs.Runs.{Step}
use Rattle.kernel_model.specs.KernelLemmas.{steps_keep, writes_leave_groups, writes_keep_tree, events_keep_groups}
use Rattle.apply_plan.specs.declared.entry.Entry.{Entry}
use Rattle.apply_plan.specs.Targets.{Targets, IsPlaced, ArePlaced}
use Rattle.apply_plan.specs.Runs.{IsNoEntrys, LeavesEntries, IsOpen}
use Rattle.apply_plan.specs.ListLemmas.{all_map, all_map2}

-- an entry's group stays as it is
abbrev pub GroupStays : KernelState → KernelState → Entry → Type 0
GroupStays old new e = entry_of new.tree e.group ≡ entry_of old.tree e.group

same_tree : (old new : KernelState) → new.tree ≡ old.tree → (e : Entry) → IsPlaced old e.group → GroupStays old new e
same_tree old new same e placed = ap (λ t. entry_of t e.group) same

-- a group that is made is another
made : (old new : KernelState) (parent : Group) (name : List ℕ) (r : Result Group (OrMemory KernelFault)) → MakeLeaves old parent name r new → (e : Entry)
    → IsPlaced old e.group
    → GroupStays old new e
made old new parent name (Ok g) leaves e placed = leaves.made.others e.group (leaves.made.differs e.group placed.there)
made old new parent name (Err error) leaves e placed = same_tree old new leaves.refused e placed

module _ (entries : List Entry) (old new : KernelState) (placed : ArePlaced old entries) where
  -- what is the same of each group that is none of the entries' is left to those that are
  apart : (g : Group) → ((p : Group) → same_group g p ≡ false → entry_of new.tree p ≡ entry_of old.tree p) → IsNoEntrys entries g → AllByRecursion (GroupStays old new) entries
  apart g others none = all_map (λ e. same_group e.group g ≡ false) (GroupStays old new) (λ e f. others e.group (same_group_sym g e.group ∙ f)) entries none

  each : ((e : Entry) → IsPlaced old e.group → GroupStays old new e) → AllByRecursion (GroupStays old new) entries
  each f = all_map (λ e. IsPlaced old e.group) (GroupStays old new) f entries placed

  unchanged : new ≡ old → AllByRecursion (GroupStays old new) entries
  unchanged same = each (same_tree old new (ap (λ k. k.tree) same))

  -- whatever others call, the entries' groups stay as they are
  pub groups_stay : (call : Call) (r : Result Reply (OrMemory KernelFault)) → LeavesEntries entries call → Step old call r new
      → AllByRecursion (GroupStays old new) entries
  groups_stay (MakeGroup parent name) r l s = each (made old new parent _ s.0 (writes_leave_groups.make old new parent _ s.0 s.2))
  groups_stay (RemoveGroup g) r l s = apart g (writes_leave_groups.remove old new g s.0 s.2).apart l
  groups_stay (WriteCpus g cpus) r l s = apart g (writes_leave_groups.cpus old new g cpus s.0 s.2).apart l
  groups_stay (WriteMems g mems) r l s = apart g (writes_leave_groups.mems old new g mems s.0 s.2).apart l
  groups_stay (Spawn g) r l s = each (same_tree old new (writes_keep_tree.spawn old new g s.0 s.2))
  groups_stay (EndGroup g) r l s = each (same_tree old new (writes_keep_tree.end old new g s.0 s.2))
  groups_stay Root r l s = unchanged s.3
  groups_stay (FindGroup parent name) r l s = unchanged s.1
  groups_stay (RequestedCpus g) r l s = unchanged s.1
  groups_stay (EffectiveCpus g) r l s = unchanged s.1
  groups_stay (RequestedMems g) r l s = unchanged s.1
  groups_stay (EffectiveMems g) r l s = unchanged s.1
  groups_stay Online r l s = unchanged s.1
  groups_stay Nodes r l s = unchanged s.1
  groups_stay (FirstAlive pid) r l s = unchanged s.1
  groups_stay (Fork parent) r l s = each (λ e p. ap (λ groups. entry_among groups e.group) (events_keep_groups.fork old new parent s.0 s.2).0.groups)
  groups_stay (Exit pid) r l s = each (λ e p. ap (λ groups. entry_among groups e.group) (events_keep_groups.exit old new pid s.0 s.2).0.groups)
  groups_stay (Offline cpu) r l s = each (λ e p. ap (λ groups. entry_among groups e.group) (events_keep_groups.offline old new cpu s.0 s.2).0.groups)
  groups_stay (OnlineCpu cpu) r l s = each (λ e p. ap (λ groups. entry_among groups e.group) (events_keep_groups.online old new cpu s.0 s.2).0.groups)

-- what others leave of an entry: its group as it was, and its process at most dead
pub record IsCalm (old new : KernelState) (e : Entry) : Type 0 where
  pub group : GroupStays old new e
  pub dies : is_alive new.table e.pid ≡ true → is_alive old.table e.pid ≡ true
  pub given : e.pid < new.table.next_pid

module _ (h : Targets) (old new : KernelState) (open_before : IsOpen h old) (call : Call) (r : Result Reply (OrMemory KernelFault))
    (l : LeavesEntries h.entries call)
    (s : Step old call r new) where
  some_of : (o : Option Process) → is_some o ≡ true → (p : Process) × (o ≡ Some p)
  some_of (Some p) e = (p, refl)
  some_of None e = absurd (false≢true e)

  dies : (e : Entry) → e.pid < old.table.next_pid → is_alive new.table e.pid ≡ true → is_alive old.table e.pid ≡ true
  dies e given live =
      let found = some_of (process_of new.table e.pid) live in
      ap is_some ((steps_keep old new call r open_before.well_formed s).pids.same e.pid found.0 given found.1)

  pub calm : AllByRecursion (IsCalm old new) h.entries
  calm =
      let rise : old.table.next_pid ≤ new.table.next_pid = (steps_keep old new call r open_before.well_formed s).pids.rise in
      all_map2 (GroupStays old new) (λ e. e.pid < old.table.next_pid) (IsCalm old new)
      (λ e group given. record { group = group; dies = dies e given; given = omega (arith, rise, given) })
      h.entries (groups_stay h.entries old new open_before.placed call r l s) open_before.given

  pub still_open : IsOpen h new
  still_open = record {
    handover = open_before.handover;
    well_formed = (steps_keep old new call r open_before.well_formed s).well_formed;
    placed = all_map2 (IsCalm old new) (λ e. IsPlaced old e.group) (λ e. IsPlaced new e.group)
        (λ e c p. record { there = ap is_some c.group ∙ p.there; below = ap is_root_entry c.group ∙ p.below }) h.entries calm open_before.placed;
    given = all_map (IsCalm old new) (λ e. e.pid < new.table.next_pid) (λ e c. c.given) h.entries calm;
  }
