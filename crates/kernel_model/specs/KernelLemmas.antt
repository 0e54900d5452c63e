-- The laws of kernels, proved.
use Rattle.std.proofs.Common.{◌≡◌, ◌≢◌, ℕ, suc, ◌+◌, ◌≤◌, Bool, true, false, not, cond, ◌&&◌, ◌||◌, List, [], ◌∷◌, refl, sym, ap, ◌∙◌, subst, arith, add-zero, eq-eqb, eqb-true}
use Rattle.std.proofs.lemmas.Bool.{both_ways}
use Rattle.std.proofs.lemmas.Option.{same_Some, none-some}
use Rattle.std.specs.Prelude.{Option, Some, None, Result, Ok, is_some, length, ◌==◌}
use Rattle.std.specs.FinSet as set
use Rattle.faults.specs.declared.or_memory.OrMemory.{OrMemory}
use Rattle.cpu_set.specs.Ids.{Ids}
use Rattle.cpu_set.specs.PointwiseLaws.{contains-insert, contains-remove, is_subset-contains, contains-is_subset}
use Rattle.cpuset_tree.specs.declared.Group.{Group}
use Rattle.cpuset_tree.specs.TreeState.{TreeState}
use Rattle.cpuset_tree.specs.Groups.{same_group, has_group}
use Rattle.cpuset_tree.specs.TreeChanges.{without_group, with_cpus, with_mems, with_online}
use Rattle.cpuset_tree.specs.TreeWellFormed as tree_formed
use Rattle.cpuset_tree.specs.TreeLaws.{StandsAs, StandAlike, KeepsSerials, GroupAdded}
use Rattle.cpuset_tree.specs.GroupLemmas.{same_group_sym}
use Rattle.cpuset_tree.specs.TreeLemmas as tree
use Rattle.proctable.specs.declared.Process.{Process}
use Rattle.proctable.specs.TableState.{TableState}
use Rattle.proctable.specs.Processes.{process_of}
use Rattle.proctable.specs.TableChanges.{ends_with, exited, ended_in}
use Rattle.proctable.specs.TableAnswers.{AddsProcess}
use Rattle.proctable.specs.TableLaws.{ProcessAdded, SomeEnd}
use Rattle.proctable.specs.TableWellFormed as table_formed
use Rattle.proctable.specs.TableLemmas as table
use Rattle.kernel_model.specs.declared.fault.KernelFault.{KernelFault}
use Rattle.kernel_model.specs.declared.call.Call.TheVariants.{MakeGroup, RemoveGroup, WriteCpus, WriteMems, Spawn, EndGroup, Root, FindGroup, RequestedCpus, EffectiveCpus, RequestedMems, EffectiveMems, Online, Nodes, FirstAlive, Fork, Exit, Offline, OnlineCpu}
use Rattle.kernel_model.specs.KernelState.{KernelState, writes, recorded, failed}
use Rattle.kernel_model.specs.Refusals.{make_refusal, remove_refusal, write_refusal, spawn_refusal, end_refusal, fork_refusal, exit_refusal, offline_refusal, online_refusal}
use Rattle.kernel_model.specs.Trace.{WritingCall, MadeGroup, RemovedGroup, WroteCpus, WroteMems, Spawned, EndedGroup, is_failed}
use Rattle.kernel_model.specs.Cases.{rise, rise_or_memory, Writes, GrowingWrites, MakesGroup, MakesGroupOf, RemovesGroup, RemovesGroupOf, WritesCpus, WritesCpusOf, WritesMems, WritesMemsOf, Spawns, SpawnsIn, EndsGroup, EndsGroupOf, Forks, ForksIn, Exits, GoesOffline, ComesOnline, IsMade}
use Rattle.kernel_model.specs.WellFormed.{IsWellFormed}
use Rattle.kernel_model.specs.Laws.{CpusWriteLeaves, MemsWriteLeaves, MakeLeaves, RemoveLeaves, WritesLeaveGroups, SpawnLeaves, EndLeaves, ForkLeaves, ExitLeaves, CallsLeaveProcesses, WritesCount, TellsEachWrite, CountsEachWrite, EachCaseKeeps, KeepsMachine, KeepsGroups, KeepsPids, EventsKeepGroups, WritesKeepProcesses, WritesKeepTree, StepKeeps, StepsKeep, RunsKeep, EmptyWhereNoGroup, FirstIsWellFormed}
use Rattle.kernel_model.specs.CaseLemmas.{Writes-answers, GrowingWrites-answers, Decides-answers, Grows-answers, Decides-keeps, Grows-keeps, Writes-keeps, GrowingWrites-keeps}
use Rattle.kernel_model.specs.RefusalLemmas.{calls_are_free}

-- a set within another, through one number more or less
module _ (s t : Ids) (n : ℕ) where
  within_less : set.is_subset s t ≡ true → set.contains s n ≡ false → set.is_subset s (set.remove t n) ≡ true
  within_less within out = contains-is_subset s (set.remove t n) (λ q member.
      contains-remove t n q ∙ kept (q == n) (λ e. ap (set.contains s) (sym (eqb-true q n e)) ∙ member) (is_subset-contains s t within q member))
    where
      kept : (b : Bool) → (b ≡ true → set.contains s n ≡ true) → {c : Bool} → c ≡ true → (not b && c) ≡ true
      kept true there h = absurd (both_ways (set.contains s n) out (there refl))
      kept false there h = h

  less_within : set.is_subset s t ≡ true → set.is_subset (set.remove s n) t ≡ true
  less_within within = contains-is_subset (set.remove s n) t (λ q member.
      is_subset-contains s t within q (left (q == n) (set.contains s q) (sym (contains-remove s n q) ∙ member)))
    where
      left : (b c : Bool) → (not b && c) ≡ true → c ≡ true
      left true c h = absurd (both_ways false refl h)
      left false c h = h

  within_more : set.is_subset s t ≡ true → set.is_subset s (set.insert t n) ≡ true
  within_more within = contains-is_subset s (set.insert t n) (λ q member. contains-insert t n q ∙ more (q == n) (is_subset-contains s t within q member))
    where
      more : (b : Bool) → {c : Bool} → c ≡ true → (b || c) ≡ true
      more true h = refl
      more false h = h

  more_within : set.is_subset s t ≡ true → set.contains t n ≡ true → set.is_subset (set.insert s n) t ≡ true
  more_within within there = contains-is_subset (set.insert s n) t (λ q member. among q (q == n) refl (sym (contains-insert s n q) ∙ member))
    where
      among : (q : ℕ) (b : Bool) → (q == n) ≡ b → (b || set.contains s q) ≡ true → set.contains t q ≡ true
      among q true e h = ap (set.contains t) (eqb-true q n e) ∙ there
      among q false e h = is_subset-contains s t within q h

pub formed_whatever_is_told : (k : KernelState) (failures : ℕ) (trace : List WritingCall) → IsWellFormed k → IsWellFormed (record k { failures = failures; trace = trace })
formed_whatever_is_told k failures trace w = record {
  tree = w.tree;
  table = w.table;
  placed = w.placed;
  some_reserved = w.some_reserved;
  reserved_online = w.reserved_online;
  online_present = w.online_present;
}

-- what stays where the state does, or where a writing call is told or a failure counted
module _ (old : KernelState) where
  same_machine : KeepsMachine old old
  same_machine = record { nodes = refl; present = refl; reserved = refl }

  same_serials : KeepsSerials old.tree old.tree
  same_serials = record { rise = omega arith; same = λ g e _. tree.stands_itself old.tree g e }

  same_pids : KeepsPids old old
  same_pids = record { rise = omega arith; same = λ q p _ at. at }

  pub keeps_itself : IsWellFormed old → StepKeeps old old
  keeps_itself w = record { well_formed = w; machine = same_machine; pids = same_pids; serials = same_serials }

  -- what is told and counted is of no matter
  pub whatever_is_told : (k : KernelState) (failures : ℕ) (trace : List WritingCall) → StepKeeps old k → StepKeeps old (record k { failures = failures; trace = trace })
  whatever_is_told k failures trace keeps = record {
    well_formed = formed_whatever_is_told k failures trace keeps.well_formed;
    machine = record { nodes = keeps.machine.nodes; present = keeps.machine.present; reserved = keeps.machine.reserved };
    pids = record { rise = keeps.pids.rise; same = keeps.pids.same };
    serials = keeps.serials;
  }

  keeps_recorded : IsWellFormed old → (call : WritingCall) → StepKeeps old (recorded call old)
  keeps_recorded w call = whatever_is_told old old.failures (call ∷ old.trace) (keeps_itself w)

  keeps_failed : IsWellFormed old → (call : WritingCall) → StepKeeps old (failed call old)
  keeps_failed w call = whatever_is_told old (old.failures + 1) (call ∷ old.trace) (keeps_itself w)

  and_recorded : (call : WritingCall) (k : KernelState) → StepKeeps old k → StepKeeps old (recorded call k)
  and_recorded call k = whatever_is_told k k.failures (call ∷ k.trace)

  -- those that are left were there
  left_after_end : (new : TableState) (ends : Process → Bool) → SomeEnd old.table new ends → (q : ℕ) (p : Process) → process_of new q ≡ Some p → process_of old.table q ≡ Some p
  left_after_end new ends some q p at = from (process_of old.table q) refl
    where
      from : (o : Option Process) → process_of old.table q ≡ o → process_of old.table q ≡ Some p
      from None is = absurd (none-some p (sym (some.none q is) ∙ at))
      from (Some x) is = elim (ends x) as (λ b. ends x ≡ b → process_of old.table q ≡ Some p) [
        | true ↦ λ e. absurd (none-some p (sym (some.end q x is e) ∙ at))
        | false ↦ λ e. is ∙ sym (some.stay q x is e) ∙ at
      ] refl

  module _ (w : IsWellFormed old) where
    -- another tree, in which the processes' groups are
    keeps_with_tree : (t : TreeState) → tree_formed.IsWellFormed t
        → ((q : ℕ) (p : Process) → process_of old.table q ≡ Some p → has_group old.tree p.group ≡ true → has_group t p.group ≡ true) → t.online ≡ old.tree.online → t.nodes ≡ old.tree.nodes → KeepsSerials old.tree t → StepKeeps old (record old { tree = t })
    keeps_with_tree t well there online nodes serials = record {
      well_formed = record {
        tree = well;
        table = w.table;
        placed = λ q p at. there q p at (w.placed q p at);
        some_reserved = w.some_reserved;
        reserved_online = ap (set.is_subset old.reserved) online ∙ w.reserved_online;
        online_present = ap (λ (s : Ids). set.is_subset s old.present) online ∙ w.online_present;
      };
      machine = record { nodes = nodes; present = refl; reserved = refl };
      pids = record { rise = omega arith; same = λ q p _ at. at };
      serials = serials;
    }

    -- other processes, in groups that are there
    keeps_with_table : (t : TableState) → table_formed.IsWellFormed t → ((q : ℕ) (p : Process) → process_of t q ≡ Some p → has_group old.tree p.group ≡ true)
        → KeepsPids old (record old { table = t }) → StepKeeps old (record old { table = t })
    keeps_with_table t well placed pids = record {
      well_formed = record {
        tree = w.tree;
        table = well;
        placed = placed;
        some_reserved = w.some_reserved;
        reserved_online = w.reserved_online;
        online_present = w.online_present;
      };
      machine = record { nodes = refl; present = refl; reserved = refl };
      pids = pids;
      serials = same_serials;
    }

    -- other CPUs online
    keeps_with_online : (online : Ids) → set.is_subset old.reserved online ≡ true → set.is_subset online old.present ≡ true
        → StepKeeps old (record old { tree = with_online old.tree online })
    keeps_with_online online above within = record {
      well_formed = record {
        tree = (tree.stays_well_formed old.tree w.tree).online online;
        table = w.table;
        placed = w.placed;
        some_reserved = w.some_reserved;
        reserved_online = above;
        online_present = within;
      };
      machine = record { nodes = refl; present = refl; reserved = refl };
      pids = record { rise = omega arith; same = λ q p _ at. at };
      serials = (tree.serials_given_once old.tree).online online;
    }

    -- one process more
    keeps_with_process : (t : TableState) (g : Group) (first pid : ℕ) → AddsProcess old.table g first pid t → table_formed.IsWellFormed t → has_group old.tree g ≡ true
        → StepKeeps old (record old { table = t })
    keeps_with_process t g first pid adds well there =
        let added : ProcessAdded old.table t g first pid = table.added_leaves old.table t g first pid adds in
        keeps_with_table t well
        (λ q p at. elim (q == pid) as (λ b. (q == pid) ≡ b → has_group old.tree p.group ≡ true) [
          | true ↦ λ e.
              let one : record { pid = pid; group = g; first = first } ≡ p = same_Some (record { pid = pid; group = g; first = first }) p (sym added.there ∙ ap (process_of t) (sym (eqb-true q pid e)) ∙ at) in
              ap (λ (x : Process). has_group old.tree x.group) (sym one) ∙ there
          | false ↦ λ e. w.placed q p (sym (added.others q (differs q pid e)) ∙ at)
        ] refl)
        (record {
          rise = (let next : t.next_pid ≡ old.table.next_pid + 1 = ap (λ (s : TableState). s.next_pid) adds.added in omega arith);
          same = λ q p lt at. sym (added.others q (λ e. let next : pid ≡ old.table.next_pid = adds.next in absurd (omega arith))) ∙ at;
        })
      where
        differs : (a b : ℕ) → (a == b) ≡ false → a ≢ b
        differs a b e is = both_ways (a == b) e (eq-eqb a b is)

    -- some processes less
    keeps_with_fewer : (t : TableState) (ends : Process → Bool) → SomeEnd old.table t ends → table_formed.IsWellFormed t → t.next_pid ≡ old.table.next_pid
        → StepKeeps old (record old { table = t })
    keeps_with_fewer t ends some well next =
        keeps_with_table t well (λ q p at. w.placed q p (left_after_end t ends some q p at))
        (record { rise = omega arith; same = λ q p _. left_after_end t ends some q p })

    pub MakesGroup-keeps : (parent : Group) (name : List ℕ) (r : Result Group (OrMemory KernelFault)) (new : KernelState) → MakesGroup old parent name r new
        → StepKeeps old new
    MakesGroup-keeps parent name =
        GrowingWrites-keeps (StepKeeps old) (make_refusal old parent name) (MakesGroupOf old parent name) old
        (λ g new none does. subst (λ (k : KernelState). StepKeeps old k) (sym does.rest) (and_recorded (MadeGroup parent name (Ok g)) (record old { tree = new.tree }) (
        let added : GroupAdded old.tree new.tree parent name g = tree.added_leaves old.tree new.tree parent name g does.does in
        keeps_with_tree new.tree
        ((tree.stays_well_formed old.tree w.tree).added new.tree parent name g (((calls_are_free old).make parent name).0 none).0 does.does)
        (λ q p at there. ap is_some (added.others p.group (added.differs p.group there)) ∙ there)
        (ap (λ (t : TreeState). t.online) does.does.added)
        (ap (λ (t : TreeState). t.nodes) does.does.added)
        ((tree.serials_given_once old.tree).added new.tree parent name g does.does))))
        (keeps_recorded w) (keeps_failed w) (MadeGroup parent name)

    pub RemovesGroup-keeps : (g : Group) (r : Result (Unit {0}) KernelFault) (new : KernelState) → RemovesGroup old g r new → StepKeeps old new
    RemovesGroup-keeps g =
        Writes-keeps (StepKeeps old) (remove_refusal old g) (RemovesGroupOf old g) old
        (λ v new none does. subst (λ (k : KernelState). StepKeeps old k) (sym does) (and_recorded (RemovedGroup g (Ok v)) (record old { tree = without_group old.tree g }) (
        let free = ((calls_are_free old).remove g).0 none in
        keeps_with_tree (without_group old.tree g)
        ((tree.stays_well_formed old.tree w.tree).removed g free.1 free.2)
        (λ q p at there.
        ap is_some ((tree.removed_leaves old.tree g).others p.group (same_group_sym g p.group ∙ table.none_where_none_counted old.table g free.3 q p at)) ∙ there)
        refl refl ((tree.serials_given_once old.tree).removed g))))
        (keeps_recorded w) (keeps_failed w) (RemovedGroup g)

    pub WritesCpus-keeps : (g : Group) (cpus : Ids) (r : Result (Unit {0}) KernelFault) (new : KernelState) → WritesCpus old g cpus r new → StepKeeps old new
    WritesCpus-keeps g cpus =
        Writes-keeps (StepKeeps old) (write_refusal old g) (WritesCpusOf old g cpus) old
        (λ v new none does. subst (λ (k : KernelState). StepKeeps old k) (sym does)
        (and_recorded (WroteCpus g cpus (Ok v)) (record old { tree = with_cpus old.tree g cpus }) (keeps_with_tree (with_cpus old.tree g cpus) ((tree.stays_well_formed old.tree w.tree).cpus g cpus)
        (λ q p at there. (tree.writes_request.0 old.tree g cpus).there p.group ∙ there) refl refl ((tree.serials_given_once old.tree).cpus g cpus))))
        (keeps_recorded w) (keeps_failed w) (WroteCpus g cpus)

    pub WritesMems-keeps : (g : Group) (mems : Ids) (r : Result (Unit {0}) KernelFault) (new : KernelState) → WritesMems old g mems r new → StepKeeps old new
    WritesMems-keeps g mems =
        Writes-keeps (StepKeeps old) (write_refusal old g) (WritesMemsOf old g mems) old
        (λ v new none does. subst (λ (k : KernelState). StepKeeps old k) (sym does)
        (and_recorded (WroteMems g mems (Ok v)) (record old { tree = with_mems old.tree g mems }) (keeps_with_tree (with_mems old.tree g mems) ((tree.stays_well_formed old.tree w.tree).mems g mems)
        (λ q p at there. (tree.writes_request.1 old.tree g mems).there p.group ∙ there) refl refl ((tree.serials_given_once old.tree).mems g mems))))
        (keeps_recorded w) (keeps_failed w) (WroteMems g mems)

    pub Spawns-keeps : (g : Group) (r : Result ℕ (OrMemory KernelFault)) (new : KernelState) → Spawns old g r new → StepKeeps old new
    Spawns-keeps g =
        GrowingWrites-keeps (StepKeeps old) (spawn_refusal old g) (SpawnsIn old g) old
        (λ pid new none does. subst (λ (k : KernelState). StepKeeps old k) (sym does.rest)
        (and_recorded (Spawned g (Ok pid)) (record old { table = new.table }) (keeps_with_process new.table g pid pid does.does ((table.stays_well_formed old.table w.table).spawned new.table g pid does.does)
        (((calls_are_free old).spawn g).0 none).0)))
        (keeps_recorded w) (keeps_failed w) (Spawned g)

    pub EndsGroup-keeps : (g : Group) (r : Result (Unit {0}) KernelFault) (new : KernelState) → EndsGroup old g r new → StepKeeps old new
    EndsGroup-keeps g =
        Writes-keeps (StepKeeps old) (end_refusal old g) (EndsGroupOf old g) old
        (λ v new none does. subst (λ (k : KernelState). StepKeeps old k) (sym does)
        (and_recorded (EndedGroup g (Ok v)) (record old { table = ended_in old.table g }) (keeps_with_fewer (ended_in old.table g) (λ p. same_group p.group g) (table.ended_leaves old.table g w.table) ((table.stays_well_formed old.table w.table).ended g) refl)))
        (keeps_recorded w) (keeps_failed w) (EndedGroup g)

    pub Forks-keeps : (parent : ℕ) (r : Result ℕ (OrMemory KernelFault)) (new : KernelState) → Forks old parent r new → StepKeeps old new
    Forks-keeps parent =
        Grows-keeps (StepKeeps old) (fork_refusal old parent) (ForksIn old parent) old
        (λ pid new none does. subst (λ (k : KernelState). StepKeeps old k) (sym does.rest) (
        let p : Process = does.does.0 in
        keeps_with_process new.table p.group p.first pid does.does.2 ((table.stays_well_formed old.table w.table).forked new.table parent pid does.does)
        (w.placed parent p does.does.1)))
        (keeps_itself w)

    pub Exits-keeps : (pid : ℕ) (r : Result (Unit {0}) KernelFault) (new : KernelState) → Exits old pid r new → StepKeeps old new
    Exits-keeps pid =
        Decides-keeps (StepKeeps old) (exit_refusal old pid) (λ _ new. new ≡ record old { table = exited old.table pid }) old
        (λ _ new none does. subst (λ (k : KernelState). StepKeeps old k) (sym does)
        (keeps_with_fewer (exited old.table pid) (ends_with pid) (table.exited_leaves old.table pid w.table) ((table.stays_well_formed old.table w.table).exited pid) refl))
        (keeps_itself w)

    pub GoesOffline-keeps : (cpu : ℕ) (r : Result (Unit {0}) KernelFault) (new : KernelState) → GoesOffline old cpu r new → StepKeeps old new
    GoesOffline-keeps cpu =
        Decides-keeps (StepKeeps old) (offline_refusal old cpu) (λ _ new. new ≡ record old { tree = with_online old.tree (set.remove old.tree.online cpu) }) old
        (λ _ new none does. subst (λ (k : KernelState). StepKeeps old k) (sym does) (keeps_with_online (set.remove old.tree.online cpu)
        (within_less old.reserved old.tree.online cpu w.reserved_online (((calls_are_free old).offline cpu).0 none).1)
        (less_within old.tree.online old.present cpu w.online_present)))
        (keeps_itself w)

    pub ComesOnline-keeps : (cpu : ℕ) (r : Result (Unit {0}) KernelFault) (new : KernelState) → ComesOnline old cpu r new → StepKeeps old new
    ComesOnline-keeps cpu =
        Decides-keeps (StepKeeps old) (online_refusal old cpu) (λ _ new. new ≡ record old { tree = with_online old.tree (set.insert old.tree.online cpu) }) old
        (λ _ new none does. subst (λ (k : KernelState). StepKeeps old k) (sym does) (keeps_with_online (set.insert old.tree.online cpu)
        (within_more old.reserved old.tree.online cpu w.reserved_online)
        (more_within old.tree.online old.present cpu w.online_present (((calls_are_free old).online cpu).0 none))))
        (keeps_itself w)

    same_state : (new : KernelState) → new ≡ old → StepKeeps old new
    same_state new is = subst (λ (k : KernelState). StepKeeps old k) (sym is) (keeps_itself w)

pub steps_keep : StepsKeep
steps_keep old new (MakeGroup parent name) r w (a, is, h) = MakesGroup-keeps old w parent _ a new h
steps_keep old new (RemoveGroup g) r w (a, is, h) = RemovesGroup-keeps old w g a new h
steps_keep old new (WriteCpus g cpus) r w (a, is, h) = WritesCpus-keeps old w g cpus a new h
steps_keep old new (WriteMems g mems) r w (a, is, h) = WritesMems-keeps old w g mems a new h
steps_keep old new (Spawn g) r w (a, is, h) = Spawns-keeps old w g a new h
steps_keep old new (EndGroup g) r w (a, is, h) = EndsGroup-keeps old w g a new h
steps_keep old new Root r w (g, root, is, same) = same_state old w new same
steps_keep old new (FindGroup parent name) r w (is, same) = same_state old w new same
steps_keep old new (RequestedCpus g) r w (is, same) = same_state old w new same
steps_keep old new (EffectiveCpus g) r w (is, same) = same_state old w new same
steps_keep old new (RequestedMems g) r w (is, same) = same_state old w new same
steps_keep old new (EffectiveMems g) r w (is, same) = same_state old w new same
steps_keep old new Online r w (is, same) = same_state old w new same
steps_keep old new Nodes r w (is, same) = same_state old w new same
steps_keep old new (FirstAlive pid) r w (is, same) = same_state old w new same
steps_keep old new (Fork parent) r w (a, is, h) = Forks-keeps old w parent a new h
steps_keep old new (Exit pid) r w (a, is, h) = Exits-keeps old w pid a new h
steps_keep old new (Offline cpu) r w (a, is, h) = GoesOffline-keeps old w cpu a new h
steps_keep old new (OnlineCpu cpu) r w (a, is, h) = ComesOnline-keeps old w cpu a new h

serials_then : (old mid new : TreeState) → KeepsSerials old mid → KeepsSerials mid new → KeepsSerials old new
serials_then old mid new one rest = record {
  rise = (let a : old.next_serial ≤ mid.next_serial = one.rise in let b : mid.next_serial ≤ new.next_serial = rest.rise in omega arith);
  same = λ g e lt at.
      let f : StandsAs mid g e = rest.same g e (let a : old.next_serial ≤ mid.next_serial = one.rise in omega arith) at in
      let h : StandsAs old g f.entry = one.same g f.entry lt f.there in
      record {
        entry = h.entry;
        there = h.there;
        place = record { group = f.place.group ∙ h.place.group; parent = f.place.parent ∙ h.place.parent; name = f.place.name ∙ h.place.name };
      };
}

then_keeps : (old mid new : KernelState) → StepKeeps old mid → StepKeeps mid new → StepKeeps old new
then_keeps old mid new one rest = record {
  well_formed = rest.well_formed;
  machine = record {
    nodes = rest.machine.nodes ∙ one.machine.nodes;
    present = rest.machine.present ∙ one.machine.present;
    reserved = rest.machine.reserved ∙ one.machine.reserved;
  };
  pids = record {
    rise = (let a : old.table.next_pid ≤ mid.table.next_pid = one.pids.rise in let b : mid.table.next_pid ≤ new.table.next_pid = rest.pids.rise in omega arith);
    same = λ q p lt at. one.pids.same q p lt (rest.pids.same q p (let a : old.table.next_pid ≤ mid.table.next_pid = one.pids.rise in omega arith) at);
  };
  serials = serials_then old.tree mid.tree new.tree one.serials rest.serials;
}

pub runs_keep : RunsKeep
runs_keep old new [] [] w is = same_state old w new is
runs_keep old new [] (r ∷ replies) w h = absurd h
runs_keep old new (call ∷ calls) [] w h = absurd h
runs_keep old new (call ∷ calls) (r ∷ replies) w (mid, step, rest) =
    let one : StepKeeps old mid = steps_keep old mid call r w step in
    then_keeps old mid new one (runs_keep mid new calls replies one.well_formed rest)

pub events_keep_groups : EventsKeepGroups
events_keep_groups = record {
  fork = λ old new parent. λ r. Grows-keeps (λ k. KeepsGroups old k × (k.tree.online ≡ old.tree.online)) (fork_refusal old parent) (ForksIn old parent) old
      (λ pid k none does. subst (λ (s : KernelState). KeepsGroups old s × (s.tree.online ≡ old.tree.online)) (sym does.rest) (record { groups = refl; next_serial = refl; failures = refl; trace = refl }, refl)) (stays old, refl) r new;
  exit = λ old new pid r. Decides-keeps (λ k. KeepsGroups old k × (k.tree.online ≡ old.tree.online)) (exit_refusal old pid) (λ _ s. s ≡ record old { table = exited old.table pid }) old
      (λ _ k none does. subst (λ (s : KernelState). KeepsGroups old s × (s.tree.online ≡ old.tree.online)) (sym does) (record { groups = refl; next_serial = refl; failures = refl; trace = refl }, refl)) (stays old, refl) r new;
  offline = λ old new cpu r. Decides-keeps (λ k. KeepsGroups old k × (k.table ≡ old.table)) (offline_refusal old cpu) (λ _ s. s ≡ record old { tree = with_online old.tree (set.remove old.tree.online cpu) }) old
      (λ _ k none does. subst (λ (s : KernelState). KeepsGroups old s × (s.table ≡ old.table)) (sym does) (record { groups = refl; next_serial = refl; failures = refl; trace = refl }, refl)) (stays old, refl) r new;
  online = λ old new cpu r. Decides-keeps (λ k. KeepsGroups old k × (k.table ≡ old.table)) (online_refusal old cpu) (λ _ s. s ≡ record old { tree = with_online old.tree (set.insert old.tree.online cpu) }) old
      (λ _ k none does. subst (λ (s : KernelState). KeepsGroups old s × (s.table ≡ old.table)) (sym does) (record { groups = refl; next_serial = refl; failures = refl; trace = refl }, refl)) (stays old, refl) r new;
}
  where
    stays : (old : KernelState) → KeepsGroups old old
    stays old = record { groups = refl; next_serial = refl; failures = refl; trace = refl }

abbrev Same : KernelState → KernelState → Type 0
Same old new = (new.table ≡ old.table) × (new.tree.online ≡ old.tree.online)

pub writes_keep_processes : WritesKeepProcesses
writes_keep_processes = record {
  make = λ old new parent name r. GrowingWrites-keeps (Same old) (make_refusal old parent name) (MakesGroupOf old parent name) old
      (λ g k none does. subst (λ (s : KernelState). Same old s) (sym does.rest) (refl, ap (λ (t : TreeState). t.online) does.does.added)) (λ _. (refl, refl)) (λ _. (refl, refl)) (MadeGroup parent name) r new;
  remove = λ old new g r. Writes-keeps (Same old) (remove_refusal old g) (RemovesGroupOf old g) old
      (λ _ k none does. subst (λ (s : KernelState). Same old s) (sym does) (refl, refl)) (λ _. (refl, refl)) (λ _. (refl, refl)) (RemovedGroup g) r new;
  cpus = λ old new g cpus r. Writes-keeps (Same old) (write_refusal old g) (WritesCpusOf old g cpus) old
      (λ _ k none does. subst (λ (s : KernelState). Same old s) (sym does) (refl, refl)) (λ _. (refl, refl)) (λ _. (refl, refl)) (WroteCpus g cpus) r new;
  mems = λ old new g mems r. Writes-keeps (Same old) (write_refusal old g) (WritesMemsOf old g mems) old
      (λ _ k none does. subst (λ (s : KernelState). Same old s) (sym does) (refl, refl)) (λ _. (refl, refl)) (λ _. (refl, refl)) (WroteMems g mems) r new;
}

pub writes_keep_tree : WritesKeepTree
writes_keep_tree = record {
  spawn = λ old new g r. GrowingWrites-keeps (λ s. s.tree ≡ old.tree) (spawn_refusal old g) (SpawnsIn old g) old
      (λ pid k none does. subst (λ (s : KernelState). s.tree ≡ old.tree) (sym does.rest) refl) (λ _. refl) (λ _. refl) (Spawned g) r new;
  end = λ old new g r. Writes-keeps (λ s. s.tree ≡ old.tree) (end_refusal old g) (EndsGroupOf old g) old
      (λ _ k none does. subst (λ (s : KernelState). s.tree ≡ old.tree) (sym does) refl) (λ _. refl) (λ _. refl) (EndedGroup g) r new;
}

pub empty_where_no_group : EmptyWhereNoGroup
empty_where_no_group k g w none = table.none_counted_where_none k.table g w.table (λ q p at.
    elim (same_group p.group g) as (λ b. same_group p.group g ≡ b → b ≡ false) [
      | true ↦ λ e. absurd (both_ways (has_group k.tree g) none (ap (has_group k.tree) (sym ((tree.same_is_equal p.group g).0 e)) ∙ w.placed q p at))
      | false ↦ λ _. refl
    ] refl)

pub first_is_well_formed : FirstIsWellFormed
first_is_well_formed present reserved online nodes first_pid k some above within first = record {
  tree = tree.first_is_well_formed online nodes 0 k.tree first.first_tree;
  table = subst (λ (t : TableState). table_formed.IsWellFormed t) (sym first.first_table) (table.first_is_well_formed first_pid);
  placed = λ q p at. absurd (none-some p (ap (λ (t : TableState). process_of t q) (sym first.first_table) ∙ at));
  some_reserved = λ e. some (sym first.some_reserved ∙ e);
  reserved_online = ap (λ (s : Ids). set.is_subset s k.tree.online) first.some_reserved ∙ ap (set.is_subset reserved) (ap (λ (t : TreeState). t.online) first.first_tree.is) ∙ above;
  online_present = ap (λ (s : Ids). set.is_subset s k.present) (ap (λ (t : TreeState). t.online) first.first_tree.is) ∙ ap (set.is_subset online) first.all_present ∙ within;
}

pub each_case_keeps : EachCaseKeeps
each_case_keeps old new w = record {
  make = λ parent name r. MakesGroup-keeps old w parent name r new;
  remove = λ g r. RemovesGroup-keeps old w g r new;
  cpus = λ g cpus r. WritesCpus-keeps old w g cpus r new;
  mems = λ g mems r. WritesMems-keeps old w g mems r new;
  spawn = λ g r. Spawns-keeps old w g r new;
  end = λ g r. EndsGroup-keeps old w g r new;
  fork = λ parent r. Forks-keeps old w parent r new;
  exit = λ pid r. Exits-keeps old w pid r new;
  offline = λ cpu r. GoesOffline-keeps old w cpu r new;
  online = λ cpu r. ComesOnline-keeps old w cpu r new;
}

-- what a write leaves of the groups
pub itself_alike : (s : TreeState) → StandAlike s s
itself_alike s = record {
  before = λ p e at. tree.stands_itself s p e at;
  after = λ p e at. tree.stands_itself s p e at;
  there = λ p. refl;
  rootness = λ p. refl;
  child = λ parent name. refl;
  children = λ p. refl;
  root = refl;
  next_serial = refl;
}

pub writes_leave_groups : WritesLeaveGroups
writes_leave_groups = record {
  make = λ old new parent name r. GrowingWrites-answers (make_refusal old parent name) (MakesGroupOf old parent name) old (MadeGroup parent name) (λ r k. MakeLeaves old parent name r k)
      (λ g k none does.
      let added : GroupAdded old.tree k.tree parent name g = tree.added_leaves old.tree k.tree parent name g does.does in
      record { made = added; refused = tt; cpus = added.cpus; mems = added.mems })
      (record { made = tt; refused = refl; cpus = λ p. refl; mems = λ p. refl })
      (record { made = tt; refused = refl; cpus = λ p. refl; mems = λ p. refl })
      (λ fault other against. record { made = tt; refused = refl; cpus = λ p. refl; mems = λ p. refl }) r new;
  remove = λ old new g r. Writes-answers (remove_refusal old g) (RemovesGroupOf old g) old (RemovedGroup g) (λ r k. RemoveLeaves old g r k)
      (λ v k none does. subst (λ (s : KernelState). RemoveLeaves old g (Ok v) s) (sym does)
      (record { gone = (tree.removed_leaves old.tree g).gone; refused = tt; apart = (tree.removed_leaves old.tree g).others }))
      (record { gone = tt; refused = refl; apart = λ p _. refl })
      (λ fault other against. record { gone = tt; refused = refl; apart = λ p _. refl }) r new;
  cpus = λ old new g cpus r. Writes-answers (write_refusal old g) (WritesCpusOf old g cpus) old (WroteCpus g cpus) (λ r k. CpusWriteLeaves old g cpus r k)
      (λ v k none does. subst (λ (s : KernelState). CpusWriteLeaves old g cpus (Ok v) s) (sym does) (
      let written = tree.writes_request.0 old.tree g cpus in
      record {
        own = written.own (((calls_are_free old).write g).0 none).0;
        refused = tt;
        others = written.others;
        apart = written.apart;
        mems = written.mems;
        places = tree.writes_leave_places.0 old.tree g cpus;
      }))
      (record { own = tt; refused = refl; others = λ p _. refl; apart = λ p _. refl; mems = λ p. refl; places = itself_alike old.tree })
      (λ fault other against. record { own = tt; refused = refl; others = λ p _. refl; apart = λ p _. refl; mems = λ p. refl; places = itself_alike old.tree }) r new;
  mems = λ old new g mems r. Writes-answers (write_refusal old g) (WritesMemsOf old g mems) old (WroteMems g mems) (λ r k. MemsWriteLeaves old g mems r k)
      (λ v k none does. subst (λ (s : KernelState). MemsWriteLeaves old g mems (Ok v) s) (sym does) (
      let written = tree.writes_request.1 old.tree g mems in
      record {
        own = written.own (((calls_are_free old).write g).0 none).0;
        refused = tt;
        others = written.others;
        apart = written.apart;
        cpus = written.cpus;
        places = tree.writes_leave_places.1 old.tree g mems;
      }))
      (record { own = tt; refused = refl; others = λ p _. refl; apart = λ p _. refl; cpus = λ p. refl; places = itself_alike old.tree })
      (λ fault other against. record { own = tt; refused = refl; others = λ p _. refl; apart = λ p _. refl; cpus = λ p. refl; places = itself_alike old.tree }) r new;
}

-- what a call leaves of the processes
pub calls_leave_processes : CallsLeaveProcesses
calls_leave_processes = record {
  spawn = λ old new g r. GrowingWrites-answers (spawn_refusal old g) (SpawnsIn old g) old (Spawned g) (λ r k. SpawnLeaves old g r k)
      (λ pid k none does. record { made = table.added_leaves old.table k.table g pid pid does.does; refused = tt })
      (record { made = tt; refused = refl })
      (record { made = tt; refused = refl })
      (λ fault other against. record { made = tt; refused = refl }) r new;
  end = λ old new g r w. Writes-answers (end_refusal old g) (EndsGroupOf old g) old (EndedGroup g) (λ r k. EndLeaves old g r k)
      (λ v k none does. subst (λ (s : KernelState). EndLeaves old g (Ok v) s) (sym does)
      (record { ended = table.ended_leaves old.table g w.table; empty = table.ended_is_empty old.table g; refused = tt }))
      (record { ended = tt; empty = tt; refused = refl })
      (λ fault other against. record { ended = tt; empty = tt; refused = refl }) r new;
  fork = λ old new parent r. Grows-answers (fork_refusal old parent) (ForksIn old parent) old (λ r k. ForkLeaves old parent r k)
      (λ pid k none does. record {
        made = record {
          process = does.does.0;
          there = does.does.1;
          added = table.added_leaves old.table k.table does.does.0.group does.does.0.first pid does.does.2;
        };
        refused = tt;
      })
      (record { made = tt; refused = refl })
      (λ fault against. record { made = tt; refused = refl }) r new;
  exit = λ old new pid r w. Decides-answers (exit_refusal old pid) (λ _ s. s ≡ record old { table = exited old.table pid }) old (λ r k. ExitLeaves old pid r k)
      (λ v k none does. subst (λ (s : KernelState). ExitLeaves old pid (Ok v) s) (sym does)
      (record { ended = table.exited_leaves old.table pid w.table; refused = tt }))
      (λ fault against. record { ended = tt; refused = refl }) r new;
}

-- the count of failures
module _ {A : Type 0} (refusal : Option KernelFault) (Does : A → KernelState → Type 0) (old : KernelState)
    (does : (value : A) (new : KernelState) → Does value new → new.failures ≡ old.failures) where
  not_risen : (fault : KernelFault) → is_failed fault ≡ false → old.failures ≡ old.failures + cond (is_failed fault) 1 0
  not_risen fault other = sym (add-zero old.failures) ∙ ap (λ (b : Bool). old.failures + cond b 1 0) (sym other)

  Writes-count : (call : Result A KernelFault → WritingCall) (r : Result A KernelFault) (new : KernelState) → Writes call refusal Does old r new
      → new.failures ≡ old.failures + rise r
  Writes-count call = Writes-answers refusal Does old call (λ r k. k.failures ≡ old.failures + rise r)
      (λ value new _ d. let same : new.failures ≡ old.failures = does value new d in omega arith) refl (λ fault other _. not_risen fault other)

  GrowingWrites-count : (call : Result A (OrMemory KernelFault) → WritingCall) (r : Result A (OrMemory KernelFault)) (new : KernelState)
      → GrowingWrites call refusal Does old r new → new.failures ≡ old.failures + rise_or_memory r
  GrowingWrites-count call = GrowingWrites-answers refusal Does old call (λ r k. k.failures ≡ old.failures + rise_or_memory r)
      (λ value new _ d. let same : new.failures ≡ old.failures = does value new d in omega arith) (omega arith) refl (λ fault other _. not_risen fault other)

pub writes_count : WritesCount
writes_count = record {
  make = λ old new parent name r. GrowingWrites-count (make_refusal old parent name) (MakesGroupOf old parent name) old
      (λ g k does. ap (λ (s : KernelState). s.failures) does.rest) (MadeGroup parent name) r new;
  remove = λ old new g r. Writes-count (remove_refusal old g) (RemovesGroupOf old g) old (λ _ k is. ap (λ (s : KernelState). s.failures) is) (RemovedGroup g) r new;
  cpus = λ old new g cpus r. Writes-count (write_refusal old g) (WritesCpusOf old g cpus) old (λ _ k is. ap (λ (s : KernelState). s.failures) is) (WroteCpus g cpus) r new;
  mems = λ old new g mems r. Writes-count (write_refusal old g) (WritesMemsOf old g mems) old (λ _ k is. ap (λ (s : KernelState). s.failures) is) (WroteMems g mems) r new;
  spawn = λ old new g r. GrowingWrites-count (spawn_refusal old g) (SpawnsIn old g) old (λ pid k does. ap (λ (s : KernelState). s.failures) does.rest) (Spawned g) r new;
  end = λ old new g r. Writes-count (end_refusal old g) (EndsGroupOf old g) old (λ _ k is. ap (λ (s : KernelState). s.failures) is) (EndedGroup g) r new;
}

-- what is told
module _ {A : Type 0} (refusal : Option KernelFault) (Does : A → KernelState → Type 0) (old : KernelState) where
  Writes-told : (call : Result A KernelFault → WritingCall) → ((value : A) (new : KernelState) → Does value new → new.trace ≡ call (Ok value) ∷ old.trace)
      → (r : Result A KernelFault) (new : KernelState) → Writes call refusal Does old r new → new.trace ≡ call r ∷ old.trace
  Writes-told call does = Writes-answers refusal Does old call (λ r k. k.trace ≡ call r ∷ old.trace) (λ value new _. does value new) refl (λ fault other against. refl)

  GrowingWrites-told : (call : Result A (OrMemory KernelFault) → WritingCall) → ((value : A) (new : KernelState) → Does value new → new.trace ≡ call (Ok value) ∷ old.trace)
      → (r : Result A (OrMemory KernelFault)) (new : KernelState) → GrowingWrites call refusal Does old r new → new.trace ≡ call r ∷ old.trace
  GrowingWrites-told call does =
      GrowingWrites-answers refusal Does old call (λ r k. k.trace ≡ call r ∷ old.trace) (λ value new _. does value new) refl refl (λ fault other against. refl)

abbrev trace_of : KernelState → List WritingCall
trace_of k = k.trace

pub tells_each_write : TellsEachWrite
tells_each_write old (MadeGroup parent name r) new =
    GrowingWrites-told (make_refusal old parent name) (MakesGroupOf old parent name) old (MadeGroup parent name) (λ g k does. ap trace_of does.rest) r new
tells_each_write old (RemovedGroup g r) new = Writes-told (remove_refusal old g) (RemovesGroupOf old g) old (RemovedGroup g) (λ _ k is. ap trace_of is) r new
tells_each_write old (WroteCpus g cpus r) new = Writes-told (write_refusal old g) (WritesCpusOf old g cpus) old (WroteCpus g cpus) (λ _ k is. ap trace_of is) r new
tells_each_write old (WroteMems g mems r) new = Writes-told (write_refusal old g) (WritesMemsOf old g mems) old (WroteMems g mems) (λ _ k is. ap trace_of is) r new
tells_each_write old (Spawned g r) new = GrowingWrites-told (spawn_refusal old g) (SpawnsIn old g) old (Spawned g) (λ pid k does. ap trace_of does.rest) r new
tells_each_write old (EndedGroup g r) new = Writes-told (end_refusal old g) (EndsGroupOf old g) old (EndedGroup g) (λ _ k is. ap trace_of is) r new

-- the count of writes
one_written : (old : KernelState) (call : WritingCall) (new : KernelState) → IsMade old call new → writes new ≡ writes old + 1
one_written old call new made =
    let told : length new.trace ≡ suc (length old.trace) = ap (λ (t : List WritingCall). length t) (tells_each_write old call new made) in omega (arith, told)

pub counts_each_write : CountsEachWrite
counts_each_write = record {
  make = λ old new parent name r. one_written old (MadeGroup parent name r) new;
  remove = λ old new g r. one_written old (RemovedGroup g r) new;
  cpus = λ old new g cpus r. one_written old (WroteCpus g cpus r) new;
  mems = λ old new g mems r. one_written old (WroteMems g mems r) new;
  spawn = λ old new g r. one_written old (Spawned g r) new;
  end = λ old new g r. one_written old (EndedGroup g r) new;
}
