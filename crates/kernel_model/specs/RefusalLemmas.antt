-- When nothing stands against a call, and what does where something does.
use Rattle.std.proofs.Common.{◌≡◌, ℕ, ◌≤◌, ◌<◌, Bool, true, false, not, List, refl, sym, ap, ◌∙◌, subst, arith, eq-eqb, eqb-true}
use Rattle.std.proofs.lemmas.Bool.{ne_eqb, both_ways}
use Rattle.std.proofs.lemmas.Bool.Decides.{nat_tests}
use Rattle.std.proofs.lemmas.Option.{same_Some, none-some}
use Rattle.std.specs.Prelude.{Option, Some, None, is_some, option_map, if◌then◌else◌, nat_lt, ◌==◌}
use Rattle.std.specs.FinSet as set
use Rattle.cpuset_tree.specs.declared.Group.{Group}
use Rattle.cpuset_tree.specs.declared.TheConstants.{SERIAL_LIMIT}
use Rattle.cpuset_tree.specs.declared.TreeFault.TheVariants as tree
use Rattle.cpuset_tree.specs.Groups.{has_group, has_children, child_of, is_root}
use Rattle.proctable.specs.declared.TheConstants.{LAST_PID}
use Rattle.proctable.specs.declared.ProcFault.TheVariants as proc
use Rattle.proctable.specs.Processes.{is_alive, count_in}
use Rattle.std.specs.Option.{option_or}
use Rattle.kernel_model.specs.declared.fault.KernelFault.{KernelFault}
use Rattle.kernel_model.specs.declared.fault.KernelFault.TheVariants.{NoGroup, Exists, HasChildren, HasProcesses, IsRoot, NoPids, NoProcess, NoSerials, Reserved, NoCpu}
use Rattle.kernel_model.specs.Faults.{of_tree, of_proc}
use Rattle.kernel_model.specs.KernelState.{KernelState}
use Rattle.kernel_model.specs.Refusals.{make_refusal, remove_refusal, write_refusal, spawn_refusal, fork_refusal}
use Rattle.kernel_model.specs.Laws.{MakeCause, RemoveCause, WriteCause, SpawnCause, EndCause, ForkCause, ExitCause, OfflineCause, OnlineCause, RefusalsHaveCauses, CallsAreFree}
use Rattle.faults.specs.TestLaws.{none_above}

-- a chain of refusals gives none where no test of it holds
module _ {F : Type 0} where
  none_unless : (b : Bool) (x : F) (rest : Option F) → (if not b then Some x else rest) ≡ None → (b ≡ true) × (rest ≡ None)
  none_unless true x rest e = (refl, e)
  none_unless false x rest e = absurd (none-some x (sym e))

  none_if : (b : Bool) (x : F) (rest : Option F) → (if b then Some x else rest) ≡ None → (b ≡ false) × (rest ≡ None)
  none_if true x rest e = absurd (none-some x (sym e))
  none_if false x rest e = (refl, e)

  free_unless : (b : Bool) (x : F) (rest : Option F) → b ≡ true → rest ≡ None → (if not b then Some x else rest) ≡ None
  free_unless true x rest e h = h
  free_unless false x rest e h = absurd (both_ways false refl e)

  free_if : (b : Bool) (x : F) (rest : Option F) → b ≡ false → rest ≡ None → (if b then Some x else rest) ≡ None
  free_if true x rest e h = absurd (both_ways true e refl)
  free_if false x rest e h = h

  -- and else it gives one whose test holds
  module _ (Cause : F → Type 0) where
    cause_unless : (b : Bool) (x : F) (rest : Option F) → (b ≡ false → Cause x) → ((y : F) → rest ≡ Some y → Cause y)
        → (y : F) → (if not b then Some x else rest) ≡ Some y → Cause y
    cause_unless true x rest here later y e = later y e
    cause_unless false x rest here later y e = subst Cause (same_Some x y e) (here refl)

    cause_if : (b : Bool) (x : F) (rest : Option F) → (b ≡ true → Cause x) → ((y : F) → rest ≡ Some y → Cause y)
        → (y : F) → (if b then Some x else rest) ≡ Some y → Cause y
    cause_if true x rest here later y e = subst Cause (same_Some x y e) (here refl)
    cause_if false x rest here later y e = later y e

    no_cause : (y : F) → None ≡ Some y → Cause y
    no_cause y e = absurd (none-some y e)

-- the refusals of the tree and the table, as chains of the kernel's
abbrev make_chain : Bool → Bool → Bool → Option KernelFault
make_chain there taken last = if not there then Some NoGroup else if taken then Some Exists else if last then Some NoSerials else None

make_of : (there taken last : Bool)
    → option_map of_tree (if not there then Some tree.NoGroup else if taken then Some tree.Exists else if last then Some tree.NoSerials else None) ≡ make_chain there taken last
make_of false taken last = refl
make_of true true last = refl
make_of true false true = refl
make_of true false false = refl

make_is : (k : KernelState) (parent : Group) (name : List ℕ)
    → make_refusal k parent name ≡ make_chain (has_group k.tree parent) (is_some (child_of k.tree parent name)) (k.tree.next_serial == SERIAL_LIMIT)
make_is k parent name = make_of (has_group k.tree parent) (is_some (child_of k.tree parent name)) (k.tree.next_serial == SERIAL_LIMIT)

abbrev remove_chain : Bool → Bool → Bool → Bool → Option KernelFault
remove_chain there root children processes =
    if not there then Some NoGroup else if root then Some IsRoot else if children then Some HasChildren else if processes then Some HasProcesses else None

remove_of : (there root children processes : Bool)
    → option_or (option_map of_tree (if not there then Some tree.NoGroup else if root then Some tree.IsRoot else if children then Some tree.HasChildren else None)) (if processes then Some HasProcesses else None)
    ≡ remove_chain there root children processes
remove_of false root children processes = refl
remove_of true true children processes = refl
remove_of true false true processes = refl
remove_of true false false processes = refl

remove_is : (k : KernelState) (g : Group)
    → remove_refusal k g ≡ remove_chain (has_group k.tree g) (is_root k.tree g) (has_children k.tree g) (nat_lt 0 (count_in k.table g))
remove_is k g = remove_of (has_group k.tree g) (is_root k.tree g) (has_children k.tree g) (nat_lt 0 (count_in k.table g))

abbrev write_chain : Bool → Bool → Option KernelFault
write_chain there root = if not there then Some NoGroup else if root then Some IsRoot else None

write_of : (there root : Bool) → option_map of_tree (if not there then Some tree.NoGroup else if root then Some tree.IsRoot else None) ≡ write_chain there root
write_of false root = refl
write_of true true = refl
write_of true false = refl

write_is : (k : KernelState) (g : Group) → write_refusal k g ≡ write_chain (has_group k.tree g) (is_root k.tree g)
write_is k g = write_of (has_group k.tree g) (is_root k.tree g)

abbrev spawn_chain : Bool → Bool → Option KernelFault
spawn_chain there last = if not there then Some NoGroup else if last then Some NoPids else None

spawn_of : (there last : Bool)
    → option_or (if not there then Some NoGroup else None) (option_map of_proc (if last then Some proc.NoPids else None)) ≡ spawn_chain there last
spawn_of false last = refl
spawn_of true true = refl
spawn_of true false = refl

spawn_is : (k : KernelState) (g : Group) → spawn_refusal k g ≡ spawn_chain (has_group k.tree g) (nat_lt LAST_PID k.table.next_pid)
spawn_is k g = spawn_of (has_group k.tree g) (nat_lt LAST_PID k.table.next_pid)

abbrev fork_chain : Bool → Bool → Option KernelFault
fork_chain alive last = if not alive then Some NoProcess else if last then Some NoPids else None

fork_of : (alive last : Bool) → option_map of_proc (if not alive then Some proc.NoProcess else if last then Some proc.NoPids else None) ≡ fork_chain alive last
fork_of false last = refl
fork_of true true = refl
fork_of true false = refl

fork_is : (k : KernelState) (parent : ℕ) → fork_refusal k parent ≡ fork_chain (is_alive k.table parent) (nat_lt LAST_PID k.table.next_pid)
fork_is k parent = fork_of (is_alive k.table parent) (nat_lt LAST_PID k.table.next_pid)

exit_of : (alive : Bool) → option_map of_proc (if not alive then Some proc.NoProcess else None) ≡ (if not alive then Some NoProcess else None)
exit_of false = refl
exit_of true = refl

not_some : {A : Type 0} (o : Option A) → is_some o ≡ false → o ≡ None
not_some None h = refl
not_some (Some x) h = absurd (both_ways true h refl)

some_left : (next : ℕ) → nat_lt LAST_PID next ≡ false → next ≤ LAST_PID
some_left next h = grind (arith, nat_tests)

left_some : (next : ℕ) → next ≤ LAST_PID → nat_lt LAST_PID next ≡ false
left_some next h = grind (arith, nat_tests)

none_left : (next : ℕ) → nat_lt LAST_PID next ≡ true → LAST_PID < next
none_left next h = grind (arith, nat_tests)

pub nobody : (count : ℕ) → count ≡ 0 → nat_lt 0 count ≡ false
nobody count h = grind (arith, nat_tests)

somebody : (count : ℕ) → nat_lt 0 count ≡ true → 0 < count
somebody count h = grind (arith, nat_tests)

pub calls_are_free : CallsAreFree
calls_are_free k = record {
  make = λ parent name. (
    (λ e.
        let there = none_unless (has_group k.tree parent) NoGroup (if is_some (child_of k.tree parent name) then Some Exists else if k.tree.next_serial == SERIAL_LIMIT then Some NoSerials else None) (sym (make_is k parent name) ∙ e) in
        let alone = none_if (is_some (child_of k.tree parent name)) Exists (if k.tree.next_serial == SERIAL_LIMIT then Some NoSerials else None) there.1 in
        let room = none_if (k.tree.next_serial == SERIAL_LIMIT) NoSerials None alone.1 in
        (there.0, not_some (child_of k.tree parent name) alone.0, (λ is. both_ways (k.tree.next_serial == SERIAL_LIMIT) room.0 (eq-eqb k.tree.next_serial SERIAL_LIMIT is)))),
    (λ h. make_is k parent name
        ∙ free_unless (has_group k.tree parent) NoGroup (if is_some (child_of k.tree parent name) then Some Exists else if k.tree.next_serial == SERIAL_LIMIT then Some NoSerials else None) h.0
        (free_if (is_some (child_of k.tree parent name)) Exists (if k.tree.next_serial == SERIAL_LIMIT then Some NoSerials else None) (ap is_some h.1)
        (free_if (k.tree.next_serial == SERIAL_LIMIT) NoSerials None (ne_eqb k.tree.next_serial SERIAL_LIMIT h.2) refl))),
  );
  remove = λ g. (
    (λ e.
        let there = none_unless (has_group k.tree g) NoGroup (if is_root k.tree g then Some IsRoot else if has_children k.tree g then Some HasChildren else if nat_lt 0 (count_in k.table g) then Some HasProcesses else None) (sym (remove_is k g) ∙ e) in
        let child = none_if (is_root k.tree g) IsRoot (if has_children k.tree g then Some HasChildren else if nat_lt 0 (count_in k.table g) then Some HasProcesses else None) there.1 in
        let childless = none_if (has_children k.tree g) HasChildren (if nat_lt 0 (count_in k.table g) then Some HasProcesses else None) child.1 in
        let empty = none_if (nat_lt 0 (count_in k.table g)) HasProcesses None childless.1 in
        (there.0, child.0, childless.0, none_above (count_in k.table g) empty.0)),
    (λ h. remove_is k g
        ∙ free_unless (has_group k.tree g) NoGroup (if is_root k.tree g then Some IsRoot else if has_children k.tree g then Some HasChildren else if nat_lt 0 (count_in k.table g) then Some HasProcesses else None) h.0
        (free_if (is_root k.tree g) IsRoot (if has_children k.tree g then Some HasChildren else if nat_lt 0 (count_in k.table g) then Some HasProcesses else None) h.1
        (free_if (has_children k.tree g) HasChildren (if nat_lt 0 (count_in k.table g) then Some HasProcesses else None) h.2
        (free_if (nat_lt 0 (count_in k.table g)) HasProcesses None (nobody (count_in k.table g) h.3) refl)))),
  );
  write = λ g. (
    (λ e.
        let there = none_unless (has_group k.tree g) NoGroup (if is_root k.tree g then Some IsRoot else None) (sym (write_is k g) ∙ e) in
        (there.0, (none_if (is_root k.tree g) IsRoot None there.1).0)),
    (λ h. write_is k g
        ∙ free_unless (has_group k.tree g) NoGroup (if is_root k.tree g then Some IsRoot else None) h.0 (free_if (is_root k.tree g) IsRoot None h.1 refl)),
  );
  spawn = λ g. (
    (λ e.
        let there = none_unless (has_group k.tree g) NoGroup (if nat_lt LAST_PID k.table.next_pid then Some NoPids else None) (sym (spawn_is k g) ∙ e) in
        (there.0, some_left k.table.next_pid (none_if (nat_lt LAST_PID k.table.next_pid) NoPids None there.1).0)),
    (λ h. spawn_is k g
        ∙ free_unless (has_group k.tree g) NoGroup (if nat_lt LAST_PID k.table.next_pid then Some NoPids else None) h.0
        (free_if (nat_lt LAST_PID k.table.next_pid) NoPids None (left_some k.table.next_pid h.1) refl)),
  );
  end = λ g. ((λ e. (none_unless (has_group k.tree g) NoGroup None e).0), (λ h. free_unless (has_group k.tree g) NoGroup None h refl));
  fork = λ parent. (
    (λ e.
        let alive = none_unless (is_alive k.table parent) NoProcess (if nat_lt LAST_PID k.table.next_pid then Some NoPids else None) (sym (fork_is k parent) ∙ e) in
        (alive.0, some_left k.table.next_pid (none_if (nat_lt LAST_PID k.table.next_pid) NoPids None alive.1).0)),
    (λ h. fork_is k parent
        ∙ free_unless (is_alive k.table parent) NoProcess (if nat_lt LAST_PID k.table.next_pid then Some NoPids else None) h.0
        (free_if (nat_lt LAST_PID k.table.next_pid) NoPids None (left_some k.table.next_pid h.1) refl)),
  );
  exit = λ pid. (
    (λ e. (none_unless (is_alive k.table pid) NoProcess None (sym (exit_of (is_alive k.table pid)) ∙ e)).0),
    (λ h. exit_of (is_alive k.table pid) ∙ free_unless (is_alive k.table pid) NoProcess None h refl),
  );
  offline = λ cpu. (
    (λ e.
        let here = none_unless (set.contains k.present cpu) NoCpu (if set.contains k.reserved cpu then Some Reserved else None) e in
        (here.0, (none_if (set.contains k.reserved cpu) Reserved None here.1).0)),
    (λ h. free_unless (set.contains k.present cpu) NoCpu (if set.contains k.reserved cpu then Some Reserved else None) h.0 (free_if (set.contains k.reserved cpu) Reserved None h.1 refl)),
  );
  online = λ cpu. ((λ e. (none_unless (set.contains k.present cpu) NoCpu None e).0), (λ h. free_unless (set.contains k.present cpu) NoCpu None h refl));
}

pub refusals_have_causes : RefusalsHaveCauses
refusals_have_causes k = record {
  make = λ parent name fault e. cause_unless (MakeCause k parent name) (has_group k.tree parent) NoGroup (if is_some (child_of k.tree parent name) then Some Exists else if k.tree.next_serial == SERIAL_LIMIT then Some NoSerials else None)
      (λ h. h)
      (cause_if (MakeCause k parent name) (is_some (child_of k.tree parent name)) Exists (if k.tree.next_serial == SERIAL_LIMIT then Some NoSerials else None) (λ h. h)
      (cause_if (MakeCause k parent name) (k.tree.next_serial == SERIAL_LIMIT) NoSerials None (eqb-true k.tree.next_serial SERIAL_LIMIT) (no_cause (MakeCause k parent name))))
      fault (sym (make_is k parent name) ∙ e);
  remove = λ g fault e. cause_unless (RemoveCause k g) (has_group k.tree g) NoGroup (if is_root k.tree g then Some IsRoot else if has_children k.tree g then Some HasChildren else if nat_lt 0 (count_in k.table g) then Some HasProcesses else None)
      (λ h. h)
      (cause_if (RemoveCause k g) (is_root k.tree g) IsRoot (if has_children k.tree g then Some HasChildren else if nat_lt 0 (count_in k.table g) then Some HasProcesses else None) (λ h. h)
      (cause_if (RemoveCause k g) (has_children k.tree g) HasChildren (if nat_lt 0 (count_in k.table g) then Some HasProcesses else None) (λ h. h)
      (cause_if (RemoveCause k g) (nat_lt 0 (count_in k.table g)) HasProcesses None (somebody (count_in k.table g)) (no_cause (RemoveCause k g)))))
      fault (sym (remove_is k g) ∙ e);
  write = λ g fault e. cause_unless (WriteCause k g) (has_group k.tree g) NoGroup (if is_root k.tree g then Some IsRoot else None) (λ h. h)
      (cause_if (WriteCause k g) (is_root k.tree g) IsRoot None (λ h. h) (no_cause (WriteCause k g)))
      fault (sym (write_is k g) ∙ e);
  spawn = λ g fault e. cause_unless (SpawnCause k g) (has_group k.tree g) NoGroup (if nat_lt LAST_PID k.table.next_pid then Some NoPids else None) (λ h. h)
      (cause_if (SpawnCause k g) (nat_lt LAST_PID k.table.next_pid) NoPids None (none_left k.table.next_pid) (no_cause (SpawnCause k g)))
      fault (sym (spawn_is k g) ∙ e);
  end = λ g fault e. cause_unless (EndCause k g) (has_group k.tree g) NoGroup None (λ h. h) (no_cause (EndCause k g)) fault e;
  fork = λ parent fault e. cause_unless (ForkCause k parent) (is_alive k.table parent) NoProcess (if nat_lt LAST_PID k.table.next_pid then Some NoPids else None) (λ h. h)
      (cause_if (ForkCause k parent) (nat_lt LAST_PID k.table.next_pid) NoPids None (none_left k.table.next_pid) (no_cause (ForkCause k parent)))
      fault (sym (fork_is k parent) ∙ e);
  exit = λ pid fault e. cause_unless (ExitCause k pid) (is_alive k.table pid) NoProcess None (λ h. h) (no_cause (ExitCause k pid)) fault (sym (exit_of (is_alive k.table pid)) ∙ e);
  offline = λ cpu fault e. cause_unless (OfflineCause k cpu) (set.contains k.present cpu) NoCpu (if set.contains k.reserved cpu then Some Reserved else None) (λ h. h)
      (cause_if (OfflineCause k cpu) (set.contains k.reserved cpu) Reserved None (λ h. h) (no_cause (OfflineCause k cpu))) fault e;
  online = λ cpu fault e. cause_unless (OnlineCause k cpu) (set.contains k.present cpu) NoCpu None (λ h. h) (no_cause (OnlineCause k cpu)) fault e;
}
