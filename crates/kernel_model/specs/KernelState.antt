-- A kernel as a plain value: what each call of the trait `Kernel` answers and changes.
use Rattle.std.specs.Prelude.{◌≡◌, ℕ, ◌+◌, List, [], ◌∷◌, length, refl}
use Rattle.std.specs.Coded.{Coded, code_by, coded×, coded_ℕ}
use Rattle.cpu_set.specs.Ids.{Ids, ids_code}
use Rattle.cpuset_tree.specs.TreeState.{TreeState, tree_code}
use Rattle.cpuset_tree.specs.TreeChanges.{IsFirstTree}
use Rattle.proctable.specs.TableState.{TableState, table_code}
use Rattle.proctable.specs.TableChanges.{first_table as table_at}
use Rattle.kernel_model.specs.Trace.{WritingCall}
use Rattle.kernel_model.specs.TraceCodeLemmas.{trace_code}

-- the groups with what they request, the online CPUs, the nodes and the next serial; the live processes with their groups
-- and first processes, and the next pid; the present CPUs and those of them that are reserved; how many writes failed; and
-- the writing calls that were made, the newest first, those that were refused or failed too
pub record KernelState : Type 0 where
  pub tree : TreeState
  pub table : TableState
  pub present : Ids
  pub reserved : Ids
  pub failures : ℕ
  pub trace : List WritingCall

-- a kernel is stored as the tuple of its fields
abbrev pub kernel_code : Coded KernelState
kernel_code =
    code_by
    (TreeState × (TableState × (Ids × (Ids × (ℕ × List WritingCall)))))
    (coded× tree_code (coded× table_code (coded× ids_code (coded× ids_code (coded× coded_ℕ trace_code)))))
    (λ k. (k.tree, (k.table, (k.present, (k.reserved, (k.failures, k.trace))))))
    (λ p. record { tree = p.0; table = p.1.0; present = p.1.1.0; reserved = p.1.1.1.0; failures = p.1.1.1.1.0; trace = p.1.1.1.1.1 })
    (λ _. refl)

-- how many writing calls were made
abbrev pub writes : KernelState → ℕ
writes k = length k.trace

-- the kernel once a writing call is told, and nothing else changed
abbrev pub recorded : WritingCall → KernelState → KernelState
recorded call k = record k { trace = call ∷ k.trace }

-- the kernel after a writing call that failed: it is told, and counted as a failure, and nothing else changed
abbrev pub failed : WritingCall → KernelState → KernelState
failed call k = record k { failures = k.failures + 1; trace = call ∷ k.trace }

-- a kernel on which no write was made: the root group alone, of serial 0, and no process
pub record IsFirstKernel (present reserved online nodes : Ids) (first_pid : ℕ) (k : KernelState) : Type 0 where
  pub first_tree : IsFirstTree online nodes 0 k.tree
  pub first_table : k.table ≡ table_at first_pid
  pub all_present : k.present ≡ present
  pub some_reserved : k.reserved ≡ reserved
  pub none_failed : k.failures ≡ 0
  pub none_written : k.trace ≡ []
