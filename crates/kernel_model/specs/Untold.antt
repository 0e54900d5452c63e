-- What each writing call does to a kernel of which no write fails, but for its place in the trace. No public clause cites this
-- module.
use Rattle.std.specs.Prelude.{◌≡◌, ℕ, List, Result}
use Rattle.faults.specs.declared.or_memory.OrMemory.{OrMemory}
use Rattle.faults.specs.Calls.{Decides, Grows}
use Rattle.cpu_set.specs.Ids.{Ids}
use Rattle.cpuset_tree.specs.declared.Group.{Group}
use Rattle.cpuset_tree.specs.TreeChanges.{without_group, with_cpus, with_mems}
use Rattle.cpuset_tree.specs.TreeAnswers.{AddsGroup}
use Rattle.proctable.specs.TableChanges.{ended_in}
use Rattle.proctable.specs.TableAnswers.{AddsProcess}
use Rattle.kernel_model.specs.declared.fault.KernelFault.{KernelFault}
use Rattle.kernel_model.specs.KernelState.{KernelState}
use Rattle.kernel_model.specs.Cases.{InTree, InTable}
use Rattle.kernel_model.specs.Refusals.{make_refusal, remove_refusal, write_refusal, spawn_refusal, end_refusal}

-- a group is made in the tree
abbrev pub MakesIn : KernelState → Group → List ℕ → Result Group (OrMemory KernelFault) → KernelState → Type 0
MakesIn old parent name = Grows (make_refusal old parent name) (λ g. InTree (AddsGroup old.tree parent name g) old) old

-- a group of no processes is removed from it
abbrev pub RemovesIn : KernelState → Group → Result (Unit {0}) KernelFault → KernelState → Type 0
RemovesIn old g = Decides (remove_refusal old g) (λ _ new. new ≡ record old { tree = without_group old.tree g }) old

-- what CPUs a group requests is written in it
abbrev pub WritesCpusIn : KernelState → Group → Ids → Result (Unit {0}) KernelFault → KernelState → Type 0
WritesCpusIn old g cpus = Decides (write_refusal old g) (λ _ new. new ≡ record old { tree = with_cpus old.tree g cpus }) old

-- what memory nodes a group requests is written in it
abbrev pub WritesMemsIn : KernelState → Group → Ids → Result (Unit {0}) KernelFault → KernelState → Type 0
WritesMemsIn old g mems = Decides (write_refusal old g) (λ _ new. new ≡ record old { tree = with_mems old.tree g mems }) old

-- a first process is made in the table, in a group that is there
abbrev pub SpawnsAt : KernelState → Group → Result ℕ (OrMemory KernelFault) → KernelState → Type 0
SpawnsAt old g = Grows (spawn_refusal old g) (λ pid. InTable (AddsProcess old.table g pid pid) old) old

-- all processes of a group that is there end in it
abbrev pub EndsIn : KernelState → Group → Result (Unit {0}) KernelFault → KernelState → Type 0
EndsIn old g = Decides (end_refusal old g) (λ _ new. new ≡ record old { table = ended_in old.table g }) old
