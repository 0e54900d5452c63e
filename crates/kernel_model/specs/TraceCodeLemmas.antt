-- How the logic stores the calls of a trace.
use Rattle.std.specs.Prelude.{◌≡◌, ◌⊎◌, ◌==◌, ℕ, cond, List, Option, Some, None, Result, refl}
use Rattle.std.proofs.Common.{inl, inr}
use Rattle.std.specs.Coded.{Coded, code_by, coded×, coded⊎, coded_ℕ, coded_list, coded_option, coded_result}
use Rattle.faults.specs.declared.or_memory.OrMemory.{OrMemory}
use Rattle.faults.specs.declared.or_memory.OrMemory.TheVariants.{Memory, Fault}
use Rattle.cpu_set.specs.Ids.{Ids, ids_code}
use Rattle.cpuset_tree.specs.TreeState.{group_code}
use Rattle.cpuset_tree.specs.declared.Group.{Group}
use Rattle.kernel_model.specs.declared.fault.KernelFault.{KernelFault}
use Rattle.kernel_model.specs.declared.fault.KernelFault.TheVariants.{NoGroup, Exists, HasChildren, HasProcesses, IsRoot, NoPids, NoProcess, NoSerials, Failed, Reserved, NoCpu}
use Rattle.kernel_model.specs.Trace.{WritingCall, MadeGroup, RemovedGroup, WroteCpus, WroteMems, Spawned, EndedGroup}

-- a refusal is stored as its place among them
abbrev fault_number : KernelFault → ℕ
fault_number NoGroup = 0
fault_number Exists = 1
fault_number HasChildren = 2
fault_number HasProcesses = 3
fault_number IsRoot = 4
fault_number NoPids = 5
fault_number NoProcess = 6
fault_number NoSerials = 7
fault_number Failed = 8
fault_number Reserved = 9
fault_number NoCpu = 10

abbrev fault_at : ℕ → KernelFault
fault_at n = cond (n == 0) NoGroup (cond (n == 1) Exists (cond (n == 2) HasChildren (cond (n == 3) HasProcesses (cond (n == 4) IsRoot (cond (n == 5) NoPids
    (cond (n == 6) NoProcess (cond (n == 7) NoSerials (cond (n == 8) Failed (cond (n == 9) Reserved NoCpu)))))))))

pub fault_at-fault_number : (fault : KernelFault) → fault_at (fault_number fault) ≡ fault
fault_at-fault_number NoGroup = refl
fault_at-fault_number Exists = refl
fault_at-fault_number HasChildren = refl
fault_at-fault_number HasProcesses = refl
fault_at-fault_number IsRoot = refl
fault_at-fault_number NoPids = refl
fault_at-fault_number NoProcess = refl
fault_at-fault_number NoSerials = refl
fault_at-fault_number Failed = refl
fault_at-fault_number Reserved = refl
fault_at-fault_number NoCpu = refl

abbrev fault_code : Coded KernelFault
fault_code = code_by ℕ coded_ℕ fault_number fault_at fault_at-fault_number

-- and an error as what it is beside an allocation failure
abbrev some_fault : OrMemory KernelFault → Option KernelFault
some_fault Memory = None
some_fault (Fault fault) = Some fault

abbrev as_error : Option KernelFault → OrMemory KernelFault
as_error None = Memory
as_error (Some fault) = Fault fault

pub as_error-some_fault : (error : OrMemory KernelFault) → as_error (some_fault error) ≡ error
as_error-some_fault Memory = refl
as_error-some_fault (Fault fault) = refl

abbrev error_code : Coded (OrMemory KernelFault)
error_code = code_by (Option KernelFault) (coded_option fault_code) some_fault as_error as_error-some_fault

abbrev done_code : Coded (Unit {0})
done_code = code_by ℕ coded_ℕ (λ _. 0) (λ _. tt) (λ _. refl)

abbrev answer_code : Coded (Result (Unit {0}) KernelFault)
answer_code = coded_result done_code fault_code

-- a call is stored as the tuple of its parts, by which call it is
abbrev Parts : Type 0
Parts =
    (Group × (List ℕ × Result Group (OrMemory KernelFault))) ⊎ ((Group × Result (Unit {0}) KernelFault) ⊎ ((Group × (Ids × Result (Unit {0}) KernelFault))
    ⊎ ((Group × (Ids × Result (Unit {0}) KernelFault)) ⊎ ((Group × Result ℕ (OrMemory KernelFault)) ⊎ (Group × Result (Unit {0}) KernelFault)))))

abbrev to_parts : WritingCall → Parts
to_parts (MadeGroup parent name r) = inl (parent, (name, r))
to_parts (RemovedGroup g r) = inr (inl (g, r))
to_parts (WroteCpus g cpus r) = inr (inr (inl (g, (cpus, r))))
to_parts (WroteMems g mems r) = inr (inr (inr (inl (g, (mems, r)))))
to_parts (Spawned g r) = inr (inr (inr (inr (inl (g, r)))))
to_parts (EndedGroup g r) = inr (inr (inr (inr (inr (g, r)))))

abbrev from_parts : Parts → WritingCall
from_parts (inl p) = MadeGroup p.0 p.1.0 p.1.1
from_parts (inr (inl p)) = RemovedGroup p.0 p.1
from_parts (inr (inr (inl p))) = WroteCpus p.0 p.1.0 p.1.1
from_parts (inr (inr (inr (inl p)))) = WroteMems p.0 p.1.0 p.1.1
from_parts (inr (inr (inr (inr (inl p))))) = Spawned p.0 p.1
from_parts (inr (inr (inr (inr (inr p))))) = EndedGroup p.0 p.1

pub from_parts-to_parts : (call : WritingCall) → from_parts (to_parts call) ≡ call
from_parts-to_parts (MadeGroup parent name r) = refl
from_parts-to_parts (RemovedGroup g r) = refl
from_parts-to_parts (WroteCpus g cpus r) = refl
from_parts-to_parts (WroteMems g mems r) = refl
from_parts-to_parts (Spawned g r) = refl
from_parts-to_parts (EndedGroup g r) = refl

-- and a list of them as a list
abbrev pub trace_code : Coded (List WritingCall)
trace_code =
    coded_list (
    code_by Parts (coded⊎ (coded× group_code (coded× (coded_list coded_ℕ) (coded_result group_code error_code))) (
    coded⊎ (coded× group_code answer_code) (
    coded⊎ (coded× group_code (coded× ids_code answer_code)) (
    coded⊎ (coded× group_code (coded× ids_code answer_code)) (
    coded⊎ (coded× group_code (coded_result coded_ℕ error_code)) (coded× group_code answer_code))))))
    to_parts from_parts from_parts-to_parts)
