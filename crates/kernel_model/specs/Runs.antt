-- A list of calls, made one after another.
use Rattle.std.specs.Prelude.{◌≡◌, List, [], ◌∷◌, Some, Result, Ok, Err, string_bytes}
use Rattle.faults.specs.declared.or_memory.OrMemory.{OrMemory}
use Rattle.faults.specs.declared.or_memory.OrMemory.TheVariants.{Fault}
use Rattle.cpuset_tree.specs.declared.Group.{Group}
use Rattle.cpuset_tree.specs.Groups.{root_of, child_of, requested_cpus, requested_mems}
use Rattle.cpuset_tree.specs.Effective.{effective_cpus, effective_mems}
use Rattle.proctable.specs.Processes.{is_alive}
use Rattle.kernel_model.specs.declared.fault.KernelFault.{KernelFault}
use Rattle.kernel_model.specs.declared.call.Call.{Call}
use Rattle.kernel_model.specs.declared.call.Call.TheVariants.{MakeGroup, RemoveGroup, WriteCpus, WriteMems, Spawn, EndGroup, Root, FindGroup, RequestedCpus, EffectiveCpus, RequestedMems, EffectiveMems, Online, Nodes, FirstAlive, Fork, Exit, Offline, OnlineCpu}
use Rattle.kernel_model.specs.declared.call.Reply.{Reply}
use Rattle.kernel_model.specs.declared.call.Reply.TheVariants as reply
use Rattle.kernel_model.specs.KernelState.{KernelState}
use Rattle.kernel_model.specs.Cases.{MakesGroup, RemovesGroup, WritesCpus, WritesMems, Spawns, EndsGroup, Forks, Exits, GoesOffline, ComesOnline, read_of}

-- an answer as a reply
abbrev pub reply_of : {A : Type 0} → (A → Reply) → Result A (OrMemory KernelFault) → Result Reply (OrMemory KernelFault)
reply_of as_reply (Ok value) = Ok (as_reply value)
reply_of as_reply (Err error) = Err error

-- the same of an answer that is no allocation failure
abbrev pub reply_at_once : {A : Type 0} → (A → Reply) → Result A KernelFault → Result Reply (OrMemory KernelFault)
reply_at_once as_reply (Ok value) = Ok (as_reply value)
reply_at_once as_reply (Err fault) = Err (Fault fault)

-- the reply is that of an answer which the call may give
abbrev pub Replies : {A : Type 0} → (A → Reply) → (Result A (OrMemory KernelFault) → Type 0) → Result Reply (OrMemory KernelFault) → Type 0
Replies {A} as_reply Answers r = (answer : Result A (OrMemory KernelFault)) × (r ≡ reply_of as_reply answer) × Answers answer

abbrev pub RepliesAtOnce : {A : Type 0} → (A → Reply) → (Result A KernelFault → Type 0) → Result Reply (OrMemory KernelFault) → Type 0
RepliesAtOnce {A} as_reply Answers r = (answer : Result A KernelFault) × (r ≡ reply_at_once as_reply answer) × Answers answer

-- a call is its case
abbrev pub Step : KernelState → Call → Result Reply (OrMemory KernelFault) → KernelState → Type 0
Step old (MakeGroup parent name) r new = Replies reply.Group (λ a. MakesGroup old parent (string_bytes name) a new) r
Step old (RemoveGroup g) r new = RepliesAtOnce (λ _. reply.Done) (λ a. RemovesGroup old g a new) r
Step old (WriteCpus g cpus) r new = RepliesAtOnce (λ _. reply.Done) (λ a. WritesCpus old g cpus a new) r
Step old (WriteMems g mems) r new = RepliesAtOnce (λ _. reply.Done) (λ a. WritesMems old g mems a new) r
Step old (Spawn g) r new = Replies reply.Pid (λ a. Spawns old g a new) r
Step old (EndGroup g) r new = RepliesAtOnce (λ _. reply.Done) (λ a. EndsGroup old g a new) r
Step old Root r new = (g : Group) × (root_of old.tree ≡ Some g) × (r ≡ Ok (reply.Group g)) × (new ≡ old)
Step old (FindGroup parent name) r new =
    (r ≡ reply_at_once reply.Found (read_of old parent (child_of old.tree parent (string_bytes name)))) × (new ≡ old)
Step old (RequestedCpus g) r new = (r ≡ reply_at_once reply.Ids (read_of old g (requested_cpus old.tree g))) × (new ≡ old)
Step old (EffectiveCpus g) r new = (r ≡ reply_at_once reply.Ids (read_of old g (effective_cpus old.tree g))) × (new ≡ old)
Step old (RequestedMems g) r new = (r ≡ reply_at_once reply.Ids (read_of old g (requested_mems old.tree g))) × (new ≡ old)
Step old (EffectiveMems g) r new = (r ≡ reply_at_once reply.Ids (read_of old g (effective_mems old.tree g))) × (new ≡ old)
Step old Online r new = (r ≡ Ok (reply.Ids old.tree.online)) × (new ≡ old)
Step old Nodes r new = (r ≡ Ok (reply.Ids old.tree.nodes)) × (new ≡ old)
Step old (FirstAlive pid) r new = (r ≡ Ok (reply.Alive (is_alive old.table pid))) × (new ≡ old)
Step old (Fork parent) r new = Replies reply.Pid (λ a. Forks old parent a new) r
Step old (Exit pid) r new = RepliesAtOnce (λ _. reply.Done) (λ a. Exits old pid a new) r
Step old (Offline cpu) r new = RepliesAtOnce (λ _. reply.Done) (λ a. GoesOffline old cpu a new) r
Step old (OnlineCpu cpu) r new = RepliesAtOnce (λ _. reply.Done) (λ a. ComesOnline old cpu a new) r

-- the calls' cases in order, each in the state that the one before it left
abbrev pub Run : KernelState → List Call → List (Result Reply (OrMemory KernelFault)) → KernelState → Type 0
Run old [] [] new = new ≡ old
Run old [] (r ∷ replies) new = ⊥
Run old (call ∷ calls) [] new = ⊥
Run old (call ∷ calls) (r ∷ replies) new = (mid : KernelState) × Step old call r mid × Run mid calls replies new
