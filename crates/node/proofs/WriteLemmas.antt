-- How many writing calls of the kernel each call makes.
use Rattle.std.proofs.Common.{◌≡◌, inl, inr, ℕ, ◌+◌, ◌≤◌, cond, List, Option, Some, None, ap, arith}
use Rattle.std.specs.Prelude.{Result, Ok, Err, is_some}
use Rattle.cpu_set.specs.Ids.{Ids}
use Rattle.cpuset_tree.specs.declared.Group.{Group}
use Rattle.cpuset_tree.specs.Groups.{child_of}
use Rattle.kernel_model.specs.declared.KernelFault.{KernelFault}
use Rattle.kernel_model.specs.declared.KernelFault.TheVariants.{NoPids}
use Rattle.kernel_model.specs.KernelState.{KernelState, writes}
use Rattle.kernel_model.specs.KernelLemmas.{counts_each_write}
use Rattle.faults.specs.declared.OrMemory.{OrMemory}
use Rattle.faults.specs.declared.OrMemory.TheVariants.{Memory, Fault}
use Rattle.node.specs.declared.fault.NodeFault.{NodeFault}
use Rattle.node.specs.declared.fault.NodeFault.TheVariants.{Busy, BadId, IdInUse, TooManyContainers, NoContainer, NotCreated, NotRunnable, BadSignal, NotLive, NotStopped, NoHandover, NoAnswer, NotFree, Config, Demand, Kernel}
use Rattle.node.specs.NodeState.{NodeState}
use Rattle.node.specs.Launch.{FindsOr, AtOnce, WritesSets, StartsIn, Launches}
use Rattle.node.specs.Calls.{Places, Kills, Deletes}
use Rattle.node.specs.Written.{one_write, launch_writes, CreateWrites}

-- a group that is not there is made by one write, whatever it answers
pub find_makes : (o : Option Group) (old : KernelState) (parent : Group) (name : List ℕ) (r : Result Group (OrMemory KernelFault)) (new : KernelState) → FindsOr o old parent name r new
    → writes new ≡ writes old + cond (is_some o) 0 1
find_makes (Some g) old parent name r new f = let same : writes new ≡ writes old = ap (λ (k : KernelState). writes k) f.1 in omega (arith, same)
find_makes None old parent name r new f = counts_each_write.make old new parent name r f

sets_make : (old : KernelState) (g : Group) (cpus mems : Ids) (r : Result (Unit {0}) KernelFault) (new : KernelState) → WritesSets old g cpus mems r new → writes new ≤ writes old + 2
sets_make old g cpus mems r new s =
    elim s [
      | inl refused ↦ let one : writes new ≡ writes old + 1 = counts_each_write.cpus old new g cpus (Err refused.0) refused.1 in omega (arith, one)
      | inr done ↦
          let first : writes done.1 ≡ writes old + 1 = counts_each_write.cpus old done.1 g cpus (Ok done.0) done.2 in
          let second : writes new ≡ writes done.1 + 1 = counts_each_write.mems done.1 new g mems r done.3 in
          omega (arith, first, second)
    ]

sets_made : (old : KernelState) (g : Group) (cpus mems : Ids) (v : Unit {0}) (new : KernelState) → WritesSets old g cpus mems (Ok v) new → writes new ≡ writes old + 2
sets_made old g cpus mems v new s =
    elim s [
      | inl refused ↦ absurd (let x : ⊥ = cc refused.2 in x)
      | inr done ↦
          let first : writes done.1 ≡ writes old + 1 = counts_each_write.cpus old done.1 g cpus (Ok done.0) done.2 in
          let second : writes new ≡ writes done.1 + 1 = counts_each_write.mems done.1 new g mems (Ok v) done.3 in
          omega (arith, first, second)
    ]

-- the writes of a start in a group
start_makes : (old : KernelState) (g : Group) (cpus mems : Ids) (r : Result ℕ (OrMemory KernelFault)) (new : KernelState) → StartsIn old g cpus mems r new → writes new ≤ writes old + 3
start_makes old g cpus mems r new s =
    elim s [
      | inl refused ↦ by refused.0 refused.1
      | inr done ↦
          let first : writes done.1 ≡ writes old + 2 = sets_made old g cpus mems done.0 done.1 done.2 in
          let second : writes new ≡ writes done.1 + 1 = counts_each_write.spawn done.1 new g r done.3 in
          omega (arith, first, second)
    ] where
      by : (e : OrMemory KernelFault) → AtOnce (WritesSets old g cpus mems) (Err e) new → writes new ≤ writes old + 3
      by Memory f = absurd f
      by (Fault fault) f = let two : writes new ≤ writes old + 2 = sets_make old g cpus mems (Err fault) new f in omega (arith, two)

start_made : (old : KernelState) (g : Group) (cpus mems : Ids) (pid : ℕ) (new : KernelState) → StartsIn old g cpus mems (Ok pid) new → writes new ≡ writes old + 3
start_made old g cpus mems pid new s =
    elim s [
      | inl refused ↦ absurd (let x : ⊥ = cc refused.2 in x)
      | inr done ↦
          let first : writes done.1 ≡ writes old + 2 = sets_made old g cpus mems done.0 done.1 done.2 in
          let second : writes new ≡ writes done.1 + 1 = counts_each_write.spawn done.1 new g (Ok pid) done.3 in
          omega (arith, first, second)
    ]

launch_makes : (old : KernelState) (parent : Group) (name : List ℕ) (cpus mems : Ids) (e : OrMemory KernelFault) (new : KernelState) → Launches old parent name cpus mems (Err e) new
    → writes new ≤ writes old + launch_writes old parent name
launch_makes old parent name cpus mems e new l =
    elim l [
      | inl refused ↦
          let one : writes new ≡ writes old + cond (is_some (child_of old.tree parent name)) 0 1 = find_makes (child_of old.tree parent name) old parent name (Err e) new refused in
          omega (arith, one)
      | inr made ↦
          let first : writes made.1 ≡ writes old + cond (is_some (child_of old.tree parent name)) 0 1 = find_makes (child_of old.tree parent name) old parent name (Ok made.0) made.1 made.2 in
          let later : writes new ≤ writes made.1 + 3 = start_makes made.1 made.0 cpus mems (Err e) new made.3 in
          omega (arith, first, later)
    ]

launch_made : (old : KernelState) (parent : Group) (name : List ℕ) (cpus mems : Ids) (made : Group × ℕ) (new : KernelState) → Launches old parent name cpus mems (Ok made) new
    → writes new ≡ writes old + launch_writes old parent name
launch_made old parent name cpus mems made new l =
    let first : writes l.0 ≡ writes old + cond (is_some (child_of old.tree parent name)) 0 1 = find_makes (child_of old.tree parent name) old parent name (Ok made.0) l.0 l.1 in
    let later : writes new ≡ writes l.0 + 3 = start_made l.0 made.0 cpus mems made.1 new l.2 in
    omega (arith, first, later)

kept_writes : (old new : NodeState) → new ≡ old → writes new.kernel ≡ writes old.kernel + 0
kept_writes old new same = let e : writes new.kernel ≡ writes old.kernel = ap (λ (n : NodeState). writes n.kernel) same in omega (arith, e)

few_writes : (old new : NodeState) (n : ℕ) → new ≡ old → writes new.kernel ≤ writes old.kernel + n
few_writes old new n same = let e : writes new.kernel ≡ writes old.kernel = ap (λ (m : NodeState). writes m.kernel) same in omega (arith, e)

-- `create` and `adopt`
pub place_makes : (cpus : Ids) (old : NodeState) (id bundle config : List ℕ) (r : Result ℕ (OrMemory NodeFault)) (new : NodeState) → Places cpus old id bundle config r new → CreateWrites old id r new
place_makes cpus old id bundle config (Ok pid) new h = launch_made old.kernel old.parent id cpus h.asked.homes (h.group, pid) new.kernel h.launched
place_makes cpus old id bundle config (Err Memory) new h =
    elim h [
      | inl late ↦ launch_makes old.kernel old.parent id cpus late.asked.homes Memory new.kernel late.refused
      | inr early ↦ few_writes old new (launch_writes old.kernel old.parent id) early.2
    ]
place_makes cpus old id bundle config (Err (Fault (Kernel NoPids))) new h = few_writes old new (launch_writes old.kernel old.parent id) h.is
place_makes cpus old id bundle config (Err (Fault (Kernel fault))) new h =
    launch_makes old.kernel old.parent id cpus h.asked.homes (Fault fault) new.kernel h.refused
place_makes cpus old id bundle config (Err (Fault Busy)) new h = few_writes old new (launch_writes old.kernel old.parent id) h.1
place_makes cpus old id bundle config (Err (Fault BadId)) new h = few_writes old new (launch_writes old.kernel old.parent id) h.1
place_makes cpus old id bundle config (Err (Fault IdInUse)) new h = few_writes old new (launch_writes old.kernel old.parent id) h.1
place_makes cpus old id bundle config (Err (Fault TooManyContainers)) new h = few_writes old new (launch_writes old.kernel old.parent id) h.1
place_makes cpus old id bundle config (Err (Fault NoContainer)) new h = few_writes old new (launch_writes old.kernel old.parent id) h.1
place_makes cpus old id bundle config (Err (Fault NotCreated)) new h = few_writes old new (launch_writes old.kernel old.parent id) h.1
place_makes cpus old id bundle config (Err (Fault NotRunnable)) new h = few_writes old new (launch_writes old.kernel old.parent id) h.1
place_makes cpus old id bundle config (Err (Fault BadSignal)) new h = few_writes old new (launch_writes old.kernel old.parent id) h.1
place_makes cpus old id bundle config (Err (Fault NotLive)) new h = few_writes old new (launch_writes old.kernel old.parent id) h.1
place_makes cpus old id bundle config (Err (Fault NotStopped)) new h = few_writes old new (launch_writes old.kernel old.parent id) h.1
place_makes cpus old id bundle config (Err (Fault NoHandover)) new h = few_writes old new (launch_writes old.kernel old.parent id) h.1
place_makes cpus old id bundle config (Err (Fault NoAnswer)) new h = few_writes old new (launch_writes old.kernel old.parent id) h.1
place_makes cpus old id bundle config (Err (Fault (NotFree cpu))) new h = few_writes old new (launch_writes old.kernel old.parent id) h.1
place_makes cpus old id bundle config (Err (Fault (Config fault))) new h = few_writes old new (launch_writes old.kernel old.parent id) h.1
place_makes cpus old id bundle config (Err (Fault (Demand fault))) new h = few_writes old new (launch_writes old.kernel old.parent id) h.1

-- `kill`
pub kill_makes : (old : NodeState) (id signal : List ℕ) (r : Result (Unit {0}) NodeFault) (new : NodeState) → Kills old id signal r new
    → writes new.kernel ≡ writes old.kernel + one_write r
kill_makes old id signal (Ok v) new h = counts_each_write.end old.kernel new.kernel h.container.group (Ok tt) h.ended
kill_makes old id signal (Err (Kernel fault)) new h = counts_each_write.end old.kernel new.kernel h.1.container.group (Err fault) h.1.ended
kill_makes old id signal (Err Busy) new h = kept_writes old new h.1
kill_makes old id signal (Err BadId) new h = kept_writes old new h.1
kill_makes old id signal (Err IdInUse) new h = kept_writes old new h.1
kill_makes old id signal (Err TooManyContainers) new h = kept_writes old new h.1
kill_makes old id signal (Err NoContainer) new h = kept_writes old new h.1
kill_makes old id signal (Err NotCreated) new h = kept_writes old new h.1
kill_makes old id signal (Err NotRunnable) new h = kept_writes old new h.1
kill_makes old id signal (Err BadSignal) new h = kept_writes old new h.1
kill_makes old id signal (Err NotLive) new h = kept_writes old new h.1
kill_makes old id signal (Err NotStopped) new h = kept_writes old new h.1
kill_makes old id signal (Err NoHandover) new h = kept_writes old new h.1
kill_makes old id signal (Err NoAnswer) new h = kept_writes old new h.1
kill_makes old id signal (Err (NotFree cpu)) new h = kept_writes old new h.1
kill_makes old id signal (Err (Config fault)) new h = kept_writes old new h.1
kill_makes old id signal (Err (Demand fault)) new h = kept_writes old new h.1

-- `delete`
pub delete_makes : (old : NodeState) (id : List ℕ) (r : Result (Unit {0}) NodeFault) (new : NodeState) → Deletes old id r new
    → writes new.kernel ≡ writes old.kernel + one_write r
delete_makes old id (Ok v) new h = counts_each_write.remove old.kernel new.kernel h.container.group (Ok tt) h.removed
delete_makes old id (Err (Kernel fault)) new h = counts_each_write.remove old.kernel new.kernel h.1.container.group (Err fault) h.1.removed
delete_makes old id (Err Busy) new h = kept_writes old new h.1
delete_makes old id (Err BadId) new h = kept_writes old new h.1
delete_makes old id (Err IdInUse) new h = kept_writes old new h.1
delete_makes old id (Err TooManyContainers) new h = kept_writes old new h.1
delete_makes old id (Err NoContainer) new h = kept_writes old new h.1
delete_makes old id (Err NotCreated) new h = kept_writes old new h.1
delete_makes old id (Err NotRunnable) new h = kept_writes old new h.1
delete_makes old id (Err BadSignal) new h = kept_writes old new h.1
delete_makes old id (Err NotLive) new h = kept_writes old new h.1
delete_makes old id (Err NotStopped) new h = kept_writes old new h.1
delete_makes old id (Err NoHandover) new h = kept_writes old new h.1
delete_makes old id (Err NoAnswer) new h = kept_writes old new h.1
delete_makes old id (Err (NotFree cpu)) new h = kept_writes old new h.1
delete_makes old id (Err (Config fault)) new h = kept_writes old new h.1
delete_makes old id (Err (Demand fault)) new h = kept_writes old new h.1
