-- By how much the count of failures rises in each call.
use Rattle.std.proofs.Common.{◌≡◌, inl, inr, ℕ, ◌+◌, List, Option, Some, None, sym, ap, ◌∙◌, arith}
use Rattle.std.specs.Prelude.{Result, Ok, Err}
use Rattle.cpu_set.specs.Ids.{Ids}
use Rattle.cpuset_tree.specs.declared.Group.{Group}
use Rattle.cpuset_tree.specs.Groups.{child_of}
use Rattle.kernel_model.specs.declared.KernelFault.{KernelFault}
use Rattle.kernel_model.specs.declared.KernelFault.TheVariants.{NoPids}
use Rattle.kernel_model.specs.KernelState.{KernelState}
use Rattle.kernel_model.specs.Cases.{rise, rise_or_memory as kernel_rise}
use Rattle.kernel_model.specs.KernelLemmas.{writes_count}
use Rattle.faults.specs.declared.OrMemory.{OrMemory}
use Rattle.faults.specs.declared.OrMemory.TheVariants.{Memory, Fault}
use Rattle.node.specs.declared.fault.NodeFault.{NodeFault}
use Rattle.node.specs.declared.fault.NodeFault.TheVariants.{Busy, BadId, IdInUse, TooManyContainers, NoContainer, NotCreated, NotRunnable, BadSignal, NotLive, NotStopped, NoHandover, NoAnswer, NotFree, Config, Demand, Kernel}
use Rattle.node.specs.NodeState.{NodeState}
use Rattle.node.specs.Launch.{FindsOr, FindsOrMakes, AtOnce, WritesSets, StartsIn, Launches}
use Rattle.node.specs.Calls.{Places, Kills, Deletes}
use Rattle.node.specs.Leaves.{rise_of, rise_or_memory}

find_counts : (o : Option Group) (old : KernelState) (parent : Group) (name : List ℕ) (r : Result Group (OrMemory KernelFault)) (new : KernelState)
    → FindsOr o old parent name r new
    → new.failures ≡ old.failures + kernel_rise r
find_counts (Some g) old parent name r new f =
    let same : new.failures ≡ old.failures = ap (λ (k : KernelState). k.failures) f.1 in
    let none : kernel_rise r ≡ 0 = ap (λ (x : Result Group (OrMemory KernelFault)). kernel_rise x) f.0 in
    omega (arith, same, none)
find_counts None old parent name r new f = writes_count.make old new parent name r f

sets_count : (old : KernelState) (g : Group) (cpus mems : Ids) (r : Result (Unit {0}) KernelFault) (new : KernelState) → WritesSets old g cpus mems r new
    → new.failures ≡ old.failures + rise r
sets_count old g cpus mems r new s =
    elim s [
      | inl refused ↦ writes_count.cpus old new g cpus (Err refused.0) refused.1 ∙ ap (λ (x : Result (Unit {0}) KernelFault). old.failures + rise x) (sym refused.2)
      | inr done ↦
          let first : done.1.failures ≡ old.failures + 0 = writes_count.cpus old done.1 g cpus (Ok done.0) done.2 in
          let second : new.failures ≡ done.1.failures + rise r = writes_count.mems done.1 new g mems r done.3 in
          omega (arith, first, second)
    ]

at_once_counts : (old : KernelState) (g : Group) (cpus mems : Ids) (r : Result (Unit {0}) (OrMemory KernelFault)) (new : KernelState)
    → AtOnce (WritesSets old g cpus mems) r new
    → new.failures ≡ old.failures + kernel_rise r
at_once_counts old g cpus mems (Ok value) new s = sets_count old g cpus mems (Ok value) new s
at_once_counts old g cpus mems (Err Memory) new s = absurd s
at_once_counts old g cpus mems (Err (Fault fault)) new s = sets_count old g cpus mems (Err fault) new s

start_counts : (old : KernelState) (g : Group) (cpus mems : Ids) (r : Result ℕ (OrMemory KernelFault)) (new : KernelState) → StartsIn old g cpus mems r new
    → new.failures ≡ old.failures + kernel_rise r
start_counts old g cpus mems r new s =
    elim s [
      | inl refused ↦ error_count refused.0 refused.1 refused.2
      | inr done ↦
          let first : done.1.failures ≡ old.failures + 0 = at_once_counts old g cpus mems (Ok done.0) done.1 done.2 in
          let second : new.failures ≡ done.1.failures + kernel_rise r = writes_count.spawn done.1 new g r done.3 in
          omega (arith, first, second)
    ] where
      by : (e : OrMemory KernelFault) → AtOnce (WritesSets old g cpus mems) (Err e) new → new.failures ≡ old.failures + kernel_rise {A = ℕ} (Err e)
      by Memory f = absurd f
      by (Fault fault) f = at_once_counts old g cpus mems (Err (Fault fault)) new f

      error_count : (e : OrMemory KernelFault) → AtOnce (WritesSets old g cpus mems) (Err e) new → r ≡ Err e → new.failures ≡ old.failures + kernel_rise r
      error_count e f is = by e f ∙ ap (λ (x : Result ℕ (OrMemory KernelFault)). old.failures + kernel_rise x) (sym is)

-- what an error of a launch adds
launch_error : (old : KernelState) (parent : Group) (name : List ℕ) (cpus mems : Ids) (e : OrMemory KernelFault) (new : KernelState)
    → Launches old parent name cpus mems (Err e) new
    → new.failures ≡ old.failures + kernel_rise {A = ℕ} (Err e)
launch_error old parent name cpus mems e new l =
    elim l [
      | inl refused ↦ found e refused
      | inr made ↦
          let first : made.1.failures ≡ old.failures + 0 = find_counts (child_of old.tree parent name) old parent name (Ok made.0) made.1 made.2 in
          let second : new.failures ≡ made.1.failures + kernel_rise {A = ℕ} (Err e) = start_counts made.1 made.0 cpus mems (Err e) new made.3 in
          omega (arith, first, second)
    ] where
      found : (e : OrMemory KernelFault) → FindsOrMakes old parent name (Err e) new → new.failures ≡ old.failures + kernel_rise {A = ℕ} (Err e)
      found Memory f = find_counts (child_of old.tree parent name) old parent name (Err Memory) new f
      found (Fault fault) f = find_counts (child_of old.tree parent name) old parent name (Err (Fault fault)) new f

launch_done : (old : KernelState) (parent : Group) (name : List ℕ) (cpus mems : Ids) (made : Group × ℕ) (new : KernelState) → Launches old parent name cpus mems (Ok made) new
    → new.failures ≡ old.failures + 0
launch_done old parent name cpus mems made new l =
    let first : l.0.failures ≡ old.failures + 0 = find_counts (child_of old.tree parent name) old parent name (Ok made.0) l.0 l.1 in
    let second : new.failures ≡ l.0.failures + 0 = start_counts l.0 made.0 cpus mems (Ok made.1) new l.2 in
    omega (arith, first, second)

pub kept_count : (old new : NodeState) → new ≡ old → new.kernel.failures ≡ old.kernel.failures + 0
kept_count old new same = let e : new.kernel.failures ≡ old.kernel.failures = ap (λ (n : NodeState). n.kernel.failures) same in omega (arith, e)

-- `create` and `adopt`
pub place_counts : (cpus : Ids) (old : NodeState) (id bundle config : List ℕ) (r : Result ℕ (OrMemory NodeFault)) (new : NodeState) → Places cpus old id bundle config r new
    → new.kernel.failures ≡ old.kernel.failures + rise_or_memory r
place_counts cpus old id bundle config (Ok pid) new h = launch_done old.kernel old.parent id cpus h.asked.homes (h.group, pid) new.kernel h.launched
place_counts cpus old id bundle config (Err Memory) new h =
    elim h [ inl late ↦ launch_error old.kernel old.parent id cpus late.asked.homes Memory new.kernel late.refused | inr early ↦ kept_count old new early.2 ]
place_counts cpus old id bundle config (Err (Fault (Kernel NoPids))) new h = kept_count old new h.is
place_counts cpus old id bundle config (Err (Fault (Kernel fault))) new h =
    launch_error old.kernel old.parent id cpus h.asked.homes (Fault fault) new.kernel h.refused
place_counts cpus old id bundle config (Err (Fault Busy)) new h = kept_count old new h.1
place_counts cpus old id bundle config (Err (Fault BadId)) new h = kept_count old new h.1
place_counts cpus old id bundle config (Err (Fault IdInUse)) new h = kept_count old new h.1
place_counts cpus old id bundle config (Err (Fault TooManyContainers)) new h = kept_count old new h.1
place_counts cpus old id bundle config (Err (Fault NoContainer)) new h = kept_count old new h.1
place_counts cpus old id bundle config (Err (Fault NotCreated)) new h = kept_count old new h.1
place_counts cpus old id bundle config (Err (Fault NotRunnable)) new h = kept_count old new h.1
place_counts cpus old id bundle config (Err (Fault BadSignal)) new h = kept_count old new h.1
place_counts cpus old id bundle config (Err (Fault NotLive)) new h = kept_count old new h.1
place_counts cpus old id bundle config (Err (Fault NotStopped)) new h = kept_count old new h.1
place_counts cpus old id bundle config (Err (Fault NoHandover)) new h = kept_count old new h.1
place_counts cpus old id bundle config (Err (Fault NoAnswer)) new h = kept_count old new h.1
place_counts cpus old id bundle config (Err (Fault (NotFree cpu))) new h = kept_count old new h.1
place_counts cpus old id bundle config (Err (Fault (Config fault))) new h = kept_count old new h.1
place_counts cpus old id bundle config (Err (Fault (Demand fault))) new h = kept_count old new h.1

-- `kill`
pub kill_counts : (old : NodeState) (id signal : List ℕ) (r : Result (Unit {0}) NodeFault) (new : NodeState) → Kills old id signal r new
    → new.kernel.failures ≡ old.kernel.failures + rise_of r
kill_counts old id signal (Ok v) new h = writes_count.end old.kernel new.kernel h.container.group (Ok tt) h.ended
kill_counts old id signal (Err (Kernel fault)) new h = writes_count.end old.kernel new.kernel h.1.container.group (Err fault) h.1.ended
kill_counts old id signal (Err Busy) new h = kept_count old new h.1
kill_counts old id signal (Err BadId) new h = kept_count old new h.1
kill_counts old id signal (Err IdInUse) new h = kept_count old new h.1
kill_counts old id signal (Err TooManyContainers) new h = kept_count old new h.1
kill_counts old id signal (Err NoContainer) new h = kept_count old new h.1
kill_counts old id signal (Err NotCreated) new h = kept_count old new h.1
kill_counts old id signal (Err NotRunnable) new h = kept_count old new h.1
kill_counts old id signal (Err BadSignal) new h = kept_count old new h.1
kill_counts old id signal (Err NotLive) new h = kept_count old new h.1
kill_counts old id signal (Err NotStopped) new h = kept_count old new h.1
kill_counts old id signal (Err NoHandover) new h = kept_count old new h.1
kill_counts old id signal (Err NoAnswer) new h = kept_count old new h.1
kill_counts old id signal (Err (NotFree cpu)) new h = kept_count old new h.1
kill_counts old id signal (Err (Config fault)) new h = kept_count old new h.1
kill_counts old id signal (Err (Demand fault)) new h = kept_count old new h.1

-- `delete`
pub delete_counts : (old : NodeState) (id : List ℕ) (r : Result (Unit {0}) NodeFault) (new : NodeState) → Deletes old id r new
    → new.kernel.failures ≡ old.kernel.failures + rise_of r
delete_counts old id (Ok v) new h = writes_count.remove old.kernel new.kernel h.container.group (Ok tt) h.removed
delete_counts old id (Err (Kernel fault)) new h = writes_count.remove old.kernel new.kernel h.1.container.group (Err fault) h.1.removed
delete_counts old id (Err Busy) new h = kept_count old new h.1
delete_counts old id (Err BadId) new h = kept_count old new h.1
delete_counts old id (Err IdInUse) new h = kept_count old new h.1
delete_counts old id (Err TooManyContainers) new h = kept_count old new h.1
delete_counts old id (Err NoContainer) new h = kept_count old new h.1
delete_counts old id (Err NotCreated) new h = kept_count old new h.1
delete_counts old id (Err NotRunnable) new h = kept_count old new h.1
delete_counts old id (Err BadSignal) new h = kept_count old new h.1
delete_counts old id (Err NotLive) new h = kept_count old new h.1
delete_counts old id (Err NotStopped) new h = kept_count old new h.1
delete_counts old id (Err NoHandover) new h = kept_count old new h.1
delete_counts old id (Err NoAnswer) new h = kept_count old new h.1
delete_counts old id (Err (NotFree cpu)) new h = kept_count old new h.1
delete_counts old id (Err (Config fault)) new h = kept_count old new h.1
delete_counts old id (Err (Demand fault)) new h = kept_count old new h.1
