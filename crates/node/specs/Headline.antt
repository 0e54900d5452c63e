-- What a rebalance leaves, in the subject's own words.
use Rattle.std.specs.Prelude.{◌≡◌, ◌<◌, ℕ, Bool, true, false, not, ◌&&◌, ◌||◌, cond, List, [], ◌∷◌, Result, Ok, Err, All, filter_map, length, slice_get}
use Rattle.std.specs.List.{AllByRecursion, list_any, sum_by}
use Rattle.std.specs.List.Sorted.{IsStrictlyIncreasing}
use Rattle.std.specs.FinSet as set
use Rattle.cpu_set.specs.Ids.{Ids, IsDisjoint, is_empty}
use Rattle.cpuset_tree.specs.Effective.{effective_cpus}
use Rattle.kernel_model.specs.KernelState.{KernelState}
use Rattle.machine.specs.Cores.{whole_in}
use Rattle.machine.specs.Layout.{Layout}
use Rattle.kernel_model.specs.declared.KernelFault.TheVariants.{Failed}
use Rattle.faults.specs.declared.OrMemory.{OrMemory}
use Rattle.faults.specs.declared.OrMemory.TheVariants.{Memory, Fault}
use Rattle.apply_plan.specs.Holders.{Pairwise}
use Rattle.demand.specs.declared.Kind.{Kind}
use Rattle.demand.specs.declared.Kind.TheVariants.{Pinned, Shared}
use Rattle.demand.specs.declared.Demand.{Demand}
use Rattle.node.specs.declared.fault.NodeFault.{NodeFault}
use Rattle.node.specs.declared.fault.NodeFault.TheVariants.{Busy, Kernel}
use Rattle.node.specs.declared.outcome.Outcome.{Outcome}
use Rattle.node.specs.declared.outcome.Outcome.TheVariants.{Plan, Short}
use Rattle.node.specs.NodeState.{ContainerState, NodeState, is_underway}
use Rattle.node.specs.Owners.{is_pinned}
use Rattle.node.specs.Status.{is_live}
use Rattle.rows.specs.RowOf.{available}
use Rattle.node.specs.Best.{AreOwn, asking, wanted_by, CouldHave, is_asking, IsBest}
use Rattle.certificate.specs.PlanFault.{is_held}

-- the CPUs that a container has in effect
abbrev pub effective : KernelState → List ℕ × ContainerState → Ids
effective k e = effective_cpus k.tree e.1.group

-- as many as it asks for, of each core all or none; a shared one has the pool, which is not empty
abbrev pub HasItsCpus : KernelState → Layout → Ids → Demand → Kind → Ids → Type 0
HasItsCpus k m pool d (Pinned count) cpus = AreOwn k m d count cpus
HasItsCpus k m pool d Shared cpus = (cpus ≡ pool) × (is_empty pool ≡ false)

-- so has each live container in effect
abbrev pub IsServed : KernelState → Layout → Ids → List ℕ × ContainerState → Type 0
IsServed k m pool e = is_live k e.1 ≡ true → HasItsCpus k m pool e.1.demand e.1.demand.kind (effective k e)

-- none shared: no CPU is in effect for two live containers of which one is pinned
abbrev pub AreAlone : KernelState → List ℕ × ContainerState → List ℕ × ContainerState → Type 0
AreAlone k a b =
    is_live k a.1 ≡ true → is_live k b.1 ≡ true → (is_pinned a.1.demand.kind || is_pinned b.1.demand.kind) ≡ true
    → IsDisjoint (effective k a) (effective k b)

-- what the live pinned containers have in effect, in the order in which they were created
abbrev pub effective_sets : KernelState → List (List ℕ × ContainerState) → List Ids
effective_sets k [] = []
effective_sets k (e ∷ later) = cond (is_asking k e) (effective k e ∷ effective_sets k later) (effective_sets k later)

-- after a plan of this total. Each live pinned container has exactly the CPUs that it asked for, all allowed and none shared,
-- of each core all or none; a shared one has the pool. What they have is the best that they could have, at this distance to the home
-- nodes. The pool is the online CPUs that are in none of these sets. The same containers live as before.
pub record IsRebalanced (old : NodeState) (total : ℕ) (new : NodeState) : Type 0 where
  pub served : AllByRecursion (IsServed new.kernel new.machine new.pool) new.containers
  pub alone : Pairwise (AreAlone new.kernel) new.containers
  pub best : IsBest old total (effective_sets new.kernel new.containers)
  pub pool : (cpu : ℕ) → set.contains new.pool cpu ≡ (set.contains new.kernel.tree.online cpu && not (is_held (effective_sets new.kernel new.containers) cpu))
  pub same : new.containers ≡ old.containers
  pub lives : new.kernel.table ≡ old.kernel.table

-- whether a container may have this CPU: it is allowed all CPUs of its core, and they are online
abbrev pub is_allowed : KernelState → Layout → ℕ → List ℕ × ContainerState → Bool
is_allowed k m cpu e = set.contains (whole_in m (available k.tree.online e.1.demand)) cpu

-- some live pinned containers, each named once by its place among them, ask together for more CPUs than they may have
pub record AreShort (old : NodeState) (members : List ℕ) (wanted : ℕ) (allowed : Ids) : Type 0 where
  pub rising : IsStrictlyIncreasing members
  pub there : All (λ k. k < length (asking old)) members
  pub asks : wanted ≡ sum_by (λ e. wanted_by e.1.demand.kind) (filter_map (slice_get (asking old)) members)
  pub has : (cpu : ℕ) → set.contains allowed cpu ≡ list_any (is_allowed old.kernel old.machine cpu) (filter_map (slice_get (asking old)) members)
  pub more : set.len allowed < wanted

-- after a shortage: some are short, so that no sets of whole cores would do for the live pinned containers; all is as before
-- but for what was worked out last
pub record IsShort (old : NodeState) (wanted : ℕ) (allowed : Ids) (new : NodeState) : Type 0 where
  pub members : List ℕ
  pub short : AreShort old members wanted allowed
  pub could_not : (sets : List Ids) → CouldHave old sets → ⊥
  pub same : new ≡ record old { last = new.last }

-- what stands after a rebalance, by its answer. Each refusal has its cause. It changes nothing, unless a write of the kernel
-- failed.
abbrev pub Headline : NodeState → Result Outcome (OrMemory NodeFault) → NodeState → Type 0
Headline old (Ok (Plan total)) new = IsRebalanced old total new
Headline old (Ok (Short wanted allowed)) new = IsShort old wanted allowed new
Headline old (Err (Fault (Kernel fault))) new = fault ≡ Failed
Headline old (Err (Fault Busy)) new = (is_underway old.phase ≡ true) × (new ≡ old)
Headline old (Err (Fault fault)) new = ⊥
Headline old (Err Memory) new = new ≡ old
