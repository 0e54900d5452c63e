-- What the container of a config has once a plan is in effect.
use Rattle.std.specs.Prelude.{◌≡◌, ℕ, Bool, true, false, List, [], Ok}
use Rattle.std.specs.List.{AllByRecursion}
use Rattle.std.specs.FinSet as set
use Rattle.cpu_set.specs.Ids.{Ids, is_empty}
use Rattle.kernel_model.specs.KernelState.{KernelState}
use Rattle.machine.specs.Cores.{IsWhole}
use Rattle.machine.specs.Layout.{Layout}
use Rattle.config_json.specs.declared.Config.{Config as Said}
use Rattle.config_json.specs.SectionOf.{Section}
use Rattle.config_json.specs.ConfigOf.{config_of}
use Rattle.demand.specs.declared.Kind.TheVariants.{Pinned}
use Rattle.demand.specs.Quota.{limit_of, period_of}
use Rattle.demand.specs.Allowed.{allowed_of}
use Rattle.demand.specs.DemandFaultOf.{is_pinned}
use Rattle.demand.specs.IsDemand.{IsKind}
use Rattle.node.specs.declared.order.Order.{Order}
use Rattle.node.specs.declared.outcome.Outcome.TheVariants.{Plan}
use Rattle.node.specs.NodeState.{ContainerState, NodeState}
use Rattle.node.specs.Status.{is_live}
use Rattle.node.specs.IsNode.{IsNode}
use Rattle.node.specs.Rebalance.{Rebalances}
use Rattle.node.specs.Headline.{effective}
use Rattle.node.specs.Machine.{Event, Run}
use Rattle.node.specs.Said.{IsAskedIn}

-- these CPUs are as many as the CPU section of a config asks for, of whole cores, all allowed by it and online. If it asks
-- for none of its own they are the pool, which is not empty.
abbrev pub AreAsked : Layout → KernelState → Ids → Section → Ids → Bool → Type 0
AreAsked m k pool s cpus true =
    IsKind m.threads (limit_of s.quota) (period_of s.period) (allowed_of m s) s (Pinned (set.len cpus)) × IsWhole m cpus
    × ((cpu : ℕ) → set.contains cpus cpu ≡ true → (set.contains (allowed_of m s) cpu ≡ true) × (set.contains k.tree.online cpu ≡ true))
AreAsked m k pool s cpus false = (cpus ≡ pool) × (is_empty pool ≡ false)

-- while the container lives it has in effect what the config asks for that was read for it last
pub record HasAsked (events : List Event) (m : Layout) (k : KernelState) (pool : Ids) (e : List ℕ × ContainerState) : Type 0 where
  pub config : List ℕ
  pub said : Said
  pub asked : IsAskedIn events e config
  pub said_so : config_of config ≡ Ok said
  pub has : is_live k e.1 ≡ true → AreAsked m k pool said.cpu (effective k e) (is_pinned said.cpu)

-- each container has what it asked for once a rebalance answered a plan, after any list of calls and events from none on
abbrev pub RunsServeConfigs : Type 0
RunsServeConfigs =
    (first : NodeState) (events : List Event) (order : Order) (old : NodeState) (total : ℕ) (new : NodeState) → IsNode first → first.containers ≡ [] → Run first events old
    → Rebalances order old (Ok (Plan total)) new → AllByRecursion (HasAsked events new.machine new.kernel new.pool) new.containers
