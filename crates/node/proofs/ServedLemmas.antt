-- What a container has in effect is what its config asks for.
use Rattle.std.proofs.Common.{◌≡◌, ℕ, Bool, true, false, not, ◌||◌, List, Option, Some, None, refl, sym, ap, ◌∙◌, subst}
use Rattle.std.specs.Prelude.{is_some, if◌then◌else◌, Ok}
use Rattle.std.specs.FinSet as set
use Rattle.std.specs.List.{AllByRecursion}
use Rattle.cpu_set.specs.Ids.{Ids, is_empty}
use Rattle.kernel_model.specs.KernelState.{KernelState}
use Rattle.machine.specs.Layout.{Layout}
use Rattle.config_json.specs.SectionOf.{Section}
use Rattle.rows.specs.Scaled.{ScaledRowsWeigh}
use Rattle.rows.specs.Weighs.{RowsWeigh}
use Rattle.node.proofs.OrderLemmas.{OrdersLeave}
use Rattle.apply_plan.specs.Effects.{TargetsTakeEffect}
use Rattle.demand.specs.declared.Kind.{Kind}
use Rattle.demand.specs.declared.Kind.TheVariants.{Pinned, Shared}
use Rattle.demand.specs.declared.Demand.{Demand}
use Rattle.demand.specs.Quota.{limit_of, period_of}
use Rattle.demand.specs.Named.{named}
use Rattle.demand.specs.Allowed.{allowed_of}
use Rattle.demand.specs.DemandFaultOf.{is_pinned}
use Rattle.demand.specs.IsDemand.{IsKind, IsDemand}
use Rattle.node.specs.declared.outcome.Outcome.TheVariants.{Plan}
use Rattle.node.specs.NodeState.{ContainerState}
use Rattle.node.specs.Headline.{effective, HasItsCpus, IsServed, IsRebalanced}
use Rattle.node.specs.Machine.{Event}
use Rattle.node.specs.Said.{IsSaid}
use Rattle.node.specs.Served.{AreAsked, HasAsked, RunsServeConfigs}
use Rattle.node.proofs.ListLemmas.{all_map2}
use Rattle.node.proofs.MachineLemmas.{runs_rebalance}
use Rattle.node.proofs.SaidLemmas.{rebalance_keeps, containers_are_said}

-- what a section asks for tells whether that is CPUs of its own
pinned_by : (threads : ℕ) (limit : Option ℕ) (period : ℕ) (allowed : Ids) (s : Section) (count : ℕ) → limit_of s.quota ≡ limit → IsKind threads limit period allowed s (Pinned count)
    → is_pinned s ≡ true
pinned_by threads (Some limit) period allowed s count is kind = ap (λ (o : Option ℕ). is_some o || not (is_empty (named s.cpus))) is
pinned_by threads None period allowed s count is kind = kind.0

shared_by : (threads : ℕ) (limit : Option ℕ) (period : ℕ) (allowed : Ids) (s : Section) → IsKind threads limit period allowed s Shared → is_pinned s ≡ false
shared_by threads (Some limit) period allowed s kind = absurd kind
shared_by threads None period allowed s kind = kind

module _ (m : Layout) (k : KernelState) (pool : Ids) (s : Section) (d : Demand) (asked : IsDemand m s d) (cpus : Ids) where
  abbrev Kinds : Kind → Type 0
  Kinds = IsKind m.threads (limit_of s.quota) (period_of s.period) (allowed_of m s) s

  are_asked : (kind : Kind) → d.kind ≡ kind → HasItsCpus k m pool d kind cpus → AreAsked m k pool s cpus (is_pinned s)
  are_asked (Pinned count) is has =
      let kind : Kinds (Pinned count) = subst Kinds is asked.kind in
      let pinned : is_pinned s ≡ true = pinned_by m.threads (limit_of s.quota) (period_of s.period) (allowed_of m s) s count refl kind in
      let allowed : d.allowed ≡ allowed_of m s = asked.allowed ∙ ap (λ (b : Bool). if b then allowed_of m s else set.empty) pinned in
      subst (AreAsked m k pool s cpus) (sym pinned) (
        subst (λ (n : ℕ). Kinds (Pinned n)) (sym has.size) kind,
        has.whole,
        λ cpu there. (ap (λ (x : Ids). set.contains x cpu) (sym allowed) ∙ (has.each cpu there).0, (has.each cpu there).1),
      )
  are_asked Shared is has =
      let kind : Kinds Shared = subst Kinds is asked.kind in
      subst (AreAsked m k pool s cpus) (sym (shared_by m.threads (limit_of s.quota) (period_of s.period) (allowed_of m s) s kind)) has

has_asked : (events : List Event) (m : Layout) (k : KernelState) (pool : Ids) (e : List ℕ × ContainerState) → IsSaid events m e → IsServed k m pool e
    → HasAsked events m k pool e
has_asked events m k pool e said served = record {
  config = said.config;
  said = said.said;
  asked = said.asked;
  said_so = said.says.said_so;
  has = λ live. are_asked m k pool said.said.cpu e.1.demand said.says.asked_so (effective k e) e.1.demand.kind refl (served live);
}

pub runs_serve_configs : RowsWeigh → OrdersLeave → TargetsTakeEffect → ScaledRowsWeigh → RunsServeConfigs
runs_serve_configs weigh law effects parts first events order old total new node none run rebalances =
    let headline : IsRebalanced old total new = (runs_rebalance law effects weigh parts first events order old (Ok (Plan total)) new node run rebalances).headline in
    let said : AllByRecursion (IsSaid events new.machine) new.containers =
    rebalance_keeps (λ m xs. AllByRecursion (IsSaid events m) xs) order old new (Ok (Plan total)) rebalances (containers_are_said first events old none run) in
    all_map2 (IsSaid events new.machine) (IsServed new.kernel new.machine new.pool) (HasAsked events new.machine new.kernel new.pool)
    (has_asked events new.machine new.kernel new.pool) new.containers said headline.served
