use Rattle.std.proofs.Common.{◌≡◌, List, ap, sym, subst, ◌∙◌}
use Rattle.std.specs.Prelude.{IfOk}
use Rattle.cpu_set.specs.Ids.{Ids}
use Rattle.rows.specs.LimitLemmas.{rows_weigh}
use Rattle.node.specs.NodeState.{NodeState}
use Rattle.node.specs.Entries.{plan_pool, opened}
use Rattle.node.specs.Kept.{AreKept}
use Rattle.node.specs.Rows.{as_cpus, rows_of}
use Rattle.node.specs.Viewed.{seen_ongoing}
use Rattle.node.proofs.OpeningLemmas.{opening_could, plan_in_range}
use Rattle.node.proofs.node.Node.opening.Goals as goal

pub shown_cpus-requires-clause-plan : goal.shown_cpus-requires-clause-plan
shown_cpus-requires-clause-plan g c = plan_in_range (rows_of c.args.self.now) c.args.plan.now c.requires.plan.met

pub shown_cpus-requires-clause-kept : goal.shown_cpus-requires-clause-kept
shown_cpus-requires-clause-kept g c =
    subst (λ (n : NodeState). AreKept n.machine c.args.plan.now c.args.kept.now) (sym c.self.view_is) c.requires.kept

pub opening_to-requires : goal.opening_to-requires
opening_to-requires g c =
    opening_could _ _ c.self.view_is c.self.invariant.node rows_weigh c.args.plan.now c.requires.plan c.shown_cpus.result.now
    (c.shown_cpus.ensures ∙ ap (λ (n : NodeState). as_cpus n.machine c.args.plan.now) c.self.view_is)

pub returns-clause-pool : goal.returns-clause-pool
returns-clause-pool g c =
    subst (λ (ss : List Ids). IfOk c.opening_to.result (λ p. p.0 ≡ plan_pool c.args.self.now ss))
    (c.shown_cpus.ensures ∙ ap (λ (n : NodeState). as_cpus n.machine c.args.plan.now) c.self.view_is) c.opening_to.ensures.pool

pub returns-clause-ongoing : goal.returns-clause-ongoing
returns-clause-ongoing g c =
    subst (λ (ss : List Ids). IfOk c.opening_to.result (λ p. seen_ongoing p.1 ≡ opened c.args.order c.args.self.now ss))
    (c.shown_cpus.ensures ∙ ap (λ (n : NodeState). as_cpus n.machine c.args.plan.now) c.self.view_is) c.opening_to.ensures.ongoing
