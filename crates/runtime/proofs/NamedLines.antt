-- The lines of whom an outcome names are those of the certificate that the node keeps.
use Rattle.std.proofs.Common.{◌≡◌, List, Some, Ok, refl, sym, ap, ◌∙◌, subst}
use Rattle.std.specs.Prelude.{IsSome, Option, zip}
use Rattle.std.specs.List.{flat_map}
use Rattle.cpu_set.specs.Ids.{Ids}
use Rattle.certificate.specs.declared.certificates.Certificate.{Certificate}
use Rattle.node.specs.declared.named.Named.{Named}
use Rattle.node.specs.declared.named.Named.TheVariants.{Holders, Members}
use Rattle.node.specs.declared.order.Order.{Order}
use Rattle.node.specs.declared.outcome.Outcome.{Outcome}
use Rattle.node.specs.declared.outcome.Outcome.TheVariants.{Plan, Short}
use Rattle.node.specs.Named.{Names}
use Rattle.node.specs.NodeState.{NodeState}
use Rattle.node.specs.Rebalance.{Begins}
use Rattle.node.specs.Tells.{Tells}
use Rattle.runtime.specs.OutcomeTexts.{AreInPlace, hold_line, last_lines, named_lines}

pub named_in_place : (n : NodeState) (named : Named) → Names n named → AreInPlace named
named_in_place n (Holders rows sets) h = h.each
named_in_place n (Members rows members) h = h.among

pub named_told : (n : NodeState) (named : Named) → Names n named → named_lines named ≡ last_lines n.machine n.last
named_told n (Holders rows sets) h =
    ap (λ (ss : List Ids). flat_map hold_line (zip rows.now ss)) h.are ∙ sym (ap (last_lines n.machine) h.last)
named_told n (Members rows members) h = sym (ap (last_lines n.machine) h.last)

-- what was worked out last is there once an outcome was answered
there : (last : Option Certificate) (c : Certificate) → last ≡ Some c → IsSome last
there last c same = subst (λ (o : Option Certificate). IsSome o) (sym same) refl

pub rebalanced_last : (old new : NodeState) (outcome : Outcome) → Tells old (Ok outcome) new → IsSome new.last
rebalanced_last old new (Plan total) t = there new.last _ t.told.is
rebalanced_last old new (Short wanted allowed) t = there new.last _ t.named

pub begun_last : (order : Order) (old new : NodeState) (outcome : Outcome) → Begins order old (Ok outcome) new → IsSome new.last
begun_last order old new (Plan total) b = there new.last _ (ap (λ (n : NodeState). n.last) b.is)
begun_last order old new (Short wanted allowed) b = there new.last _ (ap (λ (n : NodeState). n.last) b.is)
