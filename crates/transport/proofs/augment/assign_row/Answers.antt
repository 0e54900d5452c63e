use Rattle.std.proofs.Common.{subst, arith}
use Rattle.transport.specs.Assigning.{IsSearched}
use Rattle.transport.proofs.Assigning.{assigning_none, assigning_more, end_more, can_go_on, limit_kept}
use Rattle.transport.proofs.augment.assign_row.Goals as goal

pub searches-init : goal.searches-init
searches-init c = (assigning_none _ _ _ _ _ c.requires.can, c.requires.tidy, c.requires.few)

pub augment_once-requires-clause-can : goal.augment_once-requires-clause-can
augment_once-requires-clause-can c = can_go_on _ _ _ _ _ _ _ _ c.requires.can c.searches.invariant.0

pub returns-then-not-branch-clause-assigned : goal.returns-then-not-branch-clause-assigned
returns-then-not-branch-clause-assigned c =
    end_more _ _ _ _ _ _ _ _ _ _ c.searches.invariant.0
    (subst (IsSearched c.args.instance.now c.args.row c.searches.assignment c.augment_once.new.assignment c.augment_once.new.arcs_by_kind c.augment_once.new.tree c.searches.turns c.augment_once.new.turns) c.if-not-branch.true c.in_ok-augment_once.ensures.searched)

pub searches-preserved : goal.searches-preserved
searches-preserved c =
    let p = subst (IsSearched c.args.instance.now c.args.row c.searches.assignment c.augment_once.new.assignment c.augment_once.new.arcs_by_kind c.augment_once.new.tree c.searches.turns c.augment_once.new.turns) c.if-not-branch.false c.in_ok-augment_once.ensures.searched in (
      assigning_more _ _ _ _ _ _ _ _ _ _ c.searches.invariant.0 p.0 p.1,
      p.2,
      limit_kept _ _ _ _ _ _ c.searches.invariant.0.handed (omega (arith, c.if-turns-most.false)) c.in_ok-augment_once.ensures.once,
    )

pub returns-then-turns-most-clause-assigned : goal.returns-then-turns-most-clause-assigned
returns-then-turns-most-clause-assigned c = (c.searches.invariant.0, omega (arith, c.if-turns-most.true))

pub returns-then-not-branch-clause-limited : goal.returns-then-not-branch-clause-limited
returns-then-not-branch-clause-limited c =
    limit_kept _ _ _ _ _ _ c.searches.invariant.0.handed (omega (arith, c.if-turns-most.false)) c.in_ok-augment_once.ensures.once
