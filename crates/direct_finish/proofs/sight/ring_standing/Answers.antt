use Rattle.std.proofs.Common.{refl, sym, ap, ◌∙◌}
use Rattle.std.specs.FinSet as set
use Rattle.proctable.specs.Processes.{is_alive}
use Rattle.apply_plan.specs.DirectWords.{has_own}
use Rattle.apply_plan.specs.declared.giving.Giving.TheVariants.{Aside}
use Rattle.apply_plan.specs.Directed.{allowed_in}
use Rattle.apply_plan.specs.DirectedLemmas.{allowed_here}
use Rattle.apply_plan.specs.DirectWrite.{must_yield}
use Rattle.apply_plan.specs.DirectLemmas.{both, both_of}
use Rattle.apply_plan.specs.TurnLemmas.{gives_alike}
use Rattle.direct_finish.proofs.sight.ring_standing.Goals as goal

pub returns-then-gives : goal.returns-then-gives
returns-then-gives g c =
    let k = g.K.Kernel.state c.args.kernel.now in
    let reserved = c.args.reserved.now in
    let entries = c.args.entries.now in
    let e = c.args.entry.now in
    let least = g.C.Cores.least_of c.args.cores.now in
    let same = c.allowed_at-own.ensures ∙ sym (allowed_here entries c.args.allowed.now c.args.place e c.requires.valid.groups c.requires.within c.requires.at) in
    let steps =
    sym (gives_alike k reserved entries (λ _. c.allowed_at-own.result) (allowed_in entries c.args.allowed.now) e same least Aside) ∙ sym c.gives.ensures ∙ c.if-gives.true in (
      record {
        stays = refl;
        pinned = c.if-not-entry.false;
        lets = both (is_alive k.table e.pid) _ (both_of (is_alive k.table e.pid) _ c.requires.moves).0
            (ap (λ s. has_own reserved (set.difference s e.target)) (sym c.requested.ensures) ∙ sym c.holds_more.ensures ∙ c.if-not-holds_more.false);
        own = c.is_disjoint.ensures.0 c.if-not-is_disjoint.false;
        yields = (both_of (must_yield k reserved entries e) _ (both_of e.pinned _ steps).1).0;
      },
      steps,
    )

pub returns-then-gives-2 : goal.returns-then-gives-2
returns-then-gives-2 g c =
    let k = g.K.Kernel.state c.args.kernel.now in
    let reserved = c.args.reserved.now in
    let entries = c.args.entries.now in
    let e = c.args.entry.now in
    let least = g.C.Cores.least_of c.args.cores.now in
    let same = c.allowed_at-own.ensures ∙ sym (allowed_here entries c.args.allowed.now c.args.place e c.requires.valid.groups c.requires.within c.requires.at) in (
      record {
        stays = refl;
        pinned = c.if-not-entry.false;
        lets = both (is_alive k.table e.pid) _ (both_of (is_alive k.table e.pid) _ c.requires.moves).0
            (ap (λ s. has_own reserved (set.difference s e.target)) (sym c.requested.ensures) ∙ sym c.holds_more.ensures ∙ c.if-not-holds_more.false);
        own = c.is_disjoint.ensures.0 c.if-not-is_disjoint.false;
        yields = sym c.gives-2.ensures ∙ c.if-gives-2.true;
      },
      sym (gives_alike k reserved entries (λ _. c.allowed_at-own.result) (allowed_in entries c.args.allowed.now) e same least Aside) ∙ sym c.gives.ensures ∙ c.if-gives.false,
    )
