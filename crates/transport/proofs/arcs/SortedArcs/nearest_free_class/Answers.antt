use Rattle.std.proofs.Common.{ℕ, ◌<◌, length, Option, refl, ap, subst, arith}
use Rattle.transport.specs.Scans.{IsPast}
use Rattle.transport.specs.declared.arcs.WeightedOffer.{WeightedOffer}
use Rattle.transport.specs.Sought.{IsFurther}
use Rattle.transport.proofs.Seeking.{further_on, further_more}
use Rattle.transport.proofs.SortedArcsLemmas.{scanned_end, found_cases, sorted_skipped, stop_at, arc_here}
use Rattle.transport.proofs.arcs.SortedArcs.nearest_free_class.Goals as goal
use Rattle.transport.proofs.arcs.SortedArcs.nearest_free_class.Goals.{After-skip_full-self}

pub returns-then-self-len-clause-found : goal.returns-then-self-len-clause-found
returns-then-self-len-clause-found c = λ (ws : ℕ → Option ℕ) h.
    let lt : c.skip_full-self.result < length c.loop-self.self.arcs.items = omega (arith, c.if-self-len.true, c.len.ensures, c.loop-self.self.arcs.ok.0) in
    found_cases ws _ _ _ _ _ c.index-arc.result.now c.below.result
    (sorted_skipped ws _ _ _ c.loop-self.self _ _ (c.loop-self.invariant.sorted_arcs ws h) c.deref.ensures.value c.skip_full-self.ensures.within c.skip_full-self.ensures.forward c.skip_full-self.ensures.full)
    lt (arc_here _ _ _ lt c.index-arc.ensures) (stop_at _ _ _ _ _ c.deref.ensures.value lt c.skip_full-self.ensures.stop) c.below.ensures

pub returns-then-self-len-2-clause-found : goal.returns-then-self-len-2-clause-found
returns-then-self-len-2-clause-found c = λ (ws : ℕ → Option ℕ) h.
    scanned_end ws _ _ _ _ _
    (sorted_skipped ws _ _ _ c.loop-self.self _ _ (c.loop-self.invariant.sorted_arcs ws h) c.deref.ensures.value c.skip_full-self.ensures.within c.skip_full-self.ensures.forward c.skip_full-self.ensures.full)
    (omega (arith, c.if-self-len.false, c.len.ensures, c.loop-self.self.arcs.ok.0))
    (λ more. absurd (omega (arith, more, c.if-self-len-2.true, c.len-in-loop-self.ensures)))

pub returns-then-is_past-clause-found : goal.returns-then-is_past-clause-found
returns-then-is_past-clause-found c = λ (ws : ℕ → Option ℕ) h.
    scanned_end ws _ _ _ _ _
    (sorted_skipped ws _ _ _ c.loop-self.self _ _ (c.loop-self.invariant.sorted_arcs ws h) c.deref.ensures.value c.skip_full-self.ensures.within c.skip_full-self.ensures.forward c.skip_full-self.ensures.full)
    (omega (arith, c.if-self-len.false, c.len.ensures, c.loop-self.self.arcs.ok.0))
    (λ more. subst (IsPast c.args.limit) (ap (λ (b : WeightedOffer). b.weight) c.weighted_offer-next.ensures) (c.is_past.ensures.0 c.if-is_past.true))

-- the cursor has moved on
skipped : (c : After-skip_full-self) → IsFurther c.args.self.now (record { order = c.loop-self.self.order; opened = c.loop-self.self.opened; arcs = c.loop-self.self.arcs; blocks = c.loop-self.self.blocks; blocked = c.loop-self.self.blocked; cursor = c.skip_full-self.result; looks = c.loop-self.self.looks; joined = c.loop-self.self.joined })
skipped c = further_more _ _ _ c.loop-self.invariant.further (further_on c.loop-self.self _ refl c.skip_full-self.ensures.forward)

pub loop-self-init : goal.loop-self-init
loop-self-init c = record { sorted_arcs = λ ws h. h; further = further_on _ _ refl (omega arith) }

pub loop-self-preserved : goal.loop-self-preserved
loop-self-preserved c = record {
  sorted_arcs = λ (ws : ℕ → Option ℕ) h.
      c.in_ok-open.ensures.sorted_arcs ws _
      (sorted_skipped ws _ _ _ c.loop-self.self _ _ (c.loop-self.invariant.sorted_arcs ws h) c.deref.ensures.value c.skip_full-self.ensures.within c.skip_full-self.ensures.forward c.skip_full-self.ensures.full);
  further = further_more _ _ _ (skipped (goal.at.loop-self-preserved c).After-skip_full-self) c.in_ok-open.ensures.further;
}

pub returns-then-self-len-clause-further : goal.returns-then-self-len-clause-further
returns-then-self-len-clause-further c = skipped (goal.at.returns-then-self-len-clause-further c).After-skip_full-self

pub returns-then-self-len-2-clause-further : goal.returns-then-self-len-2-clause-further
returns-then-self-len-2-clause-further c = skipped (goal.at.returns-then-self-len-2-clause-further c).After-skip_full-self

pub returns-then-is_past-clause-further : goal.returns-then-is_past-clause-further
returns-then-is_past-clause-further c = skipped (goal.at.returns-then-is_past-clause-further c).After-skip_full-self

pub weighted_offer-next-requires-clause-order : goal.weighted_offer-next-requires-clause-order
weighted_offer-next-requires-clause-order c = (c.loop-self.invariant.sorted_arcs c.requires.0 c.requires.1).order
