use Rattle.std.proofs.Common.{◌≡◌, ◌-◌, true, ℕ, List, Option, IfSome}
use Rattle.std.specs.Option.{option_map_or}
use Rattle.std.specs.FinSet as set
use Rattle.cpu_set.specs.Members.{IsCpu}
use Rattle.cpu_set.specs.declared.TheConstants.{CPU_LIMIT}
use Rattle.certificate.specs.declared.rows.Offer.{Offer}
use Rattle.transport.specs.declared.arcs.WeightedOffer.{WeightedOffer}
use Rattle.transport.specs.SortedArcs.{CanOpen, IsOpening}
use Rattle.transport.proofs.arcs.push_arcs.Given as goal

abbrev pub invariant-loop-next : goal.invariant-loop-next
invariant-loop-next l = record {
  opening : (ws : ℕ → Option ℕ) (offers : List Offer) (weighted : List WeightedOffer) (opened : ℕ) → CanOpen ws offers l.firsts weighted opened l.offer l.weight l.initial.arcs.items
      → IsOpening ws offers l.firsts weighted opened l.initial.arcs.items l.arcs.items l.next;
  member : IfSome l.next (λ c. set.contains l.there c ≡ true);
  in_range : IfSome l.next (λ c. IsCpu c);
}

abbrev pub decreases-loop-next : goal.decreases-loop-next
decreases-loop-next l = option_map_or (λ n. CPU_LIMIT - n) l.next 0
