use Rattle.std.proofs.Common.{◌≡◌, List, not, filter, sym, ap, ◌∙◌, subst, rules}
use Rattle.std.proofs.lemmas.Bool.{not-true}
use Rattle.std.proofs.lemmas.Fn.{filter_same}
use Rattle.proctable.specs.declared.slots.Slot.{Slot}
use Rattle.proctable.specs.Kept.{live_of, PidsRise, AreEnded}
use Rattle.proctable.proofs.PlaceLemmas.{live_packed, pids_filter, none_ended}
use Rattle.proctable.proofs.slots.pack.Goals as goal

pub returns : goal.returns
returns c =
    let packed : c.retain.new.self.items ≡ filter (λ s. not s.ended) c.args.slots.now.items = filter_same _ (λ s. not s.ended) _ (λ x b f' k. search rules) _ _ c.retain.ensures.filtered in
    record {
      live = ap live_of packed ∙ live_packed c.args.slots.now.items;
      rising = λ next rises. subst (λ (l : List Slot). PidsRise 0 next l) (sym packed) (pids_filter (λ s. not s.ended) 0 next c.args.slots.now.items rises);
      ended = subst (λ (l : List Slot). AreEnded l 0) (sym packed) (none_ended (λ s. not s.ended) c.args.slots.now.items (λ s e. not-true s.ended e));
    }
