use Rattle.std.proofs.Common.{List, not, ◌&&◌, sym, ap, ◌∙◌, subst, rules, arith}
use Rattle.std.proofs.lemmas.Fn.{filter_same}
use Rattle.proctable.specs.declared.processes.Process.{Process}
use Rattle.proctable.specs.declared.slots.Slot.{Slot}
use Rattle.proctable.specs.TableState.{TableState}
use Rattle.proctable.specs.TableChanges.{ends_with, exited}
use Rattle.proctable.specs.TableWellFormed.{AllBelong}
use Rattle.proctable.specs.Kept.{live_of, IsSound}
use Rattle.proctable.specs.ProcessLemmas.{AllBelong-filter, together-exited}
use Rattle.proctable.proofs.PlaceLemmas.{live_filter, pids_filter, none_ended, alive_first}
use Rattle.proctable.proofs.processes.ProcTable.end_with.Goals as goal

pub invariant_of-self : goal.invariant_of-self
invariant_of-self c =
    let i = c.self.inside in
    subst (λ (l : List Slot). IsSound l 0 i.next_pid)
    (sym (filter_same _ (λ s. not s.ended && not (ends_with c.args.pid s.process)) _ (λ x b f' k. search rules) _ _ c.retain.ensures.filtered))
    (record {
      rising = pids_filter (λ s. not s.ended && not (ends_with c.args.pid s.process)) 0 i.next_pid i.slots.items c.self.invariant.rising;
      belong = subst (λ (l : List Process). AllBelong l l) (sym (live_filter (λ p. not (ends_with c.args.pid p)) i.slots.items))
          (AllBelong-filter (λ p. not (ends_with c.args.pid p)) (together-exited c.args.pid) (live_of i.slots.items) (live_of i.slots.items) c.self.invariant.belong);
      limit = c.self.invariant.limit;
      counted = none_ended (λ s. not s.ended && not (ends_with c.args.pid s.process)) i.slots.items (λ s. alive_first s.ended (not (ends_with c.args.pid s.process)));
      few = omega arith;
    })

pub returns : goal.returns
returns c =
    let i = c.self.inside in
    (λ j. record {
      live = (ap live_of (filter_same _ (λ s. not s.ended && not (ends_with c.args.pid s.process)) _ (λ x b f' k. search rules) _ _ c.retain.ensures.filtered)
          ∙ live_filter (λ p. not (ends_with c.args.pid p)) i.slots.items) j;
      next_pid = i.next_pid;
    })
    ∙ ap (λ (t : TableState). exited t c.args.pid) c.self.view_is
