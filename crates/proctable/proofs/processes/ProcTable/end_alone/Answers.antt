use Rattle.std.proofs.Common.{◌≡◌, ◌≢◌, List, not, sym, ap, ◌∙◌, subst}
use Rattle.std.specs.Prelude.{Some, true}
use Rattle.proctable.specs.declared.processes.Process.{Process}
use Rattle.proctable.specs.TableState.{TableState}
use Rattle.proctable.specs.Processes.{process_of, is_alive}
use Rattle.proctable.specs.TableChanges.{ends_with, exited}
use Rattle.proctable.specs.TableWellFormed.{AllBelong}
use Rattle.proctable.specs.Kept.{live_of}
use Rattle.proctable.specs.ProcessLemmas.{AllBelong-filter, together-exited}
use Rattle.proctable.proofs.processes.ProcTable.end_alone.Goals as goal

pub end_one-requires : goal.end_one-requires
end_one-requires c =
    let i = c.self.inside in
    record {
      rising = (i.next_pid, c.self.invariant.rising);
      belong = c.self.invariant.belong;
      other = subst (λ (t : TableState). (p : Process) → process_of t c.args.pid ≡ Some p → p.first ≢ c.args.pid) (sym c.self.view_is) c.requires.other;
      alive = subst (λ (t : TableState). is_alive t c.args.pid ≡ true) (sym c.self.view_is) c.requires.alive;
    }

pub pack_where_half_ended-self-inside-requires : goal.pack_where_half_ended-self-inside-requires
pack_where_half_ended-self-inside-requires c = c.end_one.ensures.ended _ c.self.invariant.counted

pub invariant_of-self : goal.invariant_of-self
invariant_of-self c =
    let i = c.self.inside in
    let packed = c.pack_where_half_ended-self-inside.ensures in
    record {
      rising = packed.rising i.next_pid (c.end_one.ensures.rising i.next_pid c.self.invariant.rising);
      belong = subst (λ (l : List Process). AllBelong l l) (sym (packed.live ∙ c.end_one.ensures.live))
          (AllBelong-filter (λ p. not (ends_with c.args.pid p)) (together-exited c.args.pid) (live_of i.slots.items) (live_of i.slots.items) c.self.invariant.belong);
      limit = c.self.invariant.limit;
      counted = packed.ended;
      few = packed.few;
    }

pub returns : goal.returns
returns c =
    let i = c.self.inside in
    (λ j. record { live = (c.pack_where_half_ended-self-inside.ensures.live ∙ c.end_one.ensures.live) j; next_pid = i.next_pid })
    ∙ ap (λ (t : TableState). exited t c.args.pid) c.self.view_is
