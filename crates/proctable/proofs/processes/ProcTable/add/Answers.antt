use Rattle.std.proofs.Common.{◌≡◌, ℕ, ◌+◌, ◌≤◌, List, [], ◌∷◌, ◌++◌, length, sym, ap, ◌∙◌, false, refl, subst, arith, length-append, ⊎_elim}
use Rattle.std.specs.Prelude.{Some, is_some}
use Rattle.cpuset_tree.specs.declared.Group.{Group}
use Rattle.proctable.specs.declared.processes.Process.{Process}
use Rattle.proctable.specs.declared.slots.Slot.{Slot}
use Rattle.proctable.specs.declared.TheConstants.{LAST_PID}
use Rattle.proctable.specs.TableState.{TableState}
use Rattle.proctable.specs.Processes.{process_of}
use Rattle.proctable.specs.TableAnswers.{AddsProcess}
use Rattle.proctable.specs.TableWellFormed.{Belongs, AllBelong}
use Rattle.proctable.specs.Kept.{live_of, IsSound, BelongsNext}
use Rattle.proctable.specs.ProcessLemmas.{AllBelong-push, process-fresh, process-push-new, process-push-old}
use Rattle.proctable.proofs.PlaceLemmas.{live_rises, live_push, pids_push, ended_push}
use Rattle.proctable.proofs.processes.ProcTable.add.Goals as goal

-- a table stays sound when a process of the next pid comes that belongs to itself or to a live first process
sound-push : (slots : List Slot) (ended next : ℕ) (g : Group) (first : ℕ) → IsSound slots ended next → next ≤ LAST_PID
    → BelongsNext (record { live = live_of slots; next_pid = next }) g first
    → IsSound (slots ++ record { process = record { pid = next; group = g; first = first }; ended = false } ∷ []) ended (next + 1)
sound-push slots ended next g first sound room belongs = record {
  rising = pids_push 0 next slots (record { process = x; ended = false }) sound.rising refl;
  belong = subst (λ (l : List Process). AllBelong l l) (sym (live_push slots x)) (AllBelong-push live x live (⊎_elim own other belongs) sound.belong);
  limit = omega arith;
  counted = ended_push slots x ended sound.counted;
  few = (let all : length (slots ++ record { process = x; ended = false } ∷ []) ≡ length slots + 1 = length-append _ _ in omega (arith, all, sound.few));
}
  where
    live : List Process
    live = live_of slots

    x : Process
    x = record { pid = next; group = g; first = first }

    own : first ≡ next → Belongs (live ++ x ∷ []) x
    own is = record {
      first = x;
      alive = ap (λ (n : ℕ). process_of (record { live = live ++ x ∷ []; next_pid = next }) n) is ∙ process-push-new live x (process-fresh 0 next next live (live_rises 0 next slots sound.rising) (omega arith));
      own = refl;
      group = refl;
    }

    other : (q : Process) × (process_of (record { live = live; next_pid = next }) first ≡ Some q) × (q.first ≡ first) × (q.group ≡ g) → Belongs (live ++ x ∷ []) x
    other h = record { first = h.0; alive = process-push-old live x first h.0 h.1; own = h.2; group = h.3 }

pub invariant_of-self-2 : goal.invariant_of-self-2
invariant_of-self-2 c =
    let i = c.self.inside in
    subst (λ (l : List Slot). IsSound l i.ended (i.next_pid + 1)) (sym c.in_ok-push.ensures.items)
    (sound-push i.slots.items i.ended i.next_pid c.args.group c.args.first c.self.invariant
    (subst (λ (t : TableState). t.next_pid ≤ LAST_PID) (sym c.self.view_is) c.requires.pids)
    (subst (λ (t : TableState). BelongsNext t c.args.group c.args.first) (sym c.self.view_is) c.requires.belongs))

pub returns-clause-ok : goal.returns-clause-ok
returns-clause-ok c =
    let i = c.self.inside in
    subst (λ (t : TableState). AddsProcess t c.args.group c.args.first i.next_pid (record { live = live_of c.push.new.self.items; next_pid = i.next_pid + 1 })) c.self.view_is
    (record {
      next = refl;
      fresh = ap is_some (process-fresh 0 i.next_pid i.next_pid (live_of i.slots.items) (live_rises 0 i.next_pid i.slots.items c.self.invariant.rising) (omega arith));
      added = λ j. record {
        live = (ap live_of c.in_ok-push.ensures.items ∙ live_push i.slots.items (record { pid = i.next_pid; group = c.args.group; first = c.args.first })) j;
        next_pid = i.next_pid + 1;
      };
    })
