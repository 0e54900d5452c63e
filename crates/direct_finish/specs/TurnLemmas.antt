-- What one turn of a hand-over leaves: a walk over its entries, or a single step.
use Rattle.std.proofs.Common.{◌≡◌, ◌+◌, ◌≤◌, true, false, refl, sym, ap, ◌∙◌, subst, inl, inr}
use Rattle.std.proofs.lemmas.Bool.{false≢true}
use Rattle.std.specs.Prelude.{cond, find, Option, Some, None, is_none, is_some, Ok, Err}
use Rattle.kernel_model.specs.declared.KernelFault.{KernelFault}
use Rattle.kernel_model.specs.KernelState.{KernelState}
use Rattle.apply_plan.specs.declared.scan.Write.{Write}
use Rattle.apply_plan.specs.declared.Progress.{Progress}
use Rattle.apply_plan.specs.Targets.{IsHandover, ArePlaced}
use Rattle.apply_plan.specs.DueWrite.{must_move, written, missed}
use Rattle.apply_plan.specs.MayWrite.{left_directly}
use Rattle.apply_plan.specs.Directed.{Directed, Least, Serves}
use Rattle.apply_plan.specs.DirectWrite.{due_directly, StepsDirectly, LowersDirectly}
use Rattle.apply_plan.specs.DirectStepLemmas.{due_if_moves}
use Rattle.direct_finish.specs.FinishesDirectly.{TakesFree, MayFollow, FinishesDirectly}
use Rattle.direct_finish.specs.Follows.{HasWritten, Stops}
use Rattle.direct_finish.specs.FollowLemmas.{follow_map, none_written, one_written}

-- free targets that are taken are writes that may follow
module _ (d : Directed) (least : Least) where
  pub taken_follow : (old new : KernelState) → HasWritten (TakesFree d.targets) old new → HasWritten (MayFollow d least) old new
  taken_follow old new made = record {
    writes = made.writes;
    follow = follow_map (TakesFree d.targets) (MayFollow d least) (λ k. Unit {0}) (λ k w t u. tt) (λ k w t u. inl t) made.writes old made.follow tt;
    is = made.is;
  }

  pub stopped_follow : (old new : KernelState) (fault : KernelFault) → Stops (TakesFree d.targets) old fault new → Stops (MayFollow d least) old fault new
  stopped_follow old new fault s = record {
    mid = s.mid;
    made = taken_follow old s.mid s.made;
    fault_is = s.fault_is;
    tried = s.tried;
    wanted = inl s.wanted;
    is = s.is;
  }

  -- a single step makes one such write, or none
  pub step_follows : (old new : KernelState) (answer : Progress) → StepsDirectly d least old (Ok answer) new → HasWritten (MayFollow d least) old new
  step_follows old new answer s = subst (λ (k : KernelState). HasWritten (MayFollow d least) old k) (sym s.0) (by (due_directly d least old) refl) where
    by : (o : Option Write) → due_directly d least old ≡ o → HasWritten (MayFollow d least) old (written old o)
    by None is = none_written (MayFollow d least) old
    by (Some w) is = one_written (MayFollow d least) old w (inr is)

  pub step_stops : (old new : KernelState) (fault : KernelFault) → StepsDirectly d least old (Err fault) new → Stops (MayFollow d least) old fault new
  step_stops old new fault s = by (due_directly d least old) refl s.2 s.1 where
    by : (o : Option Write) → due_directly d least old ≡ o → is_some o ≡ true → new ≡ missed o old → Stops (MayFollow d least) old fault new
    by None is some missing = absurd (false≢true some)
    by (Some w) is some missing = record { mid = old; made = none_written (MayFollow d least) old; fault_is = s.0; tried = w; wanted = inr is; is = missing }

  -- where somebody must move, it lowers what is left
  pub step_falls : (valid : IsHandover d.targets) (serves : Serves d least) (old new : KernelState) (answer : Progress) → ArePlaced old d.targets.entries
      → is_none (find (must_move old) d.targets.entries) ≡ false → LowersDirectly d least old (Ok answer) new → left_directly d.targets new + 1 ≤ left_directly d.targets old
  step_falls valid serves old new answer placed moves lowers = by (due_directly d least old) (due_if_moves d valid least serves old placed ∙ moves) lowers where
    by : (o : Option Write) → is_none o ≡ false → left_directly d.targets new + cond (is_some o) 1 0 ≤ left_directly d.targets old
        → left_directly d.targets new + 1 ≤ left_directly d.targets old
    by None none less = absurd (false≢true (sym none))
    by (Some w) none less = less

  -- the writes up to an end
  pub finished : (old new : KernelState) → HasWritten (MayFollow d least) old new → is_none (find (must_move new) d.targets.entries) ≡ true
      → FinishesDirectly d least old (Ok tt) new
  finished old new made none = record {
    writes = made.writes;
    follow = made.follow;
    ends = (made.is, ap (λ k. is_none (find (must_move k) d.targets.entries)) (sym made.is) ∙ none);
  }

  pub stopped : (old new : KernelState) (fault : KernelFault) → Stops (MayFollow d least) old fault new → FinishesDirectly d least old (Err fault) new
  stopped old new fault s = record {
    writes = s.made.writes;
    follow = s.made.follow;
    ends = (
      s.fault_is,
      (s.tried, subst (λ (k : KernelState). MayFollow d least k s.tried) s.made.is s.wanted, s.is ∙ ap (missed (Some s.tried)) s.made.is),
    );
  }
