-- What one of the writes leaves that may follow, and that a single step has one to make as long.
use Rattle.std.proofs.Common.{◌≡◌, ◌<◌, true, false, refl, sym, ◌∙◌, subst}
use Rattle.std.proofs.lemmas.Bool.{false≢true}
use Rattle.std.specs.Prelude.{find, Option, Some, None, is_none, is_some, Ok}
use Rattle.kernel_model.specs.KernelState.{KernelState}
use Rattle.kernel_model.specs.Laws.{StepKeeps}
use Rattle.kernel_model.specs.KernelLemmas.{each_case_keeps}
use Rattle.kernel_model.specs.RefusalLemmas.{calls_are_free}
use Rattle.apply_plan.specs.declared.Entry.{Entry}
use Rattle.apply_plan.specs.declared.scan.Write.{Write}
use Rattle.apply_plan.specs.Targets.{IsHandover, IsPlaced, ArePlaced}
use Rattle.apply_plan.specs.DueWrite.{must_move, written}
use Rattle.apply_plan.specs.Leaves.{KeepsRest}
use Rattle.apply_plan.specs.Runs.{IsOpen}
use Rattle.apply_plan.specs.ListLemmas.{all_map, find_among, find_none}
use Rattle.apply_plan.specs.KernelFactLemmas.{placed_alike}
use Rattle.apply_plan.specs.Directed.{Directed, Least, Serves}
use Rattle.apply_plan.specs.OnWay.{Makes}
use Rattle.apply_plan.specs.DirectWrite.{due_directly}
use Rattle.apply_plan.specs.DirectStepLemmas.{made_places, made_safe, made_lowers, made_keeps, made_on_way, made_moves, due_if_moves}
use Rattle.apply_plan.specs.SqueezeLemmas.{by_write}
use Rattle.direct_finish.specs.FinishesDirectly.{MayFollow}
use Rattle.direct_finish.specs.FinishLemmas.{is_direct, may_make}
use Rattle.direct_finish.specs.FollowersLeave.{FollowerLeaves, FollowersLeave, StepsFollow, EachStepFollows}

module _ (d : Directed) (valid : IsHandover d.targets) (least : Least) (serves : Serves d least) (old : KernelState) (placed : ArePlaced old d.targets.entries) where
  -- somebody must move where a write may follow
  moves : (w : Write) → MayFollow d least old w → is_none (find (must_move old) d.targets.entries) ≡ false
  moves w follows = by (find (must_move old) d.targets.entries) refl where
    m : Makes d old w
    m = may_make d valid least serves old w follows

    by : (o : Option Entry) → find (must_move old) d.targets.entries ≡ o → is_none o ≡ false
    by (Some e) at = refl
    by None at = absurd (false≢true (sym (find_among m.test (λ a. must_move old a ≡ false) d.targets.entries m.e (find_none (must_move old) d.targets.entries at) m.found)
        ∙ made_moves d valid old placed w m))

  due_is : is_none (due_directly d least old) ≡ is_none (find (must_move old) d.targets.entries)
  due_is = due_if_moves d valid least serves old placed

  some_of : (o : Option Write) → is_none o ≡ false → is_some o ≡ true
  some_of (Some w) e = refl
  some_of None e = absurd (false≢true (sym e))

  step_follows : StepsFollow d least old
  step_follows = record {
    some = λ w follows. some_of (due_directly d least old) (due_is ∙ moves w follows);
    none = λ none. due_is ∙ none;
  }

pub each_step_follows : EachStepFollows
each_step_follows d least k valid serves placed = step_follows d valid least serves k placed

module _ (d : Directed) (least : Least) (serves : Serves d least) (old : KernelState) (before : IsOpen d.targets old) (w : Write) (follows : MayFollow d least old w) where
  abbrev new : KernelState
  new = written old (Some w)

  its : Makes d old w
  its = may_make d before.handover least serves old w follows

  kernel : StepKeeps old new
  kernel =
      let there : IsPlaced old w.group = made_places d before.handover old before.placed w its in
      (each_case_keeps old new before.well_formed).cpus w.group w.cpus (Ok tt) (((calls_are_free old).write w.group).1 (there.there, there.below), refl)

  rest : KeepsRest d.targets old new
  rest = made_keeps d before.handover old before.placed w its

  stays_open : IsOpen d.targets new
  stays_open = record {
    handover = before.handover;
    well_formed = kernel.well_formed;
    placed = placed_alike old new d.targets.entries rest.alike before.placed;
    given = all_map (λ (e : Entry). e.pid < old.table.next_pid) (λ (e : Entry). e.pid < new.table.next_pid)
        (λ e g. subst (λ t. e.pid < t.next_pid) (sym rest.table) g) d.targets.entries before.given;
  }

  leaves : FollowerLeaves d least old new
  leaves = record {
    open_still = stays_open;
    safe = made_safe d before.handover old before.placed w its;
    rest = rest;
    fewer = made_lowers d before.handover old before.placed w its;
    on_way = λ first. made_on_way d before.handover old before.placed w its first;
    squeezes = by_write d before.handover least serves old before.placed w (is_direct d before.handover least serves old w follows);
    kernel = kernel;
  }

pub followers_leave : FollowersLeave
followers_leave d least old w serves before follows = leaves d least serves old before w follows
