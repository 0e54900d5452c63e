use Rattle.std.proofs.Common.{length, ap, ◌∙◌, subst}
use Rattle.blame.specs.Marking.{IsOwned}
use Rattle.blame.specs.Parts.{IsLowered}
use Rattle.blame.proofs.ShrinkingLemmas.{needed_here}
use Rattle.blame.proofs.shrinking.mark_some.Goals as goal

pub returns-in-Plan : goal.returns-in-Plan
returns-in-Plan c =
    let rows_are = c.as_slice.ensures.value ∙ c.problem.view_is in
    let lowered = subst (IsLowered c.args.problem.now c.deref.result.now) c.in-Plan.is c.in_ok-lowered.ensures in
    let owned : IsOwned c.args.problem.now c.loop-step.few.items c.in-Plan.part.own.items c.in-Plan.part.root c.in-Plan.part.lacking =
    subst (λ ks. IsOwned c.args.problem.now ks c.in-Plan.part.own.items c.in-Plan.part.root c.in-Plan.part.lacking) c.deref.ensures.value lowered.0 in
    record {
      shortage = c.loop-step.invariant;
      long = c.in_ok-known-in-Plan.ensures.long ∙ ap length rows_are;
      needed = needed_here c.as_slice.result.now c.args.problem.now c.loop-step.few.items c.in-Plan.part.own.items c.in-Plan.part.root c.in-Plan.part.lacking
          c.in_ok-known-in-Plan.known.items rows_are owned c.in_ok-known-in-Plan.ensures.needed;
    }
