use Rattle.std.proofs.Common.{refl, sym, ◌∙◌, arith}
use Rattle.std.proofs.lemmas.List.{length-set}
use Rattle.transport.proofs.Clearing.{forgetting_none, forgetting_more, forgetting_end, never_more}
use Rattle.transport.proofs.labels.forget.Goals as goal

pub loop-class-init : goal.loop-class-init
loop-class-init c = record { forgetting = forgetting_none c.args.of_class.now c.args.classes.now; long = refl; never = λ h. h }

pub loop-class-preserved : goal.loop-class-preserved
loop-class-preserved c =
    let i = c.loop-class.invariant in
    let lt = c.requires.within _ c.loop-class-test.true in
    record {
      forgetting = forgetting_more _ _ _ _ _ i.forgetting refl lt;
      long = length-set _ _ _ ∙ i.long;
      never = λ h. never_more _ _ _ (omega (arith, lt, i.forgetting.long)) (i.long ∙ c.requires.as_long ∙ sym i.forgetting.long) (i.never h);
    }

pub returns : goal.returns
returns c = record { forgotten = forgetting_end _ _ _ _ c.loop-class.invariant.forgetting c.loop-class-test.false; long = c.loop-class.invariant.long; never = c.loop-class.invariant.never }
