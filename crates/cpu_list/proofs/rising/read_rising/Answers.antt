use Rattle.std.proofs.lemmas.List.{take_rest}
use Rattle.cpu_list.proofs.RisingSteps.{AreRisen-more, AreRisen-all}
use Rattle.cpu_list.proofs.rising.read_rising.Goals as goal

pub loop-at-preserved : goal.loop-at-preserved
loop-at-preserved c =
    let right = c.in-Some.ensures.right in
    AreRisen-more _ _ _ _ _ _ _ _ _ _ c.loop-at.invariant c.loop-at-test.true (take_rest c.args.text.now c.loop-at.at) c.in-Some.ensures.plain right.0 right.1 right.2 c.in_ok-push.ensures.items

pub returns : goal.returns
returns c = λ yes. AreRisen-all _ _ _ _ _ c.loop-at.invariant c.loop-at-test.false c.requires
