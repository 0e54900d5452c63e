use Rattle.certificate.specs.declared.rows.Offer.{Offer}
use Rattle.std.proofs.Common.{arith, get_or, length, refl, sym, take_all, ◌+◌, ◌<◌, ◌∙◌}
use Rattle.std.proofs.lemmas.List.{get_or_default}
use Rattle.twins.proofs.Ends.{off_before}
use Rattle.twins.proofs.Weights.{same_with_one_more}
use Rattle.std.specs.FinSet as set
use Rattle.twins.proofs.edges.add_edges.Goals as goal

none : Offer
none = record { weight = 0; cpus = set.empty }

pub loop-at-init : goal.loop-at-init
loop-at-init c = record { kept = λ cpu here. here; told = λ cpu fits off. refl }

pub add_ends-requires : goal.add_ends-requires
add_ends-requires c = c.ranges-cpus.ensures.below

pub loop-at-preserved : goal.loop-at-preserved
loop-at-preserved c =
    let lt : c.loop-at.at < length c.args.offers.now = omega (arith, c.len-at-end.ensures, c.loop-at-test.true) in
    let o : Offer = get_or c.args.offers.now c.loop-at.at none in
    record {
      kept = λ cpu here. c.add_ends.ensures.kept cpu (c.loop-at.invariant.kept cpu here);
      told = λ cpu fits off.
          same_with_one_more c.args.offers.now c.loop-at.at o cpu (cpu + 1) lt (get_or_default _ _ _ _ lt)
          (c.loop-at.invariant.told cpu fits (off_before _ _ (c.add_ends.ensures.kept (cpu + 1)) off))
          (sym (c.ranges-cpus.ensures.members none cpu) ∙ c.add_ends.ensures.told cpu fits off ∙ c.ranges-cpus.ensures.members none (cpu + 1));
    }

pub returns-clause-kept : goal.returns-clause-kept
returns-clause-kept c = c.loop-at.invariant.kept

pub returns-clause-told : goal.returns-clause-told
returns-clause-told c = λ cpu fits off. rw (← take_all c.loop-at.at c.args.offers.now (omega (arith, c.len-at-end.ensures, c.loop-at-test.false))) (c.loop-at.invariant.told cpu fits off)
