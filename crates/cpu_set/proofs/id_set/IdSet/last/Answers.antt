use Rattle.std.proofs.Common.{◌≡◌, ◌+◌, ◌-◌, ◌*◌, refl, subst, arith}
use Rattle.cpu_set.specs.Ids.{NoneFrom}
use Rattle.cpu_set.specs.Words.{set_of_words}
use Rattle.cpu_set.proofs.Last.{none_past_words, none_in_word, last_in_word, last_bit}
use Rattle.cpu_set.proofs.id_set.IdSet.last.Goals as goal

pub loop-k-init : goal.loop-k-init
loop-k-init c = record { within = omega arith; none = none_past_words _ _ c.self.invariant refl }

pub returns-then-word-ne0-clause-last : goal.returns-then-word-ne0-clause-last
returns-then-word-ne0-clause-last c =
    let next : c.loop-k.k ≡ (c.loop-k.k - 1) + 1 = omega (arith, c.loop-k-test.true) in
    rw (← c.self.view_is) (last_in_word _ (c.loop-k.k - 1) _ c.self.invariant (last_bit _ (omega (arith, c.if-word-ne0.true)) (c.self.invariant.fit (c.loop-k.k - 1)))
    (subst (λ k. NoneFrom (set_of_words c.self.inside.words) (k * 64)) next c.loop-k.invariant.none))

pub loop-k-preserved : goal.loop-k-preserved
loop-k-preserved c =
    let next : c.loop-k.k ≡ (c.loop-k.k - 1) + 1 = omega (arith, c.loop-k-test.true) in
    record {
      within = omega (arith, c.loop-k.invariant.within);
      none = none_in_word _ (c.loop-k.k - 1) c.self.invariant (omega (arith, c.if-word-ne0.false)) (subst (λ k. NoneFrom (set_of_words c.self.inside.words) (k * 64)) next c.loop-k.invariant.none);
    }
