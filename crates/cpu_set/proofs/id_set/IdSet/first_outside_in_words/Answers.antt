use Rattle.std.proofs.Common.{◌*◌, arith}
use Rattle.cpu_set.proofs.Combined.{removed_fits}
use Rattle.cpu_set.proofs.Finding.{IsFirstFrom-lower, NoneBetween-join, NoneFrom-lower}
use Rattle.cpu_set.proofs.Told.{first_told_whole, none_outside_past, none_told_whole, tells_words_outside}
use Rattle.cpu_set.proofs.id_set.IdSet.first_outside_in_words.Goals as goal

pub returns-then-word-ne0-clause-first : goal.returns-then-word-ne0-clause-first
returns-then-word-ne0-clause-first c =
    IsFirstFrom-lower _ _ (c.loop-k.k * 64) _ (omega arith) c.loop-k.invariant
    (first_told_whole _ c.loop-k.k _ (tells_words_outside _ _ _ _ _ c.self.invariant c.other.invariant c.self.view_is c.other.view_is) (removed_fits _ _ (c.self.invariant.fit _)) (omega (arith, c.if-word-ne0.true)))

pub loop-k-preserved : goal.loop-k-preserved
loop-k-preserved c =
    NoneBetween-join _ _ (c.loop-k.k * 64) _ c.loop-k.invariant
    (none_told_whole _ c.loop-k.k _ (tells_words_outside _ _ _ _ _ c.self.invariant c.other.invariant c.self.view_is c.other.view_is) (omega (arith, c.if-word-ne0.false)))

pub returns-clause-first : goal.returns-clause-first
returns-clause-first c = NoneFrom-lower _ _ (c.loop-k.k * 64) c.loop-k.invariant (none_outside_past _ _ _ _ c.self.invariant c.self.view_is (omega arith))
