use Rattle.std.proofs.Common.{◌*◌, arith}
use Rattle.cpu_set.proofs.Combined.{removed_fits}
use Rattle.cpu_set.proofs.Finding.{IsFirstFrom-lower, NoneBetween-join, NoneFrom-lower}
use Rattle.cpu_set.proofs.Told.{first_told_whole, none_told_whole, none_common_below, none_common_past, tells_common}
use Rattle.cpu_set.proofs.spanned.Spanned.first_common.Goals as goal

pub loop-k-init : goal.loop-k-init
loop-k-init c = rw (← c.self.view_is) (none_common_below _ _ _ _ c.self.invariant)

pub returns-then-word-ne0-clause-first : goal.returns-then-word-ne0-clause-first
returns-then-word-ne0-clause-first c =
    IsFirstFrom-lower _ _ (c.loop-k.k * 64) _ (omega arith) c.loop-k.invariant
    (rw (← c.self.view_is) (first_told_whole _ c.loop-k.k _ (tells_common _ _ _ _ _ c.word.ensures c.word-in-loop-k.ensures) (removed_fits _ _ c.word.type_inv) (omega (arith, c.if-word-ne0.true))))

pub loop-k-preserved : goal.loop-k-preserved
loop-k-preserved c =
    NoneBetween-join _ _ (c.loop-k.k * 64) _ c.loop-k.invariant
    (rw (← c.self.view_is) (none_told_whole _ c.loop-k.k _ (tells_common _ _ _ _ _ c.word.ensures c.word-in-loop-k.ensures) (omega (arith, c.if-word-ne0.false))))

pub returns-clause-first : goal.returns-clause-first
returns-clause-first c = NoneFrom-lower _ _ (c.loop-k.k * 64) c.loop-k.invariant (rw (← c.self.view_is) (none_common_past _ _ _ _ _ c.self.invariant (omega (arith, c.loop-k-test.false))))
