use Rattle.std.proofs.Common.{◌+◌, ◌*◌, ◌%◌, ◌^◌, ap, sym, ◌∙◌, drop, arith}
use Rattle.std.proofs.lemmas.List.{at_drop_more}
use Rattle.std.proofs.Math.ListN.{drop_of_length-le}
use Rattle.cpuset_tree.specs.Kept.{mark_from}
use Rattle.cpuset_tree.proofs.marks.mark_of.Goals as goal

pub loop-byte-init : goal.loop-byte-init
loop-byte-init c = ap (mark_from (c.args.parent.serial % 2 ^ 32)) c.as_bytes-byte-items.ensures.value

pub loop-byte-preserved : goal.loop-byte-preserved
loop-byte-preserved c =
    let bytes = c.as_bytes-byte-items.result.now in
    let i = c.loop-byte.byte-index in
    ap (λ b. mark_from ((c.loop-byte.mark * 16777619 % 2 ^ 32 + b) % 2 ^ 32) (drop (i + 1) bytes)) c.from.ensures
    ∙ sym (at_drop_more (mark_from c.loop-byte.mark) bytes i 0 c.loop-byte-test.true)
    ∙ c.loop-byte.invariant

pub returns : goal.returns
returns c = ap (mark_from c.loop-byte.mark) (sym (drop_of_length-le c.as_bytes-byte-items.result.now (omega (arith, c.loop-byte-test.false)))) ∙ c.loop-byte.invariant
