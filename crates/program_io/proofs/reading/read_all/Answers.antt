-- Where the reader is stopped it gave what was read before, and the last piece.
use Rattle.std.proofs.Common.{◌≡◌, ◌∙◌, ◌++◌, ap, arith, rules, ◌+◌, drop, length, length-take, take}
use Rattle.std.proofs.lemmas.List.{take-append-le}
use Rattle.std.proofs.lemmas.Result.{err_from_is_err_and}
use Rattle.program_io.specs.declared.reading.TheConstants.{MOST_BYTES}
use Rattle.program_io.proofs.KnownBytes.{HasGiven-more, HasGiven-none, LacksRoom-more, PassesBound-more, StopsWith-told}
use Rattle.program_io.proofs.reading.read_all.Goals as goal

pub loop-reads-init : goal.loop-reads-init
loop-reads-init g c = HasGiven-none _ c.new-bytes.result.items (search rules)

pub returns-in-Err-clause-err : goal.returns-in-Err-clause-err
returns-in-Err-clause-err g c = StopsWith-told _ _ _ _ _ _ c.from.result c.from.ensures (search rules) c.loop-reads.invariant c.in-Err.ensures.bytes

pub returns-then-count-len-clause-err : goal.returns-then-count-len-clause-err
returns-then-count-len-clause-err g c =
    let past : length c.loop-reads.bytes.items + c.in-Ok.count ≡ MOST_BYTES + 1 =
    omega (arith, c.loop-reads.invariant.within, c.if-count-len.true, c.in-Ok.ensures.bound.0, length-take c.min-room.result c.loop-reads.buffer) in
    PassesBound-more _ _ _ _ _ c.in-Ok.count c.in-Ok.ensures.bound.0 past c.loop-reads.invariant.taken c.in-Ok.ensures.bytes.0

pub returns-in_err-extend_from_slice-clause-err : goal.returns-in_err-extend_from_slice-clause-err
returns-in_err-extend_from_slice-clause-err g c =
    let fault = err_from_is_err_and c.from_residual.result c.from_residual.ensures.1 in
    rw (fault.1, fault.2) (LacksRoom-more _ _ _ _ _ c.in-Ok.count (omega (arith, c.if-count-eq0.false)) c.in-Ok.ensures.bound.0
    (omega (arith, c.loop-reads.invariant.within, c.if-count-len.false)) c.loop-reads.invariant.taken c.in-Ok.ensures.bytes.0)

pub loop-reads-preserved : goal.loop-reads-preserved
loop-reads-preserved g c =
    let n = c.in-Ok.count in
    let piece = take-append-le n c.read.new.buf (drop c.min-room.result c.loop-reads.buffer) c.in-Ok.ensures.bound.0 in
    let grown : c.extend_from_slice.new.self.items ≡ c.loop-reads.bytes.items ++ take n c.read.new.buf =
    c.in_ok-extend_from_slice.ensures.items ∙ ap (λ bytes. c.loop-reads.bytes.items ++ bytes) piece in
    rw grown (HasGiven-more _ _ _ _ _ c.read.new.buf n c.loop-reads.invariant (omega (arith, c.if-count-eq0.false)) c.in-Ok.ensures.bound.0 (search rules)
    (omega (arith, c.loop-reads.invariant.within, c.if-count-len.false)) c.in-Ok.ensures.bytes.0)
