use Rattle.std.proofs.Common.{◌≡◌, ◌%◌, sum, take}
use Rattle.slit.proofs.header.sum_modulo.Given as goal

-- the sum of the bytes so far
abbrev pub invariant-loop-byte : goal.invariant-loop-byte
invariant-loop-byte l = l.sum ≡ sum (take l.byte-index l.bytes) % 256
