use Rattle.std.proofs.Common.{◌≡◌, drop}
use Rattle.cpuset_tree.specs.Kept.{mark_from, mark_of}
use Rattle.cpuset_tree.proofs.marks.mark_of.Given as goal

-- the bytes that are left lead from this mark to that of the whole name
abbrev pub invariant-loop-byte : goal.invariant-loop-byte
invariant-loop-byte l = mark_from l.mark (drop l.byte-index l.byte-items) ≡ mark_of l.fn.parent l.name
