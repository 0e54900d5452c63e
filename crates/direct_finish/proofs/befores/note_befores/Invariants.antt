use Rattle.std.proofs.Common.{◌≡◌, length}
use Rattle.direct_finish.specs.Settled.{BeforesUpto}
use Rattle.direct_finish.proofs.befores.note_befores.Given as goal

abbrev pub invariant-loop-place : goal.invariant-loop-place
invariant-loop-place l = length l.befores ≡ length l.nexts

-- those before this place are noted
abbrev pub invariant-loop-place-2 : goal.invariant-loop-place-2
invariant-loop-place-2 l = record {
  room : length l.befores ≡ length l.nexts;
  upto : BeforesUpto l.nexts l.befores l.place;
}
