use Rattle.std.proofs.Common.{◌≡◌, ℕ, ◌<◌, length, get_or}
use Rattle.std.specs.Prelude.{slice_get, slice_index}
use Rattle.apply_plan.specs.declared.entry.Entry.{Entry}
use Rattle.apply_plan.specs.Rings.{next}
use Rattle.apply_plan.proofs.rings.look_nexts_up.Given as goal

-- the table tells it of the entries before this one
abbrev pub invariant-loop-place : goal.invariant-loop-place
invariant-loop-place g l = record {
  room : length l.nexts ≡ length l.entries;
  tells : (i : ℕ) → i < l.place → (e : Entry) → e ≡ get_or l.entries i e
      → next (g.K.Kernel.state l.kernel) l.reserved l.entries e ≡ slice_get l.entries (slice_index l.nexts i);
}
