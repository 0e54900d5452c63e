use Rattle.std.proofs.Common.{ℕ, ◌<◌, [], get_or}
use Rattle.std.specs.FinSet as set
use Rattle.twins.specs.IsGrouping.{class_at}
use Rattle.network_simplex.specs.HasRoom.{Fit}
use Rattle.network_simplex.proofs.room.has_room.Given as goal

abbrev pub invariant-loop-g : goal.invariant-loop-g
invariant-loop-g l = (i : ℕ) → i < l.g → Fit l.rows (set.len (class_at l.classes i)) (get_or l.holdings i [])
