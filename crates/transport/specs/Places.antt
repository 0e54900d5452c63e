-- The places of marks.
use Rattle.std.specs.Prelude.{ℕ, Bool, List, filter, length}
use Rattle.std.specs.List.{range_with_len}
use Rattle.transport.specs.Numbers.{is_marked}

-- in rising order
abbrev pub marked_places : List Bool → List ℕ
marked_places marks = filter (is_marked marks) (range_with_len 0 (length marks))
