-- The lesser of two numbers, each of which may be missing.
use Rattle.std.specs.Prelude.{ℕ, Option, Some, None, nat_le, cond}

abbrev pub lesser : Option ℕ → Option ℕ → Option ℕ
lesser None other = other
lesser (Some a) None = Some a
lesser (Some a) (Some b) = Some (cond (nat_le a b) a b)
