-- What those hold at most that are yet to let go of CPUs. No public clause cites this module.
use Rattle.std.specs.Prelude.{◌≡◌, ℕ, true, false, List, Option, Some, None}
use Rattle.std.specs.List.{AllByRecursion}
use Rattle.std.specs.FinSet as set
use Rattle.cpu_set.specs.Ids.{Ids}
use Rattle.kernel_model.specs.KernelState.{KernelState}
use Rattle.apply_plan.specs.declared.Entry.{Entry}
use Rattle.apply_plan.specs.DueWrite.{held}
use Rattle.apply_plan.specs.DirectWords.{lets_go}
use Rattle.direct_finish.specs.declared.bounds.Bounds.{Bounds}

-- the first set, if there is one, and else the second
abbrev pub or_all : Option Ids → Ids → Ids
or_all (Some own) all = own
or_all None all = all

-- what those hold at most that are pinned
abbrev pub own_of : Bounds → Ids
own_of b = or_all b.pinned b.held

-- what the entry holds, outside the reserved CPUs, is within the bounds, where it is yet to let go of some
pub record IsBounded (k : KernelState) (reserved : Ids) (b : Bounds) (d : Entry) : Type 0 where
  pub all : lets_go k reserved d ≡ true → (q : ℕ) → set.contains (held k d) q ≡ true → set.contains reserved q ≡ false → set.contains b.held q ≡ true
  pub own : lets_go k reserved d ≡ true → d.pinned ≡ true → (q : ℕ) → set.contains (held k d) q ≡ true → set.contains reserved q ≡ false
      → set.contains (own_of b) q ≡ true

-- so it is of each entry
abbrev pub AreBounded : KernelState → Ids → List Entry → Bounds → Type 0
AreBounded k reserved entries b = AllByRecursion (IsBounded k reserved b) entries

-- what is within some bounds is within others
pub record IsWithin (a b : Bounds) : Type 0 where
  pub all : (q : ℕ) → set.contains a.held q ≡ true → set.contains b.held q ≡ true
  pub own : (q : ℕ) → set.contains (own_of a) q ≡ true → set.contains (own_of b) q ≡ true
