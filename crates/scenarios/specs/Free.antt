-- Targets that are apart from those before them. No public clause cites this module.
use Rattle.std.specs.Prelude.{◌≡◌, ℕ, true, cond, List, [], ◌∷◌}
use Rattle.std.specs.FinSet as set
use Rattle.cpu_set.specs.Ids.{Ids}
use Rattle.apply_plan.specs.declared.Entry.{Entry}

-- outside the reserved CPUs a pinned one meets nothing that any is to have, and another nothing that a pinned one is
abbrev pub IsFree : Ids → Ids → Ids → Entry → Type 0
IsFree reserved any pinned e =
    (cpu : ℕ) → set.contains e.target cpu ≡ true → set.contains (cond e.pinned any pinned) cpu ≡ true → set.contains reserved cpu ≡ true

-- what the pinned ones are to have, with one more
abbrev pub with_pinned : Ids → Entry → Ids
with_pinned pinned e = cond e.pinned (set.union pinned e.target) pinned

-- each of them is, with those before it
abbrev pub AreFree : Ids → Ids → Ids → List Entry → Type 0
AreFree reserved any pinned [] = Unit {0}
AreFree reserved any pinned (e ∷ later) = IsFree reserved any pinned e × AreFree reserved (set.union any e.target) (with_pinned pinned e) later
