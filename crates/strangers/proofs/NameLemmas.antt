-- Strangers by their names, as the program has them.
use Rattle.std.proofs.Common.{◌≡◌, ℕ, Bool, true, false, cond, not, ◌||◌, List, [], ◌∷◌, filter, bytes_eq, string_bytes, refl, ap}
use Rattle.std.specs.List.{list_any}
use Rattle.cgroup_tree.specs.Asked.{Stranger, named}
use Rattle.cgroup_tree.specs.declared.stranger.Stranger.{Stranger as Struct}
use Rattle.strangers.specs.Guarded.{knows, without}

pub knows_named : (name : List ℕ) (strangers : List Struct) → knows (named strangers) name ≡ list_any (λ (s : Struct). bytes_eq (string_bytes s.name) name) strangers
knows_named name [] = refl
knows_named name (s ∷ strangers) = ap (λ (b : Bool). bytes_eq (string_bytes s.name) name || b) (knows_named name strangers)

pub without_named : (name : List ℕ) (strangers : List Struct) → named (filter (λ (s : Struct). not (bytes_eq (string_bytes s.name) name)) strangers) ≡ without (named strangers) name
without_named name [] = refl
without_named name (s ∷ strangers) = at (bytes_eq (string_bytes s.name) name) (without_named name strangers)
  where
    at :
        (b : Bool) → named (filter (λ (t : Struct). not (bytes_eq (string_bytes t.name) name)) strangers) ≡ without (named strangers) name
        → named (cond (not b) (s ∷ filter (λ (t : Struct). not (bytes_eq (string_bytes t.name) name)) strangers) (filter (λ (t : Struct). not (bytes_eq (string_bytes t.name) name)) strangers))
        ≡ cond (not b) ((string_bytes s.name, s.cpus) ∷ without (named strangers) name) (without (named strangers) name)
    at true rest = rest
    at false rest = ap (λ (later : List Stranger). (string_bytes s.name, s.cpus) ∷ later) rest
