-- A direct hand-over as a plain value: containers with their targets, and beside each the CPUs that it is allowed.
use Rattle.std.specs.Prelude.{◌≡◌, ℕ, ◌≤◌, true, false, cond, List, [], ◌∷◌, refl}
use Rattle.std.specs.FinSet as set
use Rattle.std.specs.Coded.{Coded, code_by, coded×, coded_list}
use Rattle.std.specs.List.{AllByRecursion}
use Rattle.cpu_set.specs.Ids.{Ids, ids_code, is_empty}
use Rattle.cpu_set.specs.Members.{InRange}
use Rattle.cpuset_tree.specs.Groups.{same_group}
use Rattle.apply_plan.specs.declared.entry.Entry.{Entry}
use Rattle.apply_plan.specs.Targets.{Targets, targets_code, IsHandover}

-- containers with their targets, the reserved CPUs, and what each container is allowed
pub record Directed : Type 0 where
  pub targets : Targets
  pub allowed : List Ids

-- a direct hand-over is stored as the pair of its parts
abbrev pub directed_code : Coded Directed
directed_code =
    code_by (Targets × List Ids) (coded× targets_code (coded_list ids_code)) (λ d. (d.targets, d.allowed)) (λ p. record { targets = p.0; allowed = p.1 }) (λ _. refl)

-- the CPUs that a container is allowed, by the lists of both; one that has no such set is allowed none beside its target
abbrev pub allowed_in : List Entry → List Ids → Entry → Ids
allowed_in [] sets e = set.empty
allowed_in (d ∷ later) [] e = set.empty
allowed_in (d ∷ later) (s ∷ sets) e = cond (same_group d.group e.group) s (allowed_in later sets e)

-- the CPUs that a container of a direct hand-over is allowed
abbrev pub allowed_of : Directed → Entry → Ids
allowed_of d e = allowed_in d.targets.entries d.allowed e

-- the least CPUs of a set, so many as are asked for, or as many as make whole cores up. Where CPUs are given by cores, those of a
-- core of which the set has a part alone are not given.
abbrev pub Least : Type 0
Least = Ids → ℕ → Ids

-- they are CPUs of the set; and of a set, all below the limit, of which one can be given, some are given if some are asked for
pub record IsLeast (least : Least) : Type 0 where
  pub within : (s : Ids) (count cpu : ℕ) → set.contains (least s count) cpu ≡ true → set.contains s cpu ≡ true
  pub some : (s : Ids) (count : ℕ) → InRange s → is_empty (least s 1) ≡ false → 1 ≤ count → is_empty (least s count) ≡ false

-- when a direct hand-over may begin
pub record IsDirected (d : Directed) : Type 0 where
  pub handover : IsHandover d.targets
  pub ranged : AllByRecursion InRange d.allowed

-- the CPUs that are given out suit what containers are allowed
pub record Serves (d : Directed) (least : Least) : Type 0 where
  pub told : IsLeast least
  pub ranged : AllByRecursion InRange d.allowed
