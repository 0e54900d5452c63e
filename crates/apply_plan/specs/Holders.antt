-- Which containers may run where: what is safe of the sets that they request.
use Rattle.std.specs.Prelude.{◌≡◌, ℕ, Bool, true, false, ◌||◌, List, [], ◌∷◌}
use Rattle.std.specs.List.{AllByRecursion}
use Rattle.std.specs.FinSet as set
use Rattle.cpu_set.specs.Ids.{Ids, is_empty}
use Rattle.cpuset_tree.specs.declared.Group.{Group}
use Rattle.cpuset_tree.specs.Groups.{requested_cpus}
use Rattle.proctable.specs.Processes.{is_alive}
use Rattle.kernel_model.specs.KernelState.{KernelState}

-- a container: its group, its first process, and whether its CPUs are its own
pub record Holder : Type 0 where
  pub group : Group
  pub pid : ℕ
  pub pinned : Bool

-- R of each and each later one
abbrev pub Pairwise : {X : Type 0} → (X → X → Type 0) → List X → Type 0
Pairwise R [] = Unit {0}
Pairwise R (x ∷ later) = AllByRecursion (R x) later × Pairwise R later

-- the CPUs that a kernel keeps for a group, as it requests them or as they are in effect
abbrev pub Sets : Type 0
Sets = Group → Ids

-- while both live and one of them is pinned, both have no CPU but reserved ones
abbrev pub AreApart : KernelState → Ids → Sets → Holder → Holder → Type 0
AreApart k reserved sets a b =
    is_alive k.table a.pid ≡ true → is_alive k.table b.pid ≡ true → (a.pinned || b.pinned) ≡ true
    → (cpu : ℕ) → set.contains (sets a.group) cpu ≡ true → set.contains (sets b.group) cpu ≡ true → set.contains reserved cpu ≡ true

-- while it lives, it has a CPU
abbrev pub HasSome : KernelState → Sets → Holder → Type 0
HasSome k sets a = is_alive k.table a.pid ≡ true → is_empty (sets a.group) ≡ false

-- outside the reserved CPUs a live pinned container shares none with another live one, and no live one has none
pub record AreSafe (k : KernelState) (reserved : Ids) (sets : Sets) (holders : List Holder) : Type 0 where
  pub apart : Pairwise (AreApart k reserved sets) holders
  pub some : AllByRecursion (HasSome k sets) holders

-- what is requested is safe: outside the reserved CPUs a live pinned container shares none with another live one, and each
-- live one requests some
abbrev pub IsSafe : KernelState → Ids → List Holder → Type 0
IsSafe k reserved holders = AreSafe k reserved (requested_cpus k.tree) holders
