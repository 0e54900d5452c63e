-- Who is known to be needed, while the CPUs that these may have are looked at.
use Rattle.std.specs.Prelude.{◌≡◌, ℕ, ◌<◌, ◌≤◌, ◌==◌, Bool, true, false, ◌&&◌, List, All, Contains, length, slice_index_or}
use Rattle.std.specs.List.Sorted.{IsStrictlyIncreasing}
use Rattle.std.specs.FinSet as set
use Rattle.cpu_set.specs.Ids.{Ids}
use Rattle.cpu_set.specs.Members.{IsCpu}
use Rattle.cpu_set.specs.Those.{those}
use Rattle.cpu_set.specs.declared.TheConstants.{CPU_LIMIT}
use Rattle.certificate.specs.RowView.{RowView}
use Rattle.hall.specs.Needed.{IsPartPlan, AreKnown, IsOpenToKnown}

-- who holds CPU c
abbrev pub owner : List ℕ → ℕ → ℕ
owner own c = slice_index_or own c 0

-- whether row k is marked
abbrev pub is_marked : List Bool → ℕ → Bool
is_marked marks k = slice_index_or marks k false

-- members of a shortage hold CPUs, and nobody else does: each has what it asks for, but for the root
pub record IsOwned (rows : List RowView) (members own : List ℕ) (root lacking : ℕ) : Type 0 where
  pub rising : IsStrictlyIncreasing members
  pub there : All (λ k. k < length rows) members
  pub part : IsPartPlan rows members (owner own) root lacking
  pub holders : (c : ℕ) → IsCpu c → owner own c < length rows → Contains members (owner own c)

-- how many CPUs of a set row k holds
abbrev pub held_in : List ℕ → Ids → ℕ → ℕ
held_in own seen k = set.len (those (λ c. (owner own c == k) && set.contains seen c) CPU_LIMIT)

-- the marked rows are known to be needed, and may have the CPUs that were seen; of those each row holds as many as were
-- counted, or more
pub record IsMarking (rows : List RowView) (members own : List ℕ) (root : ℕ) (known : List Bool) (seen : Ids) (of_row : List ℕ) : Type 0 where
  pub long : length known ≡ length rows
  pub known_are : AreKnown rows members root (is_marked known)
  pub seen_open : (c : ℕ) → set.contains seen c ≡ true → IsOpenToKnown rows (is_marked known) c
  pub counted : (k : ℕ) → slice_index_or of_row k 0 ≤ held_in own seen k

-- marked rows stay so
abbrev pub IsMore : List Bool → List Bool → Type 0
IsMore old new = (k : ℕ) → is_marked old k ≡ true → is_marked new k ≡ true

-- each row of the queue is marked
abbrev pub AreQueued : List Bool → List ℕ → Type 0
AreQueued known queue = (i : ℕ) → i < length queue → is_marked known (slice_index_or queue i 0) ≡ true
