-- A text is a list of one set alone; and what was found of a root later could be found before.
use Rattle.std.proofs.Common.{◌≡◌, ℕ, Bool, true, false, List, refl, sym, ap, ◌∙◌, subst, inl, inr}
use Rattle.std.specs.FinSet as set
use Rattle.std.proofs.lemmas.Bool.{both_ways}
use Rattle.cpu_set.specs.Ids.{Ids, is_same}
use Rattle.cpu_set.specs.PointwiseLaws.{is_same_decides, same_members}
use Rattle.std.specs.declared.io.ErrorKind.{ErrorKind}
use Rattle.std.specs.Prelude.{◌⊎◌, Option, Result, Ok, Err, [], ◌∷◌}
use Rattle.cgroup_tree.specs.Asked.{Asked, Stranger, Locked, refused}
use Rattle.cgroup_tree.specs.Roots.{AnswersRoot, Finding, FindsNoMore, IsFolder, IsTaken, IsListOf, IsFound, CantRead, LooksAtControllers, LooksAtCpus, LooksAtLock, LooksAtMachine, LooksAtMems, LooksAtPartition, LooksAtStrangers, MachineTells, RootTells, Tells, behind_lock, AreOthers, HaveOthers}
use Rattle.cgroup_tree.specs.declared.fault.RootFault.{RootFault}
use Rattle.cgroup_tree.specs.declared.fault.RootFault.TheVariants.{Memory, Taken, Unlocked, Unread, NoCpuset, OtherMachine, NoPartition}

-- a list is one of no other numbers
pub one_set : (text : List ℕ) (s t : Ids) → IsListOf text s → IsListOf text t → s ≡ t
one_set text s t first then = same_members s t (λ n. first.1 n ∙ sym (then.1 n))

-- a text that is a list of some numbers is one of these exactly where they are the same
pub is_just : (text : List ℕ) (found ids : Ids) (b : Bool) → IsListOf text found → b ≡ is_same found ids
    → (b ≡ true → IsListOf text ids) × (IsListOf text ids → b ≡ true)
is_just text found ids b is says = (
  λ yes. subst (λ (s : Ids). IsListOf text s) ((is_same_decides found ids).0 (sym says ∙ yes)) is,
  λ also. says ∙ (is_same_decides found ids).1 (one_set text found ids is also),
)

-- where they are not within these nodes, no others that it is a list of are
pub no_other : (text : List ℕ) (found nodes : Ids) (b : Bool) → IsListOf text found → b ≡ set.is_subset found nodes → b ≡ false
    → (memory : Ids) → IsListOf text memory → set.is_subset memory nodes ≡ true → ⊥
no_other text found nodes b is says fails memory also within =
    both_ways (set.is_subset found nodes) (sym says ∙ fails) (ap (λ (s : Ids). set.is_subset s nodes) (one_set text found memory is also) ∙ within)

-- what was found behind the lock could be found before it
module _ (old new : List ℕ → Finding → Type 0) (less : FindsNoMore old new) (root : List ℕ) where
  found_before : (file : List ℕ) (Is : Option (List ℕ) → Type 0) → IsFound new root file Is → IsFound old root file Is
  found_before file Is found = (found.0, less _ _ found.1, found.2)

  unread_before : (file : List ℕ) (why : RootFault) → CantRead new root file why → CantRead old root file why
  unread_before file (Unread kind) cant = less _ _ cant
  unread_before file Memory cant = tt
  unread_before file Taken cant = absurd cant
  unread_before file (Unlocked kind) cant = absurd cant
  unread_before file NoCpuset cant = absurd cant
  unread_before file OtherMachine cant = absurd cant
  unread_before file NoPartition cant = absurd cant

  partition_before : (partition : Bool) (answer : Result (Unit {0}) RootFault) → LooksAtPartition new root partition answer → LooksAtPartition old root partition answer
  partition_before false (Ok done) look = tt
  partition_before false (Err why) look = absurd look
  partition_before true (Ok done) look = found_before _ _ look
  partition_before true (Err NoPartition) look = found_before _ _ look
  partition_before true (Err (Unread kind)) look = less _ _ look
  partition_before true (Err Memory) look = tt
  partition_before true (Err Taken) look = absurd look
  partition_before true (Err (Unlocked kind)) look = absurd look
  partition_before true (Err NoCpuset) look = absurd look
  partition_before true (Err OtherMachine) look = absurd look

  mems_before : (nodes memory : Ids) → LooksAtMems new root nodes (Ok memory) → LooksAtMems old root nodes (Ok memory)
  mems_before nodes memory look = found_before _ _ look

  -- the looks at the nodes and at the partition file, where the others are for the root
  mems_on_before : (nodes : Ids) (partition : Bool) (why : RootFault) → (LooksAtMems new root nodes (Err why) → LooksAtMems old root nodes (Err why))
      → LooksAtMems new root nodes (Err why) ⊎ (((memory : Ids) × LooksAtMems new root nodes (Ok memory)) × LooksAtPartition new root partition (Err why))
      → LooksAtMems old root nodes (Err why) ⊎ (((memory : Ids) × LooksAtMems old root nodes (Ok memory)) × LooksAtPartition old root partition (Err why))
  mems_on_before nodes partition why before (inl look) = inl (before look)
  mems_on_before nodes partition why before (inr (have, look)) = inr ((have.0, mems_before nodes have.0 have.1), partition_before partition (Err why) look)

  pub looks_before : (online nodes : Ids) (partition : Bool) (answer : Result Ids RootFault) → LooksAtMachine new root online nodes partition answer
      → LooksAtMachine old root online nodes partition answer
  looks_before online nodes partition (Ok memory) looks =
      (found_before _ _ looks.0, found_before _ _ looks.1, mems_before nodes memory looks.2, partition_before partition (Ok tt) looks.3)
  looks_before online nodes partition (Err Memory) looks = tt
  looks_before online nodes partition (Err (Unread kind)) (inl cant) = inl (less _ _ cant)
  looks_before online nodes partition (Err (Unread kind)) (inr (has, inl cant)) = inr (found_before _ _ has, inl (less _ _ cant))
  looks_before online nodes partition (Err (Unread kind)) (inr (has, inr (are, rest))) =
      inr (found_before _ _ has, inr (found_before _ _ are, mems_on_before nodes partition (Unread kind) (λ cant. less _ _ cant) rest))
  looks_before online nodes partition (Err Taken) (inl cant) = absurd cant
  looks_before online nodes partition (Err Taken) (inr (has, inl cant)) = absurd cant
  looks_before online nodes partition (Err Taken) (inr (has, inr (are, rest))) =
      inr (found_before _ _ has, inr (found_before _ _ are, mems_on_before nodes partition Taken (λ cant. cant) rest))
  looks_before online nodes partition (Err (Unlocked kind)) (inl cant) = absurd cant
  looks_before online nodes partition (Err (Unlocked kind)) (inr (has, inl cant)) = absurd cant
  looks_before online nodes partition (Err (Unlocked kind)) (inr (has, inr (are, rest))) =
      inr (found_before _ _ has, inr (found_before _ _ are, mems_on_before nodes partition (Unlocked kind) (λ cant. cant) rest))
  looks_before online nodes partition (Err NoCpuset) (inl lacks) = inl (found_before _ _ lacks)
  looks_before online nodes partition (Err NoCpuset) (inr (has, inl cant)) = absurd cant
  looks_before online nodes partition (Err NoCpuset) (inr (has, inr (are, rest))) =
      inr (found_before _ _ has, inr (found_before _ _ are, mems_on_before nodes partition NoCpuset (λ cant. cant) rest))
  looks_before online nodes partition (Err OtherMachine) (inl cant) = absurd cant
  looks_before online nodes partition (Err OtherMachine) (inr (has, inl other)) = inr (found_before _ _ has, inl (found_before _ _ other))
  looks_before online nodes partition (Err OtherMachine) (inr (has, inr (are, rest))) =
      inr (found_before _ _ has, inr (found_before _ _ are, mems_on_before nodes partition OtherMachine (λ other. found_before _ _ other) rest))
  looks_before online nodes partition (Err NoPartition) (inl cant) = absurd cant
  looks_before online nodes partition (Err NoPartition) (inr (has, inl cant)) = absurd cant
  looks_before online nodes partition (Err NoPartition) (inr (has, inr (are, rest))) =
      inr (found_before _ _ has, inr (found_before _ _ are, mems_on_before nodes partition NoPartition (λ cant. cant) rest))

  tells_before : (file : List ℕ) (IsOther : Option (List ℕ) → Type 0) (least most : Ids) (told : List Asked) → Tells new root file IsOther least most told
      → Tells old root file IsOther least most told
  tells_before file IsOther least most told tells = (tells.0, less _ _ tells.1, tells.2, tells.3)

  pub machine_tells_before : (online nodes : Ids) (answer : Result Ids RootFault) (told : List Asked) → MachineTells new root online nodes answer told
      → MachineTells old root online nodes answer told
  machine_tells_before online nodes (Ok memory) told tells = tells
  machine_tells_before online nodes (Err OtherMachine) told (inl tells) = inl (tells_before _ (AreOthers online) _ _ _ tells)
  machine_tells_before online nodes (Err OtherMachine) told (inr tells) = inr (tells_before _ (HaveOthers nodes) _ _ _ tells)
  machine_tells_before online nodes (Err NoPartition) told tells = (tells.0, less _ _ tells.1, tells.2, tells.3)
  machine_tells_before online nodes (Err Memory) told tells = tells
  machine_tells_before online nodes (Err Taken) told tells = tells
  machine_tells_before online nodes (Err (Unlocked kind)) told tells = tells
  machine_tells_before online nodes (Err (Unread kind)) told tells = tells
  machine_tells_before online nodes (Err NoCpuset) told tells = tells

  pub strangers_before : (adopt : Bool) (answer : Result (List Stranger) RootFault) → LooksAtStrangers new root adopt answer → LooksAtStrangers old root adopt answer
  strangers_before false (Ok strangers) look = look
  strangers_before true (Ok strangers) look = less _ _ look
  strangers_before adopt (Err Memory) look = tt
  strangers_before true (Err (Unread kind)) look = less _ _ look
  strangers_before false (Err (Unread kind)) look = absurd look
  strangers_before false (Err Taken) look = absurd look
  strangers_before true (Err Taken) look = absurd look
  strangers_before false (Err (Unlocked kind)) look = absurd look
  strangers_before true (Err (Unlocked kind)) look = absurd look
  strangers_before false (Err NoCpuset) look = absurd look
  strangers_before true (Err NoCpuset) look = absurd look
  strangers_before false (Err OtherMachine) look = absurd look
  strangers_before true (Err OtherMachine) look = absurd look
  strangers_before false (Err NoPartition) look = absurd look
  strangers_before true (Err NoPartition) look = absurd look

-- a root that has to be a partition root and is none, by the last of the looks behind the lock
pub partition_refused : (finds : List ℕ → Finding → Type 0) (root : List ℕ) (online nodes memory : Ids) (partition : Bool) (why : RootFault) → LooksAtControllers finds root (Ok tt)
    → LooksAtCpus finds root online (Ok tt) → LooksAtMems finds root nodes (Ok memory) → LooksAtPartition finds root partition (Err why)
    → LooksAtMachine finds root online nodes partition (Err why)
partition_refused finds root online nodes memory partition Memory has are have look = tt
partition_refused finds root online nodes memory partition Taken has are have look = inr (has, inr (are, inr ((memory, have), look)))
partition_refused finds root online nodes memory partition (Unlocked kind) has are have look = inr (has, inr (are, inr ((memory, have), look)))
partition_refused finds root online nodes memory partition (Unread kind) has are have look = inr (has, inr (are, inr ((memory, have), look)))
partition_refused finds root online nodes memory partition NoCpuset has are have look = inr (has, inr (are, inr ((memory, have), look)))
partition_refused finds root online nodes memory partition OtherMachine has are have look = inr (has, inr (are, inr ((memory, have), look)))
partition_refused finds root online nodes memory partition NoPartition has are have look = inr (has, inr (are, inr ((memory, have), look)))

-- why a root is refused: at its lock, and behind it
module _ (finds : List ℕ → Finding → Type 0) (root : List ℕ) (online nodes : Ids) where
  pub lock_refused : (adopt : Bool) (why : RootFault) → LooksAtLock finds root {A = Unit {0}} (Err why)
      → RootTells finds root online nodes adopt (Err why) (refused (Locked root) ∷ [])
  lock_refused adopt Taken look = refl
  lock_refused adopt (Unlocked kind) look = refl
  lock_refused adopt Memory look = inr (inl refl)
  lock_refused adopt (Unread kind) look = absurd look
  lock_refused adopt NoCpuset look = absurd look
  lock_refused adopt OtherMachine look = absurd look
  lock_refused adopt NoPartition look = absurd look

  pub answer_behind : (partition adopt : Bool) (why : RootFault) → finds root (IsFolder true) → finds root (IsTaken false)
      → LooksAtMachine finds root online nodes partition (Err why) ⊎ (((memory : Ids) × LooksAtMachine finds root online nodes partition (Ok memory)) × LooksAtStrangers finds root adopt (Err why))
      → AnswersRoot finds root online nodes partition adopt (Err why)
  answer_behind partition adopt Memory is free looks = tt
  answer_behind partition adopt Taken is free looks = inr (is, inr (free, looks))
  answer_behind partition adopt (Unlocked kind) is free looks = inr (is, inr (free, looks))
  answer_behind partition adopt (Unread kind) is free looks = inr (is, inr (free, looks))
  answer_behind partition adopt NoCpuset is free looks = inr (is, inr (free, looks))
  answer_behind partition adopt OtherMachine is free looks = inr (is, inr (free, looks))
  answer_behind partition adopt NoPartition is free looks = inr (is, inr (free, looks))

  -- no look behind the lock answers that another program has the root, or that it can't be locked
  partition_not_taken : (partition : Bool) → LooksAtPartition finds root partition (Err Taken) → ⊥
  partition_not_taken false look = look
  partition_not_taken true look = look

  partition_not_unlocked : (partition : Bool) (kind : ErrorKind) → LooksAtPartition finds root partition (Err (Unlocked kind)) → ⊥
  partition_not_unlocked false kind look = look
  partition_not_unlocked true kind look = look

  pub tells_behind : (partition adopt : Bool) (why : RootFault) (told : List Asked) → LooksAtMachine finds root online nodes partition (Err why)
      → MachineTells finds root online nodes (Err why) told → RootTells finds root online nodes adopt (Err why) (behind_lock finds root told)
  tells_behind partition adopt Taken told (inl cant) tells = absurd cant
  tells_behind partition adopt Taken told (inr (has, inl cant)) tells = absurd cant
  tells_behind partition adopt Taken told (inr (has, inr (are, inl cant))) tells = absurd cant
  tells_behind partition adopt Taken told (inr (has, inr (are, inr (have, cant)))) tells = absurd (partition_not_taken partition cant)
  tells_behind partition adopt (Unlocked kind) told (inl cant) tells = absurd cant
  tells_behind partition adopt (Unlocked kind) told (inr (has, inl cant)) tells = absurd cant
  tells_behind partition adopt (Unlocked kind) told (inr (has, inr (are, inl cant))) tells = absurd cant
  tells_behind partition adopt (Unlocked kind) told (inr (has, inr (are, inr (have, cant)))) tells =
      absurd (partition_not_unlocked partition kind cant)
  tells_behind partition adopt Memory told looks tells = inr (inr (ap (behind_lock finds root) tells))
  tells_behind partition adopt (Unread kind) told looks tells = inr (ap (behind_lock finds root) tells)
  tells_behind partition adopt NoCpuset told looks tells = (told, tells, refl)
  tells_behind partition adopt OtherMachine told looks tells = (told, tells, refl)
  tells_behind partition adopt NoPartition told looks tells = (told, tells, refl)

  -- the folders of a run before are looked for last, and nothing is told where that fails
  pub strangers_tell : (adopt : Bool) (why : RootFault) → LooksAtStrangers finds root adopt (Err why) → RootTells finds root online nodes adopt (Err why) (behind_lock finds root [])
  strangers_tell adopt Memory look = inr (inr refl)
  strangers_tell adopt (Unread kind) look = inr refl
  strangers_tell false Taken look = absurd look
  strangers_tell true Taken look = absurd look
  strangers_tell false (Unlocked kind) look = absurd look
  strangers_tell true (Unlocked kind) look = absurd look
  strangers_tell false NoCpuset look = absurd look
  strangers_tell true NoCpuset look = absurd look
  strangers_tell false OtherMachine look = absurd look
  strangers_tell true OtherMachine look = absurd look
  strangers_tell false NoPartition look = absurd look
  strangers_tell true NoPartition look = absurd look
