-- A kernel whose writes are asked of files too.
use Rattle.std.specs.Prelude.{⊤, ℕ, Bool, true, false, List, [], ◌∷◌, ◌++◌, ◌⊎◌, Option, Some, None, Result, Ok, Err}
use Rattle.faults.specs.declared.OrMemory.{OrMemory}
use Rattle.faults.specs.declared.OrMemory.TheVariants.{Memory, Fault}
use Rattle.kernel_model.specs.declared.KernelFault.{KernelFault}
use Rattle.kernel_model.specs.declared.KernelFault.TheVariants.{Failed}
use Rattle.kernel_model.specs.Trace.{WritingCall, failures_in}
use Rattle.kernel_model.specs.KernelState.{KernelState}
use Rattle.cgroup_tree.specs.Asked.{Deed, Compared, Asked, NoRoom, NoName, IsLeft, done, refusal, notice, Asks}
use Rattle.cgroup_tree.specs.Paths.{IsName, partition_file, partition_line}

-- the model, with the calls that were made of both, and as many failures as these have: what the files refused never came to the
-- model
abbrev pub mirrored : List WritingCall → KernelState → KernelState
mirrored trace k = record k { failures = failures_in trace; trace = trace }

-- a group that was made, or whose allocation in the model alone failed, has a name that a folder may have
abbrev pub IsNamed : {A : Type 0} → List ℕ → Result A (OrMemory KernelFault) → Type 0
IsNamed name (Err (Fault fault)) = ⊤
IsNamed name answer = IsName name

-- a look at a file: it is as it has to be, or is told to be another
abbrev pub looked : Deed → (same : Bool) → List Asked
looked look true = done look ∷ []
looked look false = refusal look

-- what is looked at behind a write of CPUs, the newest first: what the group has in effect; and whether the root is a partition
-- root, if it has to be one
abbrev pub looks_behind : (partition : Bool) → (root : List ℕ) → (look : Deed) → (same intact : Bool) → List Asked
looks_behind false root look same intact = looked look same
looks_behind true root look same intact = looked (Compared (root ++ partition_file) partition_line) intact ++ looked look same

module _ {F H : Type 0} (asked : F → H → List Asked → Type 0) (old : F) where
  -- this alone was asked for, and done, or refused and told
  abbrev pub Tries : {E : Type 0} → Deed → Result (Unit {0}) E → F → Type 0
  Tries deed (Ok value) new = Asks asked old (done deed ∷ []) new
  Tries deed (Err error) new = Asks asked old (refusal deed) new

  -- the same where the kernel makes the write, and nothing is asked for where it is refused
  abbrev pub TriesWhere : {P E : Type 0} → Option P → Deed → Result (Unit {0}) E → F → Type 0
  TriesWhere None deed (Ok value) new = Asks asked old [] new
  TriesWhere None deed (Err error) new = ⊥
  TriesWhere (Some place) deed answer new = Tries deed answer new

  -- what a call asks of the files, by its answer. If it is Ok, this was asked for and done. If it failed, this was asked for,
  -- refused and told. If something stood against it, nothing was asked for.
  abbrev pub Mirrors : {A : Type 0} → Deed → Result A KernelFault → F → Type 0
  Mirrors deed (Ok value) new = Asks asked old (done deed ∷ []) new
  Mirrors deed (Err Failed) new = Asks asked old (refusal deed) new
  Mirrors deed (Err fault) new = Asks asked old [] new

  -- the same of a group that has a place; of the root nothing is asked, and if it failed this is told
  abbrev pub MirrorsAt : {P A : Type 0} → Option P → (root : List ℕ) → Deed → Result A KernelFault → F → Type 0
  MirrorsAt None root deed (Err Failed) new = Asks asked old (notice root IsLeft) new
  MirrorsAt None root deed answer new = Asks asked old [] new
  MirrorsAt (Some place) root deed answer new = Mirrors deed answer new

  -- these looks were taken
  abbrev pub AsksLooks : (partition : Bool) → (root : List ℕ) → (look : Deed) → F → Type 0
  AsksLooks partition root look new = (same : Bool) × (intact : Bool) × Asks asked old (looks_behind partition root look same intact) new

  -- the same of a write behind which these looks are taken
  abbrev pub MirrorsLooks : {A : Type 0} → (write : Deed) → (looks : Bool → Bool → List Asked) → Result A KernelFault → F → Type 0
  MirrorsLooks write looks (Ok value) new = (same : Bool) × (intact : Bool) × Asks asked old (looks same intact ++ done write ∷ []) new
  MirrorsLooks write looks (Err Failed) new = Asks asked old (refusal write) new
  MirrorsLooks write looks (Err fault) new = Asks asked old [] new

  -- a folder is made once this was done, as its parent has to pass the controller on; or the one or the other was refused
  abbrev pub TriesBoth : {A E : Type 0} → Deed → Deed → Result A E → F → Type 0
  TriesBoth first then (Ok value) new = Asks asked old (done then ∷ done first ∷ []) new
  TriesBoth first then (Err error) new = Asks asked old (refusal then ++ done first ∷ []) new ⊎ Asks asked old (refusal first) new

  -- nothing was asked for, and this was told: an allocation for the path of a folder of this name failed, or no folder may have it
  abbrev pub AsksNone : List ℕ → F → Type 0
  AsksNone name new = Asks asked old (notice name NoRoom) new ⊎ Asks asked old (notice name NoName) new

  -- the same of a call that makes a folder of this name; it is unmade if the allocation of its group in the model fails. It may
  -- fail with nothing asked too.
  abbrev pub MirrorsBoth : {A : Type 0} → (name : List ℕ) → Deed → Deed → Deed → Result A (OrMemory KernelFault) → F → Type 0
  MirrorsBoth name first then undone (Ok value) new = Asks asked old (done then ∷ done first ∷ []) new
  MirrorsBoth name first then undone (Err Memory) new =
      Asks asked old (done undone ∷ done then ∷ done first ∷ []) new ⊎ Asks asked old (refusal undone ++ done then ∷ done first ∷ []) new
  MirrorsBoth name first then undone (Err (Fault Failed)) new =
      Asks asked old (refusal then ++ done first ∷ []) new ⊎ Asks asked old (refusal first) new ⊎ AsksNone name new
  MirrorsBoth name first then undone (Err (Fault fault)) new = Asks asked old [] new
