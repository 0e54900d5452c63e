-- What a call of a mirrored kernel adds to what was asked of the files.
use Rattle.std.proofs.Common.{◌≡◌, ℕ, Bool, refl, sym, ◌∙◌, subst, inl, inr}
use Rattle.std.proofs.lemmas.List.{append_assoc}
use Rattle.std.proofs.lemmas.Bool.{both_ways, true≢false}
use Rattle.std.specs.Prelude.{true, false, List, [], ◌∷◌, ◌++◌, Option, Some, None, is_some, Result, Ok, Err, is_ok, is_err}
use Rattle.faults.specs.declared.or_memory.OrMemory.{OrMemory}
use Rattle.faults.specs.declared.or_memory.OrMemory.TheVariants.{Memory, Fault}
use Rattle.cpu_set.specs.Ids.{Ids}
use Rattle.kernel_model.specs.declared.KernelFault.{KernelFault}
use Rattle.kernel_model.specs.declared.KernelFault.TheVariants.{Failed}
use Rattle.kernel_model.specs.Trace.{WritingCall}
use Rattle.kernel_model.specs.KernelState.{KernelState}
use Rattle.kernel_model.specs.WellFormed.{IsWellFormed}
use Rattle.kernel_model.specs.Cases.{WritesCpus}
use Rattle.cpuset_tree.specs.declared.Group.{Group}
use Rattle.cpuset_tree.specs.TreeState.{TreeState}
use Rattle.cpuset_tree.specs.Effective.{effective_cpus}
use Rattle.cpuset_tree.specs.Places.{place_of}
use Rattle.cgroup_tree.specs.Asked.{Deed, Compared, Asked, NoRoom, NoName, IsLeft, Asks, Opening, done, refusal, notice}
use Rattle.cgroup_tree.specs.Mirrored.{mirrored, Mirrors, MirrorsAt, TriesWhere, AsksNone, MirrorsBoth, AsksLooks, MirrorsLooks, looks_behind}
use Rattle.cgroup_tree.specs.Events.{Event, Happens, IsAsked, IsAskedAt, IsNoticed, AreAsked, AreAskedAndLooked, AsksFor, Past, IsMirrored, IsMirroredAt}
use Rattle.cgroup_tree.specs.Site.{Beginning, Begins, Site, opening}
use Rattle.cgroup_tree.specs.Paths.{folder, list_line, cpus_in_effect}
use Rattle.cgroup_tree.specs.Stands.{FilesStand}
use Rattle.cgroup_tree.specs.PastLemmas.{placed_free, past_kept, pasts_stand, pasts_are_told}
use Rattle.cgroup_tree.specs.FirstLemmas.{first_mirrored}

-- some calls more, which are these
pub record Grown {F : Type 0} (asked : F → Opening → List Asked → Type 0) (old : F) (Are : List Asked → Type 0) (new : F) : Type 0 where
  pub these : List Asked
  pub are : Are these
  pub asks : Asks asked old these new

module _ {F : Type 0} (asked : F → Opening → List Asked → Type 0) (old new : F) where
  pub grown : {A : Type 0} → (deed : Deed) (r : Result A KernelFault) → Mirrors asked old deed r new → Grown asked old (IsAsked deed r) new
  grown deed (Ok value) asks = record { these = done deed ∷ []; are = refl; asks = asks }
  grown deed (Err Failed) asks = record { these = refusal deed; are = refl; asks = asks }
  grown deed (Err fault) asks = record { these = []; are = refl; asks = asks }

  pub grown_at : {P A : Type 0} → (place : Option P) (root : List ℕ) (deed : Deed) (r : Result A KernelFault) → MirrorsAt asked old place root deed r new
      → Grown asked old (IsAskedAt place root deed r) new
  grown_at None root deed (Ok value) asks = record { these = []; are = refl; asks = asks }
  grown_at None root deed (Err Failed) asks = record { these = notice root IsLeft; are = refl; asks = asks }
  grown_at None root deed (Err fault) asks = record { these = []; are = refl; asks = asks }
  grown_at (Some place) root deed r asks = grown deed r asks

  pub grown_looks : {A : Type 0} → (write : Deed) (looks : Bool → Bool → List Asked) (r : Result A KernelFault) → MirrorsLooks asked old write looks r new
      → Grown asked old (AreAskedAndLooked write looks r) new
  grown_looks write looks (Ok value) (same, intact, asks) = record { these = looks same intact ++ done write ∷ []; are = (same, intact, refl); asks = asks }
  grown_looks write looks (Err Failed) asks = record { these = refusal write; are = refl; asks = asks }
  grown_looks write looks (Err fault) asks = record { these = []; are = refl; asks = asks }

  grown_noticed : (name : List ℕ) → AsksNone asked old name new → Grown asked old (IsNoticed name) new
  grown_noticed name (inl asks) = record { these = notice name NoRoom; are = inl refl; asks = asks }
  grown_noticed name (inr asks) = record { these = notice name NoName; are = inr refl; asks = asks }

  pub grown_both : {A : Type 0} → (name : List ℕ) (first then undone : Deed) (r : Result A (OrMemory KernelFault)) → MirrorsBoth asked old name first then undone r new
      → Grown asked old (AreAsked name first then undone r) new
  grown_both name first then undone (Ok value) asks = record { these = done then ∷ done first ∷ []; are = refl; asks = asks }
  grown_both name first then undone (Err Memory) (inl asks) = record { these = done undone ∷ done then ∷ done first ∷ []; are = inl refl; asks = asks }
  grown_both name first then undone (Err Memory) (inr asks) = record { these = refusal undone ++ done then ∷ done first ∷ []; are = inr refl; asks = asks }
  grown_both name first then undone (Err (Fault Failed)) (inl asks) = record { these = refusal then ++ done first ∷ []; are = inl refl; asks = asks }
  grown_both name first then undone (Err (Fault Failed)) (inr (inl asks)) = record { these = refusal first; are = inr (inl refl); asks = asks }
  grown_both name first then undone (Err (Fault Failed)) (inr (inr asks)) =
      let more = grown_noticed name asks in record { these = more.these; are = inr (inr more.are); asks = more.asks }
  grown_both name first then undone (Err (Fault fault)) asks = record { these = []; are = refl; asks = asks }

-- a write, and the looks behind it
pub asks_looks : {F H : Type 0} (asked : F → H → List Asked → Type 0) (old mid new : F) (write : Deed) (looks : List Asked) → Asks asked old (done write ∷ []) mid → Asks asked mid looks new
    → Asks asked old (looks ++ done write ∷ []) new
asks_looks asked old mid new write looks first then how before held = rw (append_assoc looks (done write ∷ []) before) (then how (done write ∷ before) (first how before held))

-- a write that was done of a group that has a place was asked for
asked_there : {F P E : Type 0} (asked : F → Opening → List Asked → Type 0) (old mid : F) (place : Option P) (write : Deed) → is_some place ≡ true
    → (tried : Result (Unit {0}) E) → is_err tried ≡ false → TriesWhere asked old place write tried mid → Asks asked old (done write ∷ []) mid
asked_there asked old mid (Some place) write there (Ok value) went tries = tries
asked_there asked old mid (Some place) write there (Err error) failed tries = absurd (true≢false failed)
asked_there asked old mid None write there tried went tries = absurd (both_ways false refl there)

-- a write of CPUs that was done, and the looks behind it
pub asks_write : {F E : Type 0} (asked : F → Opening → List Asked → Type 0) (old mid new : F) (k after : KernelState) (g : Group) (cpus : Ids) (write look : Deed) (partition : Bool) (root : List ℕ)
    (tried : Result (Unit {0}) E) (r : Result (Unit {0}) KernelFault) → is_err tried ≡ false → is_ok r ≡ true → WritesCpus k g cpus r after
    → TriesWhere asked old (place_of k.tree g) write tried mid → AsksLooks asked mid partition root look new → MirrorsLooks asked old write (looks_behind partition root look) r new
asks_write asked old mid new k after g cpus write look partition root tried (Ok value) went done h tries (same, intact, looks) = (
  same,
  intact,
  asks_looks asked old mid new write (looks_behind partition root look same intact)
      (asked_there asked old mid (place_of k.tree g) write (placed_free k g h.0) tried went tries) looks,
)
asks_write asked old mid new k after g cpus write look partition root tried (Err fault) went done h tries looks = absurd (both_ways false refl done)

-- looks that were taken of the same files, the same root and the same tree
pub looks_same : {F : Type 0} (asked : F → Opening → List Asked → Type 0) (files files' : F) (partition partition' : Bool) (root root' : List ℕ) (s s' : TreeState) (g : Group) (new : F)
    → files ≡ files' → partition ≡ partition' → root ≡ root' → s ≡ s'
    → AsksLooks asked files partition root (Compared (root ++ (folder s g ++ cpus_in_effect)) (list_line (effective_cpus s g))) new
    → AsksLooks asked files' partition' root' (Compared (root' ++ (folder s' g ++ cpus_in_effect)) (list_line (effective_cpus s' g))) new
looks_same {F} asked files files' partition partition' root root' s s' g new files_are partition_is root_is tree_is looks =
    subst (λ (f : F). AsksLooks asked f partition' root' (Compared (root' ++ (folder s' g ++ cpus_in_effect)) (list_line (effective_cpus s' g))) new) files_are
    (subst (λ (p : Bool). AsksLooks asked files p root' (Compared (root' ++ (folder s' g ++ cpus_in_effect)) (list_line (effective_cpus s' g))) new) partition_is
    (subst (λ (r : List ℕ). AsksLooks asked files partition r (Compared (r ++ (folder s' g ++ cpus_in_effect)) (list_line (effective_cpus s' g))) new) root_is
    (subst (λ (t : TreeState). AsksLooks asked files partition root (Compared (root ++ (folder t g ++ cpus_in_effect)) (list_line (effective_cpus t g))) new) tree_is looks)))

-- after one call more it is so too
pub goes_on : {F : Type 0} (asked : F → Opening → List Asked → Type 0) (site : Site) (root root' : List ℕ) (memory memory' : Ids) (partition partition' : Bool) (k new : KernelState) (files after : F) (event : Event)
    → IsMirroredAt asked site root memory partition k files → (root' ≡ root) × (memory' ≡ memory) × (partition' ≡ partition) → Happens k event new
    → Grown asked files (AsksFor root memory partition k event new) after → IsMirroredAt asked site root' memory' partition' new after
unfolding Past
goes_on asked site root root' memory memory' partition partition' k new files after event held same happens more =
    let was = held.mirrored in
    let are : AsksFor site.root site.memory site.partition k event new more.these =
    subst (λ (r : List ℕ). AsksFor r site.memory site.partition k event new more.these) held.root_is
    (subst (λ (m : Ids). AsksFor root m site.partition k event new more.these) held.memory_is
    (subst (λ (p : Bool). AsksFor root memory p k event new more.these) held.partition_is more.are)) in
    record {
      mirrored = record {
        past = event ∷ was.past;
        calls = more.these ++ was.calls;
        was = (k, was.calls, more.these, was.was, happens, are, refl);
        told = pasts_are_told site (event ∷ was.past) new (more.these ++ was.calls) (k, was.calls, more.these, was.was, happens, are, refl);
        made = more.asks (opening site) was.calls was.made;
      };
      root_is = same.0 ∙ held.root_is;
      memory_is = same.1 ∙ held.memory_is;
      partition_is = same.2 ∙ held.partition_is;
    }

-- where nothing was asked
pub unasked : {F : Type 0} (asked : F → Opening → List Asked → Type 0) (old new : F) → new ≡ old → Grown asked old (λ these. these ≡ []) new
unasked asked old new same = record { these = []; are = refl; asks = λ how before held. subst (λ f. asked f how before) (sym same) held }

-- a kernel of which some calls never came to the model is well formed as the model is
pub well_mirrored : (trace : List WritingCall) (k : KernelState) → IsWellFormed k → IsWellFormed (mirrored trace k)
well_mirrored trace k well = record {
  tree = well.tree;
  table = well.table;
  placed = well.placed;
  some_reserved = well.some_reserved;
  reserved_online = well.reserved_online;
  online_present = well.online_present;
}

-- at the beginning
pub starts : {F : Type 0} (asked : F → Opening → List Asked → Type 0) (site : Site) (root : List ℕ) (memory : Ids) (partition : Bool) (trace : List WritingCall) (k inner : KernelState) (files : F)
    → k ≡ inner → trace ≡ [] → IsWellFormed inner → Begins site.first inner → root ≡ site.root → memory ≡ site.memory → partition ≡ site.partition
    → asked files (opening site) [] → IsMirroredAt asked site root memory partition (mirrored trace k) files
unfolding Past
starts asked site root memory partition trace k inner files is none_told well first root_is memory_is partition_is none =
    let b : Beginning = site.first in
    record {
      mirrored = record {
        past = [];
        calls = [];
        was = (
          record {
            well = well_mirrored trace k (subst (λ (x : KernelState). IsWellFormed x) (sym is) well);
            first = first_mirrored b.present b.reserved b.online b.nodes b.first_pid trace k none_told (subst (λ (x : KernelState). Begins b x) (sym is) first);
          },
          refl,
        );
        told = sym none_told;
        made = none;
      };
      root_is = root_is;
      memory_is = memory_is;
      partition_is = partition_is;
    }

pub stand : {F : Type 0} (asked : F → Opening → List Asked → Type 0) (site : Site) (k : KernelState) (files : F) → IsMirrored asked site k files
    → FilesStand asked site k files
stand asked site k files was =
    let it = pasts_stand site was.past k was.calls was.was in
    record { calls = was.calls; made = was.made; stands = it.0; apart = it.1 }

-- the kernel is well formed, as it was at the beginning
pub well_at : {F : Type 0} (asked : F → Opening → List Asked → Type 0) (site : Site) (root : List ℕ) (memory : Ids) (partition : Bool) (k : KernelState) (files : F)
    → IsMirroredAt asked site root memory partition k files → IsWellFormed k
well_at asked site root memory partition k files held = (past_kept site held.mirrored.past k held.mirrored.calls held.mirrored.was).well
