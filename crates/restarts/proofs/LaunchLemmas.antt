-- What making a container leaves of the others' groups and processes.
use Rattle.std.proofs.Common.{◌≡◌, inl, inr, ℕ, Bool, true, false, List, refl, sym, ap, ◌∙◌, subst}
use Rattle.std.proofs.lemmas.Bool.{false≢true}
use Rattle.std.proofs.lemmas.Slice.Eq.{bytes_eq-Decides}
use Rattle.std.specs.Prelude.{Option, Some, None, Result, Ok, Err, IfOk, is_some}
use Rattle.std.specs.Str.{bytes_eq}
use Rattle.faults.specs.declared.OrMemory.{OrMemory}
use Rattle.faults.specs.declared.OrMemory.TheVariants.{Memory, Fault}
use Rattle.cpu_set.specs.Ids.{Ids}
use Rattle.cpuset_tree.specs.declared.Group.{Group}
use Rattle.cpuset_tree.specs.TreeState.{GroupEntry}
use Rattle.cpuset_tree.specs.Groups.{same_group, entry_of, child_of, requested_cpus}
use Rattle.cpuset_tree.specs.GroupLemmas.{same_group-equal}
use Rattle.cpuset_tree.specs.TreeLaws.{IsChild}
use Rattle.cpuset_tree.specs.TreeLemmas.{found_is_child}
use Rattle.proctable.specs.TableState.{TableState}
use Rattle.proctable.specs.Processes.{is_alive}
use Rattle.kernel_model.specs.declared.KernelFault.{KernelFault}
use Rattle.kernel_model.specs.KernelState.{KernelState}
use Rattle.kernel_model.specs.WellFormed.{IsWellFormed}
use Rattle.kernel_model.specs.Cases.{Spawns}
use Rattle.kernel_model.specs.KernelLemmas.{writes_leave_groups, writes_keep_processes, writes_keep_tree, calls_leave_processes}
use Rattle.node.specs.Launch.{AtOnce, FindsOr, FindsOrMakes, WritesSets, StartsIn, Launches}

abbrev table_of : KernelState → TableState
table_of k = k.table

-- whose group is this: all others request what they did, and all processes live that did
pub record KeepsOthers (old : KernelState) (g : Group) (new : KernelState) : Type 0 where
  pub requests : (p : Group) → same_group g p ≡ false → requested_cpus new.tree p ≡ requested_cpus old.tree p
  pub lives : (q : ℕ) → is_alive old.table q ≡ true → is_alive new.table q ≡ true

if_ok : {A E : Type 0} (P : Type 0) (r : Result A E) → P → IfOk r (λ _. P)
if_ok P (Ok value) p = p
if_ok P (Err error) p = tt

still_alive : (old new : KernelState) → new.table ≡ old.table → (q : ℕ) → is_alive old.table q ≡ true → is_alive new.table q ≡ true
still_alive old new same q live = ap (λ (t : TableState). is_alive t q) same ∙ live

module _ (g : Group) (cpus mems : Ids) where
  -- what a write of a group's sets leaves
  pub record SetsLeave (old : KernelState) (r : Result (Unit {0}) KernelFault) (new : KernelState) : Type 0 where
    pub others : (p : Group) → same_group g p ≡ false → requested_cpus new.tree p ≡ requested_cpus old.tree p
    pub table : new.table ≡ old.table
    pub own : IfOk r (λ _. requested_cpus new.tree g ≡ cpus)

  pub sets_leave : (old : KernelState) (r : Result (Unit {0}) KernelFault) (new : KernelState) → WritesSets old g cpus mems r new → SetsLeave old r new
  sets_leave old r new (inl (fault, refused, is)) = record {
    others = (writes_leave_groups.cpus old new g cpus (Err fault) refused).others;
    table = (writes_keep_processes.cpus old new g cpus (Err fault) refused).0;
    own = subst (λ (x : Result (Unit {0}) KernelFault). IfOk x (λ _. requested_cpus new.tree g ≡ cpus)) (sym is) tt;
  }
  sets_leave old r new (inr (done, mid, first, second)) =
      let one = writes_leave_groups.cpus old mid g cpus (Ok done) first in
      let two = writes_leave_groups.mems mid new g mems r second in
      record {
        others = λ p other. two.cpus p ∙ one.others p other;
        table = (writes_keep_processes.mems mid new g mems r second).0 ∙ (writes_keep_processes.cpus old mid g cpus (Ok done) first).0;
        own = if_ok (requested_cpus new.tree g ≡ cpus) r (two.cpus g ∙ one.own);
      }

  -- and with it a first process
  pub record StartLeaves (old : KernelState) (r : Result ℕ (OrMemory KernelFault)) (new : KernelState) : Type 0 where
    pub keeps : KeepsOthers old g new
    pub own : IfOk r (λ pid. (requested_cpus new.tree g ≡ cpus) × (is_alive new.table pid ≡ true))

  refused_start : (old : KernelState) (e : OrMemory KernelFault) (new : KernelState) → AtOnce (WritesSets old g cpus mems) (Err e) new → KeepsOthers old g new
  refused_start old Memory new none = absurd none
  refused_start old (Fault fault) new writes =
      let left = sets_leave old (Err fault) new writes in
      record { requests = left.others; lives = still_alive old new left.table }

  spawned : (mid new : KernelState) (r : Result ℕ (OrMemory KernelFault)) → Spawns mid g r new
      → ((q : ℕ) → is_alive mid.table q ≡ true → is_alive new.table q ≡ true) × IfOk r (λ pid. is_alive new.table pid ≡ true)
  spawned mid new (Ok pid) spawns =
      let added = (calls_leave_processes.spawn mid new g (Ok pid) spawns).made in
      (λ q live. ap is_some (added.others q (added.differs q live)) ∙ live, ap is_some added.there)
  spawned mid new (Err error) spawns = (still_alive mid new (calls_leave_processes.spawn mid new g (Err error) spawns).refused, tt)

  both_own : (r : Result ℕ (OrMemory KernelFault)) (new : KernelState) → requested_cpus new.tree g ≡ cpus → IfOk r (λ pid. is_alive new.table pid ≡ true)
      → IfOk r (λ pid. (requested_cpus new.tree g ≡ cpus) × (is_alive new.table pid ≡ true))
  both_own (Ok pid) new requests live = (requests, live)
  both_own (Err error) new requests live = tt

  pub start_leaves : (old : KernelState) (r : Result ℕ (OrMemory KernelFault)) (new : KernelState) → StartsIn old g cpus mems r new → StartLeaves old r new
  start_leaves old r new (inl (fault, refused, is)) = record {
    keeps = refused_start old fault new refused;
    own = subst (λ (x : Result ℕ (OrMemory KernelFault)). IfOk x (λ pid. (requested_cpus new.tree g ≡ cpus) × (is_alive new.table pid ≡ true))) (sym is) tt;
  }
  start_leaves old r new (inr (done, mid, writes, spawns)) =
      let sets = sets_leave old (Ok done) mid writes in
      let tree : new.tree ≡ mid.tree = writes_keep_tree.spawn mid new g r spawns in
      let made = spawned mid new r spawns in
      record {
        keeps = record {
          requests = λ p other. ap (λ t. requested_cpus t p) tree ∙ sets.others p other;
          lives = λ q live. made.0 q (still_alive old mid sets.table q live);
        };
        own = both_own r new (ap (λ t. requested_cpus t g) tree ∙ sets.own) made.1;
      }

module _ (parent : Group) (name : List ℕ) (old : KernelState) where
  -- a group that is found or made changes nothing of what is requested, and no process
  found_leaves : (o : Option Group) (r : Result Group (OrMemory KernelFault)) (new : KernelState) → FindsOr o old parent name r new
      → ((p : Group) → requested_cpus new.tree p ≡ requested_cpus old.tree p) × (new.table ≡ old.table)
  found_leaves (Some g) r new f = (λ p. ap (λ (k : KernelState). requested_cpus k.tree p) f.1, ap table_of f.1)
  found_leaves None r new f = ((writes_leave_groups.make old new parent name r f).cpus, (writes_keep_processes.make old new parent name r f).0)

  -- it is another than the child of another name
  module _ (well : IsWellFormed old) (p : Group) (other : List ℕ) (child : IsChild old.tree parent other p) (differ : bytes_eq name other ≡ false) where
    names_apart : (g : Group) → IsChild old.tree parent name g → same_group g p ≡ false
    names_apart g c = by (same_group g p) refl where
      by : (t : Bool) → same_group g p ≡ t → same_group g p ≡ false
      by false t = t
      by true t =
          let there : entry_of old.tree p ≡ Some c.entry = subst (λ x. entry_of old.tree x ≡ Some c.entry) (same_group-equal g p t) c.there in
          let same : c.entry ≡ child.entry = let both : Some c.entry ≡ Some child.entry = sym there ∙ child.there in cc in
          let names : name ≡ other = sym c.named ∙ ap (λ (e : GroupEntry). e.name) same ∙ child.named in
          absurd (false≢true (sym differ ∙ (bytes_eq-Decides name other).1 names))

    apart_by : (o : Option Group) → child_of old.tree parent name ≡ o → (g : Group) (mid : KernelState) → FindsOr o old parent name (Ok g) mid → same_group g p ≡ false
    apart_by (Some found) was g mid f =
        let same : found ≡ g = let both : Ok found ≡ Ok g = sym f.0 in cc in
        names_apart g (found_is_child old.tree parent name g well.tree (was ∙ ap Some same))
    apart_by None was g mid f = (writes_leave_groups.make old mid parent name (Ok g) f).made.differs p (ap is_some child.there)

    pub is_apart : (g : Group) (mid : KernelState) → FindsOrMakes old parent name (Ok g) mid → same_group g p ≡ false
    is_apart g mid f = apart_by (child_of old.tree parent name) refl g mid f

    kept : (cpus mems : Ids) (g : Group) (r : Result ℕ (OrMemory KernelFault)) (mid new : KernelState) → FindsOrMakes old parent name (Ok g) mid
        → StartsIn mid g cpus mems r new
        → (requested_cpus new.tree p ≡ requested_cpus old.tree p) × ((q : ℕ) → is_alive old.table q ≡ true → is_alive new.table q ≡ true)
    kept cpus mems g r mid new finds starts =
        let first = found_leaves (child_of old.tree parent name) (Ok g) mid finds in
        let left = (start_leaves g cpus mems mid r new starts).keeps in
        (left.requests p (is_apart g mid finds) ∙ first.0 p, λ q live. left.lives q (still_alive old mid first.1 q live))

    -- so it requests what it did after a launch, whatever was answered, and its process lives on
    pub launch_keeps : (cpus mems : Ids) (r : Result (Group × ℕ) (OrMemory KernelFault)) (new : KernelState) → Launches old parent name cpus mems r new
        → (requested_cpus new.tree p ≡ requested_cpus old.tree p) × ((q : ℕ) → is_alive old.table q ≡ true → is_alive new.table q ≡ true)
    launch_keeps cpus mems (Ok made) new (mid, finds, starts) = kept cpus mems made.0 (Ok made.1) mid new finds starts
    launch_keeps cpus mems (Err error) new (inl refused) =
        let first = found_leaves (child_of old.tree parent name) (Err error) new refused in (first.0 p, still_alive old new first.1)
    launch_keeps cpus mems (Err error) new (inr (g, mid, finds, starts)) = kept cpus mems g (Err error) mid new finds starts

  -- and its own group requests these CPUs and has a live process
  pub launched : (cpus mems : Ids) (g : Group) (pid : ℕ) (new : KernelState) → Launches old parent name cpus mems (Ok (g, pid)) new
      → (requested_cpus new.tree g ≡ cpus) × (is_alive new.table pid ≡ true)
  launched cpus mems g pid new (mid, finds, starts) = (start_leaves g cpus mems mid (Ok pid) new starts).own
