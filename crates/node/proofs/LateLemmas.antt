-- What the kernel can refuse of a `create`, and of a new node.
use Rattle.std.proofs.Common.{◌≡◌, inl, inr, ℕ, ◌<◌, ◌==◌, Bool, true, ◌&&◌, List, Option, Some, None, refl, sym, ap, ◌∙◌, subst, arith}
use Rattle.std.proofs.lemmas.Bool.{false≢true}
use Rattle.std.proofs.lemmas.Bool.Decides.{nat_tests}
use Rattle.std.specs.Prelude.{false, not, if◌then◌else◌, option_map, is_some, is_none, Ok, Err, codes}
use Rattle.std.specs.List.{AllByRecursion}
use Rattle.std.specs.Str.{bytes_eq}
use Rattle.faults.specs.declared.OrMemory.{OrMemory}
use Rattle.faults.specs.declared.OrMemory.TheVariants.{Memory, Fault}
use Rattle.cpu_set.specs.Ids.{Ids}
use Rattle.cpuset_tree.specs.declared.TheConstants.{SERIAL_LIMIT}
use Rattle.cpuset_tree.specs.declared.Group.{Group}
use Rattle.cpuset_tree.specs.declared.TreeFault.TheVariants as tree
use Rattle.cpuset_tree.specs.Groups.{has_group, child_of, is_root, is_root_entry, root_of}
use Rattle.cpuset_tree.specs.TreeLaws.{IsChild}
use Rattle.proctable.specs.declared.TheConstants.{LAST_PID}
use Rattle.proctable.specs.TableState.{TableState}
use Rattle.proctable.specs.TableAnswers.{has_pids}
use Rattle.kernel_model.specs.declared.KernelFault.{KernelFault}
use Rattle.kernel_model.specs.declared.KernelFault.TheVariants.{NoGroup, Exists, IsRoot, NoSerials, NoPids, Failed}
use Rattle.kernel_model.specs.Trace.{MadeGroup}
use Rattle.kernel_model.specs.KernelState.{KernelState, recorded}
use Rattle.kernel_model.specs.WellFormed.{IsWellFormed}
use Rattle.kernel_model.specs.Faults.{of_tree}
use Rattle.kernel_model.specs.Refusals.{make_refusal, write_refusal}
use Rattle.kernel_model.specs.RefusalLemmas.{refusals_have_causes}
use Rattle.kernel_model.specs.Cases.{MakesGroup, WritesCpus, WritesMems, Spawns}
use Rattle.node.specs.declared.fault.NodeFault.TheVariants.{Kernel}
use Rattle.node.specs.NodeState.{NodeState}
use Rattle.node.specs.Owners.{Owner, owners_of}
use Rattle.node.specs.IsNode.{Holds, IsNode}
use Rattle.node.specs.Launch.{FindsOr, AtOnce, WritesSets, Launches, is_no_serials, lacks_pid}
use Rattle.node.specs.Calls.{OpensNot, NotLaunched}
use Rattle.node.specs.OpenCause.{OpenCause}
use Rattle.node.specs.Making.{PlacesFailLate}
use Rattle.node.proofs.ContainerLemmas.{other_ids}
use Rattle.node.proofs.FirstLemmas.{root_there}
use Rattle.node.proofs.LaunchLemmas.{IsReady, is_there, find_stays, find_ready, cpus_written, sets_written}
use Rattle.node.proofs.CountLemmas.{place_counts}
use Rattle.node.proofs.MakingLemmas.{found_table, set_table}

-- what of it the kernel before tells, and of want of serials the kernel after it
abbrev Stood : KernelState → Group → List ℕ → KernelState → KernelFault → Type 0
Stood k parent name new Failed = Unit {0}
Stood k parent name new NoSerials = (child_of k.tree parent name ≡ None) × (k.tree.next_serial ≡ SERIAL_LIMIT) × (new ≡ recorded (MadeGroup parent name (Err (Fault NoSerials))) k)
Stood k parent name new NoPids = LAST_PID < k.table.next_pid
Stood k parent name new fault = ⊥

-- that a child of the name is there comes before want of serials
named_first : (there named last : Bool) → named ≡ true
    → is_no_serials (option_map of_tree (if not there then Some tree.NoGroup else if named then Some tree.Exists else if last then Some tree.NoSerials else None)) ≡ false
named_first true true last e = refl
named_first true false last e = absurd (false≢true e)
named_first false named last e = refl

-- if a pid lacks, none is left
none_of : (a b : Bool) → (not a && not b) ≡ true → a ≡ false
none_of true b e = absurd (false≢true e)
none_of false b e = refl

pids_spent : (k : KernelState) (parent : Group) (name : List ℕ) → lacks_pid k parent name ≡ true → LAST_PID < k.table.next_pid
pids_spent k parent name lacks =
    let none : has_pids k.table ≡ false = none_of (has_pids k.table) (is_no_serials (make_refusal k parent name)) lacks in grind (arith, nat_tests)

-- nothing stands against a write of a group's child, which can fail
module _ (parent : Group) (name : List ℕ) (g : Group) (k : KernelState) (c : IsChild k.tree parent name g) where
  below : is_root k.tree g ≡ false
  below = ap is_root_entry c.there ∙ ap is_none c.below

  free : (fault : KernelFault) → write_refusal k g ≡ Some fault → ⊥
  free NoGroup e = false≢true (sym ((refusals_have_causes k).write g NoGroup e) ∙ is_there k.tree g c.entry c.there)
  free IsRoot e = false≢true (sym below ∙ (refusals_have_causes k).write g IsRoot e)
  free fault e = absurd ((refusals_have_causes k).write g fault e)

  pub cpus_fail : (cpus : Ids) (fault : KernelFault) (new : KernelState) → WritesCpus k g cpus (Err fault) new → fault ≡ Failed
  cpus_fail cpus Failed new w = refl
  cpus_fail cpus fault new w = absurd (free fault w.0)

  pub mems_fail : (mems : Ids) (fault : KernelFault) (new : KernelState) → WritesMems k g mems (Err fault) new → fault ≡ Failed
  mems_fail mems Failed new w = refl
  mems_fail mems fault new w = absurd (free fault w.0)

module _ (parent : Group) (name : List ℕ) (owners : List Owner) (new_id : AllByRecursion (λ o. bytes_eq name o.id ≡ false) owners) where
  module _ (old new : KernelState) (h : Holds old parent owners) where
    make_late : child_of old.tree parent name ≡ None → (fault : KernelFault) → MakesGroup old parent name (Err (Fault fault)) new → Stood old parent name new fault
    make_late none Failed f = tt
    make_late none NoSerials f = (none, (refusals_have_causes old).make parent name NoSerials f.0, f.1)
    make_late none NoGroup f =
        absurd (false≢true (sym ((refusals_have_causes old).make parent name NoGroup f.0) ∙ is_there old.tree parent h.home.entry h.home.there))
    make_late none Exists f = absurd (false≢true (sym (ap is_some none) ∙ (refusals_have_causes old).make parent name Exists f.0))
    make_late none fault f = absurd ((refusals_have_causes old).make parent name fault f.0)

    find_late : (o : Option Group) → child_of old.tree parent name ≡ o → (fault : KernelFault) → FindsOr o old parent name (Err (Fault fault)) new
        → Stood old parent name new fault
    find_late (Some g) was fault f = absurd (let is : Err (Fault fault) ≡ Ok g = f.0 in let no : ⊥ = cc is in no)
    find_late None was fault f = make_late was fault f

  module _ (g : Group) (cpus mems : Ids) (old new : KernelState) (h : Holds old parent owners) (ready : IsReady old parent name owners g) where
    sets_fail : (fault : KernelFault) → WritesSets old g cpus mems (Err fault) new → fault ≡ Failed
    sets_fail fault (inl (first, refused, is)) =
        let same : fault ≡ first = cc is in same ∙ cpus_fail parent name g old ready.child cpus first new refused
    sets_fail fault (inr (done, mid, writes, refused)) =
        mems_fail parent name g mid (cpus_written parent name owners new_id g old mid h ready cpus (Ok done) writes).ready.child mems fault new refused

    at_once_fail : (fault : KernelFault) (e : OrMemory KernelFault) → AtOnce (WritesSets old g cpus mems) (Err e) new
        → Fault fault ≡ e → fault ≡ Failed
    at_once_fail fault Memory w is = absurd w
    at_once_fail fault (Fault first) w is = let same : fault ≡ first = cc is in same ∙ sets_fail first w

  spawn_late : (g : Group) (old new : KernelState) → IsReady old parent name owners g → (fault : KernelFault) → Spawns old g (Err (Fault fault)) new
      → (first : KernelState) → old.table ≡ first.table → Stood first parent name new fault
  spawn_late g old new ready Failed s first same = tt
  spawn_late g old new ready NoPids s first same =
      subst (λ (t : TableState). LAST_PID < t.next_pid) same ((refusals_have_causes old).spawn g NoPids s.0)
  spawn_late g old new ready NoGroup s first same =
      absurd (false≢true (sym ((refusals_have_causes old).spawn g NoGroup s.0) ∙ is_there old.tree g ready.child.entry ready.child.there))
  spawn_late g old new ready fault s first same = absurd ((refusals_have_causes old).spawn g fault s.0)

  launch_late : (cpus mems : Ids) (old new : KernelState) → Holds old parent owners → (fault : KernelFault)
      → Launches old parent name cpus mems (Err (Fault fault)) new → Stood old parent name new fault
  launch_late cpus mems old new h fault (inl refused) = find_late old new h (child_of old.tree parent name) refl fault refused
  launch_late cpus mems old new h fault (inr (g, mid, found, inl (e, refused, is))) =
      let failed = at_once_fail g cpus mems mid new (find_stays parent name owners new_id old mid h (Ok g) found).holds
      (find_ready parent name owners new_id old mid h g found) fault e refused (let same : Fault fault ≡ e = cc is in same) in
      subst (Stood old parent name new) (sym failed) tt
  launch_late cpus mems old new h fault (inr (g, mid, found, inr (done, written, writes, spawns))) =
      let holds = (find_stays parent name owners new_id old mid h (Ok g) found).holds in
      let ready = find_ready parent name owners new_id old mid h g found in
      let there = sets_written parent name owners new_id g mid written holds ready cpus mems (Ok done) writes in
      spawn_late g written new there.ready fault spawns old
      (set_table g cpus mems mid written (Ok done) writes ∙ found_table (child_of old.tree parent name) old parent name (Ok g) mid found)

  -- where a group is found or made, and where it is refused for want of a pid, a serial is left or none is needed
  found_serials : (old mid : KernelState) (o : Option Group) → child_of old.tree parent name ≡ o → (g : Group) → FindsOr o old parent name (Ok g) mid
      → is_no_serials (make_refusal old parent name) ≡ false
  found_serials old mid (Some other) was g f =
      named_first (has_group old.tree parent) (is_some (child_of old.tree parent name)) (old.tree.next_serial == SERIAL_LIMIT) (ap is_some was)
  found_serials old mid None was g f = ap is_no_serials f.0

  refused_serials : (old mid : KernelState) (o : Option Group) → FindsOr o old parent name (Err (Fault NoPids)) mid
      → is_no_serials (make_refusal old parent name) ≡ false
  refused_serials old mid (Some g) f = absurd (let is : Err (Fault NoPids) ≡ Ok g = f.0 in let no : ⊥ = cc is in no)
  refused_serials old mid None f = ap is_no_serials f.0

  launch_serials : (cpus mems : Ids) (old new : KernelState) → Launches old parent name cpus mems (Err (Fault NoPids)) new
      → is_no_serials (make_refusal old parent name) ≡ false
  launch_serials cpus mems old new (inl refused) = refused_serials old new (child_of old.tree parent name) refused
  launch_serials cpus mems old new (inr (g, mid, found, starts)) = found_serials old mid (child_of old.tree parent name) refl g found

  -- so a launch is not refused for want of a pid unless that was told before it
  pub has_pid : (cpus mems : Ids) (old new : KernelState) → Holds old parent owners → lacks_pid old parent name ≡ false
      → Launches old parent name cpus mems (Err (Fault NoPids)) new → ⊥
  has_pid cpus mems old new h left l =
      let spent : LAST_PID < old.table.next_pid = launch_late cpus mems old new h NoPids l in
      let none : has_pids old.table ≡ false = grind (arith, nat_tests) in
      let lacks : lacks_pid old parent name ≡ true =
      ap (λ b. not b && not (is_no_serials (make_refusal old parent name))) none ∙ ap not (launch_serials cpus mems old new l) in
      false≢true (sym left ∙ lacks)

-- of a `create` or an `adopt`, with what is counted
module _ (cpus : Ids) (old new : NodeState) (id config : List ℕ) (h : IsNode old) where
  stood : (fault : KernelFault) → NotLaunched cpus old id config (Fault fault) new → Stood old.kernel old.parent id new.kernel fault
  stood fault n =
      launch_late old.parent id (owners_of old.containers) (other_ids id old.containers n.free.new) cpus n.asked.homes old.kernel new.kernel
      h.holds fault n.refused

pub places_fail_late : PlacesFailLate
places_fail_late cpus old id bundle config Failed new h n = place_counts cpus old id bundle config (Err (Fault (Kernel Failed))) new n
places_fail_late cpus old id bundle config NoSerials new h n =
    let s = stood cpus old new id config h NoSerials n in
    (s.0, s.1, n.is ∙ ap (λ (k : KernelState). record old { kernel = k }) s.2)
places_fail_late cpus old id bundle config NoPids new h n = (pids_spent old.kernel old.parent id n.lacks, n.is)
places_fail_late cpus old id bundle config fault new h n = absurd (stood cpus old new id config h fault n)

-- of a new node
module _ (old new : KernelState) (well : IsWellFormed old) (root : Group) (top : root_of old.tree ≡ Some root) where
  home_late : child_of old.tree root (codes "numarun") ≡ None → (fault : KernelFault) → MakesGroup old root (codes "numarun") (Err (Fault fault)) new
      → OpenCause old fault new
  home_late none Failed f = ap (λ (k : KernelState). k.failures) f
  home_late none NoSerials f = (root, top, none, (refusals_have_causes old).make root (codes "numarun") NoSerials f.0)
  home_late none NoGroup f =
      absurd (false≢true (sym ((refusals_have_causes old).make root (codes "numarun") NoGroup f.0) ∙ root_there old root well top))
  home_late none Exists f = absurd (false≢true (sym (ap is_some none) ∙ (refusals_have_causes old).make root (codes "numarun") Exists f.0))
  home_late none fault f = absurd ((refusals_have_causes old).make root (codes "numarun") fault f.0)

  found_late : (o : Option Group) → child_of old.tree root (codes "numarun") ≡ o → (fault : KernelFault)
      → FindsOr o old root (codes "numarun") (Err (Fault fault)) new → OpenCause old fault new
  found_late (Some g) was fault f = absurd (let is : Err (Fault fault) ≡ Ok g = f.0 in let no : ⊥ = cc is in no)
  found_late None was fault f = home_late was fault f

pub opens_fail_late : (old : KernelState) (fault : KernelFault) (new : KernelState) → IsWellFormed old → OpensNot old (Fault fault) new → OpenCause old fault new
opens_fail_late old fault new well (root, top, finds) = found_late old new well root top (child_of old.tree root (codes "numarun")) refl fault finds
