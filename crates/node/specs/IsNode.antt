-- What holds of each node, after each of its calls.
use Rattle.std.specs.Prelude.{◌≡◌, ℕ, ◌<◌, ◌≤◌, ◌⊎◌, true, false, List, [], ◌∷◌, length, Some, IfSome, IsTrue, codes, map}
use Rattle.std.specs.List.{AllByRecursion}
use Rattle.std.specs.Str.{bytes_eq}
use Rattle.std.specs.FinSet as set
use Rattle.cpuset_tree.specs.declared.Group.{Group}
use Rattle.cpuset_tree.specs.TreeState.{GroupEntry, TreeState}
use Rattle.cpuset_tree.specs.Groups.{entry_of, root_of}
use Rattle.cpuset_tree.specs.TreeLaws.{IsChild}
use Rattle.proctable.specs.declared.Process.{Process}
use Rattle.proctable.specs.TableState.{TableState}
use Rattle.proctable.specs.Processes.{process_of}
use Rattle.kernel_model.specs.KernelState.{KernelState}
use Rattle.kernel_model.specs.WellFormed.{IsWellFormed}
use Rattle.cpu_set.specs.Members.{InRange}
use Rattle.machine.specs.IsSound.{IsSound}
use Rattle.machine.specs.Layout.{Layout}
use Rattle.machine.specs.Present.{present}
use Rattle.machine.specs.Nodes.{nodes_of}
use Rattle.apply_plan.specs.Holders.{Holder, Pairwise, IsSafe}
use Rattle.node.specs.declared.TheConstants.{CONTAINER_LIMIT}
use Rattle.demand.specs.FitsMachine.{FitsMachine}
use Rattle.certificate_text.specs.IdWord.{IsId}
use Rattle.certificate.specs.IsProved.{IsProved}
use Rattle.certificate.specs.IsShortage.{IsShortage}
use Rattle.certificate.specs.Limits.{rows_fit}
use Rattle.certificate.specs.Scaled.{are_scaled}
use Rattle.certificate.specs.declared.weights.Weights.TheVariants.{WithMoves}
use Rattle.certificate.specs.declared.certificates.Certificate.{Certificate}
use Rattle.certificate.specs.declared.certificates.Certificate.TheVariants.{Plan, Short}
use Rattle.certificate_text.specs.Written.{CanWrite, IsHeld}
use Rattle.node.specs.NodeState.{ContainerState, NodeState, is_underway}
use Rattle.node.specs.Owners.{Owner, owners_of}
use Rattle.node.specs.Ongoing.{Stands}

-- what holds of each machine: it is sound, and its CPUs are such as a set may have
pub record IsMachine (m : Layout) : Type 0 where
  pub sound : IsSound m
  pub in_range : InRange (present m)

-- the kernel has the CPUs, the reserved CPUs and the nodes of the machine
pub record IsOfMachine (k : KernelState) (m : Layout) : Type 0 where
  pub present : k.present ≡ present m
  pub reserved : k.reserved ≡ m.reserved
  pub nodes : k.tree.nodes ≡ nodes_of m

-- the containers' parent is the group `numarun` below the root, and requests nothing
pub record IsHome (s : TreeState) (parent : Group) : Type 0 where
  pub entry : GroupEntry
  pub root : Group
  pub there : entry_of s parent ≡ Some entry
  pub top : root_of s ≡ Some root
  pub below : entry.parent ≡ Some root
  pub name : entry.name ≡ codes "numarun"
  pub free_cpus : entry.cpus ≡ set.empty
  pub free_mems : entry.mems ≡ set.empty

-- no group is below a container's: each is a child of the containers' parent or of the root
abbrev pub IsShallow : TreeState → Group → Type 0
IsShallow s parent = (g q : Group) (e : GroupEntry) → entry_of s g ≡ Some e → e.parent ≡ Some q → (q ≡ parent) ⊎ (root_of s ≡ Some q)

-- two containers have two ids
abbrev pub HaveOtherIds : Owner → Owner → Type 0
HaveOtherIds a b = bytes_eq a.id b.id ≡ false

-- the container's group is a child of the containers' parent, and has the container's id as its name
abbrev pub IsPlaced : TreeState → Group → Owner → Type 0
IsPlaced s parent o = IsChild s parent o.id o.holder.group

-- its pid was given, and if a process of that pid is alive it is the first one of the container's group
pub record IsFirst (t : TableState) (h : Holder) : Type 0 where
  pub given : h.pid < t.next_pid
  pub group : (p : Process) → process_of t h.pid ≡ Some p → p.group ≡ h.group
  pub itself : (p : Process) → process_of t h.pid ≡ Some p → p.first ≡ h.pid

-- the process is in the group of one of these containers, and belongs to its first process
abbrev pub IsOwned : Process → List Owner → Type 0
IsOwned p [] = ⊥
IsOwned p (o ∷ later) = ((p.group ≡ o.holder.group) × (p.first ≡ o.holder.pid)) ⊎ IsOwned p later

-- nobody else has a process
abbrev pub AreOwned : TableState → List Owner → Type 0
AreOwned t owners = (q : ℕ) (p : Process) → process_of t q ≡ Some p → IsOwned p owners

-- the groups and processes of the kernel are the containers', and what they request is safe
pub record Holds (k : KernelState) (parent : Group) (owners : List Owner) : Type 0 where
  pub kernel : IsWellFormed k
  pub home : IsHome k.tree parent
  pub shallow : IsShallow k.tree parent
  pub distinct : Pairwise HaveOtherIds owners
  pub placed : AllByRecursion (IsPlaced k.tree parent) owners
  pub first : AllByRecursion (λ o. IsFirst k.table o.holder) owners
  pub owned : AreOwned k.table owners
  pub safe : IsSafe k k.reserved (map (λ o. o.holder) owners)

-- its id is one, and what it asks for fits the machine
pub record IsAsked (m : Layout) (e : List ℕ × ContainerState) : Type 0 where
  pub id : IsId e.0
  pub fits : FitsMachine m e.1.demand

-- a certificate whose weights count moves and which its own check accepts. Values and prices prove its plan to cost its
-- total; or its rows are within their limits and its members are short.
abbrev pub ProvesItself : Certificate → Type 0
ProvesItself (Plan rows sets prices total weights) = (weights ≡ WithMoves) × (are_scaled rows ≡ true) × IsProved rows sets prices total
ProvesItself (Short rows members weights) = (weights ≡ WithMoves) × (are_scaled rows ≡ true) × IsTrue (rows_fit rows) × IsShortage rows members

-- a certificate that proves itself and can be written, in numbers and sets such as its types hold
abbrev pub IsKept : Certificate → Type 0
IsKept c = CanWrite c × IsHeld c × ProvesItself c

-- what holds of each node: its machine is one, the kernel runs on it, and `Holds`. There are no more containers than there
-- may be. An open hand-over is of all live containers. What was worked out last can be written and proves itself.
pub record IsNode (n : NodeState) : Type 0 where
  pub layout : IsMachine n.machine
  pub machine : IsOfMachine n.kernel n.machine
  pub holds : Holds n.kernel n.parent (owners_of n.containers)
  pub few : length n.containers ≤ CONTAINER_LIMIT
  pub asked : AllByRecursion (IsAsked n.machine) n.containers
  pub stands : Stands n.kernel (owners_of n.containers) (is_underway n.phase) n.ongoing
  pub proved : IfSome n.last IsKept
