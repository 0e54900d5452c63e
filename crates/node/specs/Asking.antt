-- Whose the rows of a problem are.
use Rattle.std.specs.Prelude.{◌≡◌, ◌*◌, ℕ, Bool, cond, List, Some, None, is_some}
use Rattle.std.specs.List.{AllZip}
use Rattle.std.specs.FinSet as set
use Rattle.cpu_set.specs.Ids.{Ids}
use Rattle.kernel_model.specs.KernelState.{KernelState}
use Rattle.machine.specs.Cores.{cores_in}
use Rattle.machine.specs.Layout.{Layout}
use Rattle.machine.specs.Weight.{weight as distance_home}
use Rattle.certificate.specs.RowView.{RowView}
use Rattle.certificate.specs.Weight.{weight}
use Rattle.certificate.specs.Packed.{packed}
use Rattle.rows.specs.RowOf.{offered, row_of}
use Rattle.node.specs.NodeState.{ContainerState, NodeState}
use Rattle.node.specs.IsNode.{IsNode}
use Rattle.node.specs.Rows.{rows_of, requested_by, scaled_rows_of}
use Rattle.node.specs.Best.{asking, wanted_by}
use Rattle.node.specs.Rebalance.{Lacks}
use Rattle.node.specs.Headline.{IsShort}
use Rattle.node.specs.Tells.{TellsShortage}

-- whether a container may have the core with this lowest CPU: it is allowed all CPUs of the core, and they are online
abbrev pub is_open : KernelState → Layout → ℕ → List ℕ × ContainerState → Bool
is_open k m core e = set.contains (offered m k.tree.online e.1.demand) core

-- a row is a container's: it has its id, and asks for the cores that make as many CPUs as it asks for; exactly the cores that
-- the container may have have a weight in it
pub record IsRowOf (k : KernelState) (m : Layout) (row : RowView) (e : List ℕ × ContainerState) : Type 0 where
  pub row_is : row_of m k.tree.online e.0 e.1.demand ≡ Some row
  pub id : row.id ≡ e.0
  pub demand : wanted_by e.1.demand.kind ≡ row.demand * m.threads
  pub offers : (core : ℕ) → is_some (weight row core) ≡ is_open k m core e

-- what a core costs a container: its distance to the nearest home, and a move if the container's group does not request all
-- of it
abbrev pub moving_weight : KernelState → Layout → List ℕ × ContainerState → ℕ → ℕ
moving_weight k m e core = packed (distance_home m e.1.demand.homes core) (cond (set.contains (cores_in m (requested_by k e)) core) 0 1)

-- a scaled row is a container's: it has its id, and asks for the cores that make as many CPUs as it asks for. Each core that
-- the container may have costs so much in it, and no other is offered.
pub record IsScaledRowOf (k : KernelState) (m : Layout) (row : RowView) (e : List ℕ × ContainerState) : Type 0 where
  pub id : row.id ≡ e.0
  pub demand : wanted_by e.1.demand.kind ≡ row.demand * m.threads
  pub weights : (core : ℕ) → weight row core ≡ cond (is_open k m core e) (Some (moving_weight k m e core)) None

-- the rows are those of the live pinned containers, in their order
abbrev pub RowsAreAsking : Type 0
RowsAreAsking = (n : NodeState) → IsNode n → AllZip (IsRowOf n.kernel n.machine) (rows_of n) (asking n)

-- the scaled rows are those of the live pinned containers, in their order
abbrev pub ScaledRowsAreAsking : Type 0
ScaledRowsAreAsking = (n : NodeState) → IsNode n → AllZip (IsScaledRowOf n.kernel n.machine) (scaled_rows_of n) (asking n)

-- a shortage of the rows is one of these containers, whom the certificate names
abbrev pub ShortStands : Type 0
ShortStands =
    (old : NodeState) (wanted : ℕ) (allowed : Ids) (new : NodeState) → IsNode old → Lacks old wanted allowed new
    → IsShort old wanted allowed new × TellsShortage old wanted allowed new
