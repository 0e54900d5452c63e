-- A container's demand as a row of a problem.
use Rattle.std.specs.Prelude.{ℕ, ◌/◌, List, Option, Some, None}
use Rattle.std.specs.FinSet as set
use Rattle.cpu_set.specs.Ids.{Ids}
use Rattle.machine.specs.Cores.{cores_in}
use Rattle.machine.specs.Layout.{Layout}
use Rattle.demand.specs.declared.Kind.{Kind}
use Rattle.demand.specs.declared.Kind.TheVariants.{Pinned, Shared}
use Rattle.demand.specs.declared.Demand.{Demand}
use Rattle.certificate.specs.RowView.{RowView}
use Rattle.rows.specs.Offers.{offers_by_distance}

-- the CPUs that it may get now
abbrev pub available : Ids → Demand → Ids
available online d = set.intersection d.allowed online

-- the cores of which a container is allowed all CPUs and all are online, each by its lowest CPU
abbrev pub offered : Layout → Ids → Demand → Ids
offered m online d = cores_in m (available online d)

abbrev pub row_of_kind : Layout → Ids → List ℕ → Demand → Kind → Option RowView
row_of_kind m online id d (Pinned count) = Some (record { id = id; demand = count / m.threads; offers = offers_by_distance m d.homes (offered m online d) })
row_of_kind m online id d Shared = None

-- the row of a container that asks for CPUs of its own: its demand in cores, and the offers of the cores that it may get
abbrev pub row_of : Layout → Ids → List ℕ → Demand → Option RowView
row_of m online id d = row_of_kind m online id d d.kind
