-- What is wrong with a CPU section on a machine: the checks in their order, of which the first that fails decides.
-- From: the order is ours.
use Rattle.std.specs.Prelude.{ℕ, ℤ, ◌*◌, Bool, not, ◌&&◌, ◌||◌, nat_lt, List, [], ◌∷◌, Option, Some, None, is_some, option_map}
use Rattle.std.specs.FinSet as set
use Rattle.faults.specs.First.{when, first_of}
use Rattle.cpu_set.specs.Ids.{Ids, is_empty}
use Rattle.cpu_set.specs.Least.{least_that}
use Rattle.cpu_set.specs.declared.TheConstants.{CPU_LIMIT}
use Rattle.cpu_list.specs.declared.fault.ListError.{ListError}
use Rattle.cpu_list.specs.FirstFault.{first_fault}
use Rattle.config_json.specs.SectionOf.{Section}
use Rattle.machine.specs.declared.TheConstants.{NODE_LIMIT}
use Rattle.machine.specs.Layout.{Layout}
use Rattle.machine.specs.Present.{present}
use Rattle.machine.specs.Nodes.{nodes_of}
use Rattle.demand.specs.declared.fault.DemandFault.{DemandFault}
use Rattle.demand.specs.declared.fault.DemandFault.TheVariants.{BadCpus, NoSuchCpu, BadMems, NoSuchNode, QuotaTooLarge, NothingAllowed}
use Rattle.demand.specs.Quota.{limit_of, period_of, most_cpus}
use Rattle.demand.specs.Named.{named}
use Rattle.demand.specs.Allowed.{allowed_of}

-- a list that is there is no list under the limit
abbrev pub list_fault : ℕ → Option (List ℕ) → Option ListError
list_fault limit None = None
list_fault limit (Some text) = first_fault limit text

-- the least number that is in a set and not in another
abbrev pub least_other : Ids → Ids → Option ℕ
least_other s known = least_that (λ n. set.contains s n && not (set.contains known n))

-- `cpus` is a list of present CPUs
unfoldable pub cpus_fault : Layout → Option (List ℕ) → Option DemandFault
cpus_fault m cpus = first_of (
    option_map BadCpus (list_fault CPU_LIMIT cpus)
    ∷ option_map NoSuchCpu (least_other (named cpus) (present m))
    ∷ [])

-- `mems` is a list of the machine's nodes
unfoldable pub mems_fault : Layout → Option (List ℕ) → Option DemandFault
mems_fault m mems = first_of (
    option_map BadMems (list_fault NODE_LIMIT mems)
    ∷ option_map NoSuchNode (least_other (named mems) (nodes_of m))
    ∷ [])

-- a limit is above what the most CPUs of whole cores that there can be may run in a period
abbrev pub limit_fault : ℕ → Option ℕ → ℕ → Option DemandFault
limit_fault threads None period = None
limit_fault threads (Some limit) period = when (nat_lt (most_cpus threads * period) limit) QuotaTooLarge

-- the quota asks for no more CPUs than there can be, where each core has so many
unfoldable pub quota_fault : ℕ → Option ℤ → Option ℕ → Option DemandFault
quota_fault threads quota period = limit_fault threads (limit_of quota) (period_of period)

-- a container gets CPUs of its own where its quota is a limit or it names a CPU
abbrev pub is_pinned : Section → Bool
is_pinned s = is_some (limit_of s.quota) || not (is_empty (named s.cpus))

-- one that gets CPUs of its own is allowed one
unfoldable pub allowed_fault : Layout → Section → Option DemandFault
allowed_fault m s = when (is_pinned s && is_empty (allowed_of m s)) NothingAllowed

-- the first fault of a CPU section on a machine
abbrev pub demand_fault : Layout → Section → Option DemandFault
demand_fault m s = first_of (
    cpus_fault m s.cpus
    ∷ mems_fault m s.mems
    ∷ quota_fault m.threads s.quota s.period
    ∷ allowed_fault m s
    ∷ [])
