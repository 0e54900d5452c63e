-- What a runtime beside strangers answers each line of a script, and what it is then.
use Rattle.std.specs.Prelude.{◌≡◌, ℕ, Bool, true, false, not, if◌then◌else◌, List, Option, is_some, bytes_eq, codes, filter, fold}
use Rattle.std.specs.FinSet as set
use Rattle.std.specs.List.{list_any}
use Rattle.cpu_set.specs.Ids.{Ids}
use Rattle.cpuset_tree.specs.TreeChanges.{with_online}
use Rattle.kernel_model.specs.KernelState.{KernelState}
use Rattle.cgroup_tree.specs.Asked.{Stranger}
use Rattle.node.specs.NodeState.{container_of}
use Rattle.script.specs.Commands.{Asked}
use Rattle.script.specs.Commands as ask
use Rattle.runtime.specs.Answered.{AnsweredWhere}
use Rattle.runtime.specs.Found.{IsSeen}
use Rattle.runtime.specs.RuntimeState.{RuntimeState, Told}
use Rattle.strangers.specs.GuardState.{GuardState}

-- the CPUs that strangers hold
abbrev pub held : List Stranger → Ids
held strangers = fold (λ cpus s. set.union cpus s.1) set.empty strangers

-- those of these CPUs that can go offline: the online ones, but for the reserved ones
abbrev pub can_leave : Ids → KernelState → Ids
can_leave cpus k = set.difference (set.intersection cpus k.tree.online) k.reserved

-- the CPUs that are kept from everybody
abbrev pub withheld : GuardState → Ids
withheld g = can_leave (held g.strangers) g.runtime.node.kernel

-- one of the strangers has this name
abbrev pub knows : List Stranger → List ℕ → Bool
knows strangers name = list_any (λ s. bytes_eq s.0 name) strangers

-- the strangers without those of this name
abbrev pub without : List Stranger → List ℕ → List Stranger
without strangers name = filter (λ s. not (bytes_eq s.0 name)) strangers

-- a runtime in whose kernel these CPUs are online, and no others
abbrev pub with_online_cpus : RuntimeState → Ids → RuntimeState
with_online_cpus s online = record s { node = record s.node { kernel = record s.node.kernel { tree = with_online s.node.kernel.tree online } } }

-- these CPUs went offline
abbrev pub away : RuntimeState → Ids → RuntimeState
away s cpus = with_online_cpus s (set.difference s.node.kernel.tree.online cpus)

-- and they came online
abbrev pub back : RuntimeState → Ids → RuntimeState
back s cpus = with_online_cpus s (set.union s.node.kernel.tree.online cpus)

-- a line that plans or moves
abbrev pub IsPlanning : Asked → Type 0
IsPlanning (ask.rebalance direct) = Unit {0}
IsPlanning (ask.begin direct) = Unit {0}
IsPlanning ask.step = Unit {0}
IsPlanning command = ⊥

module _ (sees : Told → List ℕ → Option (List ℕ) → Type 0) where
  -- a line is answered as by the runtime alone, and the strangers stay
  abbrev pub AnswersAlone : GuardState → Asked → List ℕ → GuardState → Type 0
  AnswersAlone old command text new = AnsweredWhere sees old.runtime command text new.runtime × (new.strangers ≡ old.strangers)

  -- a line is answered while the CPUs that strangers hold are offline. They come online behind it, and the strangers stay.
  abbrev pub AnswersAway : GuardState → Asked → List ℕ → GuardState → Type 0
  AnswersAway old command text new = (last : RuntimeState)
      × AnsweredWhere sees (away old.runtime (withheld old)) command text last
      × (new ≡ record old { runtime = back last (withheld old) })

  -- a line that asks for a container: a stranger whose name one has then is none any more
  abbrev pub AnswersPlaced : GuardState → Asked → List ℕ → List ℕ → GuardState → Type 0
  AnswersPlaced old command id text new = AnsweredWhere sees old.runtime command text new.runtime
      × (new.strangers ≡ (if is_some (container_of new.runtime.node id) then without old.strangers id else old.strangers))

  -- a stranger is let go of; or there is none of this name, and the line is refused as by the runtime alone
  abbrev pub Forgets : Bool → GuardState → List ℕ → List ℕ → GuardState → Type 0
  Forgets true old id text new = (text ≡ codes "ok\n") × (new ≡ record old { strangers = without old.strangers id })
  Forgets false old id text new = AnswersAlone old (ask.forget id) text new

  -- which text answers a line, and what there is then
  abbrev pub Guards : GuardState → Asked → List ℕ → GuardState → Type 0
  Guards old (ask.forget id) text new = Forgets (knows old.strangers id) old id text new
  Guards old (ask.create id bundle) text new = AnswersPlaced old (ask.create id bundle) id text new
  Guards old (ask.adopt id bundle list) text new = AnswersPlaced old (ask.adopt id bundle list) id text new
  Guards old (ask.rebalance direct) text new = AnswersAway old (ask.rebalance direct) text new
  Guards old (ask.begin direct) text new = AnswersAway old (ask.begin direct) text new
  Guards old ask.step text new = AnswersAway old ask.step text new
  Guards old command text new = AnswersAlone old command text new

-- by what is told of the bundles, and what looks at them may find
abbrev pub GuardedBy : (List ℕ → Option (List ℕ) → Type 0) → GuardState → Asked → List ℕ → GuardState → Type 0
GuardedBy finds = Guards (IsSeen finds)
