-- What the container of a bundle has once a script was answered a plan: the headline, by the script's lines and the bundles' bytes.
use Rattle.std.specs.Prelude.{◌≡◌, ◌⊎◌, ℕ, Bool, true, List, [], ◌∷◌, ◌++◌, Some, Ok}
use Rattle.std.specs.List.{Contains, AllByRecursion}
use Rattle.cpu_set.specs.Ids.{Ids}
use Rattle.kernel_model.specs.KernelState.{KernelState}
use Rattle.machine.specs.Layout.{Layout}
use Rattle.config_json.specs.declared.Config.{Config as Said}
use Rattle.config_json.specs.ConfigOf.{config_of}
use Rattle.demand.specs.DemandFaultOf.{is_pinned}
use Rattle.node.specs.declared.outcome.Outcome.TheVariants.{Plan}
use Rattle.node.specs.NodeState.{ContainerState}
use Rattle.node.specs.Status.{is_live}
use Rattle.node.specs.IsNode.{IsNode}
use Rattle.node.specs.Headline.{effective}
use Rattle.node.specs.Machine.{Event}
use Rattle.node.specs.Said.{IsAskedIn}
use Rattle.node.specs.Served.{AreAsked}
use Rattle.script.specs.Commands as ask
use Rattle.script.specs.Lines.{line_kept, words_of}
use Rattle.script.specs.Requests.{Wanted, asks, request_of}
use Rattle.script.specs.Runs.{Runs}
use Rattle.runtime.specs.Answered.{AnsweredBy}
use Rattle.runtime.specs.Found.{IsSeen}
use Rattle.runtime.specs.RuntimeState.{RuntimeState}
use Rattle.runtime.specs.ScriptLaws.{AreCalls, IsRebalanceOf, Sees}

-- a line of a script asked for a container with its bundle, or for its config to be read again
abbrev pub MakesIt : Wanted → List ℕ → List ℕ → Type 0
MakesIt wanted id bundle =
    (wanted ≡ asks (ask.create id bundle)) ⊎ ((list : List ℕ) × (wanted ≡ asks (ask.adopt id bundle list))) ⊎ (wanted ≡ asks (ask.update id bundle))

-- one of the lines asks for the container of this id and bundle, or for its config to be read again. The config that is seen
-- of the bundle is the last that the calls read for the container. While that lives it has in effect what the config's bytes
-- ask for.
pub record HasItsConfig (sees : Sees) (lines : List (List ℕ)) (events : List Event) (m : Layout) (k : KernelState) (pool : Ids) (e : List ℕ × ContainerState) : Type 0 where
  pub line : List ℕ
  pub config : List ℕ
  pub said : Said
  pub there : Contains lines line
  pub whole : line_kept line ≡ Some line
  pub asked : MakesIt (request_of (words_of line)) e.0 e.1.bundle
  pub found : sees e.1.bundle (Some config)
  pub last : IsAskedIn events e config
  pub said_so : config_of config ≡ Ok said
  pub has : is_live k e.1 ≡ true → AreAsked m k pool said.cpu (effective k e) (is_pinned said.cpu)

-- a rebalance in the midst of a script, which leaves what the headline says; the lines before it make these calls. After a
-- plan each container has what the config asks for that was read for it last, as looks at bundles may find it.
pub record IsServing (finds : Sees) (direct : Bool) (first : RuntimeState) (before after : List (List ℕ)) (text : List ℕ) (last : RuntimeState) : Type 0 where
  pub its : IsRebalanceOf direct first before after text last
  pub calls : AreCalls (IsSeen finds) first before its.earlier its.old
  pub serves : (total : ℕ) → its.outcome ≡ Ok (Plan total)
      → AllByRecursion (HasItsConfig (IsSeen finds first.told) before calls.events its.new.node.machine its.new.node.kernel its.new.node.pool) its.new.node.containers

-- each line of a script that asks for a rebalance is such, from a node of no container on
abbrev pub ScriptsServeConfigs : Sees → Type 0
ScriptsServeConfigs finds = (direct : Bool) (first last : RuntimeState) (before after : List (List ℕ)) (line text : List ℕ) → IsNode first.node → first.node.containers ≡ []
    → line_kept line ≡ Some line → request_of (words_of line) ≡ asks (ask.rebalance direct) → Runs (AnsweredBy finds) first (before ++ line ∷ after) text last
    → IsServing finds direct first before after text last
