-- Files stand for the tree.
use Rattle.std.specs.Prelude.{List}
use Rattle.kernel_model.specs.KernelState.{KernelState}
use Rattle.cgroup_tree.specs.Asked.{Asked, Opening}
use Rattle.cgroup_tree.specs.Events.{Event, Past}
use Rattle.cgroup_tree.specs.Site.{Site, opening}
use Rattle.cgroup_tree.specs.Standing.{StandsFor, AreApart}

-- no two groups have one folder, and each group's files have what it requests. This holds if files do what they answer, and
-- nobody else writes, makes or removes any.
pub record FilesStand {F : Type 0} (asked : F → Opening → List Asked → Type 0) (site : Site) (k : KernelState) (files : F) : Type 0 where
  pub calls : List Asked
  pub made : asked files (opening site) calls
  pub stands : StandsFor site.root site.memory k.tree calls
  pub apart : AreApart k.tree

-- files stand so after any calls, whatever each of them answered
abbrev pub PastsStand : Type 0
PastsStand = (site : Site) (past : List Event) (k : KernelState) (calls : List Asked) → Past site past k calls
    → StandsFor site.root site.memory k.tree calls × AreApart k.tree
