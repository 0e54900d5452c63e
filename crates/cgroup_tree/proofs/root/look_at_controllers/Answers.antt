-- The file was read, and names the controller or does not.
use Rattle.std.proofs.Common.{List, Some, ap, sym, ◌∙◌, ℕ}
use Rattle.cgroup_tree.specs.Roots.{names_cpuset}
use Rattle.cgroup_tree.proofs.root.look_at_controllers.Goals as goal

pub returns-then-names_cpuset : goal.returns-then-names_cpuset
returns-then-names_cpuset g c = (
  Some c.in-Some.text.items,
  rw (c.as_str.ensures.value ∙ c.in_ok-path.ensures, c.in-Some.is) at c.in_ok-text.ensures,
  sym (c.if-names_cpuset.ensures ∙ ap (λ (text : List ℕ). names_cpuset text) c.as_slice.ensures.value),
)

pub returns : goal.returns
returns g c = (
  Some c.in-Some.text.items,
  rw (c.as_str.ensures.value ∙ c.in_ok-path.ensures, c.in-Some.is) at c.in_ok-text.ensures,
  sym (c.if-names_cpuset.ensures ∙ ap (λ (text : List ℕ). names_cpuset text) c.as_slice.ensures.value),
)
