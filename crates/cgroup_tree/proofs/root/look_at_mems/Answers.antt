-- The file was read, and is a list of nodes of the machine or not.
use Rattle.std.proofs.Common.{List, Some, subst, sym, ◌∙◌, ℕ}
use Rattle.cgroup_tree.specs.Roots.{IsListOf}
use Rattle.cgroup_tree.proofs.root.look_at_mems.Goals as goal

pub returns-in-Some-nodes_in-clause-looks : goal.returns-in-Some-nodes_in-clause-looks
returns-in-Some-nodes_in-clause-looks g c = (
  Some c.in-Some.text.items,
  rw (c.as_str.ensures.value ∙ c.in_ok-path.ensures, c.in-Some.is) at c.in_ok-text.ensures,
  (
    subst (λ (text : List ℕ). IsListOf text c.in-Some-nodes_in.memory) c.as_slice.ensures.value c.in-Some-nodes_in.ensures.0,
    c.in-Some-nodes_in.ensures.1,
  ),
)

pub returns-clause-looks : goal.returns-clause-looks
returns-clause-looks g c = (
  Some c.in-Some.text.items,
  rw (c.as_str.ensures.value ∙ c.in_ok-path.ensures, c.in-Some.is) at c.in_ok-text.ensures,
  λ memory have. c.in_default-nodes_in.ensures memory (subst (λ (text : List ℕ). IsListOf text memory) (sym c.as_slice.ensures.value) have.0) have.1,
)

pub returns-clause-tells : goal.returns-clause-tells
returns-clause-tells g c =
    let told = c.tell_others.ensures in (
      told.0,
      (
        c.in-Some.text.items,
        rw (c.as_str.ensures.value ∙ c.in_ok-path.ensures, c.in-Some.is) at c.in_ok-text.ensures,
        λ memory have. c.in_default-nodes_in.ensures memory (subst (λ (text : List ℕ). IsListOf text memory) (sym c.as_slice.ensures.value) have.0) have.1,
        rw (c.as_str-2.ensures.value ∙ c.in_ok-path.ensures, c.as_slice-2.ensures.value, c.empty-none.ensures) at told.1,
      ),
      told.2,
    )
