-- The file was read, and is the list of the online CPUs or not.
use Rattle.std.proofs.Common.{List, Some, subst, sym, ◌∙◌, ℕ}
use Rattle.std.proofs.lemmas.Bool.{both_ways}
use Rattle.cgroup_tree.specs.Roots.{IsListOf}
use Rattle.cgroup_tree.proofs.root.look_at_cpus.Goals as goal

pub returns-then-is_list_of-clause-looks : goal.returns-then-is_list_of-clause-looks
returns-then-is_list_of-clause-looks g c = (
  Some c.in-Some.text.items,
  rw (c.as_str.ensures.value ∙ c.in_ok-path.ensures, c.in-Some.is) at c.in_ok-text.ensures,
  subst (λ (text : List ℕ). IsListOf text c.args.online.now) c.as_slice.ensures.value (c.is_list_of.ensures.0 c.if-is_list_of.true),
)

pub returns-clause-looks : goal.returns-clause-looks
returns-clause-looks g c = (
  Some c.in-Some.text.items,
  rw (c.as_str.ensures.value ∙ c.in_ok-path.ensures, c.in-Some.is) at c.in_ok-text.ensures,
  λ is. both_ways c.is_list_of.result c.if-is_list_of.false
      (c.is_list_of.ensures.1 (subst (λ (text : List ℕ). IsListOf text c.args.online.now) (sym c.as_slice.ensures.value) is)),
)

pub returns-clause-tells : goal.returns-clause-tells
returns-clause-tells g c =
    let told = c.tell_others.ensures in (
      told.0,
      (
        c.in-Some.text.items,
        rw (c.as_str.ensures.value ∙ c.in_ok-path.ensures, c.in-Some.is) at c.in_ok-text.ensures,
        λ is. both_ways c.is_list_of.result c.if-is_list_of.false
            (c.is_list_of.ensures.1 (subst (λ (text : List ℕ). IsListOf text c.args.online.now) (sym c.as_slice.ensures.value) is)),
        rw (c.as_str-2.ensures.value ∙ c.in_ok-path.ensures, c.as_slice-2.ensures.value) at told.1,
      ),
      told.2,
    )
