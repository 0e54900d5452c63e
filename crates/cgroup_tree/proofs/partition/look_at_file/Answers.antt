-- The file was read, and has the line of a partition root or not; or there is none.
use Rattle.std.proofs.Common.{[], ◌∷◌, ◌++◌, Some, None, refl, sym, ◌∙◌}
use Rattle.std.proofs.lemmas.Bool.{both_ways}
use Rattle.cgroup_tree.specs.Asked.{IsAbsent, Told, done}
use Rattle.cgroup_tree.specs.Paths.{partition_file}
use Rattle.cgroup_tree.proofs.partition.look_at_file.Goals as goal

pub returns-in_default-clause-looks : goal.returns-in_default-clause-looks
returns-in_default-clause-looks g c = (None, rw (c.as_str.ensures.value ∙ c.in_ok-path.ensures, c.in_default.is) at c.in_ok-text.ensures, λ is. is)

pub returns-in_default-clause-tells : goal.returns-in_default-clause-tells
returns-in_default-clause-tells g c =
    let told = done (Told (c.args.root.now ++ partition_file) IsAbsent) ∷ [] in (
      told,
      (None, rw (c.as_str.ensures.value ∙ c.in_ok-path.ensures, c.in_default.is) at c.in_ok-text.ensures, λ is. is, refl),
      rw (c.as_str-in_default.ensures.value ∙ c.in_ok-path.ensures) at c.tell.ensures,
    )

pub returns-then-is_partition_line-clause-looks : goal.returns-then-is_partition_line-clause-looks
returns-then-is_partition_line-clause-looks g c = (
  Some c.in-Some.text.items,
  rw (c.as_str.ensures.value ∙ c.in_ok-path.ensures, c.in-Some.is) at c.in_ok-text.ensures,
  sym c.as_slice.ensures.value ∙ c.is_partition_line.ensures.0 c.if-is_partition_line.true,
)

pub returns-clause-looks : goal.returns-clause-looks
returns-clause-looks g c = (
  Some c.in-Some.text.items,
  rw (c.as_str.ensures.value ∙ c.in_ok-path.ensures, c.in-Some.is) at c.in_ok-text.ensures,
  λ is. both_ways c.is_partition_line.result c.if-is_partition_line.false (c.is_partition_line.ensures.1 (c.as_slice.ensures.value ∙ is)),
)

pub returns-clause-tells : goal.returns-clause-tells
returns-clause-tells g c = (
  _,
  (
    Some c.in-Some.text.items,
    rw (c.as_str.ensures.value ∙ c.in_ok-path.ensures, c.in-Some.is) at c.in_ok-text.ensures,
    λ is. both_ways c.is_partition_line.result c.if-is_partition_line.false (c.is_partition_line.ensures.1 (c.as_slice.ensures.value ∙ is)),
    refl,
  ),
  rw (c.as_str-2.ensures.value ∙ c.in_ok-path.ensures, c.as_slice-2.ensures.value) at c.tell-2.ensures,
)
