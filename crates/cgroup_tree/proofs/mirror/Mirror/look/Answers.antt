-- There is room for the path of a file of the root's, as for one of any group.
use Rattle.std.proofs.Common.{arith, ap, length, ◌∙◌}
use Rattle.std.specs.Prelude.{string_bytes}
use Rattle.cgroup_tree.proofs.mirror.Mirror.look.Goals as goal

pub compare_partition-requires : goal.compare_partition-requires
compare_partition-requires g c =
    record {
      path = omega (
        arith,
        c.requires.path c.args.group,
        c.look_at_cpus.ensures.wider.0,
        ap length (c.as_str.ensures.value ∙ ap string_bytes c.look_at_cpus.ensures.same.0),
      );
    }
