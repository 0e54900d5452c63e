-- The group is there, and its places are as they were.
use Rattle.std.proofs.Common.{◌∙◌, sym, ap, subst, ℕ, List, ◌++◌}
use Rattle.std.specs.Prelude.{string_bytes}
use Rattle.kernel_model.specs.KernelState.{KernelState}
use Rattle.cpuset_tree.specs.Places.{place_of}
use Rattle.cgroup_tree.specs.Asked.{Written}
use Rattle.cgroup_tree.specs.Mirrored.{TriesWhere}
use Rattle.cgroup_tree.specs.Paths.{folder, list_line, cpus_file}
use Rattle.cgroup_tree.specs.MirroredLemmas.{asks_write, looks_same}
use Rattle.cgroup_tree.specs.RoomLemmas.{is_done, is_there, room_more, room_written}
use Rattle.cgroup_tree.proofs.mirror.Mirror.write_cpus.Goals as goal

pub look-requires-clause-path : goal.look-requires-clause-path
look-requires-clause-path g c =
    rw (c.tell.ensures.room, c.tell.ensures.root, c.tell.ensures.inner)
    (room_written _ _ c.args.self.now.inner c.args.group c.args.cpus c.write_cpus-answer.new.self
    (room_more _ _ _ c.args.self.now.inner.tree c.write_list-asked.ensures.wider.0 c.requires.path)
    (is_done c.args.self.now.inner c.args.group c.args.cpus c.write_cpus-answer.result c.write_cpus-answer.new.self
    (sym c.is_ok.ensures.value ∙ c.if-is_ok.true) c.write_cpus-answer.ensures.case))

pub look-requires-clause-there : goal.look-requires-clause-there
look-requires-clause-there g c =
    rw c.tell.ensures.inner
    (is_there c.args.self.now.inner c.args.group c.args.cpus c.write_cpus-answer.new.self
    (is_done c.args.self.now.inner c.args.group c.args.cpus c.write_cpus-answer.result c.write_cpus-answer.new.self
    (sym c.is_ok.ensures.value ∙ c.if-is_ok.true) c.write_cpus-answer.ensures.case))

pub returns-then-is_ok-clause-asks : goal.returns-then-is_ok-clause-asks
returns-then-is_ok-clause-asks g c =
    asks_write g.F.GroupFiles.asked _ _ _ c.args.self.now.inner _ c.args.group c.args.cpus _ _ _ _ c.write_list-asked.result c.write_cpus-answer.result
    (sym c.is_err.ensures.value ∙ c.if-is_err.false) (sym c.is_ok.ensures.value ∙ c.if-is_ok.true) c.write_cpus-answer.ensures.case
    (subst (λ (root : List ℕ). TriesWhere g.F.GroupFiles.asked c.args.self.now.files (place_of c.args.self.now.inner.tree c.args.group)
    (Written (root ++ (folder c.args.self.now.inner.tree c.args.group ++ cpus_file)) (list_line c.args.cpus)) c.write_list-asked.result c.write_list-asked.new.files)
    c.as_str-root.ensures.value c.write_list-asked.ensures.tries)
    (looks_same g.F.GroupFiles.asked _ _ _ _ _ _ _ _ c.args.group _ c.tell.ensures.files c.tell.ensures.partition (ap string_bytes c.tell.ensures.root)
    (sym (ap (λ (k : KernelState). k.tree) c.look.ensures.model.0)) c.look.ensures.looks)
