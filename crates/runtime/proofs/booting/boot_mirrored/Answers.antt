-- A new kernel of which nothing was asked is new.
use Rattle.std.proofs.Common.{ap, inr, subst, sym}
use Rattle.machine.specs.Present.{present}
use Rattle.machine.specs.Nodes.{nodes_of}
use Rattle.runtime.specs.MirroredNodes.{IsNotBooted}
use Rattle.runtime.specs.declared.booting.TheConstants.{FIRST_PID}
use Rattle.cgroup_tree.specs.Mirrored.{mirrored}
use Rattle.cgroup_tree.specs.FirstLemmas.{first_mirrored}
use Rattle.cgroup_tree.specs.Site.{Begins, Site}
use Rattle.runtime.proofs.booting.boot_mirrored.Goals as goal

pub new-kernel-requires-clause-first : goal.new-kernel-requires-clause-first
new-kernel-requires-clause-first g c = subst (λ (s : Site). Begins s.first c.in-Ok.inner) (sym c.requires.site) c.in-Ok.ensures

pub new-kernel-requires-clause-root : goal.new-kernel-requires-clause-root
new-kernel-requires-clause-root g c = ap (λ (s : Site). s.root) (sym c.requires.site)

pub new-kernel-requires-clause-memory : goal.new-kernel-requires-clause-memory
new-kernel-requires-clause-memory g c = ap (λ (s : Site). s.memory) (sym c.requires.site)

pub new-kernel-requires-clause-partition : goal.new-kernel-requires-clause-partition
new-kernel-requires-clause-partition g c = ap (λ (s : Site). s.partition) (sym c.requires.site)

pub returns-in-Ok-new-clause-boots : goal.returns-in-Ok-new-clause-boots
returns-in-Ok-new-clause-boots g c =
    let made = c.new-kernel.result in
    let m = c.args.machine in (
      mirrored made.trace made.inner,
      first_mirrored (present m) m.reserved m.online (nodes_of m) FIRST_PID made.trace made.inner c.new-kernel.ensures.trace
          (rw c.new-kernel.ensures.inner c.in-Ok.ensures),
      c.in-Ok-new.ensures.opened,
    )

pub returns-clause-err : goal.returns-clause-err
returns-clause-err g c =
    let made = c.new-kernel.result in
    let m = c.args.machine in
    let refused = c.in-Err.not_opened.kernel in
    let its : IsNotBooted g.F.GroupFiles.asked g.S.Sited.site m c.in-Err.not_opened.error =
    record {
      first = mirrored made.trace made.inner;
      its = first_mirrored (present m) m.reserved m.online (nodes_of m) FIRST_PID made.trace made.inner c.new-kernel.ensures.trace
          (rw c.new-kernel.ensures.inner c.in-Ok.ensures);
      kernel = mirrored refused.trace refused.inner;
      refused = c.in-Err.ensures.refused;
      files = refused.files;
      mirrored = c.is_mirrored-in-Err.ensures.mirrored;
    } in
    inr (its, rw c.into_files.ensures its.mirrored.made)
