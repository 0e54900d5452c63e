use Rattle.std.proofs.Common.{ap, subst, sym}
use Rattle.cgroup_tree.specs.Site.{Begins, Site}
use Rattle.tools.proofs.mirror.over.Goals as goal

pub new-kernel-requires-clause-first : goal.new-kernel-requires-clause-first
new-kernel-requires-clause-first g c = subst (λ (s : Site). Begins s.first c.args.inner) (sym c.requires.site) c.requires.begins

pub new-kernel-requires-clause-root : goal.new-kernel-requires-clause-root
new-kernel-requires-clause-root g c = ap (λ (s : Site). s.root) (sym c.requires.site)

pub new-kernel-requires-clause-memory : goal.new-kernel-requires-clause-memory
new-kernel-requires-clause-memory g c = ap (λ (s : Site). s.memory) (sym c.requires.site)

pub new-kernel-requires-clause-partition : goal.new-kernel-requires-clause-partition
new-kernel-requires-clause-partition g c = ap (λ (s : Site). s.partition) (sym c.requires.site)
