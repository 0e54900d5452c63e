use Rattle.std.proofs.Common.{sym, ◌∙◌, refl}
use Rattle.std.proofs.lemmas.Bool.{iff_false}
use Rattle.cpuset_tree.specs.GrantedLemmas.{granted_all, granted_part}
use Rattle.cgroup_tree.proofs.cpuset.with_memory.Goals as goal

pub returns-then-is_empty : goal.returns-then-is_empty
returns-then-is_empty c = sym (granted_all c.args.mems.now c.args.memory.now (sym c.meet-both.ensures ∙ c.if-is_empty.ensures.0 refl))

pub returns-else-is_empty : goal.returns-else-is_empty
returns-else-is_empty c =
    c.meet-both.ensures
    ∙ sym (granted_part c.args.mems.now c.args.memory.now (λ e. iff_false c.if-is_empty.ensures refl (c.meet-both.ensures ∙ e)))
