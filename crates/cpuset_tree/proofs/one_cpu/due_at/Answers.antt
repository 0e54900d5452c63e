use Rattle.std.proofs.Common.{ap, sym, ◌∙◌}
use Rattle.std.specs.Option.{option_copied}
use Rattle.cpuset_tree.proofs.OneCpuLemmas.{near_there}
use Rattle.cpuset_tree.proofs.one_cpu.due_at.Goals as goal

pub due_of-requires : goal.due_of-requires
due_of-requires c =
    let n = c.in_ok-kept.kept.now in
    rw c.deref.ensures (rw c.deref-2.ensures
    (near_there c.args.cpu c.args.groups.now c.args.key n c.in_ok-kept-2.field-0 c.in_ok-above.above.now c.requires
    (sym c.get.ensures ∙ ap option_copied (c.in_ok-kept.was)) c.in_ok-kept-2.was (sym c.get-2.ensures ∙ ap option_copied (c.in_ok-above.was))))
