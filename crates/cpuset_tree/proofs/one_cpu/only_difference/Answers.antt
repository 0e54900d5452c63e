use Rattle.std.proofs.Common.{sym, ◌∙◌}
use Rattle.cpu_set.specs.PointwiseLaws.{is_same_decides}
use Rattle.cpuset_tree.proofs.NearLemmas.{agree_without}
use Rattle.cpuset_tree.proofs.one_cpu.only_difference.Goals as goal

pub returns-then-eq-clause-agree : goal.returns-then-eq-clause-agree
returns-then-eq-clause-agree c =
    agree_without c.first_difference-cpu.result c.args.was.now c.args.online.now
    (sym c.remove.ensures ∙ (is_same_decides _ _).0 (sym c.eq.ensures ∙ c.if-eq.true) ∙ c.remove-2.ensures)
