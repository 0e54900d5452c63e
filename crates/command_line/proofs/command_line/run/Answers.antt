-- The machine, and then the options.
use Rattle.std.proofs.Common.{rules, [], codes}
use Rattle.std.proofs.lemmas.Result.{IfOk-weaker}
use Rattle.command_line.specs.CommandLine.{IsLeaf, command}
use Rattle.command_line.proofs.Leaves.{IsLeaf-arg}
use Rattle.command_line.proofs.command_line.run.Goals as goal

pub returns : goal.returns
returns c =
    let bare : IsLeaf (command (codes "run") []) c.after_help.result = search rules in
    let one = IsLeaf-arg _ _ c.machine.result bare c.in_ok-arg.ensures c.machine.ensures.rule c.machine.ensures.local in
    let two = IsLeaf-arg _ _ c.table.result one c.in_ok-arg-2.ensures c.table.ensures.rule c.table.ensures.local in
    let three = IsLeaf-arg _ _ c.cgroup.result two c.in_ok-arg-3.ensures c.cgroup.ensures.rule c.cgroup.ensures.local in
    let four = IsLeaf-arg _ _ c.flag.result three c.in_ok-arg-4.ensures c.flag.ensures.rule c.flag.ensures.local in
    IfOk-weaker c.arg-5.result _ _ (λ all adds. IsLeaf-arg _ all c.flag-2.result four adds c.flag-2.ensures.rule c.flag-2.ensures.local) c.arg-5.ensures
