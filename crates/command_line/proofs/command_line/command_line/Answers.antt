-- One subcommand after another.
use Rattle.std.proofs.lemmas.Result.{IfOk-weaker}
use Rattle.command_line.proofs.Leaves.{app_of-leaf}
use Rattle.command_line.proofs.command_line.command_line.Goals as goal

pub returns : goal.returns
returns c =
    let one = app_of-leaf _ _ _ c.bare.ensures c.in_ok-check.ensures c.in_ok-subcommand.ensures in
    let two = app_of-leaf _ _ _ one c.in_ok-list.ensures c.in_ok-subcommand-2.ensures in
    let three = app_of-leaf _ _ _ two c.in_ok-slit.ensures c.in_ok-subcommand-3.ensures in
    let four = app_of-leaf _ _ _ three c.in_ok-run.ensures c.in_ok-subcommand-4.ensures in
    IfOk-weaker c.subcommand-5.result _ _ (λ all adds. app_of-leaf _ _ all four c.in_ok-solve.ensures adds) c.subcommand-5.ensures
