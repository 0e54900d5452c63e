use Rattle.std.proofs.Common.{◌≡◌, refl, arith}
use Rattle.machine.specs.Layout.{node_count}
use Rattle.machine.proofs.Reaching.{AreLeast-none, AreLeast-all}
use Rattle.machine.proofs.machine.Machine.least_weights.Goals as goal

pub loop-home-init : goal.loop-home-init
loop-home-init c = AreLeast-none _ _ _ refl

pub returns : goal.returns
returns c =
    let all : c.loop-home.home ≡ node_count c.args.self.now = omega arith in
    AreLeast-all _ _ _ c.loop-home.home c.count-home-end.ensures.sound c.requires c.loop-home.invariant all
