use Rattle.std.proofs.Common.{arith}
use Rattle.twins.proofs.Placed.{added}
use Rattle.twins.proofs.parts.Parts.add.Goals as goal

pub returns : goal.returns
returns c =
    added c.self.inside.sets.items c.push.new.self.items c.args.cpus.now c.self.inside.waiting.items c.self.inside.done.items c.push-2.new.self.items
    _ c.args.self.now c.in_ok-push.ensures.items c.in_ok-push-2.ensures.items
    (omega (arith, c.self.inside.sets.ok.0, c.len-place.ensures)) c.self.invariant c.self.view_is
