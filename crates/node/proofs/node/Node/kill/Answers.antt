use Rattle.node.proofs.CountLemmas.{kill_counts}
use Rattle.node.proofs.WriteLemmas.{kill_makes}
use Rattle.node.specs.ToldLemmas.{kill_is_told}
use Rattle.node.proofs.node.Node.kill.Goals as goal

pub returns : goal.returns
returns g c =
    let done = c.kill_body.ensures in
    record {
      kills = done;
      counted = kill_counts c.args.self.now c.args.id.now c.args.signal.now c.kill_body.result c.kill_body.new.self done;
      told = kill_is_told c.args.self.now c.args.id.now c.args.signal.now c.kill_body.result c.kill_body.new.self done;
      made = kill_makes c.args.self.now c.args.id.now c.args.signal.now c.kill_body.result c.kill_body.new.self done;
    }
