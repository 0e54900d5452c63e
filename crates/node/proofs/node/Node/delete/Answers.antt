use Rattle.node.proofs.CountLemmas.{delete_counts}
use Rattle.node.proofs.WriteLemmas.{delete_makes}
use Rattle.node.specs.ToldLemmas.{delete_is_told}
use Rattle.node.proofs.node.Node.delete.Goals as goal

pub returns : goal.returns
returns g c =
    let done = c.delete_body.ensures in
    record {
      deletes = done;
      counted = delete_counts c.args.self.now c.args.id.now c.delete_body.result c.delete_body.new.self done;
      told = delete_is_told c.args.self.now c.args.id.now c.delete_body.result c.delete_body.new.self done;
      made = delete_makes c.args.self.now c.args.id.now c.delete_body.result c.delete_body.new.self done;
    }
