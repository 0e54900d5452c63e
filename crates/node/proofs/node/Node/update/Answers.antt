use Rattle.std.proofs.Common.{subst}
use Rattle.std.specs.Prelude.{Result}
use Rattle.faults.specs.declared.OrMemory.{OrMemory}
use Rattle.node.specs.declared.fault.NodeFault.{NodeFault}
use Rattle.node.specs.Updates.{Updates}
use Rattle.node.proofs.RewriteLemmas.{update_counts, update_few, update_none, updates_fail}
use Rattle.node.proofs.node.Node.update.Goals as goal

pub returns : goal.returns
returns g c =
    let done = c.update_body.ensures in
    let n = c.args.self.now in
    let id = c.args.id.now in
    let bundle = c.args.bundle.now in
    let config = c.args.config.now in
    record {
      updates = done;
      counted = update_counts n id bundle config c.update_body.result c.update_body.new.self done;
      few = update_few n id bundle config c.update_body.result c.update_body.new.self done;
      none = update_none n id bundle config c.update_body.result c.update_body.new.self done;
      fails = λ fault is. updates_fail n id bundle config fault c.update_body.new.self c.holds.ensures
          (subst (λ (r : Result (Unit {0}) (OrMemory NodeFault)). Updates n id bundle config r c.update_body.new.self) is done);
    }
