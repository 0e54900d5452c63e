use Rattle.transport.proofs.Sharing.{given_push}
use Rattle.transport.proofs.assignment.add.Goals as goal

pub returns : goal.returns
returns c = given_push c.args.shares.now.items c.push.new.self.items c.args.row c.args.amount c.requires c.in_ok-push.ensures.items
