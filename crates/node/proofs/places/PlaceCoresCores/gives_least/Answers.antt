use Rattle.node.proofs.LeastLemmas.{least_is}
use Rattle.node.proofs.places.PlaceCoresCores.gives_least.Goals as goal

pub returns : goal.returns
returns c = least_is c.args.self.now.machine.now c.threads.ensures.sound
