use Rattle.std.proofs.Common.{◌∙◌, ap}
use Rattle.node.specs.Viewed.{all_seen}
use Rattle.node.proofs.ContainerLemmas.{removed}
use Rattle.node.proofs.containers.take_out.Goals as goal

pub returns : goal.returns
returns c = ap all_seen c.shift_remove.ensures.entries ∙ removed c.args.id.now c.args.containers.now.entries
