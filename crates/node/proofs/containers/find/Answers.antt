use Rattle.std.proofs.Common.{◌∙◌, ap, sym}
use Rattle.std.specs.Prelude.{option_map}
use Rattle.node.specs.Viewed.{viewed}
use Rattle.node.proofs.ContainerLemmas.{looked_up, seen_copied}
use Rattle.node.proofs.containers.find.Goals as goal

pub returns : goal.returns
returns c = seen_copied c.get.result ∙ ap (option_map viewed) c.get.ensures.value ∙ sym (looked_up c.args.id.now c.args.containers.now.entries)
