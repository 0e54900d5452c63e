use Rattle.std.proofs.Common.{◌∙◌, ap}
use Rattle.node.specs.Viewed.{all_seen}
use Rattle.node.proofs.ContainerLemmas.{pushed, not_kept}
use Rattle.node.proofs.containers.append.Goals as goal

pub returns : goal.returns
returns c =
    ap all_seen c.in-Ok.ensures.entries
    ∙ pushed c.args.containers.now c.args.id c.args.container (not_kept c.args.id c.args.containers.now.entries c.requires.absent)
