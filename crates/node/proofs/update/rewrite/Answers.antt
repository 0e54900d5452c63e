use Rattle.node.specs.Viewed.{viewed}
use Rattle.node.proofs.RewriteLemmas.{rewrite_made}
use Rattle.node.proofs.update.rewrite.Goals as goal

pub returns : goal.returns
returns g c =
    rewrite_made (g.K.Kernel.state c.args.kernel.now) c.args.reserved (viewed c.args.container.now) c.args.demand.now (g.K.Kernel.state c.write_mems_if.new.kernel)
    c.gives_way-gives.result c.gives_way-gives.ensures (g.K.Kernel.state c.write_cpus_if.new.kernel) _ c.in_ok-write_cpus_if.ensures
    c.moves_home-moves.result c.moves_home-moves.ensures c.write_mems_if.result c.write_mems_if.ensures
