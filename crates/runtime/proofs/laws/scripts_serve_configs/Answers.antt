use Rattle.runtime.proofs.Serving.{scripts_serve_configs}
use Rattle.runtime.proofs.laws.scripts_serve_configs.Goals as goal

pub returns : goal.returns
returns g c = scripts_serve_configs g.B.Bundles.finds c.each_rebalance.ensures c.what_configs_get.ensures
