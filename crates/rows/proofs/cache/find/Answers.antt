use Rattle.std.proofs.Common.{◌∙◌, sym}
use Rattle.rows.proofs.CacheLemmas.{found}
use Rattle.rows.proofs.cache.find.Goals as goal

pub returns-then-eq-2 : goal.returns-then-eq-2
returns-then-eq-2 c m all =
    found m c.args.cache.now c.loop-cached.cached-index c.cached-item.result c.args.homes.now c.args.cpus.now c.loop-cached-test.true c.cached-item.is
    (sym c.eq-then-eq.ensures ∙ c.if-eq-2.true) (sym c.eq.ensures ∙ c.if-eq.true) all
