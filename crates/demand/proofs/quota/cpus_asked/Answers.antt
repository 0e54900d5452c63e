use Rattle.std.proofs.Common.{arith}
use Rattle.demand.proofs.Rounding.{rounded}
use Rattle.demand.proofs.quota.cpus_asked.Goals as goal

pub returns-then-count-clause-none : goal.returns-then-count-clause-none
returns-then-count-clause-none c =
    (rounded c.args.quota c.args.period c.args.threads c.div_ceil.result c.div_ceil-2.result c.requires.quota c.requires.period c.requires.threads c.div_ceil.ensures c.div_ceil-2.ensures).past (omega (arith, c.if-count.true))

pub returns-else-count-clause-some : goal.returns-else-count-clause-some
returns-else-count-clause-some c =
    (rounded c.args.quota c.args.period c.args.threads c.div_ceil.result c.div_ceil-2.result c.requires.quota c.requires.period c.requires.threads c.div_ceil.ensures c.div_ceil-2.ensures).asks

pub returns-else-count-clause-fits : goal.returns-else-count-clause-fits
returns-else-count-clause-fits c =
    (rounded c.args.quota c.args.period c.args.threads c.div_ceil.result c.div_ceil-2.result c.requires.quota c.requires.period c.requires.threads c.div_ceil.ensures c.div_ceil-2.ensures).fits (omega (arith, c.if-count.false))
