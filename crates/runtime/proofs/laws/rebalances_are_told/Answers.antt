use Rattle.runtime.specs.ScriptLaws.{begun_are_told, begun_short_are_told, plans_are_told, rebalances_are_told, scripts_rebalance, shortages_are_told}
use Rattle.runtime.proofs.laws.rebalances_are_told.Goals as goal

pub returns-clause-told : goal.returns-clause-told
returns-clause-told c = rebalances_are_told c.each_rebalance.ensures

pub returns-clause-plans : goal.returns-clause-plans
returns-clause-plans c = plans_are_told c.each_rebalance.ensures

pub returns-clause-scripts : goal.returns-clause-scripts
returns-clause-scripts c = scripts_rebalance c.each_rebalance.ensures

pub returns-clause-shortages : goal.returns-clause-shortages
returns-clause-shortages c = shortages_are_told c.each_rebalance.ensures

pub returns-clause-begun : goal.returns-clause-begun
returns-clause-begun c = begun_are_told

pub returns-clause-begun_short : goal.returns-clause-begun_short
returns-clause-begun_short c = begun_short_are_told c.whose_rows.ensures.short
