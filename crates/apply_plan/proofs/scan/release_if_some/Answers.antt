use Rattle.std.proofs.Common.{not, sym, ap}
use Rattle.std.specs.Prelude.{cond, Some, None}
use Rattle.cpu_set.specs.PointwiseLaws.{is_same_decides}
use Rattle.apply_plan.specs.Kept.{kept}
use Rattle.apply_plan.proofs.scan.release_if_some.Goals as goal

pub returns-then-keeps_all : goal.returns-then-keeps_all
returns-then-keeps_all c =
    let e = c.args.entry.now in
    let keeps = kept c.args.reserved.now e.target c.args.held.now in
    sym (ap (λ b. cond (not b) (Some (record { group = e.group; cpus = keeps })) None) ((is_same_decides _ _).1 (c.keeps_all.ensures c.if-keeps_all.true)))
