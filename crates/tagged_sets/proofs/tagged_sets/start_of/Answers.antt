use Rattle.std.proofs.Common.{ap, arith, suc, sym, ◌-◌, ◌∙◌, ◌≡◌}
use Rattle.tagged_sets.proofs.Kept.{start_at-0, start_at-more}
use Rattle.tagged_sets.specs.Tagged.{start_at}
use Rattle.tagged_sets.proofs.tagged_sets.start_of.Goals as goal

pub returns-then-at-eq0 : goal.returns-then-at-eq0
returns-then-at-eq0 g c = sym (ap (start_at 0 c.args.heads.now) c.if-at-eq0.true ∙ start_at-0 0 c.args.heads.now)

pub returns-else-at-eq0 : goal.returns-else-at-eq0
returns-else-at-eq0 g c =
    let next : suc (c.args.at - 1) ≡ c.args.at = omega arith in
    sym (ap (start_at 0 c.args.heads.now) (sym next) ∙ start_at-more 0 c.args.heads.now (c.args.at - 1) c.index-heads-at.result (omega arith))
