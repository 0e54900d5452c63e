use Rattle.tagged_sets.proofs.Pieces.{run_found}
use Rattle.tagged_sets.proofs.cuts.run_from.Goals as goal

pub returns-then-first-last-clause-run : goal.returns-then-first-last-clause-run
returns-then-first-last-clause-run c =
    run_found _ _ _ _ c.args.last _ c.next_after.result c.requires.others c.first_from-first.ensures.none c.first_from-first.ensures.member c.if-first-last.true c.requires.last
    c.next_after.ensures.first c.unwrap_or-end.ensures
