use Rattle.rows.specs.LimitLemmas.{rows_weigh}
use Rattle.rows.specs.PartLemmas.{scaled_rows_weigh}
use Rattle.node.proofs.BestLemmas.{all_come, all_kept}
use Rattle.node.proofs.HeldLemmas.{rows_held}
use Rattle.node.proofs.node.Node.answer.Goals as goal

pub decide-requires-clause-writable : goal.decide-requires-clause-writable
decide-requires-clause-writable g c = record {
  can = c.in_ok-problem.ensures.can;
  held = rows_held c.what_is_within_the_limits.ensures.rows rows_weigh scaled_rows_weigh c.args.self.now c.holds.ensures _ c.in_ok-problem.ensures.rows
      c.in_ok-problem.ensures.fit;
  apart = c.in_ok-problem.ensures.apart;
}

pub returns-clause-best : goal.returns-clause-best
returns-clause-best g c = all_come c.args.self.now c.holds.ensures _ c.in_ok-problem.ensures.rows c.decide.result c.decide.ensures.decided

pub returns-clause-kept : goal.returns-clause-kept
returns-clause-kept g c =
    all_kept c.args.self.now c.holds.ensures _ c.in_ok-problem.ensures.rows c.in_ok-problem.ensures.fit c.decide.result c.decide.ensures.decided
    c.decide.ensures.can c.decide.ensures.held
