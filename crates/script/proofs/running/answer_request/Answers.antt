use Rattle.script.specs.Commands.{asked}
use Rattle.script.proofs.Replying.{Replies-flushed}
use Rattle.script.proofs.running.answer_request.Goals as goal

pub returns-in_ok-answer-in-Asks : goal.returns-in_ok-answer-in-Asks
returns-in_ok-answer-in-Asks g c =
    rw c.in-Asks.is (Replies-flushed (g.T.Target.answers c.args.target.now (asked c.in-Asks.command)) _ (g.W.Write.contents c.answer.new.w) _ c.flush.result c.answer.new.self _ c.in_ok-answer-in-Asks.ensures c.flush.ensures.bytes)
