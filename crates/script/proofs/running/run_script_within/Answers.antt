-- The script is read piece by piece.
use Rattle.std.proofs.Common.{◌≡◌, ℕ, arith, rules, subst}
use Rattle.script.proofs.Lines.{IsRunning-end_unwritten, IsRunning-ends, IsRunning-more, IsRunning-start, IsRunning-unread, IsRunning-unwritten, Keeps-self, at_the_end, given-more}
use Rattle.script.specs.Ends.{EndsUnread}
use Rattle.script.proofs.running.run_script_within.Goals as goal

pub loop-reads-init : goal.loop-reads-init
loop-reads-init g c = IsRunning-start g.T.Target.answers _ _ _ _ c.new-line.ensures

pub returns-in-Err : goal.returns-in-Err
returns-in-Err g c = (c.loop-reads.reads, search rules, IsRunning-unread g.T.Target.answers _ _ _ _ _ _ _ _ _ c.loop-reads.invariant c.in-Err.ensures.bytes)

pub returns-in-Ok-answer_line : goal.returns-in-Ok-answer_line
returns-in-Ok-answer_line g c =
    IsRunning-ends g.T.Target.answers _ _ _ _ _ _ _ _ _ _ _ _ _ (search rules) c.loop-reads.invariant (at_the_end _ _ c.in-Ok.count c.read.new.buf c.in-Ok.ensures.bytes c.if-count-eq0.true (search rules))
    c.in-Ok-answer_line.ensures.answers c.in-Ok-answer_line.ensures.written

pub returns-in-Err-answer_line : goal.returns-in-Err-answer_line
returns-in-Err-answer_line g c =
    IsRunning-end_unwritten g.T.Target.answers _ _ _ _ _ _ _ _ _ _ _ _ _ (search rules) c.loop-reads.invariant (at_the_end _ _ c.in-Ok.count c.read.new.buf c.in-Ok.ensures.bytes c.if-count-eq0.true (search rules))
    c.in-Err-answer_line.ensures.answers c.in-Err-answer_line.ensures.written

pub returns-in-Err-feed : goal.returns-in-Err-feed
returns-in-Err-feed g c =
    IsRunning-unwritten g.T.Target.answers _ _ _ _ _ _ _ _ _ _ _ _ _ (search rules) c.loop-reads.invariant
    (given-more _ _ c.read.new.buf c.in-Ok.count c.loop-reads.invariant.given (omega (arith, c.if-count-eq0.false)) c.in-Ok.ensures.bound.0 (search rules)) c.in-Ok.ensures.bytes.0 c.in-Err-feed.ensures

pub loop-reads-preserved : goal.loop-reads-preserved
loop-reads-preserved g c =
    IsRunning-more g.T.Target.answers _ _ _ _ _ _ _ _ _ _ _ _ _ c.loop-reads.invariant
    (given-more _ _ c.read.new.buf c.in-Ok.count c.loop-reads.invariant.given (omega (arith, c.if-count-eq0.false)) c.in-Ok.ensures.bound.0 (search rules)) c.in-Ok.ensures.bytes.0 c.in-Ok-feed.ensures

pub returns : goal.returns
returns g c =
    let all : c.loop-reads.reads ≡ c.args.most_reads = search rules in
    subst (λ (reads : ℕ). EndsUnread g.T.Target.answers (g.R.Read.remaining c.args.reader.now) (g.R.Read.remaining c.loop-reads.reader) (g.W.Write.contents c.args.writer.now)
    (g.W.Write.contents c.loop-reads.writer) reads c.args.target.now c.loop-reads.target) all
    (IsRunning-unread g.T.Target.answers _ _ _ _ _ _ _ _ _ c.loop-reads.invariant (Keeps-self _))
