use Rattle.direct_finish.specs.SettledLemmas.{done_leads, lead_settled}
use Rattle.direct_finish.proofs.since.Since.lead_on.Goals as goal

pub returns-then-are_done-clause-settled : goal.returns-then-are_done-clause-settled
returns-then-are_done-clause-settled c =
    lead_settled c.args.nexts.now c.args.standings.now c.forget.new.self
    (done_leads c.args.nexts.now c.args.befores.now c.args.standings.now c.args.self.now c.requires.room c.requires.befores c.requires.settled
    (c.are_done.ensures c.if-are_done.true) c.requires.behind)

pub returns-then-are_done-clause-lead : goal.returns-then-are_done-clause-lead
returns-then-are_done-clause-lead c = λ t.
    done_leads c.args.nexts.now c.args.befores.now c.args.standings.now c.args.self.now c.requires.room c.requires.befores c.requires.settled
    (c.are_done.ensures c.if-are_done.true) c.requires.behind
