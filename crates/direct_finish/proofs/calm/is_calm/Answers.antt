use Rattle.direct_finish.specs.SettledLemmas.{lead_calm, since_kept}
use Rattle.direct_finish.proofs.calm.is_calm.Goals as goal

pub returns-then-lead_on-clause-calm : goal.returns-then-lead_on-clause-calm
returns-then-lead_on-clause-calm g c = λ t. record {
  each = lead_calm (record { entries = c.args.entries.now; reserved = c.args.reserved.now }) (g.K.Kernel.state c.args.kernel.now) c.args.nexts.now c.args.standings.now (c.lead_on.ensures.lead c.if-lead_on.true);
  held = c.holds_yet.ensures c.if-not-holds_yet.false;
}

pub returns-then-lead_on-clause-since : goal.returns-then-lead_on-clause-since
returns-then-lead_on-clause-since g c =
    since_kept c.args.nexts.now c.args.standings.now _ _ c.lead_on.ensures.roomy c.lead_on.ensures.full c.requires.since c.lead_on.ensures.settled

pub returns-clause-since : goal.returns-clause-since
returns-clause-since g c =
    since_kept c.args.nexts.now c.args.standings.now _ _ c.lead_on.ensures.roomy c.lead_on.ensures.full c.requires.since c.lead_on.ensures.settled
