use Rattle.std.proofs.Common.{◌≡◌, Bool, true, List, ℕ, ap, sym, ◌∙◌, length}
use Rattle.certificate.specs.RowView.{RowView}
use Rattle.certificate.specs.IsShortage.{chosen}
use Rattle.certificate.specs.Limits.{is_shortage_within_limits}
use Rattle.certificate.proofs.LimitFacts.{AreNumbered, number_facts}
use Rattle.certificate.proofs.MemberRows.{offered_count}
use Rattle.certificate.proofs.shortages.check_shortage_body.Goals as goal

facts_of :
    {rows : List RowView} {members : List ℕ} {b : Bool} → b ≡ is_shortage_within_limits rows members → b ≡ true → AreNumbered rows members
facts_of {rows} {members} is within = number_facts rows members (sym is ∙ within)

pub asked_by-asked-requires-clause-fit : goal.asked_by-asked-requires-clause-fit
asked_by-asked-requires-clause-fit c = (facts_of c.is_shortage_within_limits.ensures c.if-not-is_shortage_within_limits.false).rows_are

pub asked_by-asked-requires-clause-few : goal.asked_by-asked-requires-clause-few
asked_by-asked-requires-clause-few c = (facts_of c.is_shortage_within_limits.ensures c.if-not-is_shortage_within_limits.false).few

pub asked_by-asked-requires-clause-rows : goal.asked_by-asked-requires-clause-rows
asked_by-asked-requires-clause-rows c = (facts_of c.is_shortage_within_limits.ensures c.if-not-is_shortage_within_limits.false).there

pub offered_to-requires : goal.offered_to-requires
offered_to-requires c = (facts_of c.is_shortage_within_limits.ensures c.if-not-is_shortage_within_limits.false).there

pub returns-clause-there : goal.returns-clause-there
returns-clause-there c =
    c.count-there.ensures.members ∙ ap length (offered_count (chosen c.args.rows.now c.args.members.now) c.offered_to.result c.offered_to.ensures)
