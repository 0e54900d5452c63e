use Rattle.std.proofs.Common.{sym, ap, ◌∙◌}
use Rattle.cpuset_tree.proofs.NearLemmas.{due_where_shared, due_where_all, due_where_neither}
use Rattle.cpuset_tree.specs.Near.{with_cpu}
use Rattle.cpuset_tree.proofs.one_cpu.due_of.Goals as goal

pub returns-then-asked : goal.returns-then-asked
returns-then-asked c =
    due_where_shared c.args.cpu c.in_ok-other.other c.args.share.now.effective c.args.share.now.requested c.args.above.now
    c.in_ok-other.ensures.apart c.in_ok-other.ensures.there c.requires
    (sym c.contains-had.ensures ∙ c.if-had.true) (sym c.contains-asked.ensures ∙ c.if-asked.true)
    ∙ ap (λ b. with_cpu c.args.cpu b c.args.share.now.effective) (sym c.are_both-shared.ensures)

pub returns-then-had : goal.returns-then-had
returns-then-had c =
    due_where_all c.args.cpu c.in_ok-other.other c.args.share.now.effective c.args.share.now.requested c.args.above.now
    c.in_ok-other.ensures.apart c.in_ok-other.ensures.there c.requires
    (sym c.contains-had.ensures ∙ c.if-had.true) (sym c.contains-asked.ensures ∙ c.if-asked.false) (sym c.are_both-shared.ensures ∙ c.if-shared.false)
    ∙ ap (λ b. with_cpu c.args.cpu b c.args.share.now.effective) (sym c.contains.ensures)

pub returns : goal.returns
returns c =
    due_where_neither c.args.cpu c.in_ok-other.other c.args.share.now.effective c.args.share.now.requested c.args.above.now
    c.in_ok-other.ensures.apart c.in_ok-other.ensures.there c.requires
    (sym c.contains-had.ensures ∙ c.if-had.false) (sym c.contains-asked.ensures ∙ c.if-asked-2.false) (sym c.are_both-shared.ensures ∙ c.if-shared-2.false)
    (sym c.contains-else-shared-2.ensures ∙ c.if-contains.false)
