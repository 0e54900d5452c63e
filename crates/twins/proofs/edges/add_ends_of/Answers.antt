use Rattle.cpu_set.specs.Members.{IsCpu}
use Rattle.std.proofs.Common.{ap, subst, sym, ◌∙◌}
use Rattle.std.proofs.lemmas.Bool.{true≢false}
use Rattle.twins.proofs.Ends.{no_end}
use Rattle.std.specs.FinSet as set
use Rattle.twins.proofs.edges.add_ends_of.Goals as goal

pub returns-clause-kept : goal.returns-clause-kept
returns-clause-kept c = λ cpu here. c.add-2.ensures.kept cpu (c.add.ensures.kept cpu here)

pub returns-clause-told : goal.returns-clause-told
returns-clause-told c = λ cpu fits off.
    no_end c.args.first c.args.last cpu
    (λ e. true≢false (sym (c.add-2.ensures.kept c.args.first (c.add.ensures.there (subst IsCpu e fits))) ∙ ap (set.contains c.add-2.new.edges) (sym e) ∙ off))
    (λ e. true≢false (sym (c.add-2.ensures.there (subst IsCpu e fits)) ∙ ap (set.contains c.add-2.new.edges) (sym e) ∙ off))
