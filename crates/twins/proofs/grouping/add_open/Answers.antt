use Rattle.std.proofs.Common.{◌++◌, [], ◌∷◌, take, take_all, append_assoc, sym, ap, ◌∙◌, arith}
use Rattle.std.proofs.lemmas.List.{take_more}
use Rattle.twins.proofs.grouping.add_open.Goals as goal

pub loop-at-preserved : goal.loop-at-preserved
loop-at-preserved c =
    c.in_ok-push.ensures.items ∙ ap (λ l. l ++ c.cpus.result.now ∷ []) c.loop-at.invariant
    ∙ append_assoc c.args.classes.now.items (take c.loop-at.at c.args.parts.now.waiting) (c.cpus.result.now ∷ [])
    ∙ ap (λ l. c.args.classes.now.items ++ l) (sym (take_more c.args.parts.now.waiting c.loop-at.at c.cpus.result.now (omega arith) ∙ ap (λ s. take c.loop-at.at c.args.parts.now.waiting ++ s ∷ []) (sym (c.cpus.ensures c.cpus.result.now))))

pub returns : goal.returns
returns c = c.loop-at.invariant ∙ ap (λ l. c.args.classes.now.items ++ l) (take_all _ _ (omega arith))
