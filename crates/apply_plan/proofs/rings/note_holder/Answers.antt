use Rattle.std.proofs.Common.{sym, ap, ◌∙◌}
use Rattle.std.specs.FinSet as set
use Rattle.apply_plan.specs.FirstHolderLemmas.{firsts_pass, firsts_more}
use Rattle.apply_plan.proofs.rings.note_holder.Goals as goal

pub returns-then-not-counts-clause-firsts : goal.returns-then-not-counts-clause-firsts
returns-then-not-counts-clause-firsts g c =
    firsts_pass (g.K.Kernel.state c.args.kernel.now) c.args.reserved.now c.args.entries.now c.args.any c.args.place c.index-entries-place.result c.args.seen.now c.args.places.now
    c.requires.within c.index-entries-place.is (sym c.counts.ensures ∙ c.if-not-counts.true) c.requires.before

pub returns-clause-firsts : goal.returns-clause-firsts
returns-clause-firsts g c =
    firsts_more (g.K.Kernel.state c.args.kernel.now) c.args.reserved.now c.args.entries.now c.args.any c.args.place c.index-entries-place.result c.args.seen.now _ _ c.args.places.now _
    c.requires.within c.index-entries-place.is (sym c.counts.ensures ∙ c.if-not-counts.false)
    (c.minus-news.ensures ∙ ap (λ s. set.difference s c.args.seen.now) (c.minus.ensures ∙ ap (λ s. set.difference s c.args.reserved.now) c.requested.ensures))
    c.union.ensures c.mark.ensures.each c.requires.before
