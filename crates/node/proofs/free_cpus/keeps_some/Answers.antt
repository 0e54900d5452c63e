use Rattle.std.proofs.Common.{sym, ap, ◌∙◌}
use Rattle.std.specs.FinSet as set
use Rattle.node.specs.Viewed.{viewed}
use Rattle.node.proofs.FreeLemmas.{keeps_unrequested, none_common}
use Rattle.node.proofs.free_cpus.keeps_some.Goals as goal

pub returns-clause-none : goal.returns-clause-none
returns-clause-none g c = λ none id cpu there.
    keeps_unrequested (g.K.Kernel.state c.args.kernel.now) c.args.pinned cpu (id, viewed c.args.container.now)
    (ap (λ s. set.contains s cpu) (sym c.requested.ensures) ∙ none_common c.first_common.result c.args.asked.now c.requested.result.now (sym c.is_some.ensures ∙ none) c.first_common.ensures.first cpu there)
