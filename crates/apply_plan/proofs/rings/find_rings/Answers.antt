use Rattle.apply_plan.proofs.MarkLemmas.{rings_told}
use Rattle.apply_plan.proofs.rings.find_rings.Goals as goal

pub returns-clause-rings : goal.returns-clause-rings
returns-clause-rings g c =
    rings_told (g.K.Kernel.state c.args.kernel.now) c.args.reserved.now c.args.entries.now c.requires.valid.groups c.find_nexts.new.nexts c.mark_rings.new.marks c.find_nexts.ensures
    c.mark_rings.ensures
