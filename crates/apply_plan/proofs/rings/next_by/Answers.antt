use Rattle.std.proofs.Common.{Bool, length, sym, subst}
use Rattle.apply_plan.specs.FirstHolders.{AreFirsts}
use Rattle.apply_plan.proofs.rings.next_by.Goals as goal

pub next_of-requires-clause-firsts : goal.next_of-requires-clause-firsts
next_of-requires-clause-firsts g c =
    let entries = c.args.entries.now in
    subst (λ (b : Bool). AreFirsts (g.K.Kernel.state c.args.kernel.now) c.args.reserved.now entries b (length entries) c.args.held.now c.args.holders.now) (sym c.if-entry.true)
    c.requires.holders

pub next_of-requires-else-entry-clause-firsts : goal.next_of-requires-else-entry-clause-firsts
next_of-requires-else-entry-clause-firsts g c =
    let entries = c.args.entries.now in
    subst (λ (b : Bool). AreFirsts (g.K.Kernel.state c.args.kernel.now) c.args.reserved.now entries b (length entries) c.args.owned.now c.args.owners.now) (sym c.if-entry.false)
    c.requires.owners
