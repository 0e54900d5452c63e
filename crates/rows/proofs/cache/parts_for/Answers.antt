use Rattle.std.proofs.Common.{◌≡◌, ◌∙◌, IfOk, sym, subst}
use Rattle.rows.proofs.CacheLemmas.{kept_parts}
use Rattle.rows.proofs.HeldLemmas.{offers_of_some}
use Rattle.rows.specs.LimitLemmas.{offers_of_distances}
use Rattle.rows.proofs.cache.parts_for.Goals as goal

pub core_parts-requires : goal.core_parts-requires
core_parts-requires c = record { distances = rw c.requires.offers (offers_of_distances _ _ _); some = rw c.requires.offers (offers_of_some _ _ _) }

pub returns-in-Some : goal.returns-in-Some
returns-in-Some c =
    subst (λ offers. IfOk c.copy.result (λ parts. parts ≡ offers))
    (kept_parts c.args.machine.now c.args.cached.now c.in-Some.kept c.args.held.now c.requires c.in-Some.is (sym c.eq.ensures ∙ c.if-eq.true))
    c.copy.ensures
