use Rattle.std.proofs.Common.{refl, sym, ◌∙◌}
use Rattle.twins.proofs.SettledCpus.{noted}
use Rattle.twins.proofs.settling.Settling.note.Goals as goal

pub returns-then-is_subset : goal.returns-then-is_subset
returns-then-is_subset c =
    noted _ _ _ _ _ refl refl c.insert.ensures (λ offers are. sym (c.cpus.ensures offers c.args.cpu are) ∙ sym c.contains-then-contains.ensures ∙ c.if-contains-2.true) (sym c.is_subset.ensures ∙ c.if-is_subset.true)
