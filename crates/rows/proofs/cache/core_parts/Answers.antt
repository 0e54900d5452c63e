use Rattle.std.proofs.Common.{◌≡◌, IfOk, sym, subst, ◌∙◌}
use Rattle.std.specs.List.{flat_map}
use Rattle.std.proofs.lemmas.Bool.{eqb-true}
use Rattle.machine.specs.CoreCountLaws.{single_cores_in}
use Rattle.rows.specs.Scaled.{parted}
use Rattle.rows.proofs.cache.core_parts.Goals as goal

pub returns-then-is_single : goal.returns-then-is_single
returns-then-is_single c =
    subst (λ s. IfOk c.parts_of.result (λ parts. parts ≡ flat_map (parted s) c.args.offers.now))
    (sym (single_cores_in c.args.machine.now c.args.held.now c.is_single.ensures.sound.cores (eqb-true _ _ (sym c.is_single.ensures.is ∙ c.if-is_single.true))))
    c.parts_of.ensures
