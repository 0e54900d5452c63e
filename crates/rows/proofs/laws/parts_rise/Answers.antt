use Rattle.rows.specs.PartRisingLemmas.{parts_rise, parts_are_scaled}
use Rattle.rows.proofs.laws.parts_rise.Goals as goal

pub returns : goal.returns
returns c = record { rising = parts_rise; scaled = parts_are_scaled }
