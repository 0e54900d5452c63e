use Rattle.script.specs.TextLaws.{no_text_is_bad}
use Rattle.script.proofs.laws.no_text_is_bad.Goals as goal

pub returns : goal.returns
returns c = no_text_is_bad
