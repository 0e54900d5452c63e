use Rattle.std.proofs.Common.{◌&&◌, ◌∙◌, sym}
use Rattle.std.specs.Prelude.{bit_and}
use Rattle.std.specs.FinSet as set
use Rattle.cpu_set.specs.PointwiseLaws.{contains-intersection}
use Rattle.cpu_set.specs.SetLaws.{meet_empty-IsDisjoint, IsDisjoint-meet_empty}
use Rattle.cpu_set.proofs.Combined.{AreWords-lanes, set_of_words-lanes, and-IsBitwise}
use Rattle.cpu_set.proofs.id_set.IdSet.is_disjoint.Goals as goal

pub has_none-requires : goal.has_none-requires
has_none-requires c = AreWords-lanes bit_and (λ a b. a && b) _ _ and-IsBitwise c.lanes.ensures.words c.lanes-2.ensures.words

pub returns : goal.returns
returns c = rw (← c.lanes.ensures.numbers, ← c.lanes-2.ensures.numbers) (let e = set_of_words-lanes bit_and (λ a b. a && b) set.intersection contains-intersection _ _ and-IsBitwise c.lanes.ensures.words c.lanes-2.ensures.words in (λ yes. meet_empty-IsDisjoint _ _ (sym e ∙ c.has_none.ensures.0 yes), λ apart. c.has_none.ensures.1 (e ∙ IsDisjoint-meet_empty _ _ apart)))
