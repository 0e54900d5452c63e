use Rattle.std.proofs.Common.{◌%◌, ◌==◌, sym, ap, ◌∙◌}
use Rattle.std.specs.Prelude.{slice_index_or}
use Rattle.std.specs.Int.{bit_at}
use Rattle.cpu_set.specs.WordLaws.{contains-set_of_words}
use Rattle.cpu_set.proofs.id_set.IdSet.word.Goals as goal

pub returns : goal.returns
returns c = λ q e. rw (← c.self.view_is) (ap (λ k. bit_at (slice_index_or c.self.inside.words k 0) (q % 64) == 1) (sym e) ∙ sym (contains-set_of_words _ c.self.invariant q))
