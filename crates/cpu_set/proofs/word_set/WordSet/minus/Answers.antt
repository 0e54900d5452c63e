use Rattle.cpu_set.proofs.OneWord.{without_word}
use Rattle.cpu_set.proofs.word_set.WordSet.minus.Goals as goal

pub returns : goal.returns
returns c = λ q. rw (← c.self.view_is) (without_word _ _ _ q _ c.self.invariant c.word.type_inv (λ e. c.word.ensures q e))
