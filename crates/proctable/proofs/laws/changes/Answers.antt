use Rattle.proctable.specs.TableLemmas.{added_leaves, exited_leaves, ended_leaves, ended_is_empty}
use Rattle.proctable.proofs.laws.changes.Goals as goal

pub returns : goal.returns
returns c = record { added = added_leaves; exited = exited_leaves; ended = ended_leaves; ended_empty = ended_is_empty }
