-- There are such numbers.
use Rattle.std.proofs.Common.{inr, refl}
use Rattle.std.proofs.lemmas.Bool.{iff_false}
use Rattle.cgroup_tree.proofs.root.tell_unless_none.Goals as goal

pub returns : goal.returns
returns g c = (_, inr ((λ none. iff_false c.if-is_empty.ensures refl none), refl), c.tell.ensures)
