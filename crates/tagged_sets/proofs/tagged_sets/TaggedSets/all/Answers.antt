use Rattle.cpu_set.specs.Ranges.{in_ranges}
use Rattle.std.proofs.Common.{ap, subst, sym, ◌∙◌}
use Rattle.std.specs.Prelude.{All}
use Rattle.tagged_sets.proofs.Kept.{in_any-ranges, kept_below}
use Rattle.tagged_sets.proofs.Sets.{IsBelow}
use Rattle.tagged_sets.specs.Tagged.{in_any}
use Rattle.tagged_sets.proofs.tagged_sets.TaggedSets.all.Goals as goal

pub set_of-requires : goal.set_of-requires
set_of-requires g c = subst (All IsBelow) (sym c.as_slice.ensures.value) (kept_below c.self.inside.ranges.items 0 c.self.inside.heads.items c.self.invariant.0)

pub returns-then-is_empty : goal.returns-then-is_empty
returns-then-is_empty g c = λ n.
    c.set_of.ensures n ∙ ap (λ rs. in_ranges rs n) c.as_slice.ensures.value
    ∙ in_any-ranges c.self.inside.ranges.items 0 c.self.inside.heads.items c.self.invariant.0 n ∙ ap (λ sets. in_any sets n) c.self.view_is
