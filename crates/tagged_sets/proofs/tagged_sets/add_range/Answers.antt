use Rattle.cpu_set.specs.PointwiseLaws.{contains-insert}
use Rattle.std.proofs.Common.{Bool, ap, arith, nat_le, ℕ, ◌&&◌, ◌==◌, ◌||◌, ◌∙◌, ◌≡◌}
use Rattle.std.proofs.lemmas.Bool.{cases_eq}
use Rattle.std.proofs.lemmas.Bool.Decides.{nat_tests}
use Rattle.std.specs.FinSet as set
use Rattle.tagged_sets.proofs.tagged_sets.add_range.Goals as goal

one : (first last n : ℕ) (b : Bool) → first ≡ last → ((n == first) || b) ≡ (b || (nat_le first n && nat_le n last))
one first last n b e = let cases = cases_eq n first in grind (arith, nat_tests)

pub returns-then-first-last : goal.returns-then-first-last
returns-then-first-last c = λ n.
    ap (λ s. set.contains s n) c.insert.ensures ∙ contains-insert _ c.args.first n ∙ one c.args.first c.args.last n _ c.if-first-last.true
