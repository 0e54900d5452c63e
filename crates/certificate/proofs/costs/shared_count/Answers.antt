use Rattle.std.proofs.Common.{◌≡◌, sym, ap, ◌∙◌}
use Rattle.std.specs.FinSet as set
use Rattle.std.specs.Ordering.{nat_cmp}
use Rattle.std.proofs.lemmas.Bool.{true≢false}
use Rattle.cpu_set.specs.SetLaws.{none_of_empty}
use Rattle.certificate.proofs.costs.shared_count.Goals as goal
use Rattle.certificate.proofs.costs.shared_count.Goals.{Then-is_empty}

nothing : (c : Then-is_empty) → set.intersection c.args.held.now c.args.cpus.now ≡ set.empty
nothing c = sym c.meet-shared.ensures ∙ c.is_empty.ensures.0 c.if-is_empty.true

pub returns-then-is_empty : goal.returns-then-is_empty
returns-then-is_empty c = record {
  is_len = sym (ap set.len (nothing c) ∙ set.len-empty nat_cmp);
  in_range = λ n member. absurd (true≢false (sym member ∙ none_of_empty _ (nothing c) n));
}

pub returns : goal.returns
returns c = record {
  is_len = c.count.ensures.is_len ∙ ap set.len c.meet-shared.ensures;
  in_range = rw c.meet-shared.ensures at c.count.ensures.in_range;
}
