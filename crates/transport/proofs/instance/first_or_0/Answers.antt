use Rattle.std.proofs.Common.{Option, ℕ, unwrap_or, refl, sym, ap, ◌∙◌}
use Rattle.std.specs.FinSet as set
use Rattle.cpu_set.specs.LeastLaws.{least-first}
use Rattle.transport.proofs.instance.first_or_0.Goals as goal

pub returns : goal.returns
returns c =
    let least = least-first c.args.set.now (set.contains c.args.set.now) c.first.result (λ n _. refl) (c.first.ensures.first, c.first.ensures.in_range) in
    c.unwrap_or.ensures ∙ ap (λ (o : Option ℕ). unwrap_or o 0) (sym least)
