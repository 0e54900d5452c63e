use Rattle.std.proofs.Common.{◌≡◌, ℕ, ◌+◌, ◌-◌, ◌≤◌, Some, None, sym, subst, arith}
use Rattle.transport.specs.Numbers.{number}
use Rattle.transport.specs.Scans.{IsLimit}
use Rattle.transport.proofs.search.limit_of.Goals as goal

pub bounds-values-row : goal.bounds-values-row
bounds-values-row c = c.requires.row

pub bounds-values-free_end : goal.bounds-values-free_end
bounds-values-free_end c = c.requires.free_end_row _ c.in-Some.is

pub overflow_sub-result : goal.overflow_sub-result
overflow_sub-result c = c.requires.above _ c.in-Some.is

pub overflow_add-result : goal.overflow_add-result
overflow_add-result c = omega (arith, c.requires.fits, c.requires.light _ c.in-Some.is)

pub returns-in-Some : goal.returns-in-Some
returns-in-Some c =
    subst (λ e. IsLimit c.args.values.now c.args.row e (Some (number c.args.values.now c.args.row + (c.in-Some.free_end.label.weight - number c.args.values.now c.in-Some.free_end.label.row)))) (sym c.in-Some.is)
    (limit_is (number c.args.values.now c.args.row) c.in-Some.free_end.label.weight (number c.args.values.now c.in-Some.free_end.label.row) (c.requires.above _ c.in-Some.is))
  where
    limit_is : (v w u : ℕ) → u ≤ w → (v + (w - u)) + u ≡ w + v
    limit_is v w u le = omega (arith, le)

pub returns-in-None : goal.returns-in-None
returns-in-None c = subst (λ e. IsLimit c.args.values.now c.args.row e None) (sym c.in-None.is) tt
