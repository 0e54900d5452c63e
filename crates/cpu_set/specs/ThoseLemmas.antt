-- What is among the numbers below a limit that pass a test.
use Rattle.std.specs.Prelude.{◌≡◌, ℕ, zero, suc, ◌+◌, ◌==◌, Bool, true, false, cond, ◌&&◌, ◌||◌, nat_lt, refl}
use Rattle.std.proofs.Common.{sym, ap, ◌∙◌, arith}
use Rattle.std.proofs.lemmas.Bool.Decides.{nat_tests}
use Rattle.std.specs.FinSet as set
use Rattle.cpu_set.specs.Ids.{Ids}
use Rattle.cpu_set.specs.PointwiseLaws.{contains-empty, contains-insert}
use Rattle.cpu_set.specs.Those.{those}

none_below_zero : (q : ℕ) (b : Bool) → false ≡ (nat_lt q 0 && b)
none_below_zero q b = grind (arith, nat_tests)

limit_kept : (n m q : ℕ) (b : Bool) → m ≡ n + 1 → (n ≡ q → b ≡ false) → (nat_lt q n && b) ≡ (nat_lt q m && b)
limit_kept n m q b next f = grind (arith, nat_tests)

added : (n m q : ℕ) (b : Bool) → m ≡ n + 1 → (n ≡ q → b ≡ true) → ((q == n) || (nat_lt q n && b)) ≡ (nat_lt q m && b)
added n m q b next f = grind (arith, nat_tests)

contains-step :
    (p : ℕ → Bool) (n m q : ℕ) (s : Ids) (v : Bool) → m ≡ n + 1 → p n ≡ v
    → set.contains s q ≡ (nat_lt q n && p q) → set.contains (cond v (set.insert s n) s) q ≡ (nat_lt q m && p q)
contains-step p n m q s true next e h =
    contains-insert s n q ∙ ap (λ b. (q == n) || b) h ∙ added n m q (p q) next (λ is. ap p (sym is) ∙ e)
contains-step p n m q s false next e h = h ∙ limit_kept n m q (p q) next (λ is. ap p (sym is) ∙ e)

pub contains-those : (p : ℕ → Bool) (n q : ℕ) → set.contains (those p n) q ≡ (nat_lt q n && p q)
unfolding those
contains-those p zero q = contains-empty q ∙ none_below_zero q (p q)
contains-those p (suc n) q = contains-step p n (suc n) q (those p n) (p n) (omega arith) refl (contains-those p n q)
