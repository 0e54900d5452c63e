-- Stated over a plain value, since a digit's value is a chain of six tests.
use Rattle.std.proofs.Common.{◌≡◌, ℕ, ◌+◌, ◌-◌, ◌*◌, ◌<◌, ◌^◌, Option, Some, None, SomeIff, sym, ◌∙◌, arith, rules}
use Rattle.std.specs.Int.{IsInRange}
use Rattle.std.proofs.lemmas.Str.{digit_value_digit}
use Rattle.certificate_text.proofs.decimal.with_digit.Goals as goal

too_much : (number value : ℕ) → (number * 10 < 2 ^ 64 → ⊥) → number * 10 + value < 2 ^ 64 → ⊥
too_much number value past fits = past (omega arith)

is_value : (digit value read : ℕ) → value + 48 ≡ digit → read ≡ digit - 48 → read ≡ value
is_value digit value read e f = omega arith

added :
    (P : Type 0) (r : Option ℕ) (a b m v : ℕ) → P → a ≡ m → b ≡ v → SomeIff r (a + b < 2 ^ 64) (a + b)
    → SomeIff r (P × (m + v < 2 ^ 64)) (m + v)
added P None a b m v p e f h = λ q. h (let fits : m + v < 2 ^ 64 = q.1 in omega arith)
added P (Some x) a b m v p e f h =
    let fits : a + b < 2 ^ 64 = h.0 in
    let is : x ≡ a + b = h.1 in
    ((p, omega arith), omega arith)

pub returns-in_err-checked_mul : goal.returns-in_err-checked_mul
returns-in_err-checked_mul c = rw c.from_residual.ensures (λ p. too_much _ _ c.in_err-checked_mul.ensures p.1)

pub returns : goal.returns
returns c =
    let range : IsInRange 48 57 c.args.digit = search rules in
    added _ _ _ _ _ _ (sym c.is_ascii_digit.ensures.value ∙ c.if-not-is_ascii_digit.false) c.in_ok-checked_mul.ensures.1
    (is_value c.args.digit _ _ (digit_value_digit c.args.digit range) c.from.ensures) c.checked_add.ensures
