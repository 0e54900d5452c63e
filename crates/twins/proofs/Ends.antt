-- Where the ranges of a set begin, and what lies behind them.
use Rattle.cpu_set.specs.Ids.{Ids}
use Rattle.cpu_set.specs.Members.{IsComplement, IsCpu}
use Rattle.cpu_set.specs.PointwiseLaws.{contains-empty, contains-insert}
use Rattle.cpu_set.specs.declared.TheConstants.{CPU_LIMIT}
use Rattle.std.proofs.Common.{Bool, ap, arith, false, inl, inr, nat_lt, not, refl, sym, true, ℕ, ◌&&◌, ◌+◌, ◌<◌, ◌∙◌, ◌≡◌, ◌≤◌}
use Rattle.std.proofs.lemmas.Bool.{cases_eq, cases_lt, eq-eqb, le-leb, or_left, or_right, true≢false}
use Rattle.std.proofs.lemmas.Bool.Decides.{nat_tests}
use Rattle.std.specs.Prelude.{nat_le}
use Rattle.std.specs.FinSet as set

-- a number that a range does not begin with, and that is not right behind it, is in the range as the number below is
pub no_end :
    (first last cpu : ℕ) → (cpu + 1 ≡ first → ⊥) → (cpu + 1 ≡ last + 1 → ⊥)
    → (nat_le first cpu && nat_le cpu last) ≡ (nat_le first (cpu + 1) && nat_le (cpu + 1) last)
no_end first last cpu begins ends = λ i. from i && upto i
  where
    le_false : (a b : ℕ) → b < a → nat_le a b ≡ false
    le_false a b lt = grind (arith, nat_tests)

    from : nat_le first cpu ≡ nat_le first (cpu + 1)
    from = elim (cases_lt cpu first) [
      | inl lt ↦ (let low : cpu + 1 < first = elim (cases_eq (cpu + 1) first) [ inl e ↦ absurd (begins e) | inr ne ↦ omega (arith, lt, ne) ] in le_false first cpu lt ∙ sym (le_false first (cpu + 1) low))
      | inr le ↦ le-leb first cpu le ∙ sym (le-leb first (cpu + 1) (omega (arith, le)))
    ]

    upto : nat_le cpu last ≡ nat_le (cpu + 1) last
    upto = elim (cases_lt last cpu) [
      | inl lt ↦ le_false cpu last lt ∙ sym (le_false (cpu + 1) last (omega (arith, lt)))
      | inr le ↦ (let low : cpu + 1 ≤ last = elim (cases_eq (cpu + 1) (last + 1)) [ inl e ↦ absurd (ends e) | inr ne ↦ omega (arith, le, ne) ] in le-leb cpu last le ∙ sym (le-leb (cpu + 1) last low))
    ]

-- what is in a set stays there where a number is added, and that number is there
pub stays_inserted : (s : Ids) (k q : ℕ) → set.contains s q ≡ true → set.contains (set.insert s k) q ≡ true
stays_inserted s k q here = contains-insert s k q ∙ or_right _ _ here

pub is_inserted : (s : Ids) (k : ℕ) → set.contains (set.insert s k) k ≡ true
is_inserted s k = contains-insert s k k ∙ or_left _ _ (eq-eqb k k refl)

-- what is out of a set that has grown was out of it
pub off_before : (b c : Bool) → (b ≡ true → c ≡ true) → c ≡ false → b ≡ false
off_before true c kept off = absurd (true≢false (sym (kept refl) ∙ off))
off_before false c kept off = refl

-- all numbers below the limit are edges
pub all_edges : (edges none : Ids) → none ≡ set.empty → IsComplement none edges → (c : ℕ) → IsCpu c → set.contains edges c ≡ false → ⊥
all_edges edges none is all c fits off = none_left c CPU_LIMIT _ _ (all c) (ap (λ s. set.contains s c) is ∙ contains-empty c) fits off
  where
    none_left : (n limit : ℕ) (b other : Bool) → other ≡ (nat_lt n limit && not b) → b ≡ false → n < limit → other ≡ false → ⊥
    none_left n limit b other e off lt is = grind (arith, nat_tests)
