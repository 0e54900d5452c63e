-- Amounts noted in a table, range by range.
use Rattle.certificate.proofs.PriceSums.{price_more, prices_apart}
use Rattle.certificate.specs.ApartTestLemmas.{apart_at, is_in_one}
use Rattle.certificate.specs.AreAmounts.{AreAmounts}
use Rattle.certificate.specs.Limits.{are_apart, prices_fit}
use Rattle.certificate.specs.Price.{price}
use Rattle.certificate.specs.declared.price_lists.Price.{Price}
use Rattle.cpu_set.specs.declared.TheConstants.{CPU_LIMIT}
use Rattle.std.proofs.Common.{Bool, List, Some, [], ap, arith, cond, false, get_or, inl, inr, length, nat_le, nat_lt, refl, replicate, sym, take, true, unwrap_or, ℕ, ◌&&◌, ◌*◌, ◌+◌, ◌<◌, ◌||◌, ◌∙◌, ◌∷◌, ◌≡◌, ◌≤◌}
use Rattle.std.proofs.lemmas.Bool.{cases_lt, both_ways}
use Rattle.std.proofs.lemmas.Bool.Decides.{nat_tests}
use Rattle.std.proofs.lemmas.List.{get_or-replicate, length-replicate}
use Rattle.std.specs.Prelude.{find, option_map}
use Rattle.std.specs.FinSet as set

-- a CPU in no price has the price 0
price_none : (prices : List Price) (q : ℕ) → is_in_one (λ (p : Price). p.cpus) prices q ≡ false → price prices q ≡ 0
price_none [] q none = refl
price_none (p ∷ prices) q none = by_cases (set.contains p.cpus q) none (price_none prices q)
  where
    by_cases : (b : Bool) → (b || is_in_one (λ (p : Price). p.cpus) prices q) ≡ false
        → (is_in_one (λ (p : Price). p.cpus) prices q ≡ false → price prices q ≡ 0)
        → unwrap_or (option_map (λ (r : Price). r.amount) (cond b (Some p) (find (λ (r : Price). set.contains r.cpus q) prices))) 0 ≡ 0
    by_cases true none rest = absurd (both_ways _ none refl)
    by_cases false none rest = rest none

-- a table whose amounts are those of some prices is that of one price more where the price's amount is noted at its CPUs
pub amounts_more :
    (prices : List Price) (k : ℕ) (p : Price) (before after : List ℕ) → k < length prices → p ≡ get_or prices k p → prices_fit prices ≡ true
    → AreAmounts (take k prices) before → length after ≡ length before
    → ((c d : ℕ) → c < length before → get_or after c d ≡ cond (set.contains p.cpus c) p.amount (get_or before c d))
    → AreAmounts (take (k + 1) prices) after
amounts_more prices k p before after lt is fit are long noted = record {
  long = long ∙ are.long;
  each = λ c d is_cpu. noted c d (omega (arith, are.long)) ∙ ap (cond (set.contains p.cpus c) p.amount) (are.each c d is_cpu) ∙ one (set.contains p.cpus c) (none c) ∙ sym (price_more prices k p lt is apart c);
}
  where
    apart : are_apart (λ (q : Price). q.cpus) prices ≡ true
    apart = prices_apart prices fit

    none : (c : ℕ) → set.contains p.cpus c ≡ true → price (take k prices) c ≡ 0
    none c here = price_none (take k prices) c (apart_at (λ (q : Price). q.cpus) prices k p lt is apart c here)

    one : {before : ℕ} (b : Bool) → (b ≡ true → before ≡ 0) → cond b p.amount before ≡ before + cond {A = ℕ} b 1 0 * p.amount
    one true none = omega (arith, none refl)
    one false none = omega arith

zeros : (n : ℕ) → n ≡ CPU_LIMIT → AreAmounts [] (replicate n 0)
zeros n e = record { long = length-replicate {A = ℕ} n 0 ∙ e; each = λ q d is_cpu. get_or-replicate {A = ℕ} n q 0 d (omega (arith, e, is_cpu)) }

-- a table of no amounts is that of no prices
pub no_amounts : AreAmounts [] (replicate CPU_LIMIT 0)
no_amounts = zeros CPU_LIMIT refl

-- ---- one range

pub range_none : (first c : ℕ) → (nat_le first c && nat_lt c first) ≡ false
range_none first c = grind (arith, nat_tests)

-- where the walk of a range ends
pub range_end :
    (first last at c : ℕ) → last + 1 ≤ at → (first ≤ last + 1 → at ≤ last + 1) → (last + 1 ≤ first → at ≡ first)
    → (nat_le first c && nat_lt c at) ≡ (nat_le first c && nat_le c last)
range_end first last at c past some none = elim (cases_lt first (last + 1)) [
  | inl lt ↦ (let e : at ≡ last + 1 = omega (arith, past, some (omega (arith, lt))) in ap (λ n. nat_le first c && nat_lt c n) e ∙ ap (λ b. nat_le first c && b) (up_to c last))
  | inr le ↦ ap (λ n. nat_le first c && nat_lt c n) (none le) ∙ range_none first c ∙ sym (nothing first last c le)
]
  where
    up_to : (c last : ℕ) → nat_lt c (last + 1) ≡ nat_le c last
    up_to c last = grind (arith, nat_tests)

    nothing : (first last c : ℕ) → last + 1 ≤ first → (nat_le first c && nat_le c last) ≡ false
    nothing first last c le = grind (arith, nat_tests)
