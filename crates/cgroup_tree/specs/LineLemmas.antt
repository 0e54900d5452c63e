-- How long the line of a set is at most.
use Rattle.std.proofs.Common.{◌≡◌, ℕ, zero, suc, ◌+◌, ◌*◌, ◌<◌, ◌≤◌, Bool, true, false, List, [], ◌∷◌, ◌++◌, length, decimal, if◌then◌else◌, refl, sym, ap, ◌∙◌, append-nil, append_assoc, arith}
use Rattle.std.specs.Prelude.{cond, ◌==◌}
use Rattle.std.specs.FinSet as set
use Rattle.std.specs.List.{filter, range_with_len}
use Rattle.std.proofs.lemmas.Fmt.{length-decimal-le}
use Rattle.std.proofs.lemmas.List.{length-append}
use Rattle.cpu_set.specs.Ids.{Ids}
use Rattle.cpu_set.specs.Members.{members}
use Rattle.cpu_set.specs.LeastLaws.{cpus_from}
use Rattle.cpu_set.specs.Ranges.{ranges_of, with_number}
use Rattle.cpu_list.specs.CanonicalList.{range_text, ranges_text, list_text}
use Rattle.cpu_list.specs.TextAfter.{text_after}

-- the text of ranges, with nothing before the first
after_comma : (r : ℕ × ℕ) (more : List (ℕ × ℕ)) → ranges_text (r ∷ more) ≡ range_text r ++ text_after (44 ∷ []) more
after_comma r [] = sym (append-nil (range_text r))
after_comma r (s ∷ more) = ap (λ text. range_text r ++ 44 ∷ text) (after_comma s more)

pub text_whole : (s : Ids) → list_text s ≡ text_after [] (ranges_of (members s))
unfolding list_text
text_whole s = at (ranges_of (members s)) where
  at : (ranges : List (ℕ × ℕ)) → ranges_text ranges ≡ text_after [] ranges
  at [] = refl
  at (r ∷ more) = after_comma r more

-- ranges of numbers below a bound
abbrev AreBelow : ℕ → List (ℕ × ℕ) → Type 0
AreBelow b [] = Unit {0}
AreBelow b (r ∷ more) = (r.0 < b) × (r.1 < b) × AreBelow b more

-- they are few, and below the bound
record AreFew (n b : ℕ) (rs : List (ℕ × ℕ)) : Type 0 where
  few : length rs ≤ n
  below : AreBelow b rs

one_more : (n b a : ℕ) (rs : List (ℕ × ℕ)) → a < b → AreFew n b rs → AreFew (suc n) b (with_number a rs)
one_more n b a [] low are = record { few = omega (arith); below = (low, low, tt) }
one_more n b a (r ∷ more) low are =
    elim (r.0 == a + 1) as (λ t. AreFew (suc n) b (if t then (a, r.1) ∷ more else (a, a) ∷ r ∷ more)) [
      | true ↦ record { few = omega (arith, are.few); below = (low, are.below.1, are.below.2) }
      | false ↦ record { few = omega (arith, are.few); below = (low, low, are.below) }
    ]

few_more : (n b : ℕ) (rs : List (ℕ × ℕ)) → AreFew n b rs → AreFew (suc n) b rs
few_more n b rs are = record { few = omega (arith, are.few); below = are.below }

ranges_few : (p : ℕ → Bool) (b n a : ℕ) → a + n ≤ b → AreFew n b (ranges_of (filter p (range_with_len a n)))
ranges_few p b zero a within = record { few = omega (arith); below = tt }
ranges_few p b (suc n) a within =
    let rest : AreFew n b (ranges_of (filter p (range_with_len (a + 1) n))) = ranges_few p b n (a + 1) (omega (arith, within)) in
    let low : a < b = omega (arith, within) in
    elim (p a) as (λ t. AreFew (suc n) b (ranges_of (cond t (a ∷ filter p (range_with_len (a + 1) n)) (filter p (range_with_len (a + 1) n))))) [
      | true ↦ one_more n b a (ranges_of (filter p (range_with_len (a + 1) n))) low rest
      | false ↦ few_more n b (ranges_of (filter p (range_with_len (a + 1) n))) rest
    ]

number_short : (n : ℕ) → n < 10000 → length (decimal n) ≤ 4
number_short n low = length-decimal-le 4 n (omega (arith)) (omega (arith, low)) (omega (arith, low))

range_short : (r : ℕ × ℕ) → r.0 < 10000 → r.1 < 10000 → length (range_text r) ≤ 9
range_short r first last =
    let a = number_short r.0 first in
    let b = number_short r.1 last in
    elim (r.0 == r.1) as (λ t. length (if t then decimal r.0 else decimal r.0 ++ 45 ∷ decimal r.1) ≤ 9) [
      | true ↦ omega (arith, a)
      | false ↦ omega (arith, a, b, length-append (decimal r.0) (45 ∷ decimal r.1))
    ]

text_short : (separator : List ℕ) (rs : List (ℕ × ℕ)) → length separator ≤ 1 → AreBelow 10000 rs → length (text_after separator rs) ≤ 10 * length rs
text_short separator [] one below = omega (arith)
text_short separator (r ∷ more) one below =
    let rest = text_short (44 ∷ []) more (omega (arith)) below.2 in
    let here = range_short r below.0 below.1 in
    omega (arith, one, rest, here, length-append separator (range_text r ++ text_after (44 ∷ []) more), length-append (range_text r) (text_after (44 ∷ []) more))

few_at_most : (n m : ℕ) (rs : List (ℕ × ℕ)) → n ≡ m → AreFew n 10000 rs → length (text_after [] rs) ≤ 10 * m
few_at_most n m rs same are =
    let text = text_short [] rs (omega (arith)) are.below in
    let few = are.few in
    omega (arith, text, few, same)

-- a list is at most ten bytes for each number that a set may have
pub list_short : (s : Ids) (n : ℕ) → n ≡ 4096 → length (list_text s) ≤ 40960
list_short s n is =
    let ranges : ranges_of (members s) ≡ ranges_of (filter (set.contains s) (range_with_len 0 n)) = ap (λ ns. ranges_of (filter (set.contains s) ns)) (cpus_from n is) in
    let are = ranges_few (set.contains s) 10000 n 0 (omega (arith, is)) in
    let long = few_at_most n 4096 (ranges_of (filter (set.contains s) (range_with_len 0 n))) is are in
    omega (arith, long, ap length (text_whole s), ap (λ rs. length (text_after [] rs)) ranges)

-- a text that grows by a separator and an item
pub printed_more : (all was between now left separator item rest : List ℕ) → all ≡ was ++ left → left ≡ (separator ++ item) ++ rest
    → between ≡ was ++ separator → now ≡ between ++ item → all ≡ now ++ rest
printed_more all was between now left separator item rest so_far e first second =
    so_far ∙ ap (λ t. was ++ t) (e ∙ append_assoc separator item rest)
    ∙ sym (append_assoc was separator (item ++ rest))
    ∙ ap (λ t. t ++ (item ++ rest)) (sym first)
    ∙ sym (append_assoc between item rest)
    ∙ ap (λ t. t ++ rest) (sym second)

pub text_left : (left rest : List (ℕ × ℕ)) (r : ℕ × ℕ) (separator : List ℕ) → left ≡ r ∷ rest
    → text_after separator left ≡ (separator ++ range_text r) ++ text_after (44 ∷ []) rest
text_left left rest r separator e =
    ap (text_after separator) e ∙ sym (append_assoc separator (range_text r) (text_after (44 ∷ []) rest))

-- it is within the whole
pub more_within : (all was left separator item rest : List ℕ) → all ≡ was ++ left → left ≡ (separator ++ item) ++ rest
    → length was + (length separator + length item) ≤ length all
more_within all was left separator item rest so_far e =
    omega (arith, ap length so_far, ap length e, length-append was left, length-append (separator ++ item) rest, length-append separator item)

pub now_long : (was between now separator item : List ℕ) → between ≡ was ++ separator → now ≡ between ++ item
    → length now ≡ length was + (length separator + length item)
now_long was between now separator item first second =
    omega (arith, ap length first, ap length second, length-append was separator, length-append between item)
