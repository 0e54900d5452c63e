-- Rounding a quota up to whole CPUs.
use Rattle.std.proofs.Common.{◌≡◌, ℕ, zero, suc, ◌+◌, ◌-◌, ◌*◌, ◌/◌, ◌%◌, ◌^◌, ◌<◌, ◌≤◌, inl, inr, min, refl, sym, ap, ◌∙◌, arith}
use Rattle.std.proofs.lemmas.Bool.{cases_lt}
use Rattle.std.proofs.Math.Nat.{suc-mul, div-mul-le_self}
use Rattle.std.proofs.lemmas.Grind.{div_ceil_times}
use Rattle.std.proofs.lemmas.Nat.{mul-le, le-div}
use Rattle.cpu_set.specs.declared.TheConstants.{CPU_LIMIT}
use Rattle.demand.specs.AsksFor.{AsksFor, IsOneCount}
use Rattle.demand.specs.Quota.{most_cpus}

-- a count that rounds a quotient up: it is enough, and one less is not
record RoundsUp (all part count : ℕ) : Type 0 where
  enough : all ≤ count * part
  no_more : (count - 1) * part < all

rounds : (all part count : ℕ) → 0 < all → all ≤ count * part → count * part < all + part → RoundsUp all part count
rounds all part zero some enough less = absurd (omega arith)
rounds all part (suc count) some enough less =
    let one_less : suc count - 1 ≡ count = omega arith in
    record { enough = enough; no_more = rw one_less (omega (arith, suc-mul count part)) }

rounds_up : (all part count : ℕ) → 0 < all → 0 < part → count ≡ all / part + min 1 (all % part) → RoundsUp all part count
rounds_up all part count some long is =
    let bounds = div_ceil_times all part long in
    rounds all part count some (rw is bounds.0) (rw is bounds.1)

some_of : (all part count : ℕ) → 0 < all → RoundsUp all part count → 0 < count
some_of all part zero some up = absurd (let e = up.enough in omega arith)
some_of all part (suc count) some up = omega arith

-- what is rounded up twice: to whole CPUs, and to whole cores
pub record IsRounded (quota period threads count : ℕ) : Type 0 where
  pub asks : AsksFor quota period threads count
  pub fits : count ≤ CPU_LIMIT → quota ≤ most_cpus threads * period
  pub past : CPU_LIMIT < count → most_cpus threads * period < quota

less_one : (cores threads : ℕ) → cores * threads - threads ≡ (cores - 1) * threads
less_one zero threads = omega arith
less_one (suc cores) threads =
    let one_less : suc cores - 1 ≡ cores = omega arith in
    rw one_less (omega (arith, suc-mul cores threads))

div_at_most : (cores threads most : ℕ) → 1 ≤ threads → cores * threads ≤ most → cores ≤ most / threads
div_at_most cores threads most wide few = le-div cores most threads (omega arith) few

div_below : (cores threads most : ℕ) → 1 ≤ threads → most < cores * threads → most / threads ≤ cores - 1
div_below cores threads most wide many =
    elim (cases_lt (most / threads) cores) [
      | inl less ↦ omega arith
      | inr not_less ↦
          let a : cores * threads ≤ most / threads * threads = mul-le cores threads (most / threads) threads (omega arith) (omega arith) in
          let b : most / threads * threads ≤ most = div-mul-le_self most threads in
          absurd (omega (arith, a, b, many))
    ]

-- where the CPUs are rounded up to so many cores
two_roundings :
    (quota period threads cpus cores : ℕ) → 0 < quota → 0 < period → 1 ≤ threads → RoundsUp quota period cpus → RoundsUp cpus threads cores
    → IsRounded quota period threads (cores * threads)
two_roundings quota period threads cpus cores some long wide first second =
    let enough : quota ≤ cores * threads * period =
    let a : cpus * period ≤ cores * threads * period = mul-le cpus period (cores * threads) period second.enough (omega arith) in
    let b = first.enough in omega (arith, a, b) in
    let below : (cores - 1) * threads * period < quota =
    let a : (cores - 1) * threads ≤ cpus - 1 = let b = second.no_more in omega (arith, b) in
    let b : (cores - 1) * threads * period ≤ (cpus - 1) * period = mul-le ((cores - 1) * threads) period (cpus - 1) period a (omega arith) in
    let e = first.no_more in omega (arith, b, e) in
    record {
      asks = record { whole = (cores, refl); enough = enough; no_more = rw (less_one cores threads) below };
      fits = λ few.
          let within : cores ≤ CPU_LIMIT / threads = div_at_most cores threads CPU_LIMIT wide few in
          let a : cores * threads ≤ CPU_LIMIT / threads * threads = mul-le cores threads (CPU_LIMIT / threads) threads within (omega arith) in
          let b : cores * threads * period ≤ CPU_LIMIT / threads * threads * period = mul-le (cores * threads) period (CPU_LIMIT / threads * threads) period a (omega arith) in
          omega (arith, enough, b);
      past = λ many.
          let above : CPU_LIMIT / threads ≤ cores - 1 = div_below cores threads CPU_LIMIT wide many in
          let a : CPU_LIMIT / threads * threads ≤ (cores - 1) * threads = mul-le (CPU_LIMIT / threads) threads (cores - 1) threads above (omega arith) in
          let b : CPU_LIMIT / threads * threads * period ≤ (cores - 1) * threads * period = mul-le (CPU_LIMIT / threads * threads) period ((cores - 1) * threads) period a (omega arith) in
          omega (arith, below, b);
    }

pub rounded :
    (quota period threads cpus cores : ℕ) → 0 < quota → 0 < period → 1 ≤ threads
    → cpus ≡ quota / period + min 1 (quota % period) → cores ≡ cpus / threads + min 1 (cpus % threads)
    → IsRounded quota period threads (cores * threads)
rounded quota period threads cpus cores some long wide is_cpus is_cores =
    let first = rounds_up quota period cpus some long is_cpus in
    let second = rounds_up cpus threads cores (some_of quota period cpus some first) (omega arith) is_cores in
    two_roundings quota period threads cpus cores some long wide first second

-- the product stays within 64 bits
pub product_fits :
    (quota period threads cpus cores : ℕ) → 0 < quota → quota < 2 ^ 63 → 0 < period → 1 ≤ threads → threads < 2 ^ 32
    → cpus ≡ quota / period + min 1 (quota % period) → cores ≡ cpus / threads + min 1 (cpus % threads) → cores * threads < 2 ^ 64
product_fits quota period threads cpus cores some small long wide few is_cpus is_cores =
    let first = rounds_up quota period cpus some long is_cpus in
    let below = first.no_more in
    let least : (cpus - 1) * 1 ≤ (cpus - 1) * period = mul-le (cpus - 1) 1 (cpus - 1) period (omega arith) (omega arith) in
    let product : cores * threads < cpus + threads = rw is_cores (div_ceil_times cpus threads (omega arith)).1 in
    omega (arith, below, least, product)

-- ---- one count alone

less_than : (period threads k j : ℕ) → k < j → k * threads * period ≤ (j * threads - threads) * period
less_than period threads k j lt =
    rw (less_one j threads)
    (mul-le (k * threads) period ((j - 1) * threads) period (mul-le k threads (j - 1) threads (omega arith) (omega arith)) (omega arith))

not_less : (quota period threads k j : ℕ) → AsksFor quota period threads (k * threads) → AsksFor quota period threads (j * threads) → k < j → ⊥
not_less quota period threads k j one other lt =
    let a = one.enough in
    let b = other.no_more in
    let e = less_than period threads k j lt in
    omega (arith, a, b, e)

same_cores : (quota period threads k j : ℕ) → AsksFor quota period threads (k * threads) → AsksFor quota period threads (j * threads) → k ≡ j
same_cores quota period threads k j one other =
    elim (cases_lt k j) [
      | inl less ↦ absurd (not_less quota period threads k j one other less)
      | inr not_less_ ↦ elim (cases_lt j k) [
        | inl more ↦ absurd (not_less quota period threads j k other one more)
        | inr same ↦ omega arith
      ]
    ]

pub is_one_count : IsOneCount
is_one_count quota period threads one other is_one is_other =
    let k = is_one.whole in
    let j = is_other.whole in
    let same : k.0 ≡ j.0 = same_cores quota period threads k.0 j.0 (rw k.1 at is_one) (rw j.1 at is_other) in
    k.1 ∙ ap (λ n. n * threads) same ∙ sym j.1
