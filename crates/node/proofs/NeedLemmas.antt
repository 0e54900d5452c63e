-- What is asked for and told of cores fits the numbers of CPUs.
use Rattle.std.proofs.Common.{◌≡◌, ℕ, zero, suc, ◌*◌, ◌^◌, ◌<◌, ◌≤◌, Bool, true, false, List, [], ◌∷◌, length, inl, inr, Some, refl, subst, arith}
use Rattle.std.proofs.lemmas.Bool.{cases_lt, and_parts, leb-true}
use Rattle.std.proofs.lemmas.List.Sums.{sum_by-cons}
use Rattle.std.proofs.lemmas.Nat.{mul-le}
use Rattle.std.proofs.lemmas.Option.{none-some, same_Some}
use Rattle.std.specs.Prelude.{slice_get}
use Rattle.std.specs.List.{AllByRecursion, list_all}
use Rattle.std.specs.FinSet as set
use Rattle.cpu_set.specs.SetLaws.{empty_of_none}
use Rattle.cpu_set.specs.PointwiseLaws.{is_subset-contains}
use Rattle.cpu_set.specs.declared.TheConstants.{CPU_LIMIT}
use Rattle.certificate.specs.CpuLaws.{len_small}
use Rattle.certificate.specs.IsShortage.{asked, chosen, IsShortage}
use Rattle.certificate.specs.Limits.{row_fits, rows_fit}
use Rattle.certificate.specs.RowView.{RowView}
use Rattle.certificate.specs.declared.limits.TheConstants.{MAX_DEMAND, MAX_ROWS}
use Rattle.machine.specs.Cores.{core_of, cpus_of_core}
use Rattle.machine.specs.CoreCountLaws.{core_in_range}
use Rattle.machine.specs.Layout.{Layout}
use Rattle.machine.specs.Present.{IsPresent}
use Rattle.node.specs.IsNode.{IsMachine}
use Rattle.node.proofs.AskingLemmas.{all_given, fewer_given}
use Rattle.node.proofs.ListLemmas.{all_of}
use Rattle.certificate.specs.RisingNumberLaws.{few_numbers}

-- a core has no more CPUs than a machine
module _ (m : Layout) (h : IsMachine m) where
  by_one : (c : ℕ) → IsPresent m c → m.threads ≤ CPU_LIMIT
  by_one c there =
      let count : set.len (cpus_of_core m (core_of m c)) ≡ m.threads = h.sound.cores.threads c there in
      omega (arith, count, len_small (cpus_of_core m (core_of m c)) (core_in_range m (core_of m c) h.in_range))

  reserved_there : (c : ℕ) → set.contains m.reserved c ≡ true → IsPresent m c
  reserved_there c has =
      is_subset-contains m.online _ h.sound.online_present c (is_subset-contains m.reserved m.online h.sound.reserved_online c has)

  pub threads_few : m.threads ≤ CPU_LIMIT
  threads_few =
      elim (cases_lt CPU_LIMIT m.threads) [
        | inl more ↦ absurd (h.sound.reserved_some (empty_of_none m.reserved (λ c _. none_there c more)))
        | inr few ↦ omega (arith, few)
      ]
    where
      none_there : (c : ℕ) → CPU_LIMIT < m.threads → set.contains m.reserved c ≡ false
      none_there c more = by (set.contains m.reserved c) refl where
        by : (b : Bool) → set.contains m.reserved c ≡ b → b ≡ false
        by true has = absurd (let few = by_one c (reserved_there c has) in omega (arith, few, more))
        by false has = refl

-- the members of a shortage ask for no more than that many times the most that a row may
abbrev IsSmall : RowView → Type 0
IsSmall row = row.demand ≤ MAX_DEMAND

row_small : (row : RowView) → row_fits row ≡ true → IsSmall row
unfolding row_fits
row_small row fit = leb-true row.demand MAX_DEMAND (and_parts _ _ (and_parts _ _ fit).1).0

rows_small : (rows : List RowView) → list_all row_fits rows ≡ true → AllByRecursion IsSmall rows
rows_small [] fit = tt
rows_small (row ∷ rows) fit = let two = and_parts _ _ fit in (row_small row two.0, rows_small rows two.1)

small_at : (rows : List RowView) → AllByRecursion IsSmall rows → (k : ℕ) (row : RowView) → slice_get rows k ≡ Some row → IsSmall row
small_at [] all k row is = absurd (none-some row is)
small_at (first ∷ rows) all zero row is = subst IsSmall (same_Some _ _ is) all.0
small_at (first ∷ rows) all (suc k) row is = small_at rows all.1 k row is

asked_below : (rows : List RowView) → AllByRecursion IsSmall rows → asked rows ≤ length rows * MAX_DEMAND
asked_below [] all = omega arith
asked_below (row ∷ rows) all = omega (arith, sum_by-cons (λ (r : RowView). r.demand) row rows, all.0, asked_below rows all.1)

few_rows : (rows : List RowView) → rows_fit rows ≡ true → (length rows ≤ MAX_ROWS) × (list_all row_fits rows ≡ true)
unfolding rows_fit
few_rows rows fit = let two = and_parts _ _ fit in (leb-true (length rows) MAX_ROWS two.0, two.1)

pub asked_small : (rows : List RowView) (members : List ℕ) → rows_fit rows ≡ true → IsShortage rows members → asked (chosen rows members) < 2 ^ 48
asked_small rows members fit short =
    let fits = few_rows rows fit in
    let small : AllByRecursion IsSmall (chosen rows members) =
    all_given (slice_get rows) (λ (k : ℕ). Unit {0}) IsSmall (λ k row _ is. small_at rows (rows_small rows fits.1) k row is) members (all_of (λ (k : ℕ). Unit {0}) (λ k. tt) members) in
    omega (
      arith,
      asked_below (chosen rows members) small,
      fewer_given (slice_get rows) members,
      few_numbers members (length rows) short.rising short.there,
      fits.0,
    )

-- so many times as many CPUs fit 64 bits
pub cpus_fit : (cores threads : ℕ) → cores < 2 ^ 48 → threads ≤ CPU_LIMIT → cores * threads < 2 ^ 64
cpus_fit cores threads few most = omega (arith, mul-le cores threads 281_474_976_710_655 4_096 (omega (arith, few)) (omega (arith, most)))
