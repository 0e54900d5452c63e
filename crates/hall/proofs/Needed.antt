-- Who can't be left out, by the members' numbers.
use Rattle.std.proofs.Common.{◌≡◌, ℕ, zero, suc, ◌<◌, ◌≤◌, Bool, true, false, cond, ◌||◌, ◌&&◌, not, List, [], ◌∷◌, length, get_or, filter, map, refl, ap, arith}
use Rattle.std.specs.Prelude.{◌==◌, All, Contains}
use Rattle.std.specs.List.{list_any}
use Rattle.std.specs.List.Sorted.{IsStrictlyIncreasing}
use Rattle.std.specs.FinSet as set
use Rattle.std.proofs.lemmas.Bool.{eq-eqb, eqb-true, both_ways, and_parts, and_from, not-true, false≢true, or_left, or_right}
use Rattle.std.proofs.lemmas.List.Elements.{All-contains, All-cons, All-nil}
use Rattle.std.proofs.lemmas.List.Kept.{IsStrictlyIncreasing-filter}
use Rattle.cpu_set.specs.SetLaws.{those-contains}
use Rattle.cpu_set.specs.declared.TheConstants.{CPU_LIMIT}
use Rattle.certificate.specs.RowView.{RowView}
use Rattle.hall.specs.Asking.{demand_at, may_have}
use Rattle.hall.specs.Needed.{others, IsNeeded, IsPartPlan, AreKnown, HoldsOfKnown, RootIsNeeded, HoldersAreNeeded, FewerHavePlans}
use Rattle.hall.specs.CountingLaws.{count, count_le}
use Rattle.hall.specs.OthersLaws.{contains_kept}
use Rattle.hall.proofs.Serving.{is_open, open_by}
use Rattle.hall.proofs.Marking.{without, marked_is_needed}
use Rattle.hall.proofs.Marking as marking
use Rattle.hall.proofs.Plans.{AreServed, set_of, plan_of_served, served_of_plan}

-- the number stands in the list
abbrev is_among : List ℕ → ℕ → Bool
is_among ks k = list_any (λ j. j == k) ks

among_contains : (ks : List ℕ) (k : ℕ) → is_among ks k ≡ true → Contains ks k
among_contains [] k on = absurd (false≢true on)
among_contains (j ∷ ks) k on = by_test (j == k) refl on (among_contains ks k)
  where
    by_test : (b : Bool) → (j == k) ≡ b → (b || is_among ks k) ≡ true → (is_among ks k ≡ true → Contains ks k) → Contains (j ∷ ks) k
    by_test true e h rest = (0, omega arith, eqb-true j k e)
    by_test false e h rest = (let found = rest h in (suc found.0, omega (arith, found.1), found.2))

contains_among : (ks : List ℕ) (k : ℕ) → Contains ks k → is_among ks k ≡ true
contains_among [] k found = absurd (omega (arith, found.1))
contains_among (j ∷ ks) k (zero, lt, e) = or_left (j == k) (is_among ks k) (eq-eqb j k e)
contains_among (j ∷ ks) k (suc i, lt, e) = or_right (j == k) (is_among ks k) (contains_among ks k (i, omega (arith, lt), e))

get_same : (ks : List ℕ) (i d : ℕ) → i < length ks → get_or ks i (get_or ks i d) ≡ get_or ks i d
get_same [] i d lt = absurd (omega (arith, lt))
get_same (k ∷ ks) zero d lt = refl
get_same (k ∷ ks) (suc i) d lt = get_same ks i d (omega (arith, lt))

all_among : (ks : List ℕ) → All (λ k. is_among ks k ≡ true) ks
all_among ks i d lt = contains_among ks (get_or ks i d) (i, lt, get_same ks i d lt)

-- what a filter keeps
kept_all : (test : ℕ → Bool) (P : ℕ → Type 0) (ks : List ℕ) → All P ks → All (λ k. (test k ≡ true) × P k) (filter test ks)
kept_all test P [] all = All-nil (λ k. (test k ≡ true) × P k)
kept_all test P (k ∷ ks) all = by_test (test k) refl (kept_all test P ks (λ i d lt. all (suc i) d (omega (arith, lt))))
  where
    by_test : (b : Bool) → test k ≡ b → All (λ j. (test j ≡ true) × P j) (filter test ks) → All (λ j. (test j ≡ true) × P j) (cond b (k ∷ filter test ks) (filter test ks))
    by_test true on more = All-cons (λ j. (test j ≡ true) × P j) k (filter test ks) (on, all 0 k (omega arith)) more
    by_test false off more = more

module _ (rows : List RowView) (members : List ℕ) (rising : IsStrictlyIncreasing members) (there : All (λ k. k < length rows) members) where
  others_rise : (m : ℕ) → IsStrictlyIncreasing (others members m)
  others_rise m = IsStrictlyIncreasing-filter (λ k. not (k == m)) members rising

  others_there : (m : ℕ) → All (λ k. k < length rows) (others members m)
  others_there m i d lt = (kept_all (λ k. not (k == m)) (λ k. k < length rows) members there i d lt).1

  others_on : (m : ℕ) → All (λ k. without (is_among members) m k ≡ true) (others members m)
  others_on m i d lt =
      let h = kept_all (λ k. not (k == m)) (λ k. is_among members k ≡ true) members (all_among members) i d lt in
      and_from _ _ h.1 h.0

  served_but : (m : ℕ) → IsNeeded rows members m → AreServed rows (without (is_among members) m)
  served_but m plan =
      served_of_plan rows (without (is_among members) m) (others members m) plan.0 (others_there m) (others_rise m) plan.1
      (λ k on.
      let parts = and_parts (is_among members k) (not (k == m)) on in
      contains_kept (λ j. not (j == m)) members k (among_contains members k parts.0) parts.1)

  needed_of : (m : ℕ) → AreServed rows (without (is_among members) m) → IsNeeded rows members m
  needed_of m served =
      (map (set_of served.0) (others members m), plan_of_served rows (without (is_among members) m) served.0 served.1 (others members m) (others_rise m) (others_there m) (others_on m))

  -- the others hold what they ask for
  pub root_needed : (own : ℕ → ℕ) (root lacking : ℕ) → IsPartPlan rows members own root lacking → IsNeeded rows members root
  root_needed own root lacking part =
      needed_of root (
        own,
        record {
          allowed = part.allowed;
          met = λ k lt on.
              let parts = and_parts (is_among members k) (not (k == root)) on in
              part.met k (among_contains members k parts.0) (λ e. both_ways (k == root) (not-true (k == root) parts.1) (eq-eqb k root e));
        },
      )

  module _ (own : ℕ → ℕ) (root lacking : ℕ) (known : ℕ → Bool) (part : IsPartPlan rows members own root lacking) (k_are : AreKnown rows members root known) (m : ℕ)
      (holds : HoldsOfKnown rows known own m lacking) where
    in_rows : (k : ℕ) → Contains members k → k < length rows
    in_rows k here = All-contains (λ j. j < length rows) members k there here

    all_but : marking.IsAllButSome CPU_LIMIT (length rows) (may_have rows) (demand_at rows) (is_among members) own root lacking
    all_but = record {
      allowed = part.allowed;
      there = in_rows root part.there;
      met = λ k lt on ne. part.met k (among_contains members k on) ne;
      lacks = part.lacks;
    }

    known_are : marking.AreKnown CPU_LIMIT (length rows) (may_have rows) (demand_at rows) (is_among members) root known
    known_are = record {
      root_known = k_are.root_known;
      within = λ k on. contains_among members k (k_are.there k on);
      served = λ k lt on. served_but k (k_are.needed k on);
    }

    enough : lacking ≤ count (λ c. (own c == m) && is_open CPU_LIMIT (length rows) (may_have rows) known c) CPU_LIMIT
    enough =
        let counted : count (set.contains holds.cpus) CPU_LIMIT ≡ set.len holds.cpus = ap set.len (those-contains holds.cpus CPU_LIMIT holds.in_range) in
        let few = count_le (set.contains holds.cpus) (λ c. (own c == m) && is_open CPU_LIMIT (length rows) (may_have rows) known c) CPU_LIMIT (λ c lt on. its c (holds.its c on)) in
        omega (arith, counted, few, holds.enough)
      where
        its : (c : ℕ) → (own c ≡ m) × ((k : ℕ) × (known k ≡ true) × (may_have rows k c ≡ true)) → ((own c == m) && is_open CPU_LIMIT (length rows) (may_have rows) known c) ≡ true
        its c h = and_from _ _ (eq-eqb (own c) m h.0) (open_by CPU_LIMIT (length rows) (may_have rows) known h.1.0 c (in_rows h.1.0 (k_are.there h.1.0 h.1.1)) h.1.1 h.1.2)

    pub holder_is_needed : IsNeeded rows members m
    holder_is_needed = needed_of m (marked_is_needed CPU_LIMIT (length rows) (may_have rows) (demand_at rows) (is_among members) own root lacking known all_but known_are m enough)

pub root_is_needed : RootIsNeeded
root_is_needed rows members own root lacking rising there part = root_needed rows members rising there own root lacking part

pub holders_are_needed : HoldersAreNeeded
holders_are_needed rows members own root lacking known k rising there part known_are holds =
    holder_is_needed rows members rising there own root lacking known part known_are k holds

pub fewer_have_plans : FewerHavePlans
fewer_have_plans rows many few rising few_rise there within plan =
    let served = served_of_plan rows (is_among few) many plan.0 there rising plan.1 (λ k on. All-contains (Contains many) few k within (among_contains few k on)) in
    (map (set_of served.0) few, plan_of_served rows (is_among few) served.0 served.1 few few_rise below (all_among few))
  where
    below : All (λ k. k < length rows) few
    below i d lt = All-contains (λ j. j < length rows) many _ there (within i d lt)
