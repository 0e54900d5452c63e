-- The CPUs of one class, dealt row by row.
use Rattle.std.proofs.Common.{◌≡◌, ◌⊎◌, ℕ, ◌+◌, ◌-◌, ◌<◌, ◌≤◌, ◌==◌, Bool, true, false, cond, not, ◌&&◌, ◌||◌, Option, Some, None, List, [], ◌∷◌, ◌++◌, length, take, get_or, set, refl, sym, ap, subst, ◌∙◌, inl, inr, arith}
use Rattle.std.specs.Prelude.{MatchOption}
use Rattle.std.specs.Cmp.{nat_cmp_total}
use Rattle.std.specs.Ordering.{nat_cmp}
use Rattle.std.specs.FinSet as fin
use Rattle.std.proofs.lemmas.Bool.{cases_eq, cases_lt, true≢false, eqb-true, eq-eqb, ne_eqb, or_left, or_right, or_cases, false_from_ne_true, not-true}
use Rattle.std.proofs.lemmas.List.{length-set, get_or-set_same, get_or-set_other, get_or_default, take_more}
use Rattle.std.proofs.lemmas.List.Sums.{sum_by_push, sum_by-take-le}
use Rattle.std.specs.List.Sorted.{IsPermutation, IsNonDecreasingBy}
use Rattle.std.proofs.lemmas.List.Sorted.{sum_by-IsPermutation}
use Rattle.cpu_set.specs.Members.{InRange}
use Rattle.cpu_set.specs.Ids.{Ids, IsFirstFrom, NoneFrom}
use Rattle.cpu_set.specs.PointwiseLaws.{contains-empty, contains-insert, contains-remove, contains-union, contains-intersection, contains-difference, same_members}
use Rattle.cpu_set.specs.SetLaws.{empty_of_none}
use Rattle.certificate.specs.IsDealt.{Holds}
use Rattle.certificate.specs.TestLaws.{true_left, true_right}
use Rattle.twins.specs.Holdings.{share_of, shared_out}
use Rattle.twins.specs.IsDeal.{IsTaken, IsMoved, IsFirst, IsClassDeal}
use Rattle.twins.specs.declared.holders.Share.{Share}
use Rattle.twins.proofs.Sets.{some_of_member, len_split}

-- nothing is taken yet
pub taken_start : (s taken : Ids) → taken ≡ fin.empty → IsTaken s s taken 0
taken_start s taken e = rw e (record {
  both = λ c. ap (λ b. b || fin.contains s c) (sym (contains-empty c));
  once = λ c here. absurd (true≢false (sym here ∙ contains-empty c));
  below = λ a b here there. absurd (true≢false (sym here ∙ contains-empty a));
  as_many = fin.len-empty nat_cmp;
  left = omega arith;
})

moved : (here taken new : Bool) → (here ≡ true → new ≡ true) → (taken || new) ≡ ((here || taken) || (not here && new))
moved true true new has = refl
moved true false new has = has refl
moved false true new has = refl
moved false false new has = refl

-- the lowest of what is left is taken too
pub taken_more :
    (old new taken new_after taken_after : Ids) (count cpu : ℕ) → IsTaken old new taken count → IsFirstFrom new 0 cpu
    → new_after ≡ fin.remove new cpu → taken_after ≡ fin.insert taken cpu → IsTaken old new_after taken_after (count + 1)
taken_more old new taken new_after taken_after count cpu so_far first new_is taken_is =
    let fresh : fin.contains taken cpu ≡ false = false_from_ne_true _ (λ here. true≢false (sym first.member ∙ so_far.once cpu here)) in
    let some : 0 < fin.len new = some_of_member new cpu first.member in
    let few : fin.len (fin.remove new cpu) ≡ fin.len new - 1 = fin.len-remove nat_cmp_total new cpu ∙ ap (λ b. cond b (fin.len new - 1) (fin.len new)) first.member in
    let many : fin.len (fin.insert taken cpu) ≡ fin.len taken + 1 = fin.len-insert nat_cmp_total taken cpu ∙ ap (λ b. cond b (fin.len taken) (fin.len taken + 1)) fresh in
    rw (new_is, taken_is) (record {
      both = λ c.
          so_far.both c ∙ moved (c == cpu) (fin.contains taken c) (fin.contains new c) (λ same. ap (fin.contains new) (eqb-true c cpu same) ∙ first.member)
          ∙ ap (λ b. b || (not (c == cpu) && fin.contains new c)) (sym (contains-insert taken cpu c))
          ∙ ap (λ b. fin.contains (fin.insert taken cpu) c || b) (sym (contains-remove new cpu c));
      once = λ c here.
          contains-remove new cpu c
          ∙ false_from_ne_true _ (λ left.
          by_cases c (or_cases _ _ (sym (contains-insert taken cpu c) ∙ here)) (true_left _ _ left) (true_right _ _ left));
      below = λ a b here left.
          let kept : (not (b == cpu) && fin.contains new b) ≡ true = sym (contains-remove new cpu b) ∙ left in
          lower a b (or_cases _ _ (sym (contains-insert taken cpu a) ∙ here)) (not-true _ (true_left _ _ kept)) (true_right _ _ kept);
      as_many = many ∙ ap (λ n. n + 1) so_far.as_many;
      left = omega (arith, few, some, so_far.left);
    })
  where
    by_cases : (c : ℕ) → ((c == cpu) ≡ true) ⊎ (fin.contains taken c ≡ true) → not (c == cpu) ≡ true → fin.contains new c ≡ true → ⊥
    by_cases c (inl same) other left = true≢false (sym same ∙ not-true _ other)
    by_cases c (inr here) other left = true≢false (sym left ∙ so_far.once c here)

    lower : (a b : ℕ) → ((a == cpu) ≡ true) ⊎ (fin.contains taken a ≡ true) → (b == cpu) ≡ false → fin.contains new b ≡ true → a < b
    lower a b (inr here) other left = so_far.below a b here left
    lower a b (inl same) other left =
        let is : a ≡ cpu = eqb-true a cpu same in
        elim (cases_lt cpu b) [
          | inl lt ↦ omega arith
          | inr le ↦ elim (cases_eq b cpu) [
            | inl equal ↦ absurd (true≢false (sym (eq-eqb b cpu equal) ∙ other))
            | inr differ ↦ absurd (true≢false (sym left ∙ first.least b (omega arith) (omega arith)))
          ]
        ]

-- there is something left to take
pub still_some : (old new taken : Ids) (count many : ℕ) → IsTaken old new taken count → count < many → many ≤ fin.len old → NoneFrom new 0 → ⊥
still_some old new taken count many so_far lt le none =
    let e : fin.len new ≡ 0 = ap fin.len (empty_of_none new none) ∙ fin.len-empty nat_cmp in
    omega (arith, so_far.left, e)

-- nothing is moved yet
pub move_start : (s own : Ids) → IsMoved s s own own 0
move_start s own = (
  fin.empty,
  taken_start s fin.empty refl,
  same_members _ _ (λ c. sym (contains-union own fin.empty c ∙ ap (λ b. fin.contains own c || b) (contains-empty c) ∙ or_none (fin.contains own c))),
)
  where
    or_none : (b : Bool) → (b || false) ≡ b
    or_none true = refl
    or_none false = refl

-- the lowest of what is left is moved too
pub move_more :
    (old new own_old own_new : Ids) (count cpu : ℕ) → IsMoved old new own_old own_new count → IsFirstFrom new 0 cpu
    → IsMoved old (fin.remove new cpu) own_old (fin.insert own_new cpu) (count + 1)
move_more old new own_old own_new count cpu so_far first = (
  fin.insert so_far.0 cpu,
  taken_more old new so_far.0 (fin.remove new cpu) (fin.insert so_far.0 cpu) count cpu so_far.1 first refl refl,
  ap (λ s. fin.insert s cpu) so_far.2
      ∙ same_members _ _ (λ c.
      contains-insert (fin.union own_old so_far.0) cpu c
      ∙ ap (λ b. (c == cpu) || b) (contains-union own_old so_far.0 c)
      ∙ swap (c == cpu) (fin.contains own_old c) (fin.contains so_far.0 c)
      ∙ ap (λ b. fin.contains own_old c || b) (sym (contains-insert so_far.0 cpu c))
      ∙ sym (contains-union own_old (fin.insert so_far.0 cpu) c)),
)
  where
    swap : (a b d : Bool) → (a || (b || d)) ≡ (b || (a || d))
    swap true true d = refl
    swap true false d = refl
    swap false b d = refl

pub first_of_some : (s : Ids) (next : Option ℕ) (cpu : ℕ) → IsFirst s next → next ≡ Some cpu → IsFirstFrom s 0 cpu
first_of_some s next cpu first is = subst (IsFirst s) is first

pub first_of_none : (s : Ids) (next : Option ℕ) → IsFirst s next → ((n : ℕ) → next ≡ Some n → ⊥) → NoneFrom s 0
first_of_none s None first none = first
first_of_none s (Some n) first none = absurd (none n refl)

not_below : (s : Ids) (cpu : ℕ) → IsFirstFrom s 0 cpu → (k : ℕ) → k < cpu + 1 → fin.contains (fin.remove s cpu) k ≡ false
not_below s cpu first k low = contains-remove s cpu k ∙ gone (cases_eq k cpu)
  where
    and_none : (b : Bool) → (b && false) ≡ false
    and_none true = refl
    and_none false = refl

    gone : (k ≡ cpu) ⊎ ((k ≡ cpu) → ⊥) → (not (k == cpu) && fin.contains s k) ≡ false
    gone (inl same) = ap (λ b. not b && fin.contains s k) (eq-eqb k cpu same)
    gone (inr differ) = ap (λ b. not (k == cpu) && b) (first.least k (omega arith) (omega arith)) ∙ and_none (not (k == cpu))

-- behind the first that was taken out comes the first of what is left
pub next_first :
    (s : Ids) (cpu : ℕ) (next : Option ℕ) → IsFirstFrom s 0 cpu → MatchOption next (NoneFrom (fin.remove s cpu) (cpu + 1)) (λ n. IsFirstFrom (fin.remove s cpu) (cpu + 1) n)
    → IsFirst (fin.remove s cpu) next
next_first s cpu None first none = λ n from. elim (cases_lt n (cpu + 1)) [ inl low ↦ not_below s cpu first n low | inr above ↦ none n above ]
next_first s cpu (Some n) first is = record {
  above = omega arith;
  member = is.member;
  least = λ k from lt. elim (cases_lt k (cpu + 1)) [ inl low ↦ not_below s cpu first k low | inr above ↦ is.least k above lt ];
}

-- the set at this place
abbrev pub at : List Ids → ℕ → Ids
at sets k = get_or sets k fin.empty

abbrev pub no_share : Share
no_share = record { row = 0; amount = 0 }

abbrev pub share_at : List Share → ℕ → Share
share_at shares i = get_or shares i no_share

-- the row of the last of the first shares, and of the first one where there are none
abbrev pub last_row : List Share → ℕ → ℕ
last_row shares i = (share_at shares (i - 1)).row

-- some of a class's CPUs are dealt, by the first of its shares, to rows up to `last`
pub record Dealing (class : Ids) (done : List Share) (old new : List Ids) (rest : Ids) (last : ℕ) : Type 0 where
  pub long : length new ≡ length old
  pub others : (k c : ℕ) → fin.contains class c ≡ false → fin.contains (at new k) c ≡ fin.contains (at old k) c
  pub within : (c : ℕ) → fin.contains rest c ≡ true → fin.contains class c ≡ true
  pub apart : (k c : ℕ) → Holds new k c → fin.contains rest c ≡ true → ⊥
  pub dealt : (c : ℕ) → fin.contains class c ≡ true → fin.contains rest c ≡ false → (j : ℕ) × Holds new j c
  pub low : (a b k : ℕ) → fin.contains rest a ≡ true → fin.contains class b ≡ true → Holds new k b → b < a
  pub ordered : (a b j k : ℕ) → a < b → fin.contains class a ≡ true → fin.contains class b ≡ true → Holds new j a → Holds new k b → j ≤ k
  pub once : (j k c : ℕ) → fin.contains class c ≡ true → Holds new j c → Holds new k c → j ≡ k
  pub before : (k c : ℕ) → fin.contains class c ≡ true → Holds new k c → k ≤ last
  pub counts : (k : ℕ) → k < length new → fin.len (fin.intersection (at new k) class) ≡ share_of k done
  pub left : fin.len rest + shared_out done ≡ fin.len class

-- a set that holds none of a class has nothing in common with it
pub none_held :
    (s class : Ids) → ((c : ℕ) → fin.contains class c ≡ true → fin.contains s c ≡ true → ⊥) → fin.len (fin.intersection s class) ≡ 0
none_held s class never =
    ap fin.len (empty_of_none (fin.intersection s class) (λ c _. contains-intersection s class c ∙ false_from_ne_true _ (λ here. never c (true_right _ _ here) (true_left _ _ here))))
    ∙ fin.len-empty nat_cmp

-- none are dealt yet
pub dealing_start :
    (class : Ids) (shares : List Share) (sets : List Ids)
    → ((k c : ℕ) → fin.contains class c ≡ true → Holds sets k c → ⊥) → Dealing class (take 0 shares) sets sets class (last_row shares 0)
dealing_start class shares sets free = record {
  long = refl;
  others = λ k c other. refl;
  within = λ c here. here;
  apart = λ k c holds here. free k c here holds;
  dealt = λ c here gone. absurd (true≢false (sym here ∙ gone));
  low = λ a b k here in_b holds. absurd (free k b in_b holds);
  ordered = λ a b j k lt in_a in_b holds_a holds_b. absurd (free j a in_a holds_a);
  once = λ j k c here holds_j holds_k. absurd (free j c here holds_j);
  before = λ k c here holds. absurd (free k c here holds);
  counts = λ k within. none_held (at sets k) class (λ c here holds. free k c here holds);
  left = omega arith;
}

-- the next share is dealt
module _
    (class : Ids) (done : List Share) (old new new_after : List Ids) (rest rest_after dealt_now : Ids) (last row amount : ℕ)
    (in_range : InRange class) (so_far : Dealing class done old new rest last) (later : last ≤ row) (in_rows : row < length new)
    (taken : IsTaken rest rest_after dealt_now amount)
    (is : new_after ≡ set new row (fin.union (at new row) dealt_now)) where
  abbrev share : Share
  share = record { row = row; amount = amount }

  in_rest : (c : ℕ) → fin.contains dealt_now c ≡ true → fin.contains rest c ≡ true
  in_rest c here = taken.both c ∙ or_left _ _ here

  still_rest : (c : ℕ) → fin.contains rest_after c ≡ true → fin.contains rest c ≡ true
  still_rest c here = taken.both c ∙ or_right _ _ here

  at_row : at new_after row ≡ fin.union (at new row) dealt_now
  at_row = ap (λ l. at l row) is ∙ get_or-set_same new row (fin.union (at new row) dealt_now) fin.empty in_rows

  at_other : (k : ℕ) → (k ≡ row → ⊥) → at new_after k ≡ at new k
  at_other k differ = ap (λ l. at l k) is ∙ get_or-set_other new row k (fin.union (at new row) dealt_now) fin.empty differ

  -- who holds a CPU afterwards held it before, or is the row that it was dealt to
  held : (k c : ℕ) → Holds new_after k c → Holds new k c ⊎ ((k ≡ row) × (fin.contains dealt_now c ≡ true))
  held k c holds =
      elim (cases_eq k row) [
        | inl same ↦ split same (or_cases _ _ (sym (contains-union (at new row) dealt_now c) ∙ ap (λ s. fin.contains s c) (sym at_row ∙ ap (at new_after) (sym same)) ∙ holds))
        | inr differ ↦ inl (ap (λ s. fin.contains s c) (sym (at_other k differ)) ∙ holds)
      ]
    where
      split : k ≡ row → (fin.contains (at new row) c ≡ true) ⊎ (fin.contains dealt_now c ≡ true) → Holds new k c ⊎ ((k ≡ row) × (fin.contains dealt_now c ≡ true))
      split same (inl before) = inl (ap (λ j. fin.contains (at new j) c) same ∙ before)
      split same (inr now) = inr (same, now)

  keeps : (k c : ℕ) → Holds new k c → Holds new_after k c
  keeps k c holds =
      elim (cases_eq k row) [
        | inl same ↦
            ap (λ j. fin.contains (at new_after j) c) same ∙ ap (λ s. fin.contains s c) at_row ∙ contains-union (at new row) dealt_now c
            ∙ or_left _ _ (ap (λ j. fin.contains (at new j) c) (sym same) ∙ holds)
        | inr differ ↦ ap (λ s. fin.contains s c) (at_other k differ) ∙ holds
      ]

  gets : (c : ℕ) → fin.contains dealt_now c ≡ true → Holds new_after row c
  gets c here = ap (λ s. fin.contains s c) at_row ∙ contains-union (at new row) dealt_now c ∙ or_right _ _ here

  apart_after : (k c : ℕ) → Holds new k c ⊎ ((k ≡ row) × (fin.contains dealt_now c ≡ true)) → fin.contains rest_after c ≡ true → ⊥
  apart_after k c (inl before) left = so_far.apart k c before (still_rest c left)
  apart_after k c (inr now) left = true≢false (sym left ∙ taken.once c now.1)

  low_after : (a b k : ℕ) → fin.contains rest_after a ≡ true → fin.contains class b ≡ true → Holds new k b ⊎ ((k ≡ row) × (fin.contains dealt_now b ≡ true)) → b < a
  low_after a b k left in_b (inl before) = so_far.low a b k (still_rest a left) in_b before
  low_after a b k left in_b (inr now) = taken.below b a now.1 left

  ordered_after :
      (a b j k : ℕ) → a < b → fin.contains class a ≡ true → fin.contains class b ≡ true
      → Holds new j a ⊎ ((j ≡ row) × (fin.contains dealt_now a ≡ true)) → Holds new k b ⊎ ((k ≡ row) × (fin.contains dealt_now b ≡ true)) → j ≤ k
  ordered_after a b j k lt in_a in_b (inl a_before) (inl b_before) = so_far.ordered a b j k lt in_a in_b a_before b_before
  ordered_after a b j k lt in_a in_b (inl a_before) (inr b_now) = omega (arith, so_far.before j a in_a a_before, later, b_now.0)
  ordered_after a b j k lt in_a in_b (inr a_now) (inl b_before) = absurd (omega (arith, so_far.low a b k (in_rest a a_now.1) in_b b_before, lt))
  ordered_after a b j k lt in_a in_b (inr a_now) (inr b_now) = omega (arith, a_now.0, b_now.0)

  once_after :
      (j k c : ℕ) → fin.contains class c ≡ true
      → Holds new j c ⊎ ((j ≡ row) × (fin.contains dealt_now c ≡ true)) → Holds new k c ⊎ ((k ≡ row) × (fin.contains dealt_now c ≡ true)) → j ≡ k
  once_after j k c here (inl before_j) (inl before_k) = so_far.once j k c here before_j before_k
  once_after j k c here (inl before_j) (inr now_k) = absurd (so_far.apart j c before_j (in_rest c now_k.1))
  once_after j k c here (inr now_j) (inl before_k) = absurd (so_far.apart k c before_k (in_rest c now_j.1))
  once_after j k c here (inr now_j) (inr now_k) = now_j.0 ∙ sym now_k.0

  before_after : (k c : ℕ) → fin.contains class c ≡ true → Holds new k c ⊎ ((k ≡ row) × (fin.contains dealt_now c ≡ true)) → k ≤ row
  before_after k c here (inl before) = omega (arith, so_far.before k c here before, later)
  before_after k c here (inr now) = omega (arith, now.0)

  -- what the row holds of the class is what it held before, and what it was dealt now
  abbrev holds_after : Ids
  holds_after = fin.intersection (at new_after row) class

  in_class : (c : ℕ) → fin.contains dealt_now c ≡ true → fin.contains class c ≡ true
  in_class c here = so_far.within c (in_rest c here)

  after_is : (c : ℕ) → fin.contains holds_after c ≡ ((fin.contains (at new row) c || fin.contains dealt_now c) && fin.contains class c)
  after_is c = contains-intersection (at new_after row) class c ∙ ap (λ b. b && fin.contains class c) (ap (λ s. fin.contains s c) at_row ∙ contains-union (at new row) dealt_now c)

  now_part : fin.intersection holds_after dealt_now ≡ dealt_now
  now_part = same_members _ _ (λ c. contains-intersection holds_after dealt_now c ∙ ap (λ b. b && fin.contains dealt_now c) (after_is c)
      ∙ with_now (fin.contains (at new row) c) (fin.contains dealt_now c) (fin.contains class c) (in_class c))
    where
      with_now : (a b g : Bool) → (b ≡ true → g ≡ true) → (((a || b) && g) && b) ≡ b
      with_now true true g h = rw (h refl) refl
      with_now false true g h = rw (h refl) refl
      with_now true false true h = refl
      with_now true false false h = refl
      with_now false false g h = refl

  before_part : fin.difference holds_after dealt_now ≡ fin.intersection (at new row) class
  before_part = same_members _ _ (λ c. contains-difference holds_after dealt_now c ∙ ap (λ b. b && not (fin.contains dealt_now c)) (after_is c)
      ∙ without_now (fin.contains (at new row) c) (fin.contains dealt_now c) (fin.contains class c) (λ held now. so_far.apart row c held (in_rest c now)) ∙ sym (contains-intersection (at new row) class c))
    where
      without_now : (a b g : Bool) → (a ≡ true → b ≡ true → ⊥) → (((a || b) && g) && not b) ≡ (a && g)
      without_now true true g never = absurd (never refl refl)
      without_now false true true never = refl
      without_now false true false never = refl
      without_now true false true never = refl
      without_now true false false never = refl
      without_now false false g never = refl

  both_parts : fin.len holds_after ≡ fin.len (fin.intersection holds_after dealt_now) + fin.len (fin.difference holds_after dealt_now)
  both_parts = len_split holds_after dealt_now (λ n here. in_range n (true_right _ _ (sym (contains-intersection (at new_after row) class n) ∙ here)))

  row_counts : fin.len holds_after ≡ fin.len (fin.intersection (at new row) class) + amount
  row_counts = omega (arith, both_parts, ap fin.len now_part, ap fin.len before_part, taken.as_many)

  more_of : (k : ℕ) → share_of k (done ++ share ∷ []) ≡ share_of k done + cond (row == k) amount 0
  more_of k = sum_by_push (λ (t : Share). cond (t.row == k) t.amount 0) done share

  long_after : length new_after ≡ length new
  long_after = ap length is ∙ length-set new row (fin.union (at new row) dealt_now)

  counts_after : (k : ℕ) → k < length new_after → fin.len (fin.intersection (at new_after k) class) ≡ share_of k (done ++ share ∷ [])
  counts_after k within =
      elim (cases_eq k row) [
        | inl same ↦
            (let own : cond {A = ℕ} (row == k) amount 0 ≡ amount = ap (λ b. cond {A = ℕ} b amount 0) (eq-eqb row k (sym same)) in
            let at_k : fin.len (fin.intersection (at new_after k) class) ≡ fin.len holds_after = ap (λ j. fin.len (fin.intersection (at new_after j) class)) same in
            let was : share_of row done ≡ share_of k done = ap (λ j. share_of j done) (sym same) in
            omega (arith, at_k, row_counts, so_far.counts row in_rows, was, more_of k, own))
        | inr differ ↦
            (let none : cond {A = ℕ} (row == k) amount 0 ≡ 0 = ap (λ b. cond {A = ℕ} b amount 0) (ne_eqb row k (λ e. differ (sym e))) in
            let at_k : fin.len (fin.intersection (at new_after k) class) ≡ fin.len (fin.intersection (at new k) class) = ap (λ s. fin.len (fin.intersection s class)) (at_other k differ) in
            omega (arith, at_k, so_far.counts k (rw (← long_after) within), more_of k, none))
      ]

  others_after : (k c : ℕ) → fin.contains class c ≡ false → fin.contains (at new_after k) c ≡ fin.contains (at old k) c
  others_after k c outside =
      elim (cases_eq k row) [
        | inl same ↦
            ap (λ j. fin.contains (at new_after j) c) same ∙ ap (λ s. fin.contains s c) at_row ∙ contains-union (at new row) dealt_now c
            ∙ ap (λ b. fin.contains (at new row) c || b) not_dealt ∙ or_false (fin.contains (at new row) c)
            ∙ ap (λ j. fin.contains (at new j) c) (sym same) ∙ so_far.others k c outside
        | inr differ ↦ ap (λ s. fin.contains s c) (at_other k differ) ∙ so_far.others k c outside
      ]
    where
      not_dealt : fin.contains dealt_now c ≡ false
      not_dealt = false_from_ne_true _ (λ here. true≢false (sym (so_far.within c (in_rest c here)) ∙ outside))

      or_false : (b : Bool) → (b || false) ≡ b
      or_false true = refl
      or_false false = refl

  dealt_after : (c : ℕ) → fin.contains class c ≡ true → fin.contains rest_after c ≡ false → (j : ℕ) × Holds new_after j c
  dealt_after c here gone = by_cases (fin.contains dealt_now c) refl
    where
      by_cases : (b : Bool) → fin.contains dealt_now c ≡ b → (j : ℕ) × Holds new_after j c
      by_cases true now = (row, gets c now)
      by_cases false not_now =
          let not_rest : fin.contains rest c ≡ false = taken.both c ∙ ap (λ b. b || fin.contains rest_after c) not_now ∙ gone in
          let earlier = so_far.dealt c here not_rest in
          (earlier.0, keeps earlier.0 c earlier.1)

  pub dealing_more : Dealing class (done ++ share ∷ []) old new_after rest_after row
  dealing_more = record {
    long = long_after ∙ so_far.long;
    others = others_after;
    within = λ c here. so_far.within c (still_rest c here);
    apart = λ k c holds left. apart_after k c (held k c holds) left;
    dealt = dealt_after;
    low = λ a b k left in_b holds. low_after a b k left in_b (held k b holds);
    ordered = λ a b j k lt in_a in_b holds_a holds_b. ordered_after a b j k lt in_a in_b (held j a holds_a) (held k b holds_b);
    once = λ j k c here holds_j holds_k. once_after j k c here (held j c holds_j) (held k c holds_k);
    before = λ k c here holds. before_after k c here (held k c holds);
    counts = counts_after;
    left =
        let more : shared_out (done ++ share ∷ []) ≡ shared_out done + amount = sum_by_push (λ (t : Share). t.amount) done share in
        omega (arith, so_far.left, taken.left, more);
  }

-- the same, as the loop sees it: the row's set is read, and written with what was taken
pub dealing_step :
    (class : Ids) (shares : List Share) (old new : List Ids) (rest rest_after dealt_now here both_now : Ids) (i : ℕ)
    → InRange class → Dealing class (take i shares) old new rest (last_row shares i) → IsNonDecreasingBy (λ (t : Share). t.row) shares → i < length shares
    → (share_at shares i).row < length new → IsTaken rest rest_after dealt_now (share_at shares i).amount
    → here ≡ get_or new (share_at shares i).row here → both_now ≡ fin.union here dealt_now
    → Dealing class (take (i + 1) shares) old (set new (share_at shares i).row both_now) rest_after (last_row shares (i + 1))
dealing_step class shares old new rest rest_after dealt_now here both_now i in_range so_far rising lt in_rows taken here_is both_is =
    let later : last_row shares i ≤ (share_at shares i).row = rising (i - 1) i no_share (omega arith) lt in
    let last : (share_at shares i).row ≡ last_row shares (i + 1) = ap (λ j. (share_at shares j).row) (before_next i) in
    rw (← last, take_more shares i no_share lt)
    (dealing_more class (take i shares) old new (set new (share_at shares i).row both_now) rest rest_after dealt_now (last_row shares i) (share_at shares i).row (share_at shares i).amount
    in_range so_far later in_rows taken
    (ap (set new (share_at shares i).row) (both_is ∙ ap (λ x. fin.union x dealt_now) (here_is ∙ get_or_default new (share_at shares i).row here fin.empty in_rows))))
  where
    before_next : (i : ℕ) → i ≡ (i + 1) - 1
    before_next i = omega arith

-- the same, where the CPUs are moved into the row's set as it stands
pub dealing_moved :
    (class : Ids) (shares : List Share) (old new : List Ids) (rest rest_after own d : Ids) (i : ℕ)
    → InRange class → Dealing class (take i shares) old new rest (last_row shares i) → IsNonDecreasingBy (λ (t : Share). t.row) shares → i < length shares
    → (share_at shares i).row < length new → IsMoved rest rest_after (get_or new (share_at shares i).row d) own (share_at shares i).amount
    → Dealing class (take (i + 1) shares) old (set new (share_at shares i).row own) rest_after (last_row shares (i + 1))
dealing_moved class shares old new rest rest_after own d i in_range so_far rising lt in_rows moved_now =
    let here : Ids = get_or new (share_at shares i).row d in
    dealing_step class shares old new rest rest_after moved_now.0 here own i in_range so_far rising lt in_rows moved_now.1
    (get_or_default new (share_at shares i).row d here in_rows) moved_now.2

-- the next share can be taken of what is left
pub share_left : (class : Ids) (shares : List Share) (old new : List Ids) (rest : Ids) (i last : ℕ) → Dealing class (take i shares) old new rest last → i < length shares
    → shared_out shares ≤ fin.len class → (share_at shares i).amount ≤ fin.len rest
share_left class shares old new rest i last so_far lt room =
    let more : shared_out (take (i + 1) shares) ≡ shared_out (take i shares) + (share_at shares i).amount =
    rw (take_more shares i no_share lt) (sum_by_push (λ (t : Share). t.amount) (take i shares) (share_at shares i)) in
    omega (arith, so_far.left, more, sum_by-take-le (λ (t : Share). t.amount) shares (i + 1), room)

-- shares in another order are dealt alike
pub dealt_as : (class : Ids) (shares sorted : List Share) (old new : List Ids) → IsPermutation shares sorted → IsClassDeal class sorted old new → IsClassDeal class shares old new
dealt_as class shares sorted old new same deal = record {
  long = deal.long;
  others = deal.others;
  counts = λ k within. deal.counts k within ∙ sum_by-IsPermutation (λ (t : Share). cond (t.row == k) t.amount 0) shares sorted same;
  once = deal.once;
  rising = deal.rising;
}

-- all shares are dealt
pub dealing_end :
    (class : Ids) (shares done : List Share) (old new : List Ids) (rest : Ids) (last : ℕ) → Dealing class done old new rest last → done ≡ shares
    → IsClassDeal class shares old new
dealing_end class shares done old new rest last so_far all = record {
  long = so_far.long;
  others = so_far.others;
  counts = λ k within. so_far.counts k within ∙ ap (share_of k) all;
  once = so_far.once;
  rising = λ a b k lt in_a in_b holds.
      by_cases a b k lt in_a in_b holds (fin.contains rest a) refl;
}
  where
    by_cases :
        (a b k : ℕ) → a < b → fin.contains class a ≡ true → fin.contains class b ≡ true → Holds new k b → (t : Bool) → fin.contains rest a ≡ t
        → (j : ℕ) × (j ≤ k) × Holds new j a
    by_cases a b k lt in_a in_b holds true left = absurd (omega (arith, so_far.low a b k left in_b holds, lt))
    by_cases a b k lt in_a in_b holds false gone =
        let holder = so_far.dealt a in_a gone in
        (holder.0, so_far.ordered a b holder.0 k lt in_a in_b holder.1 holds, holder.1)
