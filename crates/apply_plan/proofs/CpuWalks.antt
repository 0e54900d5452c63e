-- Walks over the CPUs of a set, in rising order: one that writes a number at each, and one that looks for the least number.
use Rattle.std.proofs.Common.{◌≡◌, ◌⊎◌, ℕ, ◌+◌, ◌<◌, ◌≤◌, inl, inr, min, true, false, cond, List, length, get_or, Option, Some, None, refl, sym, ap, ◌∙◌, arith}
use Rattle.std.specs.Prelude.{IfSome, MatchOption}
use Rattle.std.proofs.lemmas.Bool.{cases_lt, cases_eq, false≢true}
use Rattle.std.proofs.lemmas.List.{length-set, get_or-set_same, get_or-set_other}
use Rattle.std.proofs.Math.ListN.{set as set_at}
use Rattle.std.specs.FinSet as set
use Rattle.cpu_set.specs.Ids.{Ids, NoneFrom, IsFirstFrom}
use Rattle.cpu_set.specs.Members.{IsCpu}
use Rattle.cpu_set.specs.declared.TheConstants.{CPU_LIMIT}
use Rattle.apply_plan.specs.FirstHolders.{IsLeastPlace}

-- where a walk stands: at its next CPU, or past all
abbrev pub stop : Option ℕ → ℕ
stop None = CPU_LIMIT
stop (Some n) = n

-- the walk has passed the number, or has not
abbrev pub IsPassed : Option ℕ → ℕ → Type 0
IsPassed None c = Unit {0}
IsPassed (Some n) c = c < n

abbrev pub IsAhead : Option ℕ → ℕ → Type 0
IsAhead None c = ⊥
IsAhead (Some n) c = n ≤ c

-- what a walk answers next, from a number on
abbrev pub IsNext : Ids → ℕ → Option ℕ → Type 0
IsNext s from next = MatchOption next (NoneFrom s from) (λ n. IsFirstFrom s from n) × IfSome next (λ n. IsCpu n)

next_is_member : (s : Ids) (from : ℕ) (next : Option ℕ) → IsNext s from next → IfSome next (λ n. set.contains s n ≡ true)
next_is_member s from None is = tt
next_is_member s from (Some n) is = is.0.member

-- between a number and the walk's next stop there is no member
nothing_between : (s : Ids) (from c : ℕ) (next : Option ℕ) → IsNext s from next → from ≤ c → IsPassed next c → set.contains s c ≡ false
nothing_between s from c None is above passed = is.0 c above
nothing_between s from c (Some n) is above passed = is.0.least c above passed

is_ahead : (s : Ids) (from c : ℕ) (next : Option ℕ) → IsNext s from next → IsAhead next c → from ≤ c
is_ahead s from c None is ahead = absurd ahead
is_ahead s from c (Some n) is ahead = let above : from ≤ n = is.0.above in omega arith

-- the walk goes on
pub stop_rises : (s : Ids) (cpu : ℕ) (next : Option ℕ) → IsCpu cpu → IsNext s (cpu + 1) next → cpu < stop next
stop_rises s cpu None is_cpu is = is_cpu
stop_rises s cpu (Some n) is_cpu is = let above : cpu + 1 ≤ n = is.0.above in omega arith

-- at the members that the walk has passed the number is written, and nowhere else
pub record IsMarked (s : Ids) (number : ℕ) (old new : List ℕ) (next : Option ℕ) : Type 0 where
  pub room : length new ≡ CPU_LIMIT
  pub passed : (c : ℕ) → IsPassed next c → get_or new c 0 ≡ cond (set.contains s c) number (get_or old c 0)
  pub ahead : (c : ℕ) → IsAhead next c → get_or new c 0 ≡ get_or old c 0
  pub member : IfSome next (λ n. set.contains s n ≡ true)
  pub in_range : IfSome next (λ n. IsCpu n)

unwritten : (s : Ids) (number c : ℕ) (old : List ℕ) → set.contains s c ≡ false → get_or old c 0 ≡ cond (set.contains s c) number (get_or old c 0)
unwritten s number c old none = rw none refl

pub IsMarked-none : (s : Ids) (number : ℕ) (old new : List ℕ) (next : Option ℕ) → length new ≡ CPU_LIMIT → new ≡ old → IsNext s 0 next → IsMarked s number old new next
IsMarked-none s number old new next room same is = record {
  room = room;
  passed = λ c before. ap (λ l. get_or l c 0) same ∙ unwritten s number c old (nothing_between s 0 c next is (omega arith) before);
  ahead = λ c _. ap (λ l. get_or l c 0) same;
  member = next_is_member s 0 next is;
  in_range = is.1;
}

pub IsMarked-more : (s : Ids) (number : ℕ) (old new more : List ℕ) (cpu : ℕ) (next : Option ℕ) → IsMarked s number old new (Some cpu)
    → more ≡ set_at new cpu number → IsNext s (cpu + 1) next → IsMarked s number old more next
IsMarked-more s number old new more cpu next marked written is =
    let room : length new ≡ CPU_LIMIT = marked.room in
    let member : set.contains s cpu ≡ true = marked.member in
    let is_cpu : cpu < CPU_LIMIT = marked.in_range in
    let within : cpu < length new = omega arith in
    let here : get_or more cpu 0 ≡ number = ap (λ l. get_or l cpu 0) written ∙ get_or-set_same new cpu number 0 within in
    let other : (c : ℕ) → (c ≡ cpu → ⊥) → get_or more c 0 ≡ get_or new c 0 =
    λ c differs. ap (λ l. get_or l c 0) written ∙ get_or-set_other new cpu c number 0 differs in
    record {
      room = ap length written ∙ simp length-set room;
      passed = λ c before. elim (cases_lt c cpu) [
        | inl less ↦ other c (λ e. omega arith) ∙ marked.passed c less
        | inr not_less ↦ elim (cases_eq cpu c) [
          | inl same ↦
              ap (λ k. get_or more k 0) (sym same) ∙ here
              ∙ ap (λ b. cond b number (get_or old c 0)) (sym (ap (set.contains s) (sym same) ∙ member))
          | inr differs ↦
              let above : cpu + 1 ≤ c = omega arith in
              other c (λ e. differs (sym e)) ∙ marked.ahead c (omega arith) ∙ unwritten s number c old (nothing_between s (cpu + 1) c next is above before)
        ]
      ];
      ahead = λ c ahead.
          let above : cpu + 1 ≤ c = is_ahead s (cpu + 1) c next is ahead in
          other c (λ e. omega arith) ∙ marked.ahead c (omega arith);
      member = next_is_member s (cpu + 1) next is;
      in_range = is.1;
    }

-- at its end all members are written
pub IsMarked-all : (s : Ids) (number : ℕ) (old new : List ℕ) (next : Option ℕ) → IsMarked s number old new next → ((n : ℕ) → next ≡ Some n → ⊥)
    → (c : ℕ) → get_or new c 0 ≡ cond (set.contains s c) number (get_or old c 0)
IsMarked-all s number old new None marked none c = marked.passed c tt
IsMarked-all s number old new (Some n) marked none c = absurd (none n refl)

-- the least number at the members that the walk has passed
pub record IsLeastSoFar (s : Ids) (places : List ℕ) (end least : ℕ) (next : Option ℕ) : Type 0 where
  pub below : (c : ℕ) → IsPassed next c → set.contains s c ≡ true → least ≤ get_or places c 0
  pub among : (least ≡ end) ⊎ ((q : ℕ) × ((set.contains s q ≡ true) × (get_or places q 0 ≡ least)))
  pub member : IfSome next (λ n. set.contains s n ≡ true)
  pub in_range : IfSome next (λ n. IsCpu n)

pub IsLeastSoFar-none : (s : Ids) (places : List ℕ) (end : ℕ) (next : Option ℕ) → IsNext s 0 next → IsLeastSoFar s places end end next
IsLeastSoFar-none s places end next is = record {
  below = λ c before has. absurd (false≢true (sym (nothing_between s 0 c next is (omega arith) before) ∙ has));
  among = inl refl;
  member = next_is_member s 0 next is;
  in_range = is.1;
}

pub IsLeastSoFar-more : (s : Ids) (places : List ℕ) (end least more cpu : ℕ) (next : Option ℕ) → IsLeastSoFar s places end least (Some cpu)
    → more ≡ min least (get_or places cpu 0) → IsNext s (cpu + 1) next → IsLeastSoFar s places end more next
IsLeastSoFar-more s places end least more cpu next so_far is_more is = record {
  below = λ c before has. elim (cases_lt c cpu) [
    | inl less ↦ let low : least ≤ get_or places c 0 = so_far.below c less has in omega (arith, is_more, low)
    | inr not_less ↦ elim (cases_eq cpu c) [
      | inl same ↦ let here : get_or places cpu 0 ≡ get_or places c 0 = ap (λ k. get_or places k 0) same in omega (arith, is_more, here)
      | inr differs ↦
          let above : cpu + 1 ≤ c = omega arith in
          absurd (false≢true (sym (nothing_between s (cpu + 1) c next is above before) ∙ has))
    ]
  ];
  among = elim (cases_lt (get_or places cpu 0) least) [
    | inl less ↦ let it : get_or places cpu 0 ≡ more = omega (arith, is_more, less) in inr (cpu, (so_far.member, it))
    | inr not_less ↦ let it : least ≡ more = omega (arith, is_more, not_less) in stays it so_far.among
  ];
  member = next_is_member s (cpu + 1) next is;
  in_range = is.1;
} where
  stays : least ≡ more → (least ≡ end) ⊎ ((q : ℕ) × ((set.contains s q ≡ true) × (get_or places q 0 ≡ least)))
      → (more ≡ end) ⊎ ((q : ℕ) × ((set.contains s q ≡ true) × (get_or places q 0 ≡ more)))
  stays it (inl past) = inl (sym it ∙ past)
  stays it (inr found) = inr (found.0, (found.1.0, found.1.1 ∙ it))

pub IsLeastSoFar-all : (s : Ids) (places : List ℕ) (end least : ℕ) (next : Option ℕ) → IsLeastSoFar s places end least next → ((n : ℕ) → next ≡ Some n → ⊥)
    → IsLeastPlace s places end least
IsLeastSoFar-all s places end least None so_far none = record { below = λ q has. so_far.below q tt has; among = so_far.among }
IsLeastSoFar-all s places end least (Some n) so_far none = absurd (none n refl)
