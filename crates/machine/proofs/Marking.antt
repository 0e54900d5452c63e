-- Writing a node at each of its CPUs, in rising order.
use Rattle.std.proofs.Common.{◌≡◌, ℕ, ◌+◌, ◌<◌, ◌≤◌, inl, inr, Bool, true, false, cond, List, length, get_or, Option, Some, None, refl, sym, ap, ◌∙◌, arith}
use Rattle.std.specs.Prelude.{IfSome, MatchOption, AllPairs}
use Rattle.std.proofs.lemmas.Bool.{cases_lt, cases_eq, false≢true}
use Rattle.std.proofs.lemmas.List.{length-set, get_or-set_same, get_or-set_other}
use Rattle.std.proofs.Math.ListN.{set as set_at}
use Rattle.std.specs.FinSet as set
use Rattle.cpu_set.specs.Ids.{Ids, NoneFrom, IsFirstFrom, IsDisjoint}
use Rattle.cpu_set.specs.Members.{IsCpu}
use Rattle.cpu_set.specs.declared.TheConstants.{CPU_LIMIT}
use Rattle.machine.specs.Index.{ArePlaces}

-- where a walk stands: at its next CPU, or past all
abbrev pub place : Option ℕ → ℕ
place None = CPU_LIMIT
place (Some n) = n

-- the walk has passed the number, or has not
abbrev pub IsPassed : Option ℕ → ℕ → Type 0
IsPassed None c = Unit {0}
IsPassed (Some n) c = c < n

abbrev pub IsAhead : Option ℕ → ℕ → Type 0
IsAhead None c = ⊥
IsAhead (Some n) c = n ≤ c

-- what a walk answers next, from a number on
abbrev pub IsNext : Ids → ℕ → Option ℕ → Type 0
IsNext s from next = MatchOption next (NoneFrom s from) (λ n. IsFirstFrom s from n) × IfSome next (λ n. IsCpu n)

-- the numbers that the walk has passed are written where they are members, and no other
pub record IsMarked (s : Ids) (node : ℕ) (old new : List ℕ) (next : Option ℕ) : Type 0 where
  pub room : length new ≡ CPU_LIMIT
  pub passed : (c : ℕ) → IsPassed next c → get_or new c 0 ≡ cond (set.contains s c) node (get_or old c 0)
  pub ahead : (c : ℕ) → IsAhead next c → get_or new c 0 ≡ get_or old c 0
  pub member : IfSome next (λ n. set.contains s n ≡ true)
  pub in_range : IfSome next (λ n. IsCpu n)

pub next_is_member : (s : Ids) (from : ℕ) (next : Option ℕ) → IsNext s from next → IfSome next (λ n. set.contains s n ≡ true)
next_is_member s from None is = tt
next_is_member s from (Some n) is = is.0.member

-- between a number and the walk's next place there is no member
pub nothing_between : (s : Ids) (from c : ℕ) (next : Option ℕ) → IsNext s from next → from ≤ c → IsPassed next c → set.contains s c ≡ false
nothing_between s from c None is above passed = is.0 c above
nothing_between s from c (Some n) is above passed = is.0.least c above passed

pub is_ahead : (s : Ids) (from c : ℕ) (next : Option ℕ) → IsNext s from next → IsAhead next c → from ≤ c
is_ahead s from c None is ahead = absurd ahead
is_ahead s from c (Some n) is ahead = let above : from ≤ n = is.0.above in omega arith

unwritten : (s : Ids) (node c : ℕ) (old : List ℕ) → set.contains s c ≡ false → get_or old c 0 ≡ cond (set.contains s c) node (get_or old c 0)
unwritten s node c old none = rw none refl

pub IsMarked-none : (s : Ids) (node : ℕ) (old new : List ℕ) (next : Option ℕ) → length new ≡ CPU_LIMIT → new ≡ old → IsNext s 0 next → IsMarked s node old new next
IsMarked-none s node old new next room same is = record {
  room = room;
  passed = λ c before. ap (λ l. get_or l c 0) same ∙ unwritten s node c old (nothing_between s 0 c next is (omega arith) before);
  ahead = λ c _. ap (λ l. get_or l c 0) same;
  member = next_is_member s 0 next is;
  in_range = is.1;
}

pub IsMarked-more :
    (s : Ids) (node : ℕ) (old new more : List ℕ) (cpu : ℕ) (next : Option ℕ) → IsMarked s node old new (Some cpu)
    → more ≡ set_at new cpu node → IsNext s (cpu + 1) next → IsMarked s node old more next
IsMarked-more s node old new more cpu next marked written is =
    let room : length new ≡ CPU_LIMIT = marked.room in
    let member : set.contains s cpu ≡ true = marked.member in
    let is_cpu : cpu < CPU_LIMIT = marked.in_range in
    let within : cpu < length new = omega arith in
    let here : get_or more cpu 0 ≡ node = ap (λ l. get_or l cpu 0) written ∙ get_or-set_same new cpu node 0 within in
    let other : (c : ℕ) → (c ≡ cpu → ⊥) → get_or more c 0 ≡ get_or new c 0 =
    λ c differs. ap (λ l. get_or l c 0) written ∙ get_or-set_other new cpu c node 0 differs in
    record {
      room = ap length written ∙ simp length-set room;
      passed = λ c before. elim (cases_lt c cpu) [
        | inl less ↦ other c (λ e. omega arith) ∙ marked.passed c less
        | inr not_less ↦ elim (cases_eq cpu c) [
          | inl same ↦
              ap (λ k. get_or more k 0) (sym same) ∙ here
              ∙ ap (λ b. cond b node (get_or old c 0)) (sym (ap (set.contains s) (sym same) ∙ member))
          | inr differs ↦
              let above : cpu + 1 ≤ c = omega arith in
              other c (λ e. differs (sym e)) ∙ marked.ahead c (omega arith) ∙ unwritten s node c old (nothing_between s (cpu + 1) c next is above before)
        ]
      ];
      ahead = λ c ahead.
          let above : cpu + 1 ≤ c = is_ahead s (cpu + 1) c next is ahead in
          other c (λ e. omega arith) ∙ marked.ahead c (omega arith);
      member = next_is_member s (cpu + 1) next is;
      in_range = is.1;
    }

-- the walk goes on
pub place_rises : (s : Ids) (cpu : ℕ) (next : Option ℕ) → IsCpu cpu → IsNext s (cpu + 1) next → cpu < place next
place_rises s cpu None is_cpu is = is_cpu
place_rises s cpu (Some n) is_cpu is = let above : cpu + 1 ≤ n = is.0.above in omega arith

-- at its end all members are written
pub IsMarked-all :
    (s : Ids) (node : ℕ) (old new : List ℕ) (next : Option ℕ) → IsMarked s node old new next → ((n : ℕ) → next ≡ Some n → ⊥)
    → (c : ℕ) → get_or new c 0 ≡ cond (set.contains s c) node (get_or old c 0)
IsMarked-all s node old new None marked none c = marked.passed c tt
IsMarked-all s node old new (Some n) marked none c = absurd (none n refl)

-- the CPUs of the nodes below i are written
pub record ArePlaced (nodes : List Ids) (i : ℕ) (places : List ℕ) : Type 0 where
  pub room : length places ≡ CPU_LIMIT
  pub placed : (c k : ℕ) → k < i → set.contains (get_or nodes k set.empty) c ≡ true → get_or places c 0 ≡ k

-- at the end those of all nodes are
pub ArePlaced-all : (nodes : List Ids) (i : ℕ) (places : List ℕ) → ArePlaced nodes i places → i ≡ length nodes → ArePlaces nodes places
ArePlaced-all nodes i places placed end = record { room = placed.room; placed = λ c k lt has. placed.placed c k (omega arith) has }

pub ArePlaced-more :
    (nodes : List Ids) (i node : ℕ) (s : Ids) (places more : List ℕ) → AllPairs IsDisjoint nodes → ArePlaced nodes i places → i < length nodes
    → s ≡ get_or nodes i set.empty → node ≡ i → length more ≡ CPU_LIMIT
    → ((c : ℕ) → get_or more c 0 ≡ cond (set.contains s c) node (get_or places c 0)) → ArePlaced nodes (i + 1) more
ArePlaced-more nodes i node s places more apart placed lt is same room each = record {
  room = room;
  placed = λ c k below has. elim (cases_lt k i) [
    | inl before ↦
        each c ∙ ap (λ b. cond b node (get_or places c 0)) (by_both c k before has (set.contains s c) refl) ∙ placed.placed c k before has
    | inr last ↦
        let now : k ≡ i = omega arith in
        each c ∙ ap (λ b. cond b node (get_or places c 0)) (ap (λ t. set.contains t c) (is ∙ ap (λ n. get_or nodes n set.empty) (sym now)) ∙ has) ∙ same ∙ sym now
  ];
}
  where
    by_both : (c k : ℕ) → k < i → set.contains (get_or nodes k set.empty) c ≡ true → (b : Bool) → set.contains s c ≡ b → set.contains s c ≡ false
    by_both c k before has true in_s = absurd (apart k i set.empty before lt c has (ap (λ t. set.contains t c) (sym is) ∙ in_s))
    by_both c k before has false in_s = in_s

-- at each member that the walk has passed stands the node
pub record AreOfNode (s : Ids) (places : List ℕ) (node : ℕ) (next : Option ℕ) : Type 0 where
  pub passed : (c : ℕ) → IsPassed next c → set.contains s c ≡ true → get_or places c 0 ≡ node
  pub member : IfSome next (λ n. set.contains s n ≡ true)
  pub in_range : IfSome next (λ n. IsCpu n)

pub AreOfNode-none : (s : Ids) (places : List ℕ) (node : ℕ) (next : Option ℕ) → IsNext s 0 next → AreOfNode s places node next
AreOfNode-none s places node next is = record {
  passed = λ c before has. absurd (false≢true (sym (nothing_between s 0 c next is (omega arith) before) ∙ has));
  member = next_is_member s 0 next is;
  in_range = is.1;
}

pub AreOfNode-more :
    (s : Ids) (places : List ℕ) (node cpu : ℕ) (next : Option ℕ) → AreOfNode s places node (Some cpu) → get_or places cpu 0 ≡ node → IsNext s (cpu + 1) next
    → AreOfNode s places node next
AreOfNode-more s places node cpu next of_node here is = record {
  passed = λ c before has. elim (cases_lt c cpu) [
    | inl less ↦ of_node.passed c less has
    | inr not_less ↦ elim (cases_eq cpu c) [
      | inl same ↦ ap (λ k. get_or places k 0) (sym same) ∙ here
      | inr differs ↦
          let above : cpu + 1 ≤ c = omega arith in
          absurd (false≢true (sym (nothing_between s (cpu + 1) c next is above before) ∙ has))
    ]
  ];
  member = next_is_member s (cpu + 1) next is;
  in_range = is.1;
}

-- at its end at each member
pub AreOfNode-all :
    (s : Ids) (places : List ℕ) (node : ℕ) (next : Option ℕ) → AreOfNode s places node next → ((n : ℕ) → next ≡ Some n → ⊥)
    → (c : ℕ) → set.contains s c ≡ true → get_or places c 0 ≡ node
AreOfNode-all s places node None of_node none c has = of_node.passed c tt has
AreOfNode-all s places node (Some n) of_node none c has = absurd (none n refl)

-- each number below n stands at its own place
pub record AreOwn (numbers : List ℕ) (n : ℕ) : Type 0 where
  pub room : length numbers ≡ CPU_LIMIT
  pub own : (c : ℕ) → c < n → get_or numbers c 0 ≡ c

pub AreOwn-none : (numbers : List ℕ) → length numbers ≡ CPU_LIMIT → AreOwn numbers 0
AreOwn-none numbers room = record { room = room; own = λ c lt. absurd (omega arith) }

pub AreOwn-more : (numbers more : List ℕ) (n : ℕ) → AreOwn numbers n → n < CPU_LIMIT → more ≡ set_at numbers n n → AreOwn more (n + 1)
AreOwn-more numbers more n own lt is =
    let room : length numbers ≡ CPU_LIMIT = own.room in
    record {
      room = ap length is ∙ simp length-set room;
      own = λ c below. elim (cases_lt c n) [
        | inl before ↦ ap (λ l. get_or l c 0) is ∙ get_or-set_other numbers n c n 0 (λ e. omega arith) ∙ own.own c before
        | inr last ↦
            let same : c ≡ n = omega arith in
            ap (λ k. get_or more k 0) same ∙ ap (λ l. get_or l n 0) is ∙ get_or-set_same numbers n n 0 (omega arith) ∙ sym same
      ];
    }
