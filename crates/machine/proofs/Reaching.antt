-- The weights of all nodes, and the CPUs in reach.
use Rattle.std.proofs.Common.{◌≡◌, ℕ, suc, ◌+◌, ◌<◌, ◌≤◌, inl, inr, Bool, true, false, cond, not, ◌&&◌, ◌||◌, ◌==◌, nat_lt, nat_le, min, List, length, get_or, replicate, refl, sym, ap, ◌∙◌, arith}
use Rattle.std.proofs.lemmas.Bool.{cases_lt, true≢false, lt-ltb}
use Rattle.std.proofs.lemmas.Bool.Decides.{nat_tests}
use Rattle.std.proofs.lemmas.List.{length-set, length-replicate, get_or-replicate, get_or_past, get_or-set_same, get_or-set_other}
use Rattle.std.proofs.Math.ListN.{set as set_at}
use Rattle.std.specs.FinSet as set
use Rattle.cpu_set.specs.Ids.{Ids}
use Rattle.cpu_set.specs.PointwiseLaws.{contains-difference, is_subset-contains}
use Rattle.machine.specs.declared.TheConstants.{NODE_LIMIT}
use Rattle.machine.specs.IsSound.{IsSound}
use Rattle.machine.specs.Layout.{Layout, node_count, cpus_of, distance}
use Rattle.machine.specs.Nodes.{node_of}
use Rattle.machine.specs.Present.{present}
use Rattle.machine.specs.Lowered.{AreLocal, AreLowered}
use Rattle.machine.specs.Weight.{AreHomes, IsLeastDistance, weight, AreWeights}
use Rattle.machine.specs.NodeLaws.{IsPresent-IsOfNode, IsOfNode-IsPresent, node_found}
use Rattle.machine.proofs.WeightLaws.{least_below, least_below-IsLeastDistance, weight-least_below}

pub AreLowered-more :
    (m : Layout) (home : ℕ) (old new more : List ℕ) (n w : ℕ) → AreLowered m home old new n → n < NODE_LIMIT
    → w ≡ min (get_or new n 255) (distance m n home) → more ≡ set_at new n w → AreLowered m home old more (n + 1)
AreLowered-more m home old new more n w lowered few is written =
    let room : length new ≡ NODE_LIMIT = lowered.room in
    let within : n < length new = omega arith in
    let here : get_or more n 255 ≡ w = ap (λ l. get_or l n 255) written ∙ get_or-set_same new n w 255 within in
    let other : (i : ℕ) → (i ≡ n → ⊥) → get_or more i 255 ≡ get_or new i 255 =
    λ i differs. ap (λ l. get_or l i 255) written ∙ get_or-set_other new n i w 255 differs in
    record {
      room = ap length written ∙ simp length-set room;
      before = λ i lt. elim (cases_lt i n) [
        | inl less ↦ other i (λ e. omega arith) ∙ lowered.before i less
        | inr not_less ↦
            let same : i ≡ n = omega arith in
            let was : get_or new n 255 ≡ get_or old n 255 = lowered.after n (omega arith) in
            ap (λ k. get_or more k 255) same ∙ here ∙ is ∙ ap (λ v. min v (distance m n home)) was
            ∙ ap (λ k. min (get_or old k 255) (distance m k home)) (sym same)
      ];
      after = λ i le. other i (λ e. omega arith) ∙ lowered.after i (omega arith);
    }

-- the least distances to the homes below n
pub record AreLeast (m : Layout) (homes : Ids) (weights : List ℕ) (n : ℕ) : Type 0 where
  pub room : length weights ≡ NODE_LIMIT
  pub each : (i : ℕ) → i < node_count m → get_or weights i 255 ≡ least_below m homes i n
  pub beyond : (i : ℕ) → node_count m ≤ i → get_or weights i 255 ≡ 255

-- a list of one value has it everywhere, and as the default behind its end
replicate_default : (n i a : ℕ) → get_or (replicate n a) i a ≡ a
replicate_default n i a = elim (cases_lt i n) [
  | inl lt ↦ get_or-replicate n i a a lt
  | inr past ↦ get_or_past (replicate n a) i a (omega (arith, length-replicate n a, past))
]

pub AreLeast-none : (m : Layout) (homes : Ids) (weights : List ℕ) → weights ≡ replicate NODE_LIMIT 255 → AreLeast m homes weights 0
unfolding least_below
AreLeast-none m homes weights is =
    let each : (i : ℕ) → get_or weights i 255 ≡ 255 = λ i. ap (λ l. get_or l i 255) is ∙ replicate_default NODE_LIMIT i 255 in
    record { room = ap length is ∙ length-replicate {A = ℕ} NODE_LIMIT 255; each = λ i _. each i; beyond = λ i _. each i }

-- a home
pub AreLeast-home :
    (m : Layout) (homes : Ids) (weights more : List ℕ) (n next : ℕ) → AreLeast m homes weights n → set.contains homes n ≡ true → next ≡ n + 1
    → AreLowered m n weights more (node_count m) → AreLeast m homes more next
unfolding least_below
AreLeast-home m homes weights more n next least home is lowered =
    let e : next ≡ suc n = omega arith in rw e (record {
      room = lowered.room;
      each = λ i lt.
          lowered.before i lt ∙ ap (λ v. min v (distance m i n)) (least.each i lt)
          ∙ sym (ap (λ b. cond b (min (least_below m homes i n) (distance m i n)) (least_below m homes i n)) home);
      beyond = λ i le. lowered.after i le ∙ least.beyond i le;
    })

-- no home
pub AreLeast-other :
    (m : Layout) (homes : Ids) (weights : List ℕ) (n next : ℕ) → AreLeast m homes weights n → set.contains homes n ≡ false → next ≡ n + 1
    → AreLeast m homes weights next
unfolding least_below
AreLeast-other m homes weights n next least none is =
    let e : next ≡ suc n = omega arith in rw e (record {
      room = least.room;
      each = λ i lt.
          least.each i lt
          ∙ sym (ap (λ b. cond b (min (least_below m homes i n) (distance m i n)) (least_below m homes i n)) none);
      beyond = least.beyond;
    })

pub AreLeast-all :
    (m : Layout) (homes : Ids) (weights : List ℕ) (n : ℕ) → IsSound m → AreHomes m homes → AreLeast m homes weights n → n ≡ node_count m
    → AreWeights m homes weights
AreLeast-all m homes weights n sound are least all = record {
  room = least.room;
  least = λ i lt. rw (least.each i lt, all) (least_below-IsLeastDistance m homes i sound are lt);
  each = λ cpu is.
      let some = IsPresent-IsOfNode m cpu is in
      let at : node_of m cpu ≡ some.0 = node_found m cpu some.0 sound some.1 in
      let lt : node_of m cpu < node_count m = let below = some.1.is_node in omega arith in
      least.each (node_of m cpu) lt ∙ ap (least_below m homes (node_of m cpu)) all ∙ sym (weight-least_below m homes cpu sound are);
  beyond = least.beyond;
}

pub AreLocal-none : (weights : List ℕ) → weights ≡ replicate NODE_LIMIT 255 → AreLocal 0 weights
AreLocal-none weights is = record {
  room = ap length is ∙ length-replicate {A = ℕ} NODE_LIMIT 255;
  local = λ i lt. absurd (omega arith);
  beyond = λ i _. ap (λ l. get_or l i 255) is ∙ replicate_default NODE_LIMIT i 255;
}

pub AreLocal-more : (weights more : List ℕ) (n : ℕ) → AreLocal n weights → n < NODE_LIMIT → more ≡ set_at weights n 10 → AreLocal (n + 1) more
AreLocal-more weights more n are few written =
    let room : length weights ≡ NODE_LIMIT = are.room in
    let within : n < length weights = omega arith in
    let other : (i : ℕ) → (i ≡ n → ⊥) → get_or more i 255 ≡ get_or weights i 255 =
    λ i differs. ap (λ l. get_or l i 255) written ∙ get_or-set_other weights n i 10 255 differs in
    record {
      room = ap length written ∙ simp length-set room;
      local = λ i lt. elim (cases_lt i n) [
        | inl less ↦ other i (λ e. omega arith) ∙ are.local i less
        | inr last ↦
            let same : i ≡ n = omega arith in
            ap (λ k. get_or more k 255) same ∙ ap (λ l. get_or l n 255) written ∙ get_or-set_same weights n 10 255 within
      ];
      beyond = λ i le. other i (λ e. omega arith) ∙ are.beyond i (omega arith);
    }

-- a home is nearest to itself
local_least : (m : Layout) (homes : Ids) (i w : ℕ) → IsSound m → AreHomes m homes → i < node_count m → set.contains homes i ≡ true → IsLeastDistance m homes i w → w ≡ 10
local_least m homes i w sound are lt home least =
    let low : w ≤ distance m i i = least.least i home in
    let own : distance m i i ≡ 10 = (sound.distances.rows i lt i lt).diagonal refl in
    let some = least.reached in
    let is : w ≡ distance m i some.0 = some.2 in
    let high : 10 ≤ distance m i some.0 = (sound.distances.rows i lt some.0 (are.nodes some.0 some.1)).not_reserved in
    omega arith

is_local : (m : Layout) (homes : Ids) (i : ℕ) → IsSound m → AreHomes m homes → i < node_count m → set.contains homes i ≡ true → IsLeastDistance m homes i 10
is_local m homes i sound are lt home = record {
  reached = (i, home, sym ((sound.distances.rows i lt i lt).diagonal refl));
  least = λ h is_home. (sound.distances.rows i lt h (are.nodes h is_home)).not_reserved;
}

-- where each node is a home, each weighs as much as the distance within a node
pub AreLocal-all :
    (m : Layout) (homes nodes : Ids) (weights : List ℕ) → IsSound m → AreHomes m homes → ((n : ℕ) → set.contains nodes n ≡ nat_lt n (node_count m))
    → set.is_subset nodes homes ≡ true → AreLocal (node_count m) weights → AreWeights m homes weights
AreLocal-all m homes nodes weights sound are each within local =
    let home : (i : ℕ) → i < node_count m → set.contains homes i ≡ true =
    λ i lt. is_subset-contains nodes homes within i (each i ∙ lt-ltb i (node_count m) lt) in
    record {
      room = local.room;
      least = λ i lt. rw (local.local i lt) (is_local m homes i sound are lt (home i lt));
      each = λ cpu is.
          let some = IsPresent-IsOfNode m cpu is in
          let at : node_of m cpu ≡ some.0 = node_found m cpu some.0 sound some.1 in
          let lt : node_of m cpu < node_count m = let below = some.1.is_node in omega arith in
          local.local (node_of m cpu) lt
          ∙ sym (weight-least_below m homes cpu sound are
          ∙ local_least m homes (node_of m cpu) _ sound are lt (home (node_of m cpu) lt) (least_below-IsLeastDistance m homes (node_of m cpu) sound are lt));
      beyond = local.beyond;
    }

-- the CPUs of a node
pub contains-cpus_of : (m : Layout) (i c : ℕ) → IsSound m → i < node_count m
    → set.contains (cpus_of m i) c ≡ (set.contains (present m) c && (node_of m c == i))
contains-cpus_of m i c sound lt = by_both (set.contains (cpus_of m i) c) (set.contains (present m) c) refl refl
  where
    equal : (a b : ℕ) → a ≡ b → (a == b) ≡ true
    equal a b e = grind (arith, nat_tests)

    apart : (a b : ℕ) → (a ≡ b → ⊥) → (a == b) ≡ false
    apart a b differ = grind (arith, nat_tests)

    by_both : (a b : Bool) → set.contains (cpus_of m i) c ≡ a → set.contains (present m) c ≡ b → a ≡ (b && (node_of m c == i))
    by_both true true has is = sym (equal _ _ (node_found m c i sound (record { is_node = lt; has_cpu = has })))
    by_both true false has is = absurd (true≢false (sym (IsOfNode-IsPresent m c i (record { is_node = lt; has_cpu = has })) ∙ is))
    by_both false false has is = refl
    by_both false true has is = sym (apart _ _ (λ e.
        let some = IsPresent-IsOfNode m c is in
        let same : some.0 ≡ i = sym (node_found m c some.0 sound some.1) ∙ e in
        true≢false (sym some.1.has_cpu ∙ ap (λ k. set.contains (cpus_of m k) c) same ∙ has)))

-- the present CPUs without those of nodes below n that have no way to a home
abbrev pub AreReached : Layout → Ids → Ids → ℕ → Type 0
AreReached m homes reach n =
    (c : ℕ) → set.contains reach c ≡ (set.contains (present m) c && (nat_lt (weight m homes c) 255 || nat_le n (node_of m c)))

all_reached : (a w : Bool) (n : ℕ) → a ≡ (a && (w || nat_le 0 n))
all_reached false w n = refl
all_reached true true n = refl
all_reached true false n = grind (arith, nat_tests)

pub AreReached-none : (m : Layout) (homes reach : Ids) → reach ≡ present m → AreReached m homes reach 0
AreReached-none m homes reach is c = ap (λ s. set.contains s c) is ∙ all_reached (set.contains (present m) c) (nat_lt (weight m homes c) 255) (node_of m c)

cut : (p : Bool) (w k n : ℕ) → (p ≡ true → k ≡ n → 255 ≤ w)
    → ((p && (nat_lt w 255 || nat_le n k)) && not (p && (k == n))) ≡ (p && (nat_lt w 255 || nat_le (n + 1) k))
cut false w k n far = refl
cut true w k n far = let away : k ≡ n → 255 ≤ w = far refl in grind (arith, nat_tests)

near_kept : (p : Bool) (w k n : ℕ) → (p ≡ true → k ≡ n → w < 255) → (p && (nat_lt w 255 || nat_le n k)) ≡ (p && (nat_lt w 255 || nat_le (n + 1) k))
near_kept false w k n near = refl
near_kept true w k n near = let way : k ≡ n → w < 255 = near refl in grind (arith, nat_tests)

-- a node without a way
pub AreReached-cut :
    (m : Layout) (homes reach less node : Ids) (weights : List ℕ) (n : ℕ) → IsSound m → AreWeights m homes weights → AreReached m homes reach n
    → n < node_count m → node ≡ cpus_of m n → 255 ≤ get_or weights n 255 → less ≡ set.difference reach node → AreReached m homes less (n + 1)
AreReached-cut m homes reach less node weights n sound are reached lt is far taken c =
    ap (λ s. set.contains s c) taken ∙ contains-difference reach node c
    ∙ ap (λ b. b && not (set.contains node c)) (reached c)
    ∙ ap (λ b. (set.contains (present m) c && (nat_lt (weight m homes c) 255 || nat_le n (node_of m c))) && not b)
    (ap (λ s. set.contains s c) is ∙ contains-cpus_of m n c sound lt)
    ∙ cut (set.contains (present m) c) (weight m homes c) (node_of m c) n (λ there same.
    let weighs : get_or weights (node_of m c) 255 ≡ weight m homes c = are.each c there in
    let at : get_or weights (node_of m c) 255 ≡ get_or weights n 255 = ap (λ k. get_or weights k 255) same in omega arith)

-- a node with one
pub AreReached-kept :
    (m : Layout) (homes reach : Ids) (weights : List ℕ) (n : ℕ) → AreWeights m homes weights → AreReached m homes reach n
    → get_or weights n 255 < 255 → AreReached m homes reach (n + 1)
AreReached-kept m homes reach weights n are reached near c =
    reached c
    ∙ near_kept (set.contains (present m) c) (weight m homes c) (node_of m c) n (λ there same.
    let weighs : get_or weights (node_of m c) 255 ≡ weight m homes c = are.each c there in
    let at : get_or weights (node_of m c) 255 ≡ get_or weights n 255 = ap (λ k. get_or weights k 255) same in omega arith)

all_looked_at : (p : Bool) (w k n : ℕ) → (p ≡ true → k < n) → (p && (nat_lt w 255 || nat_le n k)) ≡ (p && nat_lt w 255)
all_looked_at false w k n below = refl
all_looked_at true w k n below = let lt : k < n = below refl in grind (arith, nat_tests)

pub AreReached-all :
    (m : Layout) (homes reach : Ids) (n : ℕ) → IsSound m → AreReached m homes reach n → n ≡ node_count m
    → (c : ℕ) → set.contains reach c ≡ (set.contains (present m) c && nat_lt (weight m homes c) 255)
AreReached-all m homes reach n sound reached all c =
    reached c ∙ all_looked_at (set.contains (present m) c) (weight m homes c) (node_of m c) n (λ there.
    let some = IsPresent-IsOfNode m c there in
    let at : node_of m c ≡ some.0 = node_found m c some.0 sound some.1 in
    let below = some.1.is_node in omega arith)
