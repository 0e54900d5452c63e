-- Chaining the nodes of each weight, and walking a chain.
use Rattle.std.proofs.Common.{◌≡◌, ℕ, ◌+◌, ◌<◌, ◌≤◌, inl, inr, Bool, true, false, ◌&&◌, ◌||◌, ◌==◌, nat_lt, nat_le, List, length, get_or, replicate, refl, sym, ap, ◌∙◌, arith, subst}
use Rattle.std.proofs.lemmas.Bool.{cases_lt, cases_eq}
use Rattle.std.proofs.lemmas.Bool.Decides.{nat_tests}
use Rattle.std.proofs.lemmas.List.{length-set, length-replicate, get_or-replicate, get_or_past, get_or-set_same, get_or-set_other}
use Rattle.std.proofs.Math.ListN.{set as set_at}
use Rattle.std.specs.FinSet as set
use Rattle.cpu_set.specs.Ids.{Ids}
use Rattle.cpu_set.specs.PointwiseLaws.{contains-union, contains-empty}
use Rattle.machine.specs.declared.TheConstants.{NODE_LIMIT}
use Rattle.machine.specs.Layout.{Layout}
use Rattle.machine.specs.Nodes.{node_of}
use Rattle.machine.specs.Present.{present}
use Rattle.rows.specs.Chains.{IsLastBelow, AreChains}
use Rattle.faults.specs.TestLaws.{none_above}

replicate_zero : (n i : ℕ) → get_or (replicate {A = ℕ} n 0) i 0 ≡ 0
replicate_zero n i = elim (cases_lt i n) [
  | inl lt ↦ get_or-replicate n i 0 0 lt
  | inr past ↦ get_or_past (replicate {A = ℕ} n 0) i 0 (omega (arith, length-replicate {A = ℕ} n 0, past))
]

none_yet : (weights : List ℕ) (w p : ℕ) → p ≡ 0 → IsLastBelow weights 0 w p
none_yet weights w p is = record {
  below = omega arith;
  none_after = λ k above below _. omega arith;
  has = λ k e. absurd (omega arith);
}

pub AreChains-none : (weights : List ℕ) (a b : ℕ) → a ≡ 255 → b ≡ NODE_LIMIT → AreChains weights (replicate a 0) (replicate b 0) 0
AreChains-none weights a b is_a is_b = record {
  last_room = length-replicate a 0 ∙ is_a;
  next_room = length-replicate b 0 ∙ is_b;
  last_at = λ w _. none_yet weights w _ (replicate_zero a w);
  next_at = λ k lt. absurd (omega arith);
}

-- a node of another weight changes nothing
other_weight : (weights : List ℕ) (n w p : ℕ) → IsLastBelow weights n w p → (get_or weights n 255 ≡ w → ⊥) → IsLastBelow weights (n + 1) w p
other_weight weights n w p last differs = record {
  below = let low : p ≤ n = last.below in omega arith;
  none_after = λ k above below is. elim (cases_lt k n) [
    | inl less ↦ last.none_after k above less is
    | inr not_less ↦ let same : n ≡ k = omega arith in differs (ap (λ i. get_or weights i 255) same ∙ is)
  ];
  has = last.has;
}

this_node : (weights : List ℕ) (n p : ℕ) → p ≡ n + 1 → IsLastBelow weights (n + 1) (get_or weights n 255) p
this_node weights n p is = record {
  below = omega arith;
  none_after = λ k above below _. omega arith;
  has = λ k e. let same : k ≡ n = omega arith in ap (λ i. get_or weights i 255) same;
}

-- a node that can't be reached is left out
pub AreChains-other : (weights last next : List ℕ) (n : ℕ) → AreChains weights last next n → 255 ≤ get_or weights n 255 → AreChains weights last next (n + 1)
AreChains-other weights last next n chains far = record {
  last_room = chains.last_room;
  next_room = chains.next_room;
  last_at = λ w lt. other_weight weights n w _ (chains.last_at w lt) (λ e. omega arith);
  next_at = λ k below near. elim (cases_lt k n) [
    | inl less ↦ chains.next_at k less near
    | inr not_less ↦ let same : k ≡ n = omega arith in let at : get_or weights k 255 ≡ get_or weights n 255 = ap (λ i. get_or weights i 255) same in absurd (omega arith)
  ];
}

-- one that can is the last of its weight, and behind it are those of its weight so far
pub AreChains-more :
    (weights last next more_last more_next : List ℕ) (n v before : ℕ) → AreChains weights last next n → n < NODE_LIMIT
    → v ≡ get_or weights n 255 → v < 255 → before ≡ get_or last v 0 → more_next ≡ set_at next n before → more_last ≡ set_at last v (n + 1)
    → AreChains weights more_last more_next (n + 1)
AreChains-more weights last next more_last more_next n v before chains few is near was set_next set_last =
    let last_room : length last ≡ 255 = chains.last_room in
    let next_room : length next ≡ NODE_LIMIT = chains.next_room in
    let in_last : v < length last = omega arith in
    let in_next : n < length next = omega arith in
    record {
      last_room = ap length set_last ∙ simp length-set last_room;
      next_room = ap length set_next ∙ simp length-set next_room;
      last_at = λ w lt. elim (cases_eq w v) [
        | inl same ↦
            let at : get_or more_last w 0 ≡ n + 1 =
            ap (get_or more_last w) refl ∙ ap (λ i. get_or more_last i 0) same ∙ ap (λ l. get_or l v 0) set_last ∙ get_or-set_same last v (n + 1) 0 in_last in
            subst (λ u. IsLastBelow weights (n + 1) u (get_or more_last w 0)) (sym is ∙ sym same) (this_node weights n _ at)
        | inr differs ↦
            subst (λ p. IsLastBelow weights (n + 1) w p) (sym (ap (λ l. get_or l w 0) set_last ∙ get_or-set_other last v w (n + 1) 0 differs))
            (other_weight weights n w _ (chains.last_at w lt) (λ e. differs (sym e ∙ sym is)))
      ];
      next_at = λ k below weighs. elim (cases_eq k n) [
        | inl same ↦
            let at : get_or more_next k 0 ≡ get_or last v 0 =
            ap (λ i. get_or more_next i 0) same ∙ ap (λ l. get_or l n 0) set_next ∙ get_or-set_same next n before 0 in_next ∙ was in
            let here : v ≡ get_or weights k 255 = is ∙ ap (λ i. get_or weights i 255) (sym same) in
            subst (λ p. IsLastBelow weights k (get_or weights k 255) p) (sym at)
            (subst (λ i. IsLastBelow weights i (get_or weights k 255) (get_or last v 0)) (sym same)
            (subst (λ u. IsLastBelow weights n u (get_or last v 0)) here (chains.last_at v near)))
        | inr differs ↦
            subst (λ p. IsLastBelow weights k (get_or weights k 255) p) (sym (ap (λ l. get_or l k 0) set_next ∙ get_or-set_other next n k before 0 differs))
            (chains.next_at k (omega arith) weighs)
      ];
    }

-- where a chain is empty, no node has its weight
pub no_node :
    (weights last next : List ℕ) (w k : ℕ) → AreChains weights last next NODE_LIMIT → ((i : ℕ) → NODE_LIMIT ≤ i → get_or weights i 255 ≡ 255)
    → w < 255 → nat_lt 0 (get_or last w 0) ≡ false → get_or weights k 255 ≡ w → ⊥
no_node weights last next w k chains beyond lt none is = elim (cases_lt k NODE_LIMIT) [
  | inl below ↦
      let first : get_or last w 0 ≡ 0 = none_above (get_or last w 0) none in
      (chains.last_at w lt).none_after k (omega arith) below is
  | inr past ↦ let far : get_or weights k 255 ≡ 255 = beyond k (omega arith) in absurd (omega (arith, far, is, lt))
]

-- the CPUs of the nodes of a weight from some node on
pub record AreGathered (m : Layout) (weights : List ℕ) (w from : ℕ) (cpus : Ids) : Type 0 where
  pub few : from ≤ NODE_LIMIT
  pub has : (k : ℕ) → from ≡ k + 1 → get_or weights k 255 ≡ w
  pub are : (c : ℕ) → set.contains cpus c ≡ (set.contains (present m) c && ((get_or weights (node_of m c) 255 == w) && nat_le from (node_of m c)))

none_from : (p : Bool) (v w n from : ℕ) → (p ≡ true → v ≡ w → from ≤ n → ⊥) → false ≡ (p && ((v == w) && nat_le from n))
none_from false v w n from none = refl
none_from true v w n from none = by_tests (v == w) (nat_le from n) refl refl
  where
    by_tests : (a b : Bool) → (v == w) ≡ a → nat_le from n ≡ b → false ≡ (a && b)
    by_tests false b e f = refl
    by_tests true false e f = refl
    by_tests true true e f = absurd (none refl (grind (arith, nat_tests)) (grind (arith, nat_tests)))

pub AreGathered-none :
    (m : Layout) (weights : List ℕ) (w from : ℕ) (cpus : Ids) → w < 255 → ((i : ℕ) → NODE_LIMIT ≤ i → get_or weights i 255 ≡ 255)
    → IsLastBelow weights NODE_LIMIT w from → cpus ≡ set.empty → AreGathered m weights w from cpus
AreGathered-none m weights w from cpus near beyond last none = record {
  few = last.below;
  has = last.has;
  are = λ c.
      ap (λ s. set.contains s c) none ∙ contains-empty c
      ∙ none_from (set.contains (present m) c) (get_or weights (node_of m c) 255) w (node_of m c) from
      (λ there is above. elim (cases_lt (node_of m c) NODE_LIMIT) [
        | inl lt ↦ last.none_after (node_of m c) above lt is
        | inr past ↦ let far : get_or weights (node_of m c) 255 ≡ 255 = beyond (node_of m c) (omega arith) in absurd (omega arith)
      ]);
}

one_node : (p : Bool) (v w n k from next : ℕ) → from ≡ k + 1 → next ≤ k → (n ≡ k → v ≡ w) → (next ≤ n → n < k → v ≡ w → ⊥)
    → ((p && ((v == w) && nat_le from n)) || (p && (n == k))) ≡ (p && ((v == w) && nat_le next n))
one_node false v w n k from next is lower same none = refl
one_node true v w n k from next is lower same none = by_place (v == w) refl
  where
    by_place : (a : Bool) → (v == w) ≡ a → ((a && nat_le from n) || (n == k)) ≡ (a && nat_le next n)
    by_place false e = grind (arith, nat_tests)
    by_place true e = let weighs : v ≡ w = grind (arith, nat_tests) in let gap : next ≤ n → n < k → ⊥ = λ a b. none a b weighs in grind (arith, nat_tests)

pub AreGathered-more :
    (m : Layout) (weights : List ℕ) (w from k next : ℕ) (cpus node more : Ids) → AreGathered m weights w from cpus → from ≡ k + 1
    → ((c : ℕ) → set.contains node c ≡ (set.contains (present m) c && (node_of m c == k)))
    → IsLastBelow weights k w next → more ≡ set.union cpus node → AreGathered m weights w next more
AreGathered-more m weights w from k next cpus node more gathered is of_node last joined = record {
  few = let low : next ≤ k = last.below in let high : from ≤ NODE_LIMIT = gathered.few in omega arith;
  has = last.has;
  are = λ c.
      ap (λ s. set.contains s c) joined ∙ contains-union cpus node c
      ∙ ap (λ b. b || set.contains node c) (gathered.are c)
      ∙ ap (λ b. (set.contains (present m) c && ((get_or weights (node_of m c) 255 == w) && nat_le from (node_of m c))) || b) (of_node c)
      ∙ one_node (set.contains (present m) c) (get_or weights (node_of m c) 255) w (node_of m c) k from next is last.below
      (λ e. ap (λ i. get_or weights i 255) e ∙ gathered.has k is)
      (λ above below weighs. last.none_after (node_of m c) above below weighs);
}

all_from : (p a : Bool) (from n : ℕ) → from ≤ 0 → (p && (a && nat_le from n)) ≡ (p && a)
all_from false a from n is = refl
all_from true false from n is = refl
all_from true true from n is = grind (arith, nat_tests)

pub AreGathered-all : (m : Layout) (weights : List ℕ) (w from : ℕ) (cpus : Ids) → AreGathered m weights w from cpus → from ≤ 0
    → (c : ℕ) → set.contains cpus c ≡ (set.contains (present m) c && (get_or weights (node_of m c) 255 == w))
AreGathered-all m weights w from cpus gathered is c = gathered.are c ∙ all_from (set.contains (present m) c) (get_or weights (node_of m c) 255 == w) from (node_of m c) is
