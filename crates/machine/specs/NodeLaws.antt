-- Which CPUs are present, and in which node.
use Rattle.std.specs.Prelude.{◌||◌, ◌&&◌, nat_le}
use Rattle.std.proofs.Common.{◌≡◌, ℕ, ◌-◌, ◌<◌, ◌≤◌, Bool, true, false, inl, inr, nat_lt, List, [], ◌∷◌, length, get_or, take, Some, refl, sym, ap, ◌∙◌, arith}
use Rattle.std.specs.Prelude.{AllPairs, Option, None, fold, map, min, position, unwrap_or, IsSome}
use Rattle.std.specs.List.{list_any, position_or_len}
use Rattle.std.proofs.lemmas.Bool.{cases_lt, false≢true}
use Rattle.std.proofs.lemmas.Bool.Decides.{nat_tests}
use Rattle.std.proofs.lemmas.Grind.{common_steps}
use Rattle.std.proofs.lemmas.List.{get_or_default, get_or-take, length-take}
use Rattle.std.proofs.lemmas.List.Folds.{list_any_at, Any-from_list_any}
use Rattle.std.proofs.lemmas.List.Quantifiers.{position-Some}
use Rattle.std.proofs.lemmas.List.Sums.{fails_before_first}
use Rattle.std.specs.FinSet as set
use Rattle.cpu_set.specs.Ids.{Ids, IsDisjoint}
use Rattle.cpu_set.specs.PointwiseLaws.{same_members, contains-empty, contains-union}
use Rattle.cpu_set.specs.Members.{members}
use Rattle.cpu_set.specs.ThoseLemmas.{contains-those}
use Rattle.machine.specs.Layout.{Layout, node_count, cpus_of, distance}
use Rattle.machine.specs.IsSound.{IsSound}
use Rattle.machine.specs.Nodes.{nodes_of, node_of, IsOfNode}
use Rattle.machine.specs.Present.{union_of, present, IsPresent}
use Rattle.machine.specs.Weight.{weight, HaveOneWeight}
use Rattle.std.proofs.Math.Bool.{and-true, or-false, or_assoc}

contains-fold_union :
    (a : Ids) (xs : List Ids) (c : ℕ)
    → set.contains (fold set.union a xs) c ≡ (set.contains a c || list_any (λ s. set.contains s c) xs)
contains-fold_union a [] c = sym (or-false _)
contains-fold_union a (x ∷ xs) c =
    contains-fold_union (set.union a x) xs c
    ∙ ap (λ b. b || list_any (λ s. set.contains s c) xs) (contains-union a x c)
    ∙ or_assoc (set.contains a c) (set.contains x c) (list_any (λ s. set.contains s c) xs)

contains-present : (m : Layout) (c : ℕ) → set.contains (present m) c ≡ list_any (λ s. set.contains s c) m.nodes
contains-present m c =
    contains-fold_union set.empty m.nodes c ∙ ap (λ b. b || list_any (λ s. set.contains s c) m.nodes) (contains-empty c)

-- a present CPU is of some node
pub IsPresent-IsOfNode : (m : Layout) (c : ℕ) → IsPresent m c → (i : ℕ) × IsOfNode m c i
IsPresent-IsOfNode m c p =
    let some = Any-from_list_any (λ s. set.contains s c) m.nodes (sym (contains-present m c) ∙ p) in
    let same : cpus_of m some.0 ≡ some.1 = get_or_default m.nodes some.0 set.empty some.1 some.2 ∙ some.3 in
    (some.0, record { is_node = some.2; has_cpu = ap (λ s. set.contains s c) same ∙ some.4 })

-- a CPU of a node is present
pub IsOfNode-IsPresent : (m : Layout) (c i : ℕ) → IsOfNode m c i → IsPresent m c
IsOfNode-IsPresent m c i h =
    contains-present m c ∙ list_any_at (λ s. set.contains s c) m.nodes i set.empty h.is_node h.has_cpu

first_within : (p : Ids → Bool) (xs : List Ids) (i : ℕ) → i < length xs → p (get_or xs i set.empty) ≡ true → position_or_len p xs < length xs
first_within p xs i lt passes =
    elim (cases_lt i (position_or_len p xs)) [
      | inl before ↦ absurd (false≢true (sym (fails_before_first p xs i set.empty before) ∙ passes))
      | inr not_before ↦ omega arith
    ]

-- a present CPU is of the first node that has it
pub IsOfNode-first : (m : Layout) (c : ℕ) → IsPresent m c → IsSome (position (λ s. set.contains s c) m.nodes)
IsOfNode-first m c p =
    let has = IsPresent-IsOfNode m c p in
    let lt : position_or_len (λ s. set.contains s c) m.nodes < length m.nodes = first_within (λ s. set.contains s c) m.nodes has.0 has.1.is_node has.1.has_cpu in
    grind (arith, common_steps)

-- the place where a CPU is found is that of a node which has it
pub IsOfNode-at : (m : Layout) (c i : ℕ) → position (λ s. set.contains s c) m.nodes ≡ Some i → IsOfNode m c i
IsOfNode-at m c i at =
    let found = position-Some (λ s. set.contains s c) m.nodes i set.empty at in
    record { is_node = found.0; has_cpu = found.1 }

-- a number is a node's where it is below the count of the nodes
pub contains-nodes_of : (m : Layout) (n : ℕ) → set.contains (nodes_of m) n ≡ nat_lt n (node_count m)
contains-nodes_of m n = contains-those (λ _. true) (node_count m) n ∙ and-true _

up_to_last : (n count last : ℕ) (b : Bool) → 1 ≤ count → last ≡ count - 1 → b ≡ false → (b || (nat_le 0 n && nat_le n last)) ≡ nat_lt n count
up_to_last n count last b some is none = grind (arith, nat_tests)

-- the numbers from 0 up to the last node's are those of the nodes
pub nodes_of-range :
    (m : Layout) (none all : Ids) (last : ℕ) → 1 ≤ node_count m → last ≡ node_count m - 1 → none ≡ set.empty
    → ((n : ℕ) → set.contains all n ≡ (set.contains none n || (nat_le 0 n && nat_le n last))) → all ≡ nodes_of m
nodes_of-range m none all last some is empty each =
    same_members all (nodes_of m) (λ n. each n
    ∙ up_to_last n (node_count m) last _ some is (ap (λ s. set.contains s n) empty ∙ contains-empty n)
    ∙ sym (contains-nodes_of m n))

pub union_of-has : (sets : List Ids) (n k : ℕ) → k < length sets → set.contains (get_or sets k set.empty) n ≡ true → set.contains (union_of sets) n ≡ true
union_of-has sets n k lt has =
    contains-fold_union set.empty sets n ∙ ap (λ b. b || list_any (λ s. set.contains s n) sets) (contains-empty n)
    ∙ list_any_at (λ s. set.contains s n) sets k set.empty lt has

-- some sets as the nodes of a machine
only_nodes : List Ids → Layout
only_nodes sets = record { nodes = sets; distances = []; reserved = set.empty; online = set.empty; lowest = []; threads = 0 }

-- a number in the union of some sets is in one of them
pub found_in : (sets : List Ids) (c : ℕ) → set.contains (union_of sets) c ≡ true → (k : ℕ) × (k < length sets) × (set.contains (get_or sets k set.empty) c ≡ true)
unfolding only_nodes
found_in sets c has = let found = IsPresent-IsOfNode (only_nodes sets) c has in (found.0, found.1.is_node, found.1.has_cpu)

-- an earlier set is in the union of those before a later one
pub union_of-at :
    (sets : List Ids) (j k : ℕ) → j < k → k < length sets → (c : ℕ) → set.contains (get_or sets j set.empty) c ≡ true
    → set.contains (union_of (take k sets)) c ≡ true
union_of-at sets j k before lt c has =
    union_of-has (take k sets) c j (omega (arith, length-take k sets)) (ap (λ s. set.contains s c) (get_or-take k sets j set.empty before) ∙ has)

-- what is apart from the union of some sets is apart from each
pub apart_from_each :
    (sets : List Ids) (s : Ids) → IsDisjoint (union_of sets) s
    → (k : ℕ) (d : Ids) → k < length sets → IsDisjoint (get_or sets k d) s
apart_from_each sets s apart k d lt n in_one in_s =
    apart n (union_of-has sets n k lt (ap (λ t. set.contains t n) (get_or_default sets k set.empty d lt) ∙ in_one)) in_s

-- where no CPU is in two nodes, a CPU is of one node alone
pub of_one_node : (m : Layout) (c i j : ℕ) → AllPairs IsDisjoint m.nodes → IsOfNode m c i → IsOfNode m c j → i ≡ j
of_one_node m c i j apart in_i in_j =
    elim (cases_lt i j) [
      | inl less ↦ absurd (apart i j set.empty less in_j.is_node c in_i.has_cpu in_j.has_cpu)
      | inr not_less ↦ elim (cases_lt j i) [
        | inl more ↦ absurd (apart j i set.empty more in_i.is_node c in_j.has_cpu in_i.has_cpu)
        | inr same ↦ omega arith
      ]
    ]

pub node_found : (m : Layout) (c i : ℕ) → IsSound m → IsOfNode m c i → node_of m c ≡ i
node_found m c i sound has =
    let some : IsSome (position (λ s. set.contains s c) m.nodes) = IsOfNode-first m c (IsOfNode-IsPresent m c i has) in
    by_place (position (λ s. set.contains s c) m.nodes) refl some
  where
    by_place : (place : Option ℕ) → position (λ s. set.contains s c) m.nodes ≡ place → IsSome place → unwrap_or place 0 ≡ i
    by_place None at some = absurd (cc)
    by_place (Some j) at some = of_one_node m c j i sound.apart (IsOfNode-at m c j at) has

pub weight_by_node : (m : Layout) (homes : Ids) (a b : ℕ) → node_of m a ≡ node_of m b → weight m homes a ≡ weight m homes b
unfolding weight
weight_by_node m homes a b same = ap (λ i. fold min 255 (map (distance m i) (members homes))) same

-- the CPUs of a node have one weight
pub of_one_weight : (m : Layout) (i : ℕ) (cpus : Ids) → IsSound m → i < node_count m → cpus ≡ cpus_of m i → HaveOneWeight m cpus
of_one_weight m i cpus sound lt is homes a b has_a has_b =
    let of_node : (c : ℕ) → set.contains cpus c ≡ true → IsOfNode m c i = λ c has. record { is_node = lt; has_cpu = ap (λ s. set.contains s c) (sym is) ∙ has } in
    weight_by_node m homes a b (node_found m a i sound (of_node a has_a) ∙ sym (node_found m b i sound (of_node b has_b)))
