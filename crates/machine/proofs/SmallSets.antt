-- What sets that are written out have, evaluated.
use Rattle.std.proofs.Common.{◌≡◌, ℕ, ◌+◌, cond, Bool, true, false, not, ◌&&◌, nat_eq, List, [], ◌∷◌, ◌++◌, refl, sym, ap, ◌∙◌, arith}
use Rattle.std.specs.Prelude.{◌==◌, ◌||◌, position, unwrap_or}
use Rattle.std.specs.List.{list_any, list_all}
use Rattle.std.proofs.lemmas.Bool.{true≢false, and_parts, and_from, or_right, eqb-true}
use Rattle.faults.specs.TestLaws.{same_tests}
use Rattle.std.proofs.lemmas.Bool.Decides.{nat_tests}
use Rattle.std.specs.Ordering.{nat_cmp}
use Rattle.std.specs.Cmp.{nat_cmp_total}
use Rattle.std.specs.FinSet as set
use Rattle.std.specs.FinSet.{contains-from_list_nat}
use Rattle.cpu_set.specs.Ids.{Ids}
use Rattle.cpu_set.specs.PointwiseLaws.{contains-empty, contains-union, is_subset-contains, contains-is_subset}
use Rattle.machine.specs.Cores.{core_of, cpus_of_core, cores_in, whole_in}
use Rattle.machine.specs.Nodes.{node_of}
use Rattle.machine.specs.Present.{union_of}
use Rattle.machine.specs.Worked.{two_sockets}
use Rattle.machine.specs.WholeLaws.{contains-cpus_of_core, contains-cores_in, contains-whole_in}

-- a list has the number
abbrev pub has : List ℕ → ℕ → Bool
has ks q = list_any (λ y. nat_eq y q) ks

itself : (k : ℕ) (b : Bool) → (nat_eq k k || b) ≡ true
itself k b = grind (arith, nat_tests)

-- a test that all numbers of a list pass, and one of them
all_has : (p : ℕ → Bool) (ks : List ℕ) → list_all p ks ≡ true → (q : ℕ) → has ks q ≡ true → p q ≡ true
all_has p [] all q is = absurd (true≢false (sym is))
all_has p (k ∷ ks) all q is = by (nat_eq k q) refl is (all_has p ks (and_parts _ _ all).1 q)
  where
    by : (b : Bool) → nat_eq k q ≡ b → (b || has ks q) ≡ true → (has ks q ≡ true → p q ≡ true) → p q ≡ true
    by true same there others = ap p (sym (eqb-true k q same)) ∙ (and_parts _ _ all).0
    by false other there others = others there

each_has : (p : ℕ → Bool) (ks : List ℕ) → ((q : ℕ) → has ks q ≡ true → p q ≡ true) → list_all p ks ≡ true
each_has p [] each = refl
each_has p (k ∷ ks) each =
    and_from _ _ (each k (itself k (has ks k))) (each_has p ks (λ q there. each q (or_right (nat_eq k q) _ there)))

implies : (a b : Bool) → (not a || b) ≡ true → a ≡ true → b ≡ true
implies true b says is = says
implies false b says is = absurd (true≢false (sym is))

implied : (a b : Bool) → (a ≡ true → b ≡ true) → (not a || b) ≡ true
implied true b f = f refl
implied false b f = refl

-- whether a set is within another, where it has those of a list that pass a test
pub is_subset-by :
    (s t : Ids) (ks : List ℕ) (p : ℕ → Bool) → ((q : ℕ) → set.contains s q ≡ (has ks q && p q))
    → set.is_subset s t ≡ list_all (λ y. not (p y) || set.contains t y) ks
is_subset-by s t ks p is = same_tests _ _
    (λ within. each_has _ ks (λ q there. implied _ _ (λ passes. is_subset-contains s t within q (is q ∙ and_from _ _ there passes))))
    (λ all. contains-is_subset s t (λ q member.
    let both = and_parts _ _ (sym (is q) ∙ member) in
    implies _ _ (all_has _ ks all q both.0) both.1))

-- the CPUs of two nodes
pub contains-two : (ks ls : List ℕ) (q : ℕ) → set.contains (union_of (set.from_list ks ∷ set.from_list ls ∷ [])) q ≡ (has ks q || has ls q)
contains-two ks ls q =
    contains-union _ _ q
    ∙ (λ i. (contains-union set.empty _ q ∙ (λ j. contains-empty q j || contains-from_list_nat ks q j)) i || contains-from_list_nat ls q i)

-- those of three cores
pub contains-three :
    (ks ls ns : List ℕ) (q : ℕ) → set.contains (union_of (set.from_list ks ∷ set.from_list ls ∷ set.from_list ns ∷ [])) q ≡ ((has ks q || has ls q) || has ns q)
contains-three ks ls ns q = contains-union _ _ q ∙ (λ i. contains-two ks ls q i || contains-from_list_nat ns q i)

-- one number
pub len-one : (k : ℕ) → set.len (set.from_list {R = nat_cmp} (k ∷ [])) ≡ 1
len-one k = set.len-insert nat_cmp_total _ k ∙ (λ i. cond (contains-empty k i) (set.len (set.empty {R = nat_cmp})) (set.len-empty nat_cmp i + 1))

has_more : (ks ls : List ℕ) (q : ℕ) → (has ks q || has ls q) ≡ has (ks ++ ls) q
has_more [] ls q = refl
has_more (k ∷ ks) ls q = regroup (nat_eq k q) _ _ ∙ ap (λ b. nat_eq k q || b) (has_more ks ls q)
  where
    regroup : (a b c : Bool) → ((a || b) || c) ≡ (a || (b || c))
    regroup true b c = refl
    regroup false b c = refl

-- ---- the small machine

abbrev pub node_0 : List ℕ
node_0 = 0 ∷ 1 ∷ 4 ∷ 5 ∷ []

abbrev pub node_1 : List ℕ
node_1 = 2 ∷ 3 ∷ 6 ∷ 7 ∷ []

abbrev pub nodes : List ℕ
nodes = node_0 ++ node_1

-- it has all CPUs of a core
abbrev pub has_core : List ℕ → ℕ → Bool
has_core ks core = list_all (λ y. not (core_of two_sockets y == core) || has ks y) nodes

in_core : (ks : List ℕ) (core : ℕ) → set.is_subset (cpus_of_core two_sockets core) (set.from_list ks) ≡ has_core ks core
in_core ks core =
    is_subset-by _ _ nodes (λ y. core_of two_sockets y == core)
    (λ q. contains-cpus_of_core two_sockets core q ∙ ap (λ b. b && (core_of two_sockets q == core)) (contains-two node_0 node_1 q ∙ has_more node_0 node_1 q))
    ∙ (λ i. list_all (λ y. not (core_of two_sockets y == core) || contains-from_list_nat ks y i) nodes)

pub has_cores : (ks : List ℕ) (q : ℕ) → set.contains (cores_in two_sockets (set.from_list ks)) q ≡ (has ks q && ((core_of two_sockets q == q) && has_core ks q))
has_cores ks q = contains-cores_in two_sockets (set.from_list ks) q ∙ (λ i. contains-from_list_nat ks q i && ((core_of two_sockets q == q) && in_core ks q i))

pub has_whole : (ks : List ℕ) (q : ℕ) → set.contains (whole_in two_sockets (set.from_list ks)) q ≡ (has ks q && has_core ks (core_of two_sockets q))
has_whole ks q = contains-whole_in two_sockets (set.from_list ks) q ∙ (λ i. contains-from_list_nat ks q i && in_core ks (core_of two_sockets q) i)

-- the node of a CPU, by which nodes have it
pub node_is : (q : ℕ) → node_of two_sockets q ≡ unwrap_or (position (λ b. b) (has node_0 q ∷ has node_1 q ∷ [])) 0
node_is q i = unwrap_or (position (λ b. b) (contains-from_list_nat node_0 q i ∷ contains-from_list_nat node_1 q i ∷ [])) 0
