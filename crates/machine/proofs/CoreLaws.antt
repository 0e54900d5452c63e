-- Cores that are listed without fault are the cores of a machine.
use Rattle.std.proofs.Common.{◌≡◌, ℕ, zero, suc, ◌+◌, ◌<◌, ◌≤◌, ◌⊎◌, inl, inr, Bool, true, false, cond, not, ◌&&◌, List, [], ◌∷◌, length, get_or, map, take, Option, Some, None, refl, sym, ap, ◌∙◌, arith}
use Rattle.std.specs.Prelude.{◌||◌, ◌==◌, AllPairs, MatchOption, fold, unwrap_or}
use Rattle.std.proofs.lemmas.Bool.{cases_lt, false≢true, true≢false, false_from_ne_true, and_from, and_parts, eq-eqb, eqb-true}
use Rattle.std.proofs.lemmas.Bool.Decides.{nat_tests}
use Rattle.std.proofs.lemmas.List.{get_or_default, get_or_past}
use Rattle.std.proofs.lemmas.List.Folds.{Any-from_list_any}
use Rattle.std.proofs.lemmas.List.FromFn.{get_or-map-range_with_len, length-map-range_with_len}
use Rattle.std.specs.Ordering.{nat_cmp}
use Rattle.std.specs.Cmp.{nat_cmp_total}
use Rattle.std.specs.FinSet as set
use Rattle.faults.specs.TestLaws.{without, none_below, none_of_both, unmapped, passed, same_tests}
use Rattle.serde_json.specs.Data.{Data}
use Rattle.cpu_set.specs.Ids.{Ids, IsDisjoint, is_empty}
use Rattle.cpu_set.specs.Least.{least_that, least_of}
use Rattle.cpu_set.specs.LeastLaws.{NonePasses, IsLeastThat, least-passes, least-none_says, cpus_from}
use Rattle.cpu_set.specs.Members.{IsCpu, InRange, cpus}
use Rattle.cpu_set.specs.PointwiseLaws.{same_members, contains-empty, contains-insert, contains-difference, contains-intersection, is_subset-contains}
use Rattle.cpu_set.specs.declared.TheConstants.{CPU_LIMIT}
use Rattle.machine.specs.Cores.{core_of, cpus_of_core, AreCores}
use Rattle.machine.specs.CoresFault.{lowest_in, lowest_of, size_of, is_core, core_fault, left_by, first_core_fault, left_fault, cores_fault}
use Rattle.machine.specs.Listed.{cpus_named}
use Rattle.machine.specs.Members.{items_of, items_in}
use Rattle.machine.specs.Layout.{Layout}
use Rattle.machine.specs.Present.{union_of, present, IsPresent}
use Rattle.machine.specs.WholeLaws.{contains-kept}
use Rattle.machine.specs.NodeLaws.{IsOfNode-IsPresent, of_one_node, union_of-at, found_in}

-- ---- the least CPU of a core

least_is : (core : Ids) (c : ℕ) (found : Option ℕ) → IsCpu c → set.contains core c ≡ true → MatchOption found (NonePasses (set.contains core)) (IsLeastThat (set.contains core))
    → (set.contains core (unwrap_or found 0) ≡ true) × (unwrap_or found 0 ≤ c)
least_is core c None is_cpu has none = absurd (false≢true (sym (none c is_cpu) ∙ has))
least_is core c (Some n) is_cpu has least = (
  least.passes,
  elim (cases_lt c n) [
    | inl below ↦ absurd (false≢true (sym (least.least c below) ∙ has))
    | inr above ↦ omega arith
  ],
)

-- the least CPU of a core that has one is a CPU of the core, and no other is below
pub least_of-is : (core : Ids) (c : ℕ) → IsCpu c → set.contains core c ≡ true → (set.contains core (least_of core) ≡ true) × (least_of core ≤ c)
least_of-is core c is_cpu has = least_is core c (least_that (set.contains core)) is_cpu has (least-passes (set.contains core))

-- ---- the lowest CPU that a list of cores gives

abbrev pick : ℕ → ℕ → Ids → ℕ
pick c lowest core = cond (set.contains core c) (least_of core) lowest

picked_below : (core : Ids) (c a : ℕ) (b : Bool) → set.contains core c ≡ b → IsCpu c → a ≤ c → cond b (least_of core) a ≤ c
picked_below core c a true has is_cpu below = (least_of-is core c is_cpu has).1
picked_below core c a false has is_cpu below = below

fold_below : (cores : List Ids) (c a : ℕ) → IsCpu c → a ≤ c → fold (pick c) a cores ≤ c
fold_below [] c a is_cpu below = below
fold_below (x ∷ xs) c a is_cpu below = fold_below xs c (pick c a x) is_cpu (picked_below x c a (set.contains x c) refl is_cpu below)

-- no core changes what none of them has
fold_unless : (cores : List Ids) (c a : ℕ) → ((k : ℕ) → k < length cores → set.contains (get_or cores k set.empty) c ≡ false) → fold (pick c) a cores ≡ a
fold_unless [] c a none = refl
fold_unless (x ∷ xs) c a none =
    ap (λ b. fold (pick c) (cond b (least_of x) a) xs) (none 0 (omega arith))
    ∙ fold_unless xs c a (λ k lt. none (suc k) (omega arith))

-- the last core that has the CPU decides
fold_last :
    (cores : List Ids) (k c a : ℕ) → k < length cores → set.contains (get_or cores k set.empty) c ≡ true
    → ((j : ℕ) → k < j → j < length cores → set.contains (get_or cores j set.empty) c ≡ false)
    → fold (pick c) a cores ≡ least_of (get_or cores k set.empty)
fold_last [] k c a lt has none = absurd (omega arith)
fold_last (x ∷ xs) zero c a lt has none =
    ap (λ b. fold (pick c) (cond b (least_of x) a) xs) has
    ∙ fold_unless xs c (least_of x) (λ j lt. none (suc j) (omega arith) (omega arith))
fold_last (x ∷ xs) (suc k) c a lt has none =
    fold_last xs k c (pick c a x) (omega arith) has (λ j after lt. none (suc j) (omega arith) (omega arith))

pub lowest_in-at :
    (cores : List Ids) (k c : ℕ) → AllPairs IsDisjoint cores → k < length cores → set.contains (get_or cores k set.empty) c ≡ true
    → lowest_in cores c ≡ least_of (get_or cores k set.empty)
unfolding lowest_in
lowest_in-at cores k c apart lt has =
    fold_last cores k c c lt has (λ j after within. false_from_ne_true _ (apart k j set.empty after within c has))

pub lowest_in-below : (cores : List Ids) (c : ℕ) → IsCpu c → lowest_in cores c ≤ c
unfolding lowest_in
lowest_in-below cores c is_cpu = fold_below cores c c is_cpu (omega arith)

-- of no cores each CPU is its own
pub lowest_in-none : (c : ℕ) → lowest_in [] c ≡ c
unfolding lowest_in
lowest_in-none c = refl

at_place : (f : ℕ → ℕ) (n c d : ℕ) → n ≡ CPU_LIMIT → c < CPU_LIMIT → get_or (map f cpus) c d ≡ f c
at_place f n c d e lt =
    ap (λ xs. get_or (map f xs) c d) (cpus_from n e) ∙ get_or-map-range_with_len f 0 n c c d (omega arith) (omega arith)

long : (f : ℕ → ℕ) (n : ℕ) → n ≡ CPU_LIMIT → length (map f cpus) ≡ CPU_LIMIT
long f n e = ap (λ xs. length (map f xs)) (cpus_from n e) ∙ length-map-range_with_len f 0 n ∙ e

pub lowest_of-at : (cores : List Ids) (c d : ℕ) → IsCpu c → get_or (lowest_of cores) c d ≡ lowest_in cores c
lowest_of-at cores c d lt = at_place (lowest_in cores) CPU_LIMIT c d refl lt

pub lowest_of-long : (cores : List Ids) → length (lowest_of cores) ≡ CPU_LIMIT
lowest_of-long cores = long (lowest_in cores) CPU_LIMIT refl

-- ---- a core without fault

-- what holds of the CPUs of a core
pub record IsFit (nodes : List Ids) (reserved : Ids) (size : ℕ) (left core : Ids) : Type 0 where
  pub some : is_empty core ≡ false
  pub size_is : set.len core ≡ size
  pub within : (c : ℕ) → set.contains core c ≡ true → set.contains left c ≡ true
  pub reserved_or_not : ((c : ℕ) → set.contains core c ≡ true → set.contains reserved c ≡ true) ⊎ ((c : ℕ) → set.contains core c ≡ true → set.contains reserved c ≡ false)
  pub node : (i : ℕ) × (i < length nodes) × ((c : ℕ) → set.contains core c ≡ true → set.contains (get_or nodes i set.empty) c ≡ true)

pub one_of_two : (a b : Bool) → (a || b) ≡ true → (a ≡ true) ⊎ (b ≡ true)
one_of_two true b e = inl refl
one_of_two false b e = inr e

not_true : (b : Bool) → not b ≡ true → b ≡ false
not_true true e = absurd (false≢true e)
not_true false e = refl

pub left_and : (left reserved core : Ids) → ((set.is_subset core (set.difference left reserved) ≡ true) ⊎ (set.is_subset core (set.intersection left reserved) ≡ true))
    → (((c : ℕ) → set.contains core c ≡ true → set.contains left c ≡ true)
    × (((c : ℕ) → set.contains core c ≡ true → set.contains reserved c ≡ true) ⊎ ((c : ℕ) → set.contains core c ≡ true → set.contains reserved c ≡ false)))
left_and left reserved core (inl outside) =
    let each : (c : ℕ) → set.contains core c ≡ true → (set.contains left c ≡ true) × (not (set.contains reserved c) ≡ true) =
    λ c has. and_parts _ _ (sym (contains-difference left reserved c) ∙ is_subset-contains core _ outside c has) in
    (λ c has. (each c has).0, inr (λ c has. not_true _ (each c has).1))
left_and left reserved core (inr inside) =
    let each : (c : ℕ) → set.contains core c ≡ true → (set.contains left c ≡ true) × (set.contains reserved c ≡ true) =
    λ c has. and_parts _ _ (sym (contains-intersection left reserved c) ∙ is_subset-contains core _ inside c has) in
    (λ c has. (each c has).0, inl (λ c has. (each c has).1))

pub is_core-fit : (nodes : List Ids) (reserved : Ids) (size : ℕ) (left core : Ids) → is_core nodes reserved size left core ≡ true → IsFit nodes reserved size left core
is_core-fit nodes reserved size left core is =
    let p = and_parts _ _ is in
    let q = and_parts _ _ p.0 in
    let r = and_parts _ _ q.1 in
    let sides = left_and left reserved core (one_of_two _ _ r.1) in
    let found = Any-from_list_any (λ node. set.is_subset core node) nodes p.1 in
    let same : get_or nodes found.0 set.empty ≡ found.1 = get_or_default nodes found.0 set.empty found.1 found.2 ∙ found.3 in
    record {
      some = not_true _ q.0;
      size_is = eqb-true _ _ r.0;
      within = sides.0;
      reserved_or_not = sides.1;
      node = (found.0, found.2, λ c has. ap (λ s. set.contains s c) same ∙ is_subset-contains core found.1 found.4 c has);
    }

-- ---- all cores

-- cores between which the CPUs of the nodes are shared out
pub record AreShared (nodes cores : List Ids) : Type 0 where
  pub in_range : InRange (union_of nodes)
  pub within : (k : ℕ) → k < length cores → (c : ℕ) → set.contains (get_or cores k set.empty) c ≡ true → set.contains (union_of nodes) c ≡ true
  pub apart : AllPairs IsDisjoint cores
  pub all : (c : ℕ) → set.contains (union_of nodes) c ≡ true → (k : ℕ) × (k < length cores) × (set.contains (get_or cores k set.empty) c ≡ true)

-- and that are without fault
pub record AreListed (nodes : List Ids) (reserved : Ids) (cores : List Ids) : Type 0 where
  pub shared : AreShared nodes cores
  pub nodes_apart : AllPairs IsDisjoint nodes
  pub fit : (k : ℕ) → k < length cores → IsFit nodes reserved (size_of cores) (union_of nodes) (get_or cores k set.empty)

-- the core that has a CPU
pub record IsAt (m : Layout) (cores : List Ids) (c k : ℕ) : Type 0 where
  pub lt : k < length cores
  pub has : set.contains (get_or cores k set.empty) c ≡ true
  pub lowest : core_of m c ≡ least_of (get_or cores k set.empty)
  pub least : set.contains (get_or cores k set.empty) (core_of m c) ≡ true

pub in_core : (m : Layout) (cores : List Ids) → AreShared m.nodes cores → m.lowest ≡ lowest_of cores
    → (c k : ℕ) → k < length cores → set.contains (get_or cores k set.empty) c ≡ true → IsAt m cores c k
in_core m cores shared is c k lt has =
    let is_cpu : IsCpu c = shared.in_range c (shared.within k lt c has) in
    let lowest : core_of m c ≡ least_of (get_or cores k set.empty) =
    ap (λ xs. get_or xs c c) is ∙ lowest_of-at cores c c is_cpu ∙ lowest_in-at cores k c shared.apart lt has in
    record { lt = lt; has = has; lowest = lowest; least = ap (set.contains (get_or cores k set.empty)) lowest ∙ (least_of-is (get_or cores k set.empty) c is_cpu has).0 }

pub find_core : (m : Layout) (cores : List Ids) → AreShared m.nodes cores → m.lowest ≡ lowest_of cores
    → (c : ℕ) → IsPresent m c → (k : ℕ) × IsAt m cores c k
find_core m cores shared is c there =
    let found = shared.all c there in
    (found.0, in_core m cores shared is c found.0 found.1 found.2)

-- a CPU is in one core alone
one_core : (cores : List Ids) (c j k : ℕ) → AllPairs IsDisjoint cores → j < length cores → k < length cores
    → set.contains (get_or cores j set.empty) c ≡ true → set.contains (get_or cores k set.empty) c ≡ true → j ≡ k
one_core cores c j k apart lt_j lt_k in_j in_k =
    elim (cases_lt j k) [
      | inl less ↦ absurd (apart j k set.empty less lt_k c in_j in_k)
      | inr not_less ↦ elim (cases_lt k j) [
        | inl more ↦ absurd (apart k j set.empty more lt_j c in_k in_j)
        | inr same ↦ omega arith
      ]
    ]

-- the CPUs of a CPU's core are those that are listed
pub core_is : (m : Layout) (cores : List Ids) → AreShared m.nodes cores → m.lowest ≡ lowest_of cores
    → (c k : ℕ) → IsAt m cores c k → cpus_of_core m (core_of m c) ≡ get_or cores k set.empty
unfolding cpus_of_core
core_is m cores shared is c k at =
    same_members _ _ (λ q.
    contains-kept (present m) (λ p. core_of m p == core_of m c) q
    ∙ same_tests _ _ (kept q) (is_kept q))
  where
    kept : (q : ℕ) → (set.contains (present m) q && (core_of m q == core_of m c)) ≡ true → set.contains (get_or cores k set.empty) q ≡ true
    kept q is_kept =
        let p = and_parts (set.contains (present m) q) (core_of m q == core_of m c) is_kept in
        let found = find_core m cores shared is q p.0 in
        let same : core_of m q ≡ core_of m c = eqb-true (core_of m q) (core_of m c) p.1 in
        let here : found.0 ≡ k = one_core cores (core_of m c) found.0 k shared.apart found.1.lt at.lt
        (ap (set.contains (get_or cores found.0 set.empty)) (sym same) ∙ found.1.least) at.least in
        ap (λ j. set.contains (get_or cores j set.empty) q) (sym here) ∙ found.1.has

    is_kept : (q : ℕ) → set.contains (get_or cores k set.empty) q ≡ true → (set.contains (present m) q && (core_of m q == core_of m c)) ≡ true
    is_kept q has =
        let other = in_core m cores shared is q k at.lt has in
        and_from _ _ (shared.within k at.lt q has) (eq-eqb _ _ (other.lowest ∙ sym at.lowest))

-- what is in no core stands for itself
pub lowest_in-absent : (cores : List Ids) (c : ℕ) → ((k : ℕ) → k < length cores → set.contains (get_or cores k set.empty) c ≡ false) → lowest_in cores c ≡ c
unfolding lowest_in
lowest_in-absent cores c none = fold_unless cores c c none

stands_for_itself :
    (m : Layout) (cores : List Ids) → AreShared m.nodes cores → m.lowest ≡ lowest_of cores → (c : ℕ) → set.contains (present m) c ≡ false → core_of m c ≡ c
stands_for_itself m cores shared is c absent =
    elim (cases_lt c CPU_LIMIT) [
      | inl lt ↦
          ap (λ xs. get_or xs c c) is ∙ lowest_of-at cores c c lt
          ∙ lowest_in-absent cores c (λ k within. false_from_ne_true _ (λ has. false≢true (sym absent ∙ shared.within k within c has)))
      | inr past ↦ let room : length m.lowest ≤ c = omega (arith, ap length is, lowest_of-long cores) in get_or_past m.lowest c c room
    ]

pub lowest_of-low : (cores : List Ids) (lowest : List ℕ) → lowest ≡ lowest_of cores → (c : ℕ) → get_or lowest c c ≤ c
lowest_of-low cores lowest is c =
    elim (cases_lt c CPU_LIMIT) [
      | inl lt ↦ rw (ap (λ xs. get_or xs c c) is ∙ lowest_of-at cores c c lt) (lowest_in-below cores c lt)
      | inr past ↦ let room : length lowest ≤ c = omega (arith, ap length is, lowest_of-long cores) in rw (get_or_past lowest c c room) (omega arith)
    ]

size_some : (core : Ids) (size : ℕ) → is_empty core ≡ false → set.len core ≡ size → 1 ≤ size
size_some core size some is = grind (arith, nat_tests)

some_threads :
    (nodes : List Ids) (reserved : Ids) (cores : List Ids)
    → ((k : ℕ) → k < length cores → IsFit nodes reserved (size_of cores) (union_of nodes) (get_or cores k set.empty)) → 1 ≤ size_of cores
some_threads nodes reserved [] fit = omega arith
some_threads nodes reserved (x ∷ xs) fit = let first = fit 0 (omega arith) in size_some x (set.len x) first.some refl

pub AreCores-listed :
    (m : Layout) (cores : List Ids) → AreListed m.nodes m.reserved cores → m.lowest ≡ lowest_of cores → m.threads ≡ size_of cores → AreCores m
AreCores-listed m cores listed is threads =
    let at : (q : ℕ) → IsPresent m q → (k : ℕ) × IsAt m cores q k = find_core m cores listed.shared is in
    record {
      room = ap length is ∙ lowest_of-long cores;
      lowest = lowest_of-low cores m.lowest is;
      is_present = λ q p. let f = at q p in (listed.fit f.0 f.1.lt).within _ f.1.least;
      same = λ q p. let f = at q p in (in_core m cores listed.shared is (core_of m q) f.0 f.1.lt f.1.least).lowest ∙ sym f.1.lowest;
      absent = stands_for_itself m cores listed.shared is;
      one_node = λ q i of_node.
          let f = at q (IsOfNode-IsPresent m q i of_node) in
          let node = (listed.fit f.0 f.1.lt).node in
          let same : i ≡ node.0 = of_one_node m q i node.0 listed.nodes_apart of_node (record { is_node = node.1; has_cpu = node.2 q f.1.has }) in
          record { is_node = of_node.is_node; has_cpu = ap (λ j. set.contains (get_or m.nodes j set.empty) (core_of m q)) same ∙ node.2 _ f.1.least };
      reserved = λ q p.
          let f = at q p in
          elim (listed.fit f.0 f.1.lt).reserved_or_not [
            | inl all ↦ all _ f.1.least ∙ sym (all q f.1.has)
            | inr none ↦ none _ f.1.least ∙ sym (none q f.1.has)
          ];
      some = rw threads (some_threads m.nodes m.reserved cores listed.fit);
      threads = λ q p. let f = at q p in ap set.len (core_is m cores listed.shared is q f.0 f.1) ∙ (listed.fit f.0 f.1.lt).size_is ∙ sym threads;
    }

-- ---- no cores

own : (m : Layout) → m.lowest ≡ lowest_of [] → (c : ℕ) → core_of m c ≡ c
own m is c =
    elim (cases_lt c CPU_LIMIT) [
      | inl lt ↦ ap (λ xs. get_or xs c c) is ∙ lowest_of-at [] c c lt ∙ lowest_in-none c
      | inr past ↦ let room : length m.lowest ≤ c = omega (arith, ap length is, lowest_of-long []) in get_or_past m.lowest c c room
    ]

only_one : (a : Bool) (q c : ℕ) → (q ≡ c → a ≡ true) → (a && (q == c)) ≡ ((q == c) || false)
only_one a q c there = grind (arith, nat_tests)

alone : (m : Layout) → m.lowest ≡ lowest_of [] → (c : ℕ) → IsPresent m c → cpus_of_core m (core_of m c) ≡ set.insert set.empty c
unfolding cpus_of_core
alone m is c there =
    same_members _ _ (λ q.
    contains-kept (present m) (λ p. core_of m p == core_of m c) q
    ∙ ap (λ n. set.contains (present m) q && (n == core_of m c)) (own m is q)
    ∙ ap (λ n. set.contains (present m) q && (q == n)) (own m is c)
    ∙ only_one (set.contains (present m) q) q c (λ e. ap (set.contains (present m)) e ∙ there)
    ∙ ap (λ b. (q == c) || b) (sym (contains-empty q))
    ∙ sym (contains-insert set.empty c q))

pub AreCores-none : (m : Layout) → m.lowest ≡ lowest_of [] → m.threads ≡ 1 → AreCores m
AreCores-none m is threads = record {
  room = ap length is ∙ lowest_of-long [];
  lowest = lowest_of-low [] m.lowest is;
  is_present = λ c p. ap (set.contains (present m)) (own m is c) ∙ p;
  same = λ c p. own m is (core_of m c);
  absent = λ c p. own m is c;
  one_node = λ c i of_node. record { is_node = of_node.is_node; has_cpu = ap (set.contains (get_or m.nodes i set.empty)) (own m is c) ∙ of_node.has_cpu };
  reserved = λ c p. ap (set.contains m.reserved) (own m is c);
  some = omega (arith, threads);
  threads = λ c p.
      ap set.len (alone m is c p) ∙ set.len-insert nat_cmp_total set.empty c
      ∙ ap (λ b. cond b (set.len (set.empty {R = nat_cmp})) (set.len (set.empty {R = nat_cmp}) + 1)) (contains-empty c)
      ∙ ap (λ n. n + 1) (set.len-empty nat_cmp) ∙ sym threads;
}

-- ---- where no fault is found

pub AreListed-no_fault :
    (nodes : List Ids) (reserved : Ids) (cores : List Ids) → InRange (union_of nodes) → AllPairs IsDisjoint nodes
    → first_core_fault nodes reserved cores ≡ None
    → ((c : ℕ) → set.contains (union_of nodes) c ≡ true → set.contains (union_of cores) c ≡ true)
    → AreListed nodes reserved cores
unfolding first_core_fault core_fault
AreListed-no_fault nodes reserved cores in_range apart none all =
    let each : (k : ℕ) → k < length cores → IsFit nodes reserved (size_of cores) (left_by nodes (take k cores)) (get_or cores k set.empty) =
    λ k lt. is_core-fit _ _ _ _ _ (passed _ _ (none_below (length cores) _ none k lt)) in
    let parts : (k : ℕ) → k < length cores → (c : ℕ) → set.contains (get_or cores k set.empty) c ≡ true
    → (set.contains (union_of nodes) c ≡ true) × (not (set.contains (union_of (take k cores)) c) ≡ true) =
    λ k lt c has. and_parts _ _ (sym (contains-difference (union_of nodes) (union_of (take k cores)) c) ∙ (each k lt).within c has) in
    record {
      nodes_apart = apart;
      fit = λ k lt. record {
        some = (each k lt).some;
        size_is = (each k lt).size_is;
        within = λ c has. (parts k lt c has).0;
        reserved_or_not = (each k lt).reserved_or_not;
        node = (each k lt).node;
      };
      shared = record {
        in_range = in_range;
        within = λ k lt c has. (parts k lt c has).0;
        apart = λ j k d before lt c in_j in_k.
            let in_j_too : set.contains (get_or cores j set.empty) c ≡ true = ap (λ s. set.contains s c) (get_or_default cores j set.empty d (omega arith)) ∙ in_j in
            let in_k_too : set.contains (get_or cores k set.empty) c ≡ true = ap (λ s. set.contains s c) (get_or_default cores k set.empty d lt) ∙ in_k in
            true≢false (sym (union_of-at cores j k before lt c in_j_too) ∙ not_true _ (parts k lt c in_k_too).1);
        all = λ c there. found_in cores c (all c there);
      };
    }

-- no present CPU is left
none_left : (nodes cores : List Ids) → InRange (union_of nodes) → left_fault nodes cores ≡ None → (c : ℕ) → set.contains (union_of nodes) c ≡ true → set.contains (union_of cores) c ≡ true
unfolding left_fault
none_left nodes cores in_range none c has =
    without _ _ (least-none_says (λ q. set.contains (union_of nodes) q && not (set.contains (union_of cores) q)) (unmapped _ _ none) c (in_range c has)) has

-- cores that are read without fault, or that are not there
pub AreCores-read :
    (m : Layout) (found : Option Data) → InRange (union_of m.nodes) → AllPairs IsDisjoint m.nodes → cores_fault m.nodes m.reserved found ≡ None
    → m.lowest ≡ lowest_of (map cpus_named (items_in found)) → m.threads ≡ size_of (map cpus_named (items_in found)) → AreCores m
unfolding cores_fault
AreCores-read m None in_range apart none is threads = AreCores-none m is threads
AreCores-read m (Some d) in_range apart none is threads =
    let cores = map cpus_named (items_of d) in
    let p = none_of_both _ _ (none_of_both _ _ (none_of_both _ _ none).1).1 in
    AreCores-listed m cores
    (AreListed-no_fault m.nodes m.reserved cores in_range apart p.0 (none_left m.nodes cores in_range (none_of_both _ _ p.1).0)) is threads
