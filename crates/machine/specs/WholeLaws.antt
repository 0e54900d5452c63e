-- What holds of cores, of their CPUs, and of sets that are whole.
use Rattle.std.proofs.Common.{◌≡◌, ℕ, Bool, true, false, ◌&&◌, nat_lt, refl, sym, ap, ◌∙◌}
use Rattle.std.specs.Prelude.{◌==◌}
use Rattle.std.proofs.lemmas.Bool.{and_from, and_parts, lt-ltb, eq-eqb, eqb-true}
use Rattle.std.specs.FinSet as set
use Rattle.faults.specs.TestLaws.{same_tests}
use Rattle.cpu_set.specs.Ids.{Ids, IsDisjoint}
use Rattle.cpu_set.specs.Members.{InRange}
use Rattle.cpu_set.specs.PointwiseLaws.{same_members, is_subset-contains, contains-is_subset}
use Rattle.cpu_set.specs.ThoseLemmas.{contains-those}
use Rattle.cpu_set.specs.declared.TheConstants.{CPU_LIMIT}
use Rattle.machine.specs.Cores.{core_of, cpus_of_core, is_core_in, cores_in, cpus_of_cores, whole_in, IsWhole, AreCores}
use Rattle.machine.specs.Layout.{Layout}
use Rattle.machine.specs.Present.{present, IsPresent}

-- what is whole in a set is within it, and all of it where the set is whole
abbrev pub WholeIsWithin : Type 0
WholeIsWithin = (m : Layout) (s : Ids) → set.is_subset (whole_in m s) s ≡ true

abbrev pub WholeIsAll : Type 0
WholeIsAll = (m : Layout) (s : Ids) → AreCores m → IsWhole m s → whole_in m s ≡ s

-- it is the CPUs of the cores of which the set has all
abbrev pub WholeIsOfCores : Type 0
WholeIsOfCores = (m : Layout) (s : Ids) → AreCores m → InRange s → cpus_of_cores m (cores_in m s) ≡ whole_in m s

-- the CPUs of cores are whole
abbrev pub CoresAreWhole : Type 0
CoresAreWhole = (m : Layout) (cores : Ids) → InRange (present m) → IsWhole m (cpus_of_cores m cores)

-- the CPUs of cores that share none share none
abbrev pub CoresStayApart : Type 0
CoresStayApart = (m : Layout) (cores others : Ids) → IsDisjoint cores others → IsDisjoint (cpus_of_cores m cores) (cpus_of_cores m others)

-- each number is the lowest CPU of a core
abbrev pub AreLowest : Layout → Ids → Type 0
AreLowest m cores = (c : ℕ) → set.contains cores c ≡ true → IsPresent m c × (core_of m c ≡ c)

-- the cores that the CPUs of cores make are these cores
abbrev pub CoresComeBack : Type 0
CoresComeBack = (m : Layout) (cores : Ids) → AreCores m → InRange (present m) → AreLowest m cores → cores_in m (cpus_of_cores m cores) ≡ cores

-- the lowest CPUs of the cores in a set are CPUs of the set, and where its CPUs are present they are the lowest of cores
abbrev pub CoresAreWithin : Type 0
CoresAreWithin = (m : Layout) (s : Ids) → set.is_subset (cores_in m s) s ≡ true

abbrev pub CoresAreLowest : Type 0
CoresAreLowest = (m : Layout) (s : Ids) → set.is_subset s (present m) ≡ true → AreLowest m (cores_in m s)

-- a set within another has no core that the other has not
abbrev pub CoresRise : Type 0
CoresRise = (m : Layout) (s t : Ids) → set.is_subset s t ≡ true → set.is_subset (cores_in m s) (cores_in m t) ≡ true

-- the CPUs of cores that are in a set are in the set
abbrev pub CoresFillWithin : Type 0
CoresFillWithin =
    (m : Layout) (cores s : Ids) → AreCores m → set.is_subset cores (cores_in m s) ≡ true → set.is_subset (cpus_of_cores m cores) s ≡ true

-- a set's members that pass, number by number
pub contains-kept : (s : Ids) (p : ℕ → Bool) (c : ℕ) → set.contains (set.retain s p) c ≡ (set.contains s c && p c)
contains-kept s p c = set.contains-retain s p c (λ x equal. ap p (sym (set.nat_cmp-IsAntisymmetric c x equal)))

-- ---- what each of the four means, number by number

pub contains-cpus_of_core : (m : Layout) (core c : ℕ) → set.contains (cpus_of_core m core) c ≡ (set.contains (present m) c && (core_of m c == core))
unfolding cpus_of_core
contains-cpus_of_core m core c = contains-kept (present m) (λ q. core_of m q == core) c

pub contains-cores_in : (m : Layout) (s : Ids) (c : ℕ) → set.contains (cores_in m s) c ≡ (set.contains s c && is_core_in m s c)
unfolding cores_in
contains-cores_in m s c = contains-kept s (is_core_in m s) c

pub contains-cpus_of_cores : (m : Layout) (cores : Ids) (c : ℕ) → set.contains (cpus_of_cores m cores) c ≡ (nat_lt c CPU_LIMIT && set.contains cores (core_of m c))
unfolding cpus_of_cores
contains-cpus_of_cores m cores c = contains-those (λ q. set.contains cores (core_of m q)) CPU_LIMIT c

pub contains-whole_in : (m : Layout) (s : Ids) (c : ℕ) → set.contains (whole_in m s) c ≡ (set.contains s c && set.is_subset (cpus_of_core m (core_of m c)) s)
unfolding whole_in
contains-whole_in m s c = contains-kept s (λ q. set.is_subset (cpus_of_core m (core_of m q)) s) c

-- a present CPU is among those of its core
pub in_own_core : (m : Layout) (c : ℕ) → IsPresent m c → set.contains (cpus_of_core m (core_of m c)) c ≡ true
in_own_core m c there = contains-cpus_of_core m (core_of m c) c ∙ and_from _ _ there (eq-eqb _ _ refl)

-- a number that has a present CPU's core is present too
by_presence : (m : Layout) (c : ℕ) (b : Bool) → AreCores m → set.contains (present m) c ≡ b → IsPresent m (core_of m c) → IsPresent m c
by_presence m c true are is there = is
by_presence m c false are is there = sym (ap (set.contains (present m)) (are.absent c is)) ∙ there

pub present_sibling : (m : Layout) (c : ℕ) → AreCores m → IsPresent m (core_of m c) → IsPresent m c
present_sibling m c are there = by_presence m c (set.contains (present m) c) are refl there

-- the core of a core is itself
by_kind : (m : Layout) (c : ℕ) (b : Bool) → AreCores m → set.contains (present m) c ≡ b → core_of m (core_of m c) ≡ core_of m c
by_kind m c true are is = are.same c is
by_kind m c false are is = ap (core_of m) (are.absent c is)

pub core_of_core : (m : Layout) (c : ℕ) → AreCores m → core_of m (core_of m c) ≡ core_of m c
core_of_core m c are = by_kind m c (set.contains (present m) c) are refl

-- ---- what is whole in a set

-- it is within the set
pub whole_in-within : WholeIsWithin
whole_in-within m s = contains-is_subset (whole_in m s) s (λ c has. (and_parts _ _ (sym (contains-whole_in m s c) ∙ has)).0)

-- and it is whole
whole_one_way : (m : Layout) (s : Ids) (a b : ℕ) → IsPresent m b → core_of m a ≡ core_of m b → set.contains (whole_in m s) a ≡ true → set.contains (whole_in m s) b ≡ true
whole_one_way m s a b there same has =
    let p = and_parts _ _ (sym (contains-whole_in m s a) ∙ has) in
    let q : set.is_subset (cpus_of_core m (core_of m b)) s ≡ true = ap (λ core. set.is_subset (cpus_of_core m core) s) (sym same) ∙ p.1 in
    contains-whole_in m s b ∙ and_from _ _ (is_subset-contains _ s q b (in_own_core m b there)) q

pub whole_in-IsWhole : (m : Layout) (s : Ids) → IsWhole m (whole_in m s)
whole_in-IsWhole m s a b there_a there_b same = same_tests _ _ (whole_one_way m s a b there_b same) (whole_one_way m s b a there_a (sym same))

-- all of a whole set is whole
pub whole_in-whole : WholeIsAll
whole_in-whole m s are whole =
    same_members _ _ (λ c.
    same_tests _ _ (λ has. is_subset-contains _ s (whole_in-within m s) c has)
    (λ has.
    contains-whole_in m s c
    ∙ and_from _ _ has
    (contains-is_subset _ s (λ q in_core.
    let p = and_parts _ _ (sym (contains-cpus_of_core m (core_of m c) q) ∙ in_core) in
    let same : core_of m q ≡ core_of m c = eqb-true _ _ p.1 in
    let there : IsPresent m c = present_sibling m c are (ap (set.contains (present m)) (sym same) ∙ are.is_present q p.0) in
    whole q c p.0 there same ∙ has))))

-- ---- cores and their CPUs

pub cores_in-within : CoresAreWithin
cores_in-within m s = contains-is_subset (cores_in m s) s (λ c has. (and_parts _ _ (sym (contains-cores_in m s c) ∙ has)).0)

pub cores_in-lowest : CoresAreLowest
cores_in-lowest m s within c has =
    let p = and_parts _ _ (sym (contains-cores_in m s c) ∙ has) in
    (is_subset-contains s (present m) within c p.0, eqb-true _ _ (and_parts _ _ p.1).0)

pub cores_in-rise : CoresRise
cores_in-rise m s t within =
    contains-is_subset (cores_in m s) (cores_in m t) (λ c has.
    let p = and_parts _ _ (sym (contains-cores_in m s c) ∙ has) in
    let q = and_parts _ _ p.1 in
    contains-cores_in m t c
    ∙ and_from _ _ (is_subset-contains s t within c p.0)
    (and_from _ _ q.0 (contains-is_subset (cpus_of_core m c) t (λ k in_core. is_subset-contains s t within k (is_subset-contains _ s q.1 k in_core)))))

in_cores :
    (m : Layout) (s : Ids) (c : ℕ) → AreCores m → set.contains (cores_in m s) (core_of m c) ≡ true
    → (set.contains s c && set.is_subset (cpus_of_core m (core_of m c)) s) ≡ true
in_cores m s c are has =
    let p = and_parts _ _ (sym (contains-cores_in m s (core_of m c)) ∙ has) in
    let r = and_parts _ _ p.1 in
    and_from _ _ (by (set.contains (present m) c) refl p.0 r.1) r.1
  where
    by : (b : Bool) → set.contains (present m) c ≡ b → set.contains s (core_of m c) ≡ true → set.is_subset (cpus_of_core m (core_of m c)) s ≡ true → set.contains s c ≡ true
    by true there lowest within = is_subset-contains _ s within c (in_own_core m c there)
    by false absent lowest within = ap (set.contains s) (sym (are.absent c absent)) ∙ lowest

of_cores :
    (m : Layout) (s : Ids) (c : ℕ) → AreCores m → (set.contains s c && set.is_subset (cpus_of_core m (core_of m c)) s) ≡ true
    → set.contains (cores_in m s) (core_of m c) ≡ true
of_cores m s c are has =
    let p = and_parts _ _ has in
    contains-cores_in m s (core_of m c)
    ∙ and_from _ _ (by (set.contains (present m) c) refl p.0 p.1) (and_from _ _ (eq-eqb _ _ (core_of_core m c are)) p.1)
  where
    by : (b : Bool) → set.contains (present m) c ≡ b → set.contains s c ≡ true → set.is_subset (cpus_of_core m (core_of m c)) s ≡ true → set.contains s (core_of m c) ≡ true
    by true there here within =
        is_subset-contains _ s within (core_of m c)
        (contains-cpus_of_core m (core_of m c) (core_of m c) ∙ and_from _ _ (are.is_present c there) (eq-eqb _ _ (core_of_core m c are)))
    by false absent here within = ap (set.contains s) (are.absent c absent) ∙ here

-- the CPUs of the cores that a set has all CPUs of are what is whole in it
pub cpus_of_cores-cores_in : WholeIsOfCores
cpus_of_cores-cores_in m s are in_range =
    same_members (cpus_of_cores m (cores_in m s)) (whole_in m s) (λ c.
    contains-cpus_of_cores m (cores_in m s) c
    ∙ same_tests _ _
    (λ has. in_cores m s c are (and_parts (nat_lt c CPU_LIMIT) (set.contains (cores_in m s) (core_of m c)) has).1)
    (λ has. and_from _ _ (lt-ltb _ _ (in_range c (and_parts (set.contains s c) _ has).0)) (of_cores m s c are has))
    ∙ sym (contains-whole_in m s c))

-- the CPUs of cores are whole
sibling_too :
    (m : Layout) (cores : Ids) (a b : ℕ) → InRange (present m) → IsPresent m b → core_of m a ≡ core_of m b
    → set.contains (cpus_of_cores m cores) a ≡ true → set.contains (cpus_of_cores m cores) b ≡ true
sibling_too m cores a b in_range there same has =
    let p = and_parts _ _ (sym (contains-cpus_of_cores m cores a) ∙ has) in
    contains-cpus_of_cores m cores b
    ∙ and_from _ _ (lt-ltb _ _ (in_range b there)) (ap (set.contains cores) (sym same) ∙ p.1)

pub cpus_of_cores-IsWhole : CoresAreWhole
cpus_of_cores-IsWhole m cores in_range a b there_a there_b same =
    same_tests _ _ (sibling_too m cores a b in_range there_b same) (sibling_too m cores b a in_range there_a (sym same))

-- the CPUs of cores that share none share none
pub cpus_of_cores-apart : CoresStayApart
cpus_of_cores-apart m cores others apart c in_one in_other =
    apart (core_of m c)
    (and_parts _ _ (sym (contains-cpus_of_cores m cores c) ∙ in_one)).1
    (and_parts _ _ (sym (contains-cpus_of_cores m others c) ∙ in_other)).1

-- the CPUs of cores that are in a set are in the set
pub cpus_of_cores-within : CoresFillWithin
cpus_of_cores-within m cores s are within =
    contains-is_subset (cpus_of_cores m cores) s (λ c has.
    let p = and_parts _ _ (sym (contains-cpus_of_cores m cores c) ∙ has) in
    (and_parts _ _ (in_cores m s c are (is_subset-contains cores (cores_in m s) within (core_of m c) p.1))).0)

-- the cores of the CPUs of cores are these cores
pub cores_in-cpus_of_cores : CoresComeBack
cores_in-cpus_of_cores m cores are in_range lowest =
    same_members (cores_in m (cpus_of_cores m cores)) cores (λ c.
    contains-cores_in m (cpus_of_cores m cores) c
    ∙ same_tests _ _
    (λ has.
    let p = and_parts _ _ has in
    let q = and_parts _ _ (sym (contains-cpus_of_cores m cores c) ∙ p.0) in
    ap (set.contains cores) (sym (eqb-true _ _ (and_parts _ _ p.1).0)) ∙ q.1)
    (λ has.
    let low = lowest c has in
    and_from _ _
    (contains-cpus_of_cores m cores c ∙ and_from _ _ (lt-ltb _ _ (in_range c low.0)) (ap (set.contains cores) low.1 ∙ has))
    (and_from _ _ (eq-eqb _ _ low.1)
    (contains-is_subset (cpus_of_core m c) (cpus_of_cores m cores) (λ k in_core.
    let r = and_parts _ _ (sym (contains-cpus_of_core m c k) ∙ in_core) in
    contains-cpus_of_cores m cores k
    ∙ and_from _ _ (lt-ltb _ _ (in_range k r.0)) (ap (set.contains cores) (eqb-true _ _ r.1) ∙ has))))))
