-- How many CPUs cores have: each as many as the others.
use Rattle.std.proofs.Common.{◌≡◌, ℕ, zero, suc, ◌+◌, ◌-◌, ◌*◌, inl, inr, Bool, true, false, cond, not, ◌&&◌, nat_lt, subst, refl, sym, ap, ◌∙◌, arith}
use Rattle.std.specs.Prelude.{◌||◌, ◌==◌}
use Rattle.std.proofs.lemmas.Bool.{true≢false, cases_eq, ne_eqb, ltb-true, and_from, and_parts, lt-ltb, eq-eqb, eqb-true}
use Rattle.std.specs.Cmp.{nat_cmp_total}
use Rattle.std.proofs.lemmas.Bool.Decides.{nat_tests}
use Rattle.std.proofs.Math.Nat.{suc-mul}
use Rattle.std.proofs.Math.Numerals.{add-one}
use Rattle.std.specs.FinSet as set
use Rattle.faults.specs.TestLaws.{same_tests}
use Rattle.cpu_set.specs.Ids.{Ids, IsDisjoint}
use Rattle.cpu_set.specs.Members.{InRange}
use Rattle.cpu_set.specs.PointwiseLaws.{same_members, contains-empty, contains-remove, is_subset-contains, contains-is_subset}
use Rattle.cpu_set.specs.SetLaws.{len-those_more, len-those_none, those-contains}
use Rattle.cpu_set.specs.Those.{those}
use Rattle.cpu_set.specs.ThoseLemmas.{contains-those}
use Rattle.cpu_set.specs.declared.TheConstants.{CPU_LIMIT}
use Rattle.machine.specs.Cores.{core_of, cpus_of_core, cores_in, cpus_of_cores, whole_in, AreCores}
use Rattle.machine.specs.Layout.{Layout}
use Rattle.machine.specs.Present.{present, IsPresent}
use Rattle.machine.specs.WholeLaws.{AreLowest, contains-cpus_of_core, contains-cores_in, contains-cpus_of_cores, in_own_core, present_sibling, whole_in-whole, cpus_of_cores-cores_in, cores_in-lowest}
use Rattle.std.proofs.Math.Bool.{and-false, and-true}

-- each core has as many CPUs as there are to a core, so cores have that many times as many
abbrev pub CoresAreAlike : Type 0
CoresAreAlike = (m : Layout) (cores : Ids) → AreCores m → InRange (present m) → AreLowest m cores → set.len (cpus_of_cores m cores) ≡ set.len cores * m.threads

-- ---- sets that share nothing are counted apart

either : (a b : Bool) → (a ≡ true → b ≡ true → ⊥) → cond (a || b) 1 0 ≡ cond a 1 0 + cond b 1 0
either true true f = absurd (f refl refl)
either true false f = refl
either false true f = refl
either false false f = refl

len_more : (p : ℕ → Bool) (n : ℕ) → set.len (those p (suc n)) ≡ set.len (those p n) + cond (p n) 1 0
len_more p n = subst (λ k. set.len (those p k) ≡ set.len (those p n) + cond (p n) 1 0) (add-one n) (len-those_more p n)

those_apart :
    (p q r : ℕ → Bool) (n : ℕ) → ((c : ℕ) → r c ≡ (p c || q c)) → ((c : ℕ) → p c ≡ true → q c ≡ true → ⊥)
    → set.len (those r n) ≡ set.len (those p n) + set.len (those q n)
those_apart p q r zero is apart =
    let none_p = len-those_none p in
    let none_q = len-those_none q in
    let none_r = len-those_none r in
    omega (arith, none_p, none_q, none_r)
those_apart p q r (suc n) is apart =
    let more_p = len_more p n in
    let more_q = len_more q n in
    let more_r = len_more r n in
    let here : cond (r n) 1 0 ≡ cond (p n) 1 0 + cond (q n) 1 0 = ap (λ b. cond b 1 0) (is n) ∙ either (p n) (q n) (apart n) in
    let before = those_apart p q r n is apart in
    omega (arith, more_p, more_q, more_r, here, before)

-- as many as the two together
pub len-apart : (s t u : Ids) → InRange s → InRange t → InRange u → IsDisjoint s t → ((c : ℕ) → set.contains u c ≡ (set.contains s c || set.contains t c))
    → set.len u ≡ set.len s + set.len t
len-apart s t u in_s in_t in_u apart is =
    ap set.len (sym (those-contains u CPU_LIMIT in_u))
    ∙ those_apart (set.contains s) (set.contains t) (set.contains u) CPU_LIMIT is apart
    ∙ ap (λ v. set.len v + set.len (those (set.contains t) CPU_LIMIT)) (those-contains s CPU_LIMIT in_s)
    ∙ ap (λ v. set.len s + set.len v) (those-contains t CPU_LIMIT in_t)

-- ---- cores one by one

pub core_in_range : (m : Layout) (core : ℕ) → InRange (present m) → InRange (cpus_of_core m core)
core_in_range m core in_range c has = in_range c (and_parts _ _ (sym (contains-cpus_of_core m core c) ∙ has)).0

pub cores_in_range : (m : Layout) (cores : Ids) → InRange (cpus_of_cores m cores)
cores_in_range m cores c has = ltb-true c CPU_LIMIT (and_parts _ _ (sym (contains-cpus_of_cores m cores c) ∙ has)).0

spread : (p e s : Bool) → (p && (e || s)) ≡ ((p && s) || (p && e))
spread true true true = refl
spread true true false = refl
spread true false true = refl
spread true false false = refl
spread false e s = refl

-- a number in range that has this core is a CPU of it
of_core : (m : Layout) (core c : ℕ) → AreCores m → InRange (present m) → IsPresent m core → (nat_lt c CPU_LIMIT && (core_of m c == core)) ≡ set.contains (cpus_of_core m core) c
of_core m core c are in_range there =
    same_tests _ _
    (λ has.
    let p = and_parts (nat_lt c CPU_LIMIT) (core_of m c == core) has in
    and_from _ _ (present_sibling m c are (ap (set.contains (present m)) (eqb-true _ _ p.1) ∙ there)) p.1)
    (λ has. let p = and_parts (set.contains (present m) c) (core_of m c == core) has in and_from _ _ (lt-ltb _ _ (in_range c p.0)) p.1)
    ∙ sym (contains-cpus_of_core m core c)

-- the CPUs of one core more are those of the others, and its own
pub more_cpus :
    (m : Layout) (cores more : Ids) (core : ℕ) → AreCores m → InRange (present m) → IsPresent m core
    → ((c : ℕ) → set.contains more c ≡ ((c == core) || set.contains cores c))
    → (c : ℕ) → set.contains (cpus_of_cores m more) c ≡ (set.contains (cpus_of_cores m cores) c || set.contains (cpus_of_core m core) c)
more_cpus m cores more core are in_range there is c =
    contains-cpus_of_cores m more c
    ∙ ap (λ b. nat_lt c CPU_LIMIT && b) (is (core_of m c))
    ∙ spread (nat_lt c CPU_LIMIT) (core_of m c == core) (set.contains cores (core_of m c))
    ∙ ap (λ b. b || (nat_lt c CPU_LIMIT && (core_of m c == core))) (sym (contains-cpus_of_cores m cores c))
    ∙ ap (λ b. set.contains (cpus_of_cores m cores) c || b) (of_core m core c are in_range there)

pub more_apart : (m : Layout) (cores : Ids) (core : ℕ) → set.contains cores core ≡ false → IsDisjoint (cpus_of_cores m cores) (cpus_of_core m core)
more_apart m cores core new c in_cores in_core =
    let p = and_parts _ _ (sym (contains-cpus_of_cores m cores c) ∙ in_cores) in
    let q = and_parts _ _ (sym (contains-cpus_of_core m core c) ∙ in_core) in
    true≢false (sym p.1 ∙ ap (set.contains cores) (eqb-true _ _ q.1) ∙ new)

one_more :
    (m : Layout) (cores more : Ids) (core : ℕ) → AreCores m → InRange (present m) → IsPresent m core → core_of m core ≡ core
    → set.contains cores core ≡ false → ((c : ℕ) → set.contains more c ≡ ((c == core) || set.contains cores c))
    → set.len (cpus_of_cores m more) ≡ set.len (cpus_of_cores m cores) + m.threads
one_more m cores more core are in_range there own new is =
    len-apart (cpus_of_cores m cores) (cpus_of_core m core) (cpus_of_cores m more)
    (cores_in_range m cores) (core_in_range m core in_range) (cores_in_range m more)
    (more_apart m cores core new) (more_cpus m cores more core are in_range there is)
    ∙ ap (λ n. set.len (cpus_of_cores m cores) + n) (ap (λ k. set.len (cpus_of_core m k)) (sym own) ∙ are.threads core there)

pub not_below_itself : (n : ℕ) (b : Bool) → (nat_lt n n && b) ≡ false
not_below_itself n b = grind (arith, nat_tests)

pub below_more : (q n m : ℕ) (b v : Bool) → m ≡ n + 1 → (q ≡ n → b ≡ v) → (nat_lt q m && b) ≡ (((q == n) && v) || (nat_lt q n && b))
below_more q n m b v next f = grind (arith, nat_tests)

pub and_none : (a b : Bool) → ((a && false) || b) ≡ b
and_none true b = refl
and_none false b = refl

plus_one : (k l t : ℕ) → l ≡ k + 1 → k * t + t ≡ l * t
plus_one k l t is = let e : l ≡ suc k = omega arith in rw e (omega (arith, suc-mul k t))

nothing : (n t : ℕ) → n ≡ 0 → 0 ≡ n * t
nothing n t is = rw is (omega arith)

no_cores : (m : Layout) (none : Ids) → set.len none ≡ 0 → set.len (cpus_of_cores m none) ≡ set.len none * m.threads
no_cores m none zero_ =
    let empty : none ≡ set.empty = set.empty_of_len none zero_ in
    let same : cpus_of_cores m none ≡ none =
    same_members (cpus_of_cores m none) none (λ c.
    contains-cpus_of_cores m none c
    ∙ ap (λ s. nat_lt c CPU_LIMIT && set.contains s (core_of m c)) empty
    ∙ ap (λ b. nat_lt c CPU_LIMIT && b) (contains-empty (core_of m c))
    ∙ and-false (nat_lt c CPU_LIMIT)
    ∙ sym (contains-empty c) ∙ ap (λ s. set.contains s c) (sym empty)) in
    ap set.len same ∙ zero_ ∙ nothing (set.len none) m.threads zero_

counted_more :
    (m : Layout) (old new : Ids) (n : ℕ) (v : Bool) → AreCores m → InRange (present m) → (v ≡ true → IsPresent m n × (core_of m n ≡ n))
    → set.contains old n ≡ false → ((c : ℕ) → set.contains new c ≡ (((c == n) && v) || set.contains old c)) → set.len new ≡ set.len old + cond v 1 0
    → set.len (cpus_of_cores m old) ≡ set.len old * m.threads → set.len (cpus_of_cores m new) ≡ set.len new * m.threads
counted_more m old new n true are in_range lowest apart each more before =
    let there = lowest refl in
    one_more m old new n are in_range there.0 there.1 apart (λ c. each c ∙ ap (λ b. b || set.contains old c) (and-true (c == n)))
    ∙ ap (λ k. k + m.threads) before
    ∙ plus_one (set.len old) (set.len new) m.threads more
counted_more m old new n false are in_range lowest apart each more before =
    let same : new ≡ old = same_members new old (λ c. each c ∙ and_none (c == n) (set.contains old c)) in
    rw same before

pub those_more : (p : ℕ → Bool) (n c : ℕ) → set.contains (those p (suc n)) c ≡ (((c == n) && p n) || set.contains (those p n) c)
those_more p n c =
    contains-those p (suc n) c
    ∙ below_more c n (suc n) (p c) (p n) (omega arith) (λ e. ap p e)
    ∙ ap (λ b. ((c == n) && p n) || b) (sym (contains-those p n c))

counted_below :
    (m : Layout) (cores : Ids) (n : ℕ) → AreCores m → InRange (present m) → AreLowest m cores
    → set.len (cpus_of_cores m (those (set.contains cores) n)) ≡ set.len (those (set.contains cores) n) * m.threads
counted_below m cores zero are in_range lowest = no_cores m (those (set.contains cores) 0) (len-those_none (set.contains cores))
counted_below m cores (suc n) are in_range lowest =
    counted_more m (those (set.contains cores) n) (those (set.contains cores) (suc n)) n (set.contains cores n) are in_range (lowest n)
    (contains-those (set.contains cores) n n ∙ not_below_itself n _)
    (those_more (set.contains cores) n) (len_more (set.contains cores) n) (counted_below m cores n are in_range lowest)

within_all : (m : Layout) (cores : Ids) → InRange (present m) → AreLowest m cores → InRange cores
within_all m cores in_range lowest c has = in_range c (lowest c has).0

pub cores_are_alike : CoresAreAlike
cores_are_alike m cores are in_range lowest =
    let all : those (set.contains cores) CPU_LIMIT ≡ cores = those-contains cores CPU_LIMIT (within_all m cores in_range lowest) in
    rw all at (counted_below m cores CPU_LIMIT are in_range lowest)

-- what is whole in a set of present CPUs has the CPUs of so many cores
abbrev pub WholeIsCounted : Type 0
WholeIsCounted =
    (m : Layout) (s : Ids) → AreCores m → InRange (present m) → set.is_subset s (present m) ≡ true
    → set.len (whole_in m s) ≡ set.len (cores_in m s) * m.threads

pub len-whole_in : WholeIsCounted
len-whole_in m s are in_range within =
    ap set.len (sym (cpus_of_cores-cores_in m s are (λ c has. in_range c (is_subset-contains s (present m) within c has))))
    ∙ cores_are_alike m (cores_in m s) are in_range (cores_in-lowest m s within)

-- ---- one CPU to a core

pub none_has : (s : Ids) (c : ℕ) → s ≡ set.empty → set.contains s c ≡ true → ⊥
none_has s c none has = true≢false (sym has ∙ ap (λ t. set.contains t c) none ∙ contains-empty c)

less_one : (s : Ids) (a : ℕ) → set.len s ≡ 1 → set.contains s a ≡ true → set.len (set.remove s a) ≡ 0
less_one s a one has = set.len-remove nat_cmp_total s a ∙ ap (λ b. cond b (set.len s - 1) (set.len s)) has ∙ ap (λ n. n - 1) one

one_member : (s : Ids) (a b : ℕ) → set.len s ≡ 1 → set.contains s a ≡ true → set.contains s b ≡ true → a ≡ b
one_member s a b one has_a has_b =
    elim (cases_eq b a) [
      | inl same ↦ sym same
      | inr other ↦
          absurd (none_has (set.remove s a) b (set.empty_of_len _ (less_one s a one has_a))
          (contains-remove s a b ∙ and_from _ _ (ap not (ne_eqb b a other)) has_b))
    ]

-- where a core has one CPU, each CPU is a core of its own
own_by : (m : Layout) (c : ℕ) (b : Bool) → AreCores m → m.threads ≡ 1 → set.contains (present m) c ≡ b → core_of m c ≡ c
own_by m c true are one there =
    one_member (cpus_of_core m (core_of m c)) (core_of m c) c (are.threads c there ∙ one)
    (contains-cpus_of_core m (core_of m c) (core_of m c) ∙ and_from _ _ (are.is_present c there) (eq-eqb _ _ (are.same c there)))
    (in_own_core m c there)
own_by m c false are one absent = are.absent c absent

pub own_core : (m : Layout) (c : ℕ) → AreCores m → m.threads ≡ 1 → core_of m c ≡ c
own_core m c are one = own_by m c (set.contains (present m) c) are one refl

-- so each set is whole, its CPUs are its cores, and they are the CPUs of these
abbrev pub AllAreWhole : Type 0
AllAreWhole = (m : Layout) (s : Ids) → AreCores m → m.threads ≡ 1 → whole_in m s ≡ s

abbrev pub CpusAreCores : Type 0
CpusAreCores = (m : Layout) (s : Ids) → AreCores m → m.threads ≡ 1 → cores_in m s ≡ s

abbrev pub CoresAreCpus : Type 0
CoresAreCpus = (m : Layout) (s : Ids) → AreCores m → m.threads ≡ 1 → InRange s → cpus_of_cores m s ≡ s

pub all_are_whole : AllAreWhole
all_are_whole m s are one =
    whole_in-whole m s are (λ a b there_a there_b same. ap (set.contains s) (sym (own_core m a are one) ∙ same ∙ own_core m b are one))

pub single_cores_in : CpusAreCores
single_cores_in m s are one =
    same_members (cores_in m s) s (λ c.
    contains-cores_in m s c
    ∙ same_tests _ _ (λ has. (and_parts (set.contains s c) _ has).0)
    (λ has.
    let own : core_of m c ≡ c = own_core m c are one in
    and_from _ _ has
    (and_from _ _ (eq-eqb _ _ own)
    (contains-is_subset (cpus_of_core m c) s (λ q in_core.
    let r = and_parts _ _ (sym (contains-cpus_of_core m c q) ∙ in_core) in
    ap (set.contains s) (sym (own_core m q are one) ∙ eqb-true _ _ r.1) ∙ has)))))

pub single_cpus_of_cores : CoresAreCpus
single_cpus_of_cores m s are one in_range =
    same_members (cpus_of_cores m s) s (λ c.
    contains-cpus_of_cores m s c
    ∙ same_tests _ _
    (λ has. ap (set.contains s) (sym (own_core m c are one)) ∙ (and_parts (nat_lt c CPU_LIMIT) _ has).1)
    (λ has. and_from _ _ (lt-ltb _ _ (in_range c has)) (ap (set.contains s) (own_core m c are one) ∙ has)))
