-- Sets of cores and of their CPUs, made by taking out what is lacking.
use Rattle.std.proofs.Common.{◌≡◌, ℕ, ◌+◌, ◌<◌, ◌≤◌, inl, inr, Bool, true, false, not, ◌&&◌, nat_lt, List, Option, Some, None, refl, sym, ap, ◌∙◌, arith}
use Rattle.std.specs.Prelude.{◌||◌, ◌==◌, IfSome}
use Rattle.std.proofs.lemmas.Bool.{cases_lt, cases_eq, true≢false, ne_eqb, and_from, and_parts, and_left, and_right, or_left, lt-ltb, eq-eqb, eqb-true, not-true, true_from_ne_false}
use Rattle.std.proofs.lemmas.Bool.Decides.{nat_tests}
use Rattle.std.specs.FinSet as set
use Rattle.faults.specs.TestLaws.{same_tests}
use Rattle.cpu_set.specs.Ids.{Ids}
use Rattle.cpu_set.specs.Members.{IsCpu, InRange}
use Rattle.cpu_set.specs.PointwiseLaws.{same_members, contains-empty, contains-remove, contains-union, contains-intersection, contains-difference, is_subset-contains, contains-is_subset}
use Rattle.cpu_set.specs.declared.TheConstants.{CPU_LIMIT}
use Rattle.machine.specs.CoreCountLaws.{below_more}
use Rattle.machine.specs.Cores.{core_of, cpus_of_core, is_core_in, cores_in, cpus_of_cores, AreCores}
use Rattle.machine.specs.Index.{IsFirstOf, AreFirsts}
use Rattle.machine.specs.Layout.{Layout}
use Rattle.machine.specs.Present.{present, IsPresent}
use Rattle.machine.specs.WholeLaws.{contains-cpus_of_core, contains-cores_in, contains-cpus_of_cores, core_of_core}
use Rattle.machine.proofs.Marking.{IsPassed, IsNext, next_is_member, nothing_between}
use Rattle.machine.proofs.Siblings.{at}

-- ---- the lowest CPUs of all cores

-- those below n
abbrev pub AreFirstsBelow : List ℕ → ℕ → Ids → Type 0
AreFirstsBelow lowest n firsts = (c : ℕ) → set.contains firsts c ≡ (nat_lt c n && (at lowest c == c))

none_below : (c n : ℕ) (b : Bool) → n ≡ 0 → false ≡ (nat_lt c n && b)
none_below c n b is = grind (arith, nat_tests)

pub AreFirstsBelow-none : (lowest : List ℕ) (n : ℕ) (firsts : Ids) → n ≡ 0 → firsts ≡ set.empty → AreFirstsBelow lowest n firsts
AreFirstsBelow-none lowest n firsts zero_ none c = ap (λ t. set.contains t c) none ∙ contains-empty c ∙ none_below c n (at lowest c == c) zero_

pub AreFirstsBelow-more :
    (lowest : List ℕ) (n : ℕ) (firsts more : Ids) → AreFirstsBelow lowest n firsts
    → ((c : ℕ) → set.contains more c ≡ (((c == n) && (at lowest n == n)) || set.contains firsts c)) → AreFirstsBelow lowest (n + 1) more
AreFirstsBelow-more lowest n firsts more are each c =
    each c ∙ ap (λ b. ((c == n) && (at lowest n == n)) || b) (are c)
    ∙ sym (below_more c n (n + 1) (at lowest c == c) (at lowest n == n) refl (λ e. ap (λ k. at lowest k == k) e))

-- ---- one number taken out

pub taken : (a b : ℕ) (v : Bool) → a ≡ b → (not (a == b) && v) ≡ false
taken a b v same = ap (λ e. not e && v) (eq-eqb a b same)

pub spared : (a b : ℕ) (v : Bool) → (a ≡ b → ⊥) → (not (a == b) && v) ≡ v
spared a b v differs = ap (λ e. not e && v) (ne_eqb a b differs)

-- ---- the cores of which a set has all CPUs, by the present CPUs that it lacks

-- the cores of those before the next one are out
pub record AreLeft (m : Layout) (s lacking cores : Ids) (next : Option ℕ) : Type 0 where
  pub within : (c : ℕ) → set.contains cores c ≡ true → (set.contains s c ≡ true) × (core_of m c ≡ c)
  pub out : (q : ℕ) → IsPassed next q → set.contains lacking q ≡ true → set.contains cores (core_of m q) ≡ false
  pub kept : (c : ℕ) → set.contains s c ≡ true → is_core_in m s c ≡ true → set.contains cores c ≡ true
  pub member : IfSome next (λ n. set.contains lacking n ≡ true)
  pub in_range : IfSome next (λ n. IsCpu n)

pub AreLeft-none :
    (m : Layout) (s lacking firsts cores : Ids) (next : Option ℕ) → AreFirsts m.lowest firsts → InRange s → cores ≡ set.intersection s firsts
    → IsNext lacking 0 next → AreLeft m s lacking cores next
AreLeft-none m s lacking firsts cores next first in_range are is =
    let each : (c : ℕ) → set.contains cores c ≡ (set.contains s c && set.contains firsts c) = λ c. ap (λ t. set.contains t c) are ∙ contains-intersection s firsts c in
    record {
      within = λ c has.
          let p = and_parts _ _ (sym (each c) ∙ has) in
          let q = and_parts _ _ (sym (first c) ∙ p.1) in
          (p.0, eqb-true _ _ q.1);
      out = λ q before has. absurd (true≢false (sym has ∙ nothing_between lacking 0 q next is (omega arith) before));
      kept = λ c has whole. each c ∙ and_from _ _ has (first c ∙ and_from _ _ (lt-ltb _ _ (in_range c has)) (and_parts _ _ whole).0);
      member = next_is_member lacking 0 next is;
      in_range = is.1;
    }

pub AreLeft-more :
    (m : Layout) (s lacking cores less : Ids) (cpu : ℕ) (next : Option ℕ) → lacking ≡ set.difference (present m) s → AreLeft m s lacking cores (Some cpu)
    → less ≡ set.remove cores (core_of m cpu) → IsNext lacking (cpu + 1) next → AreLeft m s lacking less next
AreLeft-more m s lacking cores less cpu next lacks are is following =
    let each : (c : ℕ) → set.contains less c ≡ (not (c == core_of m cpu) && set.contains cores c) =
    λ c. ap (λ t. set.contains t c) is ∙ contains-remove cores (core_of m cpu) c in
    let here : (IsPresent m cpu) × (not (set.contains s cpu) ≡ true) = and_parts _ _ (sym (ap (λ t. set.contains t cpu) lacks ∙ contains-difference (present m) s cpu) ∙ are.member) in
    record {
      within = λ c has. are.within c (and_parts (not (c == core_of m cpu)) _ (sym (each c) ∙ has)).1;
      out = λ q before has. each (core_of m q) ∙ elim (cases_eq cpu q) [
        | inl same ↦ taken (core_of m q) (core_of m cpu) _ (ap (core_of m) (sym same))
        | inr differs ↦ and_right _ _ (elim (cases_lt q cpu) [
          | inl lt ↦ are.out q lt has
          | inr not_less ↦ absurd (true≢false (sym has ∙ nothing_between lacking (cpu + 1) q next following (omega arith) before))
        ])
      ];
      kept = λ c has whole.
          each c
          ∙ spared c (core_of m cpu) _ (λ e.
          true≢false (sym (is_subset-contains (cpus_of_core m c) s (and_parts _ _ whole).1 cpu
          (contains-cpus_of_core m c cpu ∙ and_from _ _ here.0 (eq-eqb _ _ (sym e)))) ∙ not-true _ here.1))
          ∙ are.kept c has whole;
      member = next_is_member lacking (cpu + 1) next following;
      in_range = following.1;
    }

pub AreLeft-all :
    (m : Layout) (s lacking cores : Ids) (next : Option ℕ) → lacking ≡ set.difference (present m) s → AreLeft m s lacking cores next
    → ((n : ℕ) → next ≡ Some n → ⊥) → cores ≡ cores_in m s
AreLeft-all m s lacking cores None lacks are none =
    same_members cores (cores_in m s) (λ c.
    same_tests _ _
    (λ has.
    let p = are.within c has in
    contains-cores_in m s c
    ∙ and_from _ _ p.0
    (and_from _ _ (eq-eqb _ _ p.1)
    (contains-is_subset (cpus_of_core m c) s (λ q in_core.
    let r = and_parts _ _ (sym (contains-cpus_of_core m c q) ∙ in_core) in
    true_from_ne_false _ (λ gone.
    true≢false (sym has ∙ ap (set.contains cores) (sym (eqb-true _ _ r.1))
    ∙ are.out q tt (ap (λ t. set.contains t q) lacks ∙ contains-difference (present m) s q ∙ and_from _ _ r.0 (ap not gone)))))))
    )
    (λ has. let p = and_parts _ _ (sym (contains-cores_in m s c) ∙ has) in are.kept c p.0 p.1))
AreLeft-all m s lacking cores (Some n) lacks are none = absurd (none n refl)

-- ---- the CPUs of a core, taken out of others

pub record IsTaken (m : Layout) (core : ℕ) (old cpus : Ids) (next : ℕ) : Type 0 where
  pub is : next < CPU_LIMIT → core_of m next ≡ core
  pub gone : (q : ℕ) → core ≤ q → q < next → q < CPU_LIMIT → core_of m q ≡ core → set.contains cpus q ≡ false
  pub others : (q : ℕ) → (core_of m q ≡ core → ⊥) → set.contains cpus q ≡ set.contains old q

pub IsTaken-first : (m : Layout) (core : ℕ) (old : Ids) → core_of m core ≡ core → IsTaken m core old old core
IsTaken-first m core old own = record {
  is = λ _. own;
  gone = λ q from lt _ _. absurd (omega (arith, from, lt));
  others = λ q _. refl;
}

pub IsTaken-more :
    (m : Layout) (core : ℕ) (old cpus less : Ids) (next more : ℕ) → IsTaken m core old cpus next → next < CPU_LIMIT → less ≡ set.remove cpus next
    → IsFirstOf m.lowest (core_of m next) (next + 1) more → IsTaken m core old less more
IsTaken-more m core old cpus less next more are lt is first =
    let each : (q : ℕ) → set.contains less q ≡ (not (q == next) && set.contains cpus q) = λ q. ap (λ t. set.contains t q) is ∙ contains-remove cpus next q in
    record {
      is = λ below. (first.is below).1 ∙ are.is lt;
      gone = λ q from before is_cpu same. each q ∙ elim (cases_eq q next) [
        | inl here ↦ taken q next _ here
        | inr differs ↦ and_right _ _ (elim (cases_lt q next) [
          | inl less ↦ are.gone q from less is_cpu same
          | inr past ↦ let no_less : more ≤ q = first.least q (omega arith) is_cpu (same ∙ sym (are.is lt)) in absurd (omega arith)
        ])
      ];
      others = λ q other. each q ∙ spared q next _ (λ e. other (ap (core_of m) e ∙ are.is lt)) ∙ are.others q other;
    }

pub IsTaken-all :
    (m : Layout) (core : ℕ) (old cpus : Ids) (next : ℕ) → IsTaken m core old cpus next → (next < CPU_LIMIT → ⊥)
    → (q : ℕ) → core ≤ q → q < CPU_LIMIT → core_of m q ≡ core → set.contains cpus q ≡ false
IsTaken-all m core old cpus next are end q from is_cpu same =
    are.gone q from (elim (cases_lt q next) [
      | inl lt ↦ lt
      | inr past ↦ absurd (end (omega arith))
    ]) is_cpu same

-- ---- the CPUs of cores, by the cores that are lacking

abbrev pub AreLackingOf : Layout → Ids → Ids → Type 0
AreLackingOf m cores lacking = (c : ℕ) → set.contains lacking c ≡ ((set.contains (present m) c && (core_of m c == c)) && not (set.contains cores c))

-- those of all cores, as the machine has them
pub lacking_cores :
    (m : Layout) (all firsts cores lacking : Ids) → AreFirsts m.lowest firsts → InRange all → all ≡ present m
    → lacking ≡ set.difference (set.intersection all firsts) cores → AreLackingOf m cores lacking
lacking_cores m all firsts cores lacking first in_range is lacks c =
    ap (λ t. set.contains t c) lacks ∙ contains-difference (set.intersection all firsts) cores c
    ∙ ap (λ b. b && not (set.contains cores c)) (contains-intersection all firsts c ∙ by (set.contains all c) refl ∙ ap (λ t. set.contains t c && (core_of m c == c)) is)
  where
    by : (b : Bool) → set.contains all c ≡ b → (set.contains all c && set.contains firsts c) ≡ (set.contains all c && (core_of m c == c))
    by true there = ap (λ b. set.contains all c && b) (first c ∙ ap (λ b. b && (core_of m c == c)) (lt-ltb _ _ (in_range c there)))
    by false absent = and_left _ _ absent ∙ sym (and_left _ _ absent)

-- of those before the next one the CPUs are out
pub record AreEmptied (m : Layout) (lacking all cpus : Ids) (next : Option ℕ) : Type 0 where
  pub gone : (q : ℕ) → q < CPU_LIMIT → IsPassed next (core_of m q) → set.contains lacking (core_of m q) ≡ true → set.contains cpus q ≡ false
  pub kept : (q : ℕ) → set.contains lacking (core_of m q) ≡ false → set.contains cpus q ≡ set.contains all q
  pub member : IfSome next (λ n. set.contains lacking n ≡ true)
  pub in_range : IfSome next (λ n. IsCpu n)

pub AreEmptied-none : (m : Layout) (lacking all : Ids) (next : Option ℕ) → IsNext lacking 0 next → AreEmptied m lacking all all next
AreEmptied-none m lacking all next is = record {
  gone = λ q _ before has. absurd (true≢false (sym has ∙ nothing_between lacking 0 (core_of m q) next is (omega arith) before));
  kept = λ q _. refl;
  member = next_is_member lacking 0 next is;
  in_range = is.1;
}

pub AreEmptied-more :
    (m : Layout) (lacking all cpus less : Ids) (core : ℕ) (next : Option ℕ) → AreCores m → AreEmptied m lacking all cpus (Some core)
    → ((q : ℕ) → core ≤ q → q < CPU_LIMIT → core_of m q ≡ core → set.contains less q ≡ false)
    → ((q : ℕ) → (core_of m q ≡ core → ⊥) → set.contains less q ≡ set.contains cpus q) → IsNext lacking (core + 1) next → AreEmptied m lacking all less next
AreEmptied-more m lacking all cpus less core next cores are gone others following = record {
  gone = λ q is_cpu before has. elim (cases_eq (core_of m q) core) [
    | inl same ↦ let low : core_of m q ≤ q = cores.lowest q in gone q (omega (arith, low, same)) is_cpu same
    | inr differs ↦ others q differs ∙ elim (cases_lt (core_of m q) core) [
      | inl lt ↦ are.gone q is_cpu lt has
      | inr past ↦ absurd (true≢false (sym has ∙ nothing_between lacking (core + 1) (core_of m q) next following (omega arith) before))
    ]
  ];
  kept = λ q lacks. others q (λ e. true≢false (sym are.member ∙ ap (set.contains lacking) (sym e) ∙ lacks)) ∙ are.kept q lacks;
  member = next_is_member lacking (core + 1) next following;
  in_range = following.1;
}

-- the CPUs of the cores and of the lacking ones are the present ones, with the numbers of no core
of_others :
    (m : Layout) (cores lacking all : Ids) (q : ℕ) → AreCores m → InRange (present m) → InRange cores → AreLackingOf m cores lacking
    → all ≡ set.union (present m) cores → set.contains lacking (core_of m q) ≡ false → set.contains all q ≡ (nat_lt q CPU_LIMIT && set.contains cores (core_of m q))
of_others m cores lacking all q are in_range within lacks is none =
    ap (λ t. set.contains t q) is ∙ contains-union (present m) cores q ∙ by (set.contains (present m) q) refl
  where
    by : (b : Bool) → set.contains (present m) q ≡ b → (set.contains (present m) q || set.contains cores q) ≡ (nat_lt q CPU_LIMIT && set.contains cores (core_of m q))
    by true there =
        or_left _ _ there
        ∙ sym (and_from _ _ (lt-ltb _ _ (in_range q there)) (true_from_ne_false _ (λ out.
        true≢false (sym (lacks (core_of m q) ∙ and_from _ _ (and_from _ _ (are.is_present q there) (eq-eqb _ _ (core_of_core m q are))) (ap not out)) ∙ none))))
    by false absent =
        let own : core_of m q ≡ q = are.absent q absent in
        ap (λ b. b || set.contains cores q) absent
        ∙ same_tests _ _
        (λ has. and_from _ _ (lt-ltb _ _ (within q has)) (ap (set.contains cores) own ∙ has))
        (λ has. ap (set.contains cores) (sym own) ∙ (and_parts (nat_lt q CPU_LIMIT) _ has).1)

pub AreEmptied-all :
    (m : Layout) (cores lacking all cpus : Ids) (next : Option ℕ) → AreCores m → InRange (present m) → InRange cores → InRange cpus → AreLackingOf m cores lacking
    → all ≡ set.union (present m) cores → AreEmptied m lacking all cpus next → ((n : ℕ) → next ≡ Some n → ⊥) → cpus ≡ cpus_of_cores m cores
AreEmptied-all m cores lacking all cpus None are in_range within short lacks is emptied none =
    same_members cpus (cpus_of_cores m cores) (λ q. by q (set.contains lacking (core_of m q)) refl ∙ sym (contains-cpus_of_cores m cores q))
  where
    by : (q : ℕ) (b : Bool) → set.contains lacking (core_of m q) ≡ b → set.contains cpus q ≡ (nat_lt q CPU_LIMIT && set.contains cores (core_of m q))
    by q true has =
        let out : set.contains cores (core_of m q) ≡ false = not-true _ (and_parts _ _ (sym (lacks (core_of m q)) ∙ has)).1 in
        same_tests _ _
        (λ there. absurd (true≢false (sym there ∙ emptied.gone q (short q there) tt has)))
        (λ there. absurd (true≢false (sym (and_parts (nat_lt q CPU_LIMIT) _ there).1 ∙ out)))
    by q false lacking_not = emptied.kept q lacking_not ∙ of_others m cores lacking all q are in_range within lacks is lacking_not
AreEmptied-all m cores lacking all cpus (Some n) are in_range within short lacks is emptied none = absurd (none n refl)
