-- Sets of cores and of their CPUs, made core by core.
use Rattle.std.proofs.Common.{◌≡◌, ℕ, ◌+◌, ◌<◌, ◌≤◌, inl, inr, Bool, true, false, ◌&&◌, nat_lt, List, Option, Some, None, refl, sym, ap, ◌∙◌, arith}
use Rattle.std.specs.Prelude.{◌||◌, ◌==◌, IfSome}
use Rattle.std.proofs.lemmas.Bool.{cases_lt, cases_eq, true≢false, ne_eqb, false_from_ne_true, and_from, and_parts, eq-eqb, eqb-true}
use Rattle.std.proofs.lemmas.Bool.Decides.{nat_tests}
use Rattle.std.specs.FinSet as set
use Rattle.cpu_set.specs.Ids.{Ids}
use Rattle.cpu_set.specs.Members.{IsCpu, InRange}
use Rattle.cpu_set.specs.PointwiseLaws.{same_members, contains-empty, contains-insert, is_subset-contains, contains-is_subset}
use Rattle.cpu_set.specs.declared.TheConstants.{CPU_LIMIT}
use Rattle.machine.specs.Cores.{core_of, cpus_of_core, is_core_in, cores_in, cpus_of_cores, AreCores}
use Rattle.machine.specs.Index.{IsFirstOf}
use Rattle.machine.specs.Layout.{Layout}
use Rattle.machine.specs.Present.{present}
use Rattle.machine.specs.WholeLaws.{contains-cpus_of_core, contains-cores_in, contains-cpus_of_cores, core_of_core}
use Rattle.machine.proofs.Marking.{IsPassed, IsAhead, IsNext, next_is_member, nothing_between, is_ahead}

-- ---- those members of a set that pass a test, picked in rising order

pub record IsPicked (s : Ids) (p : ℕ → Bool) (picked : Ids) (next : Option ℕ) : Type 0 where
  pub passed : (c : ℕ) → IsPassed next c → set.contains picked c ≡ (set.contains s c && p c)
  pub ahead : (c : ℕ) → IsAhead next c → set.contains picked c ≡ false
  pub member : IfSome next (λ n. set.contains s n ≡ true)
  pub in_range : IfSome next (λ n. IsCpu n)

pub IsPicked-none : (s : Ids) (p : ℕ → Bool) (picked : Ids) (next : Option ℕ) → picked ≡ set.empty → IsNext s 0 next → IsPicked s p picked next
IsPicked-none s p picked next none is = record {
  passed = λ c before. ap (λ t. set.contains t c) none ∙ contains-empty c ∙ ap (λ b. b && p c) (sym (nothing_between s 0 c next is (omega arith) before));
  ahead = λ c _. ap (λ t. set.contains t c) none ∙ contains-empty c;
  member = next_is_member s 0 next is;
  in_range = is.1;
}

other_number : (c k : ℕ) (b v : Bool) → (c ≡ k → ⊥) → (((c == k) && v) || b) ≡ b
other_number c k b v differs = ap (λ e. (e && v) || b) (ne_eqb c k differs)

same_one : (c k : ℕ) (v : Bool) → c ≡ k → (((c == k) && v) || false) ≡ v
same_one c k true is = grind (arith, nat_tests)
same_one c k false is = grind (arith, nat_tests)

pub IsPicked-more :
    (s : Ids) (p : ℕ → Bool) (picked more : Ids) (cpu : ℕ) (next : Option ℕ) → IsPicked s p picked (Some cpu)
    → ((c : ℕ) → set.contains more c ≡ (((c == cpu) && p cpu) || set.contains picked c)) → IsNext s (cpu + 1) next → IsPicked s p more next
IsPicked-more s p picked more cpu next are is following = record {
  passed = λ c before. elim (cases_lt c cpu) [
    | inl less ↦ is c ∙ other_number c cpu _ (p cpu) (λ e. omega arith) ∙ are.passed c less
    | inr not_less ↦ elim (cases_eq cpu c) [
      | inl same ↦
          is c ∙ ap (λ b. ((c == cpu) && p cpu) || b) (are.ahead c (omega arith)) ∙ same_one c cpu (p cpu) (sym same)
          ∙ ap p same ∙ ap (λ b. b && p c) (sym (ap (set.contains s) (sym same) ∙ are.member))
      | inr differs ↦
          let above : cpu + 1 ≤ c = omega arith in
          is c ∙ other_number c cpu _ (p cpu) (λ e. differs (sym e)) ∙ are.ahead c (omega arith)
          ∙ ap (λ b. b && p c) (sym (nothing_between s (cpu + 1) c next following above before))
    ]
  ];
  ahead = λ c ahead.
      let above : cpu + 1 ≤ c = is_ahead s (cpu + 1) c next following ahead in
      is c ∙ other_number c cpu _ (p cpu) (λ e. omega arith) ∙ are.ahead c (omega arith);
  member = next_is_member s (cpu + 1) next following;
  in_range = following.1;
}

-- one that passes is added, and one that does not is left out
pub added_one : (picked more : Ids) (cpu : ℕ) (v : Bool) → v ≡ true → more ≡ set.insert picked cpu → (c : ℕ) → set.contains more c ≡ (((c == cpu) && v) || set.contains picked c)
added_one picked more cpu v is added c =
    ap (λ t. set.contains t c) added ∙ contains-insert picked cpu c ∙ ap (λ b. b || set.contains picked c) (with_true (c == cpu) v is)
  where
    with_true : (a v : Bool) → v ≡ true → a ≡ (a && v)
    with_true true v is = sym is
    with_true false v is = refl

pub left_out : (picked more : Ids) (cpu : ℕ) (v : Bool) → v ≡ false → more ≡ picked → (c : ℕ) → set.contains more c ≡ (((c == cpu) && v) || set.contains picked c)
left_out picked more cpu v is same c = ap (λ t. set.contains t c) same ∙ ap (λ b. b || set.contains picked c) (with_false (c == cpu) v is)
  where
    with_false : (a v : Bool) → v ≡ false → false ≡ (a && v)
    with_false true v is = sym is
    with_false false v is = refl

pub cores_in-picked : (m : Layout) (s picked : Ids) (next : Option ℕ) → IsPicked s (is_core_in m s) picked next → ((n : ℕ) → next ≡ Some n → ⊥) → picked ≡ cores_in m s
cores_in-picked m s picked None are none = same_members picked (cores_in m s) (λ c. are.passed c tt ∙ sym (contains-cores_in m s c))
cores_in-picked m s picked (Some n) are none = absurd (none n refl)

-- ---- whether a set has all CPUs of a core

-- those below the next one are in the set
pub record HasBelow (m : Layout) (core : ℕ) (cpus : Ids) (next : ℕ) : Type 0 where
  pub above : core < next
  pub is : next < CPU_LIMIT → core_of m next ≡ core
  pub had : (q : ℕ) → q < next → q < CPU_LIMIT → core_of m q ≡ core → set.contains cpus q ≡ true

pub HasBelow-first :
    (m : Layout) (core : ℕ) (cpus : Ids) (next : ℕ) → AreCores m → core < CPU_LIMIT → set.contains cpus core ≡ true → core_of m core ≡ core
    → IsFirstOf m.lowest (core_of m core) (core + 1) next → HasBelow m core cpus next
HasBelow-first m core cpus next are is_cpu has own first = record {
  above = elim (cases_lt next CPU_LIMIT) [
    | inl lt ↦ let up : core + 1 ≤ next = (first.is lt).0 in omega arith
    | inr past ↦ omega arith
  ];
  is = λ lt. (first.is lt).1 ∙ own;
  had = λ q before lt same.
      let low : core_of m q ≤ q = are.lowest q in
      elim (cases_eq core q) [
        | inl here ↦ ap (set.contains cpus) (sym here) ∙ has
        | inr differs ↦
            let up : core + 1 ≤ q = omega (arith, low, same) in
            let no_less : next ≤ q = first.least q up lt (same ∙ sym own) in
            absurd (omega arith)
      ];
}

pub HasBelow-more :
    (m : Layout) (core : ℕ) (cpus : Ids) (next more : ℕ) → HasBelow m core cpus next → next < CPU_LIMIT → set.contains cpus next ≡ true
    → IsFirstOf m.lowest (core_of m next) (next + 1) more → HasBelow m core cpus more
HasBelow-more m core cpus next more below lt has first =
    let above : core < next = below.above in
    record {
      above = elim (cases_lt more CPU_LIMIT) [
        | inl less ↦ let up : next + 1 ≤ more = (first.is less).0 in omega arith
        | inr past ↦ omega arith
      ];
      is = λ less. (first.is less).1 ∙ below.is lt;
      had = λ q before is_cpu same. elim (cases_lt q next) [
        | inl less ↦ below.had q less is_cpu same
        | inr not_less ↦ elim (cases_eq next q) [
          | inl here ↦ ap (set.contains cpus) (sym here) ∙ has
          | inr differs ↦
              let no_less : more ≤ q = first.least q (omega arith) is_cpu (same ∙ sym (below.is lt)) in
              absurd (omega arith)
        ]
      ];
    }

-- the walk goes on
pub rises : (lowest : List ℕ) (core cpu next : ℕ) → cpu < CPU_LIMIT → IsFirstOf lowest core (cpu + 1) next → cpu < next
rises lowest core cpu next is_cpu first =
    elim (cases_lt next CPU_LIMIT) [
      | inl lt ↦ let up : cpu + 1 ≤ next = (first.is lt).0 in omega arith
      | inr past ↦ omega arith
    ]

pub has_all :
    (m : Layout) (core : ℕ) (cpus : Ids) (next : ℕ) → InRange (present m) → core_of m core ≡ core → HasBelow m core cpus next → (next < CPU_LIMIT → ⊥) → is_core_in m cpus core ≡ true
has_all m core cpus next in_range own below end =
    and_from _ _ (eq-eqb _ _ own)
    (contains-is_subset (cpus_of_core m core) cpus (λ q in_core.
    let p = and_parts _ _ (sym (contains-cpus_of_core m core q) ∙ in_core) in
    let is_cpu : q < CPU_LIMIT = in_range q p.0 in
    below.had q (elim (cases_lt q next) [
      | inl lt ↦ lt
      | inr past ↦ absurd (end (omega arith))
    ]) is_cpu (eqb-true _ _ p.1)))

pub lacks_one :
    (m : Layout) (core : ℕ) (cpus : Ids) (next : ℕ) → AreCores m → HasBelow m core cpus next → next < CPU_LIMIT → set.contains cpus next ≡ false → is_core_in m cpus core ≡ false
lacks_one m core cpus next are below lt lacking =
    false_from_ne_true _ (λ has.
    let p = and_parts _ _ has in
    true≢false (sym (is_subset-contains (cpus_of_core m core) cpus p.1 next
    (contains-cpus_of_core m core next ∙ and_from _ _ (is_present (set.contains (present m) next) refl) (eq-eqb _ _ (below.is lt)))) ∙ lacking))
  where
    is_present : (b : Bool) → set.contains (present m) next ≡ b → set.contains (present m) next ≡ true
    is_present true there = there
    is_present false absent =
        let above : core < next = below.above in
        let itself : core_of m next ≡ next = are.absent next absent in
        absurd (omega (arith, itself, below.is lt))

pub not_lowest : (m : Layout) (core : ℕ) (cpus : Ids) → (core_of m core ≡ core → ⊥) → is_core_in m cpus core ≡ false
not_lowest m core cpus other = ap (λ b. b && set.is_subset (cpus_of_core m core) cpus) (ne_eqb _ _ other)

-- ---- the CPUs of a core, added to others

pub record IsAdded (m : Layout) (core : ℕ) (old cpus : Ids) (next : ℕ) : Type 0 where
  pub is : next < CPU_LIMIT → core_of m next ≡ core
  pub below : (q : ℕ) → q < next → set.contains cpus q ≡ (set.contains old q || (nat_lt q CPU_LIMIT && (core_of m q == core)))
  pub above : (q : ℕ) → next ≤ q → set.contains cpus q ≡ set.contains old q

or_none : (a b : Bool) (core other : ℕ) → (other ≡ core → ⊥) → a ≡ (a || (b && (other == core)))
or_none a b core other differs = by a b ∙ ap (λ e. a || (b && e)) (sym (ne_eqb other core differs))
  where
    by : (a b : Bool) → a ≡ (a || (b && false))
    by true b = refl
    by false true = refl
    by false false = refl

or_past : (a e : Bool) (q : ℕ) → (q < CPU_LIMIT → ⊥) → a ≡ (a || (nat_lt q CPU_LIMIT && e))
or_past a e q past = by a (nat_lt q CPU_LIMIT) (tested q CPU_LIMIT past)
  where
    tested : (q n : ℕ) → (q < n → ⊥) → nat_lt q n ≡ false
    tested q n past = grind (arith, nat_tests)

    by : (a b : Bool) → b ≡ false → a ≡ (a || (b && e))
    by true b none = refl
    by false b none = ap (λ c. c && e) (sym none)

or_here : (a : Bool) (q n core other : ℕ) → q < n → other ≡ core → true ≡ (a || (nat_lt q n && (other == core)))
or_here true q n core other lt is = refl
or_here false q n core other lt is = grind (arith, nat_tests)

pub IsAdded-first : (m : Layout) (core : ℕ) (old : Ids) → AreCores m → core_of m core ≡ core → IsAdded m core old old core
IsAdded-first m core old are own = record {
  is = λ _. own;
  below = λ q lt. let low : core_of m q ≤ q = are.lowest q in or_none _ (nat_lt q CPU_LIMIT) core (core_of m q) (λ e. omega (arith, low, e));
  above = λ q _. refl;
}

pub IsAdded-more :
    (m : Layout) (core : ℕ) (old cpus added : Ids) (next more : ℕ) → IsAdded m core old cpus next → next < CPU_LIMIT → added ≡ set.insert cpus next
    → IsFirstOf m.lowest (core_of m next) (next + 1) more → IsAdded m core old added more
IsAdded-more m core old cpus added next more are lt is first =
    let up : next < more = rises m.lowest (core_of m next) next more lt first in
    let each : (q : ℕ) → set.contains added q ≡ ((q == next) || set.contains cpus q) = λ q. ap (λ t. set.contains t q) is ∙ contains-insert cpus next q in
    let other : (q : ℕ) → (q ≡ next → ⊥) → set.contains added q ≡ set.contains cpus q = λ q differs. each q ∙ ap (λ b. b || set.contains cpus q) (ne_eqb q next differs) in
    record {
      is = λ less. (first.is less).1 ∙ are.is lt;
      below = λ q before. elim (cases_lt q next) [
        | inl less ↦ other q (λ e. omega arith) ∙ are.below q less
        | inr not_less ↦ elim (cases_eq next q) [
          | inl same ↦
              each q ∙ ap (λ b. b || set.contains cpus q) (eq-eqb _ _ (sym same))
              ∙ or_here (set.contains old q) q CPU_LIMIT core (core_of m q) (omega arith) (ap (core_of m) (sym same) ∙ are.is lt)
          | inr differs ↦
              other q (λ e. differs (sym e)) ∙ are.above q (omega arith)
              ∙ elim (cases_lt q CPU_LIMIT) [
                | inl is_cpu ↦ or_none _ (nat_lt q CPU_LIMIT) core (core_of m q) (λ e.
                    let no_less : more ≤ q = first.least q (omega arith) is_cpu (e ∙ sym (are.is lt)) in omega arith)
                | inr past ↦ or_past _ (core_of m q == core) q (λ e. omega arith)
              ]
        ]
      ];
      above = λ q le. other q (λ e. omega arith) ∙ are.above q (omega arith);
    }

pub IsAdded-all :
    (m : Layout) (core : ℕ) (old cpus : Ids) (next : ℕ) → IsAdded m core old cpus next → (next < CPU_LIMIT → ⊥)
    → (q : ℕ) → set.contains cpus q ≡ (set.contains old q || (nat_lt q CPU_LIMIT && (core_of m q == core)))
IsAdded-all m core old cpus next are end q =
    elim (cases_lt q next) [
      | inl lt ↦ are.below q lt
      | inr past ↦ are.above q (omega arith) ∙ or_past _ (core_of m q == core) q (λ e. end (omega arith))
    ]

-- of a number that is no core's lowest there are none
pub none_added :
    (m : Layout) (core : ℕ) (old : Ids) → AreCores m → (core_of m core ≡ core → ⊥)
    → (q : ℕ) → set.contains old q ≡ (set.contains old q || (nat_lt q CPU_LIMIT && (core_of m q == core)))
none_added m core old are other q = or_none _ (nat_lt q CPU_LIMIT) core (core_of m q) (λ e. other (ap (core_of m) (sym e) ∙ core_of_core m q are ∙ e))

-- ---- the CPUs of cores

pub record AreFilled (m : Layout) (cores cpus : Ids) (next : Option ℕ) : Type 0 where
  pub passed : (q : ℕ) → IsPassed next (core_of m q) → set.contains cpus q ≡ (nat_lt q CPU_LIMIT && set.contains cores (core_of m q))
  pub ahead : (q : ℕ) → IsAhead next (core_of m q) → set.contains cpus q ≡ false
  pub member : IfSome next (λ n. set.contains cores n ≡ true)
  pub in_range : IfSome next (λ n. IsCpu n)

none_there : (b : Bool) → false ≡ (b && false)
none_there true = refl
none_there false = refl

pub AreFilled-none : (m : Layout) (cores cpus : Ids) (next : Option ℕ) → cpus ≡ set.empty → IsNext cores 0 next → AreFilled m cores cpus next
AreFilled-none m cores cpus next none is = record {
  passed = λ q before.
      ap (λ t. set.contains t q) none ∙ contains-empty q ∙ none_there (nat_lt q CPU_LIMIT)
      ∙ ap (λ b. nat_lt q CPU_LIMIT && b) (sym (nothing_between cores 0 (core_of m q) next is (omega arith) before));
  ahead = λ q _. ap (λ t. set.contains t q) none ∙ contains-empty q;
  member = next_is_member cores 0 next is;
  in_range = is.1;
}

new_core : (b : Bool) (core other : ℕ) (c : Bool) → other ≡ core → c ≡ true → (false || (b && (other == core))) ≡ (b && c)
new_core true core other c is has = eq-eqb _ _ is ∙ sym has
new_core false core other c is has = refl

pub AreFilled-more :
    (m : Layout) (cores cpus more : Ids) (core : ℕ) (next : Option ℕ) → AreFilled m cores cpus (Some core)
    → ((q : ℕ) → set.contains more q ≡ (set.contains cpus q || (nat_lt q CPU_LIMIT && (core_of m q == core)))) → IsNext cores (core + 1) next
    → AreFilled m cores more next
AreFilled-more m cores cpus more core next are is following = record {
  passed = λ q before. elim (cases_lt (core_of m q) core) [
    | inl less ↦ is q ∙ sym (or_none _ (nat_lt q CPU_LIMIT) core (core_of m q) (λ e. omega (arith, e))) ∙ are.passed q less
    | inr not_less ↦ elim (cases_eq core (core_of m q)) [
      | inl same ↦
          is q ∙ ap (λ b. b || (nat_lt q CPU_LIMIT && (core_of m q == core))) (are.ahead q (omega arith))
          ∙ new_core (nat_lt q CPU_LIMIT) core (core_of m q) (set.contains cores (core_of m q)) (sym same) (ap (set.contains cores) (sym same) ∙ are.member)
      | inr differs ↦
          is q ∙ sym (or_none _ (nat_lt q CPU_LIMIT) core (core_of m q) (λ e. differs (sym e))) ∙ are.ahead q (omega arith)
          ∙ none_there (nat_lt q CPU_LIMIT)
          ∙ ap (λ b. nat_lt q CPU_LIMIT && b) (sym (nothing_between cores (core + 1) (core_of m q) next following (omega arith) before))
    ]
  ];
  ahead = λ q ahead.
      let above : core + 1 ≤ core_of m q = is_ahead cores (core + 1) (core_of m q) next following ahead in
      is q ∙ sym (or_none _ (nat_lt q CPU_LIMIT) core (core_of m q) (λ e. omega (arith, above, e))) ∙ are.ahead q (omega (arith, above));
  member = next_is_member cores (core + 1) next following;
  in_range = following.1;
}

pub AreFilled-all :
    (m : Layout) (cores cpus : Ids) (next : Option ℕ) → AreFilled m cores cpus next → ((n : ℕ) → next ≡ Some n → ⊥) → cpus ≡ cpus_of_cores m cores
AreFilled-all m cores cpus None are none = same_members cpus (cpus_of_cores m cores) (λ q. are.passed q tt ∙ sym (contains-cpus_of_cores m cores q))
AreFilled-all m cores cpus (Some n) are none = absurd (none n refl)
