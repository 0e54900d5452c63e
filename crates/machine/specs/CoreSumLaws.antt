-- Sums over the CPUs of cores.
use Rattle.std.proofs.Common.{◌≡◌, ℕ, zero, suc, ◌+◌, ◌*◌, Bool, true, false, cond, ◌&&◌, nat_lt, List, [], ◌∷◌, length, filter, refl, sym, ap, ◌∙◌, arith}
use Rattle.std.specs.Prelude.{◌||◌, ◌==◌}
use Rattle.std.specs.List.{sum_by}
use Rattle.std.proofs.lemmas.Bool.{true≢false, and_parts, eqb-true}
use Rattle.std.proofs.lemmas.Bool.Decides.{nat_tests}
use Rattle.std.proofs.lemmas.List.Sums.{sum_by-cons}
use Rattle.std.specs.Cmp.{nat_cmp_total}
use Rattle.std.specs.Ordering.{nat_cmp}
use Rattle.std.specs.FinSet as set
use Rattle.cpu_set.specs.Ids.{Ids}
use Rattle.cpu_set.specs.Members.{InRange, members, cpus}
use Rattle.cpu_set.specs.PointwiseLaws.{same_members, contains-empty, contains-insert}
use Rattle.cpu_set.specs.SetLaws.{length-members, those-contains}
use Rattle.cpu_set.specs.Those.{those}
use Rattle.cpu_set.specs.ThoseLemmas.{contains-those}
use Rattle.cpu_set.specs.declared.TheConstants.{CPU_LIMIT}
use Rattle.machine.specs.CoreCountLaws.{more_cpus, more_apart, core_in_range, not_below_itself, those_more, and_none}
use Rattle.machine.specs.Cores.{core_of, cpus_of_core, cpus_of_cores, AreCores}
use Rattle.machine.specs.IsSound.{IsSound}
use Rattle.machine.specs.Layout.{Layout}
use Rattle.machine.specs.NodeLaws.{IsPresent-IsOfNode, node_found, weight_by_node}
use Rattle.machine.specs.Present.{present, IsPresent}
use Rattle.machine.specs.Weight.{weight}
use Rattle.machine.specs.WholeLaws.{AreLowest, contains-cpus_of_core, contains-cpus_of_cores}
use Rattle.std.proofs.Math.Bool.{and-true, or-false}

-- what is the same of all CPUs of a core sums up over the CPUs of cores to as many times that over the cores as a core has CPUs
abbrev pub CoresWeighAlike : Type 0
CoresWeighAlike =
    (m : Layout) (cores : Ids) (f : ℕ → ℕ) → AreCores m → InRange (present m) → AreLowest m cores → ((c : ℕ) → IsPresent m c → f (core_of m c) ≡ f c)
    → sum_by f (members (cpus_of_cores m cores)) ≡ sum_by f (members cores) * m.threads

-- all CPUs of a core are as near to the homes of a container
abbrev pub CoresAreNear : Type 0
CoresAreNear = (m : Layout) (homes : Ids) (c : ℕ) → IsSound m → IsPresent m c → weight m homes (core_of m c) ≡ weight m homes c

-- ---- what a filter keeps, summed

module _ (f : ℕ → ℕ) where
  none_step : (x : ℕ) (xs : List ℕ) (b : Bool) → b ≡ false → sum_by f xs ≡ 0 → sum_by f (cond b (x ∷ xs) xs) ≡ 0
  none_step x xs true is e = absurd (true≢false is)
  none_step x xs false is e = e

  none_kept : (p : ℕ → Bool) (xs : List ℕ) → ((c : ℕ) → p c ≡ false) → sum_by f (filter p xs) ≡ 0
  none_kept p [] none = refl
  none_kept p (x ∷ xs) none = none_step x (filter p xs) (p x) (none x) (none_kept p xs none)

  split_step :
      (x : ℕ) (ps qs rs : List ℕ) (a b c : Bool) → c ≡ (a || b) → (a ≡ true → b ≡ true → ⊥) → sum_by f rs ≡ sum_by f ps + sum_by f qs
      → sum_by f (cond c (x ∷ rs) rs) ≡ sum_by f (cond a (x ∷ ps) ps) + sum_by f (cond b (x ∷ qs) qs)
  split_step x ps qs rs true true c is apart e = absurd (apart refl refl)
  split_step x ps qs rs true false c is apart e = rw is (omega (arith, sum_by-cons f x rs, sum_by-cons f x ps, e))
  split_step x ps qs rs false true c is apart e = rw is (omega (arith, sum_by-cons f x rs, sum_by-cons f x qs, e))
  split_step x ps qs rs false false c is apart e = rw is e

  split_kept :
      (p q r : ℕ → Bool) (xs : List ℕ) → ((c : ℕ) → r c ≡ (p c || q c)) → ((c : ℕ) → p c ≡ true → q c ≡ true → ⊥)
      → sum_by f (filter r xs) ≡ sum_by f (filter p xs) + sum_by f (filter q xs)
  split_kept p q r [] is apart = refl
  split_kept p q r (x ∷ xs) is apart =
      split_step x (filter p xs) (filter q xs) (filter r xs) (p x) (q x) (r x) (is x) (apart x) (split_kept p q r xs is apart)

  alike_step :
      (x k : ℕ) (xs : List ℕ) (b : Bool) → (b ≡ true → f x ≡ k) → sum_by f xs ≡ length xs * k → sum_by f (cond b (x ∷ xs) xs) ≡ length (cond b (x ∷ xs) xs) * k
  alike_step x k xs true is e = rw (sum_by-cons f x xs, is refl, e) (omega arith)
  alike_step x k xs false is e = e

  alike_kept : (p : ℕ → Bool) (k : ℕ) (xs : List ℕ) → ((c : ℕ) → p c ≡ true → f c ≡ k) → sum_by f (filter p xs) ≡ length (filter p xs) * k
  alike_kept p k [] is = omega arith
  alike_kept p k (x ∷ xs) is = alike_step x k (filter p xs) (p x) (is x) (alike_kept p k xs is)

  -- summed over a set
  abbrev over : Ids → ℕ
  over s = sum_by f (members s)

  over_alike : (s : Ids) (k : ℕ) → InRange s → ((c : ℕ) → set.contains s c ≡ true → f c ≡ k) → over s ≡ set.len s * k
  over_alike s k in_range is = alike_kept (set.contains s) k cpus is ∙ ap (λ n. n * k) (length-members s in_range)

  over_split : (s t u : Ids) → ((c : ℕ) → set.contains u c ≡ (set.contains s c || set.contains t c)) → ((c : ℕ) → set.contains s c ≡ true → set.contains t c ≡ true → ⊥)
      → over u ≡ over s + over t
  over_split s t u is apart = split_kept (set.contains s) (set.contains t) (set.contains u) cpus is apart

  over_none : (s : Ids) → ((c : ℕ) → set.contains s c ≡ false) → over s ≡ 0
  over_none s none = none_kept (set.contains s) cpus none

-- ---- cores one by one

one : ℕ → Ids
one n = set.insert set.empty n

contains-one : (n c : ℕ) → set.contains (one n) c ≡ (c == n)
unfolding one
contains-one n c = contains-insert set.empty n c ∙ ap (λ b. (c == n) || b) (contains-empty c) ∙ or-false (c == n)

len-one : (n : ℕ) → set.len (one n) ≡ 1
unfolding one
len-one n =
    set.len-insert nat_cmp_total set.empty n
    ∙ ap (λ b. cond b (set.len (set.empty {R = nat_cmp})) (set.len (set.empty {R = nat_cmp}) + 1)) (contains-empty n)
    ∙ ap (λ k. k + 1) (set.len-empty nat_cmp) ∙ only_one
  where
    only_one : 0 + 1 ≡ 1
    only_one = omega arith

or_turned : (a b : Bool) → (a || b) ≡ (b || a)
or_turned true true = refl
or_turned true false = refl
or_turned false true = refl
or_turned false false = refl

more_sums : (a b c d e k t : ℕ) → a ≡ b + c → c ≡ t * k → b ≡ e * t → d ≡ e + 1 * k → a ≡ d * t
more_sums a b c d e k t is core before more = grind (arith, is, core, before, more)

module _ (m : Layout) (cores : Ids) (f : ℕ → ℕ) (are : AreCores m) (in_range : InRange (present m)) (lowest : AreLowest m cores)
    (alike : (c : ℕ) → IsPresent m c → f (core_of m c) ≡ f c) where
  abbrev Sums : Ids → Type 0
  Sums s = over f (cpus_of_cores m s) ≡ over f s * m.threads

  -- one core more
  sums_with : (old new : Ids) (n : ℕ) → IsPresent m n → core_of m n ≡ n → set.contains old n ≡ false
      → ((c : ℕ) → set.contains new c ≡ ((c == n) || set.contains old c)) → Sums old → Sums new
  sums_with old new n there own apart is before =
      let core : over f (cpus_of_core m n) ≡ m.threads * f n =
      over_alike f (cpus_of_core m n) (f n) (core_in_range m n in_range) (λ c has.
      let p = and_parts _ _ (sym (contains-cpus_of_core m n c) ∙ has) in
      sym (alike c p.0) ∙ ap f (eqb-true _ _ p.1))
      ∙ ap (λ k. k * f n) (ap (λ k. set.len (cpus_of_core m k)) (sym own) ∙ are.threads n there) in
      let single : over f (one n) ≡ 1 * f n =
      over_alike f (one n) (f n) (λ c has. in_range c (ap (set.contains (present m)) (eqb-true _ _ (sym (contains-one n c) ∙ has)) ∙ there))
      (λ c has. ap f (eqb-true _ _ (sym (contains-one n c) ∙ has)))
      ∙ ap (λ k. k * f n) (len-one n) in
      let more : over f new ≡ over f old + 1 * f n =
      over_split f old (one n) new
      (λ c. is c ∙ or_turned (c == n) (set.contains old c) ∙ ap (λ b. set.contains old c || b) (sym (contains-one n c)))
      (λ c in_old in_one. true≢false (sym in_old ∙ ap (set.contains old) (eqb-true _ _ (sym (contains-one n c) ∙ in_one)) ∙ apart))
      ∙ ap (λ k. over f old + k) single in
      more_sums _ _ _ _ (over f old) (f n) m.threads
      (over_split f (cpus_of_cores m old) (cpus_of_core m n) (cpus_of_cores m new) (more_cpus m old new n are in_range there is) (more_apart m old n apart))
      core before more

  sums_more : (old new : Ids) (n : ℕ) (v : Bool) → (v ≡ true → IsPresent m n × (core_of m n ≡ n)) → set.contains old n ≡ false
      → ((c : ℕ) → set.contains new c ≡ (((c == n) && v) || set.contains old c)) → Sums old → Sums new
  sums_more old new n true low apart is before =
      sums_with old new n (low refl).0 (low refl).1 apart (λ c. is c ∙ ap (λ b. b || set.contains old c) (and-true (c == n))) before
  sums_more old new n false low apart is before =
      let same : new ≡ old = same_members new old (λ c. is c ∙ and_none (c == n) (set.contains old c)) in
      rw same before

  sums_none : (s : Ids) → ((c : ℕ) → set.contains s c ≡ false) → Sums s
  sums_none s none =
      over_none f (cpus_of_cores m s) (λ c. contains-cpus_of_cores m s c ∙ ap (λ b. nat_lt c CPU_LIMIT && b) (none (core_of m c)) ∙ and_no (nat_lt c CPU_LIMIT))
      ∙ nothing (over f s) m.threads (over_none f s none)
    where
      and_no : (a : Bool) → (a && false) ≡ false
      and_no true = refl
      and_no false = refl

      nothing : (n t : ℕ) → n ≡ 0 → 0 ≡ n * t
      nothing n t is = rw is (omega arith)

  none_below : (q : ℕ) (b : Bool) → (nat_lt q 0 && b) ≡ false
  none_below q b = grind (arith, nat_tests)

  sums_below : (n : ℕ) → Sums (those (set.contains cores) n)
  sums_below zero = sums_none (those (set.contains cores) 0) (λ c. contains-those (set.contains cores) 0 c ∙ none_below c _)
  sums_below (suc n) =
      sums_more (those (set.contains cores) n) (those (set.contains cores) (suc n)) n (set.contains cores n) (lowest n)
      (contains-those (set.contains cores) n n ∙ not_below_itself n _) (those_more (set.contains cores) n) (sums_below n)

  sums_all : Sums cores
  sums_all =
      let all : those (set.contains cores) CPU_LIMIT ≡ cores = those-contains cores CPU_LIMIT (λ c has. in_range c (lowest c has).0) in
      rw all at (sums_below CPU_LIMIT)

pub cores_weigh_alike : CoresWeighAlike
cores_weigh_alike m cores f are in_range lowest alike = sums_all m cores f are in_range lowest alike

pub cores_are_near : CoresAreNear
cores_are_near m homes c sound there =
    let node = IsPresent-IsOfNode m c there in
    weight_by_node m homes (core_of m c) c
    (node_found m (core_of m c) node.0 sound (sound.cores.one_node c node.0 node.1) ∙ sym (node_found m c node.0 sound node.1))
