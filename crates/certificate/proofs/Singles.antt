-- Sets of one number, known by ranges that have it alone.
use Rattle.std.proofs.Common.{◌≡◌, ℕ, Bool, true, false, cond, ◌&&◌, ◌||◌, ◌==◌, refl, sym, ap, ◌∙◌}
use Rattle.std.specs.FinSet as set
use Rattle.std.specs.Ordering.{nat_cmp}
use Rattle.std.specs.Cmp.{nat_cmp_total}
use Rattle.std.proofs.lemmas.Bool.{eqb-true}
use Rattle.cpu_set.specs.Ids.{Ids}
use Rattle.cpu_set.specs.Members.{IsCpu, InRange}
use Rattle.cpu_set.specs.PointwiseLaws.{same_members, contains-empty, contains-insert, contains-union, contains-intersection}
use Rattle.certificate.specs.TestLaws.{true_right}

-- the set has this number alone
abbrev pub IsSingle : Ids → ℕ → Type 0
IsSingle s n = (q : ℕ) → set.contains s q ≡ (q == n)

other_way : (a b : Bool) → (a || b) ≡ (b || a)
other_way true true = refl
other_way true false = refl
other_way false true = refl
other_way false false = refl

-- to add the number is to add the set
pub insert-single : (s t : Ids) (n : ℕ) → IsSingle t n → set.insert s n ≡ set.union s t
insert-single s t n single =
    same_members _ _ (λ q. rw (contains-insert s n q, contains-union s t q, single q) (other_way (q == n) (set.contains s q)))

both_of : (s t : Ids) (n q : ℕ) → IsSingle t n → set.contains (set.intersection s t) q ≡ (set.contains s q && (q == n))
both_of s t n q single = rw (contains-intersection s t q, single q) refl

at_the_number : (s : Ids) (n q : ℕ) → (set.contains s q && (q == n)) ≡ (set.contains s n && (q == n))
at_the_number s n q = by_cases (q == n) refl
  where
    by_cases : (b : Bool) → (q == n) ≡ b → (set.contains s q && (q == n)) ≡ (set.contains s n && (q == n))
    by_cases true e = ap (λ k. set.contains s k && (q == n)) (eqb-true q n e)
    by_cases false e = rw e (none (set.contains s q) (set.contains s n))
      where
        none : (a b : Bool) → (a && false) ≡ (b && false)
        none true true = refl
        none true false = refl
        none false true = refl
        none false false = refl

-- of a set of one number another set has it, or nothing
pub len-single : (s t : Ids) (n : ℕ) → IsSingle t n → set.len (set.intersection s t) ≡ cond (set.contains s n) 1 0
len-single s t n single = by_cases (set.contains s n) refl
  where
    by_cases : (b : Bool) → set.contains s n ≡ b → set.len (set.intersection s t) ≡ cond b 1 0
    by_cases true e =
        let same : set.intersection s t ≡ set.insert (set.empty {R = nat_cmp}) n =
        same_members _ _ (λ q. both_of s t n q single ∙ at_the_number s n q ∙ ap (λ b. b && (q == n)) e
        ∙ other_way false (q == n) ∙ ap (λ b. (q == n) || b) (sym (contains-empty q)) ∙ sym (contains-insert set.empty n q)) in
        ap set.len same ∙ set.len-insert nat_cmp_total set.empty n ∙ rw (contains-empty n, set.len-empty nat_cmp) refl
    by_cases false e =
        let none : set.intersection s t ≡ set.empty =
        same_members _ _ (λ q. both_of s t n q single ∙ at_the_number s n q ∙ ap (λ b. b && (q == n)) e ∙ sym (contains-empty q)) in
        ap set.len none ∙ set.len-empty nat_cmp

pub in_range-single : (s t : Ids) (n : ℕ) → IsSingle t n → IsCpu n → InRange (set.intersection s t)
in_range-single s t n single is_cpu q member =
    let same : q ≡ n = eqb-true q n (true_right _ _ (sym (both_of s t n q single) ∙ member)) in
    rw same is_cpu
