-- What each operation on sets of numbers means, number by number.
use Rattle.std.specs.Prelude.{◌≡◌, ℕ, Bool, true, false, not, ◌&&◌, ◌||◌, ◌==◌, refl}
use Rattle.std.proofs.lemmas.Bool.{and_from, and_parts}
use Rattle.std.proofs.Common.{sym, ap, ◌∙◌}
use Rattle.std.specs.Bool.{Decides}
use Rattle.std.specs.Ordering.{nat_cmp}
use Rattle.std.specs.Cmp.{nat_cmp_total, unsigned_tied}
use Rattle.std.specs.FinSet.{nat_cmp-IsAntisymmetric}
use Rattle.std.specs.FinSet as set
use Rattle.cpu_set.specs.Ids.{Ids, is_same}

-- two sets with the same members are the same
pub same_members : (s t : Ids) → ((q : ℕ) → set.contains s q ≡ set.contains t q) → s ≡ t
same_members = set.same_set nat_cmp_total nat_cmp-IsAntisymmetric

pub contains-empty : (q : ℕ) → set.contains (set.empty {R = nat_cmp}) q ≡ false
contains-empty = set.contains-empty nat_cmp

pub contains-insert : (s : Ids) (k q : ℕ) → set.contains (set.insert s k) q ≡ ((q == k) || set.contains s q)
contains-insert s k q = set.contains-insert nat_cmp_total s k q ∙ ap (λ b. b || set.contains s q) (unsigned_tied q k)

pub contains-remove : (s : Ids) (k q : ℕ) → set.contains (set.remove s k) q ≡ (not (q == k) && set.contains s q)
contains-remove s k q = set.contains-remove nat_cmp_total s k q ∙ ap (λ b. not b && set.contains s q) (unsigned_tied q k)

pub contains-union : (s t : Ids) (q : ℕ) → set.contains (set.union s t) q ≡ (set.contains s q || set.contains t q)
contains-union = set.contains-union nat_cmp_total

pub contains-intersection : (s t : Ids) (q : ℕ) → set.contains (set.intersection s t) q ≡ (set.contains s q && set.contains t q)
contains-intersection = set.contains-intersection nat_cmp_total

pub contains-difference : (s t : Ids) (q : ℕ) → set.contains (set.difference s t) q ≡ (set.contains s q && not (set.contains t q))
contains-difference = set.contains-difference nat_cmp_total

-- each member of a subset is in the other set
pub is_subset-contains : (s t : Ids) → set.is_subset s t ≡ true → (q : ℕ) → set.contains s q ≡ true → set.contains t q ≡ true
is_subset-contains = set.is_subset-contains nat_cmp_total

pub contains-is_subset : (s t : Ids) → ((q : ℕ) → set.contains s q ≡ true → set.contains t q ≡ true) → set.is_subset s t ≡ true
contains-is_subset = set.contains-is_subset nat_cmp_total

one_way : (s t : Ids) (q : ℕ) (a b : Bool) → set.contains s q ≡ a → set.contains t q ≡ b → (a ≡ true → b ≡ true) → (b ≡ true → a ≡ true) → a ≡ b
one_way s t q true b p r f g = sym (f refl)
one_way s t q false true p r f g = g refl
one_way s t q false false p r f g = refl

-- sets that are within one another are the same
pub same_subsets : (s t : Ids) → is_same s t ≡ true → s ≡ t
same_subsets s t e =
    let p : (set.is_subset s t ≡ true) × (set.is_subset t s ≡ true) = and_parts _ _ e in
    same_members s t (λ q. one_way s t q _ _ refl refl (is_subset-contains s t p.0 q) (is_subset-contains t s p.1 q))

within_itself : (s t : Ids) → s ≡ t → set.is_subset s t ≡ true
within_itself s t e = contains-is_subset s t (λ q member. rw (← e) member)

pub is_same_decides : (s t : Ids) → Decides (is_same s t) (s ≡ t)
is_same_decides s t = (same_subsets s t, λ e. and_from _ _ (within_itself s t e) (within_itself t s (sym e)))
