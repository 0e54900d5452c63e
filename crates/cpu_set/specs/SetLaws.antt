-- Laws on sets of numbers, for the crates that stand on this one.
use Rattle.std.proofs.Common.{◌≡◌, ℕ, zero, suc, ◌+◌, ◌<◌, Bool, true, false, cond, ◌&&◌, nat_lt, List, [], ◌∷◌, ◌++◌, length, filter, length-append, sym, ap, subst, ◌∙◌, arith, eq-eqb}
use Rattle.std.specs.List.{range_with_len}
use Rattle.std.proofs.lemmas.Bool.{true≢false, false≢true, ne_eqb}
use Rattle.std.proofs.lemmas.Bool.Decides.{nat_tests}
use Rattle.std.specs.Bool.{Decides}
use Rattle.std.specs.Cmp.{nat_cmp_total}
use Rattle.std.proofs.Math.Numerals.{add-one}
use Rattle.std.proofs.lemmas.List.{map-id}
use Rattle.std.proofs.lemmas.List.FromFn.{filter_of_map_range_with_len_more}
use Rattle.std.specs.Prelude.{◌↔◌}
use Rattle.cpu_set.specs.declared.TheConstants.{CPU_LIMIT}
use Rattle.std.specs.FinSet as set
use Rattle.std.specs.Ordering.{nat_cmp}
use Rattle.cpu_set.specs.Ids.{Ids, IsDisjoint, NoneFrom, is_empty}
use Rattle.cpu_set.specs.Members.{InRange, cpus, members}
use Rattle.cpu_set.specs.Those.{those}
use Rattle.cpu_set.specs.ThoseLemmas.{contains-those}
use Rattle.cpu_set.specs.PointwiseLaws.{same_members, contains-empty, contains-intersection, contains-difference, is_subset-contains, contains-is_subset}
use Rattle.faults.specs.TestLaws.{never_both, without, none_left}

-- a set is empty exactly if it has no member
abbrev pub EmptyWhereNone : Type 0
EmptyWhereNone = (s : Ids) → (s ≡ set.empty) ↔ NoneFrom s 0

-- two sets are disjoint exactly if they meet in nothing
abbrev pub DisjointWhereMeetIsEmpty : Type 0
DisjointWhereMeetIsEmpty = (s t : Ids) → IsDisjoint s t ↔ (set.intersection s t ≡ set.empty)

-- one set is within another exactly if nothing of it is left without the other
abbrev pub SubsetWhereNoneIsLeft : Type 0
SubsetWhereNoneIsLeft = (s t : Ids) → (set.is_subset s t ≡ true) ↔ (set.difference s t ≡ set.empty)

-- the members in rising order are as many as the set has
abbrev pub MembersAreCounted : Type 0
MembersAreCounted = (s : Ids) → InRange s → length (members s) ≡ set.len s

-- a set with no member is the empty one
pub empty_of_none : (s : Ids) → NoneFrom s 0 → s ≡ set.empty
empty_of_none s none = same_members s _ (λ q. none q (omega arith) ∙ sym (contains-empty q))

-- the test whether a set is empty
pub is_empty-empty : (s : Ids) → s ≡ set.empty → is_empty s ≡ true
is_empty-empty s none = ap is_empty none ∙ eq-eqb _ _ (set.len-empty nat_cmp)

pub is_empty-some : (s : Ids) → (s ≡ set.empty → ⊥) → is_empty s ≡ false
is_empty-some s some = ne_eqb _ _ (λ e. some (set.empty_of_len s e))

pub none_of_empty : (s : Ids) → s ≡ set.empty → (q : ℕ) → set.contains s q ≡ false
none_of_empty s e q = ap (λ t. set.contains t q) e ∙ contains-empty q

not_both : (a b : Bool) → (a && b) ≡ false → a ≡ true → b ≡ true → ⊥
not_both true b e p q = true≢false (sym q ∙ e)
not_both false b e p q = false≢true p

-- two sets are disjoint where they meet in nothing
pub meet_empty-IsDisjoint : (s t : Ids) → set.intersection s t ≡ set.empty → IsDisjoint s t
meet_empty-IsDisjoint s t e n = not_both _ _ (sym (contains-intersection s t n) ∙ none_of_empty _ e n)

pub IsDisjoint-meet_empty : (s t : Ids) → IsDisjoint s t → set.intersection s t ≡ set.empty
IsDisjoint-meet_empty s t apart =
    same_members _ _ (λ q. contains-intersection s t q ∙ never_both _ _ (apart q) ∙ sym (contains-empty q))

-- a set is within another where nothing of it is left without the other
pub is_subset-Decides : (s t : Ids) → Decides (set.is_subset s t) (set.difference s t ≡ set.empty)
is_subset-Decides s t = (
  λ e. same_members _ _ (λ q. contains-difference s t q ∙ none_left _ _ (is_subset-contains s t e q) ∙ sym (contains-empty q)),
  λ e. contains-is_subset s t (λ q. without _ _ (sym (contains-difference s t q) ∙ none_of_empty _ e q)),
)

contains-itself : (p : ℕ → Bool) (n : ℕ) → set.contains (those p n) n ≡ false
contains-itself p n = contains-those p n n ∙ irreflexive n (p n)
  where
    irreflexive : (n : ℕ) (b : Bool) → (nat_lt n n && b) ≡ false
    irreflexive n b = grind (arith, nat_tests)

len-step : (p : ℕ → Bool) (n : ℕ) (v : Bool) → set.len (cond v (set.insert (those p n) n) (those p n)) ≡ set.len (those p n) + cond v 1 0
len-step p n true = set.len-insert nat_cmp_total (those p n) n ∙ ap (λ b. cond b (set.len (those p n)) (set.len (those p n) + 1)) (contains-itself p n)
len-step p n false = omega arith

len-those_suc : (p : ℕ → Bool) (n : ℕ) → set.len (those p (suc n)) ≡ set.len (those p n) + cond (p n) 1 0
unfolding those
len-those_suc p n = len-step p n (p n)

-- one more number that passes is one member more
pub len-those_more : (p : ℕ → Bool) (n : ℕ) → set.len (those p (n + 1)) ≡ set.len (those p n) + cond (p n) 1 0
len-those_more p n = rw add-one (len-those_suc p n)

pub len-those_none : (p : ℕ → Bool) → set.len (those p 0) ≡ 0
unfolding those
len-those_none p = set.len-empty nat_cmp

one_more : (n : ℕ) (v : Bool) (xs : List ℕ) → length (xs ++ cond v (n ∷ []) []) ≡ length xs + cond v 1 0
one_more n true xs = length-append xs (n ∷ [])
one_more n false xs = length-append xs []

length-filter_range : (p : ℕ → Bool) (n : ℕ) → length (filter p (range_with_len 0 (n + 1))) ≡ length (filter p (range_with_len 0 n)) + cond (p n) 1 0
length-filter_range p n =
    let e : filter p (range_with_len 0 (n + 1)) ≡ filter p (range_with_len 0 n) ++ cond (p n) (n ∷ []) [] =
    simp map-id at (filter_of_map_range_with_len_more p (λ k. k) 0 n n (omega arith)) in
    ap length e ∙ one_more n (p n) _

length-members_below : (p : ℕ → Bool) (n : ℕ) → length (filter p (range_with_len 0 n)) ≡ set.len (those p n)
length-members_below p zero = sym (len-those_none p)
length-members_below p (suc n) =
    let e : n + 1 ≡ suc n = add-one n in
    subst (λ m. length (filter p (range_with_len 0 m)) ≡ set.len (those p m)) e
    (length-filter_range p n ∙ ap (λ k. k + cond (p n) 1 0) (length-members_below p n) ∙ sym (len-those_more p n))

within : (q n : ℕ) (b : Bool) → (b ≡ true → q < n) → (nat_lt q n && b) ≡ b
within q n b f = grind (arith, nat_tests)

-- a set whose members are below n is that of the numbers below n in it
pub those-contains : (s : Ids) (n : ℕ) → ((q : ℕ) → set.contains s q ≡ true → q < n) → those (set.contains s) n ≡ s
those-contains s n low = same_members _ _ (λ q. contains-those (set.contains s) n q ∙ within q n _ (low q))

-- the members in rising order are as many as the set has
pub length-members : (s : Ids) → InRange s → length (members s) ≡ set.len s
unfolding cpus
length-members s low = length-members_below (set.contains s) CPU_LIMIT ∙ ap set.len (those-contains s CPU_LIMIT low)

pub empty_where_none : EmptyWhereNone
empty_where_none s = (λ e n _. none_of_empty s e n, empty_of_none s)

pub disjoint_where_meet_is_empty : DisjointWhereMeetIsEmpty
disjoint_where_meet_is_empty s t = (IsDisjoint-meet_empty s t, meet_empty-IsDisjoint s t)
