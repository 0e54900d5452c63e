-- Members of sets that are made of two, and of those that containers have together.
use Rattle.std.proofs.Common.{◌≡◌, ℕ, zero, suc, ◌+◌, ◌<◌, ◌≤◌, Bool, true, false, not, ◌||◌, List, [], ◌∷◌, length, drop, get_or, refl, sym, ap, ◌∙◌, inl, inr, arith}
use Rattle.std.proofs.lemmas.Bool.{false≢true}
use Rattle.std.proofs.lemmas.List.{drop_more}
use Rattle.std.specs.Prelude.{◌⊎◌, cond}
use Rattle.std.specs.List.{AllByRecursion}
use Rattle.std.specs.FinSet as set
use Rattle.cpu_set.specs.Ids.{Ids, is_empty}
use Rattle.cpu_set.specs.PointwiseLaws.{same_members, contains-empty, contains-union, contains-intersection, contains-difference}
use Rattle.cpu_set.specs.SetLaws.{is_empty-empty, is_empty-some}
use Rattle.apply_plan.specs.declared.entry.Entry.{Entry}
use Rattle.apply_plan.specs.ListLemmas.{all_map}
use Rattle.apply_plan.specs.WriteLemmas.{by_test}
use Rattle.apply_plan.specs.DirectWords.{all_of_those}
use Rattle.apply_plan.specs.DirectLemmas.{both, both_of, or_true}

pub no_more : (x : Bool) → not x ≡ true → x ≡ false
no_more true e = absurd (false≢true e)
no_more false e = refl

pub either : (x y : Bool) → (x || y) ≡ true → (x ≡ true) ⊎ (y ≡ true)
either true y e = inl refl
either false y e = inr e

pub one_of_two : {A B C : Type 0} → A ⊎ B → (A → C) → (B → C) → C
one_of_two (inl a) f g = f a
one_of_two (inr b) f g = g b

module _ (s t : Ids) (q : ℕ) where
  pub in_meet : set.contains (set.intersection s t) q ≡ true → (set.contains s q ≡ true) × (set.contains t q ≡ true)
  in_meet m = both_of (set.contains s q) (set.contains t q) (sym (contains-intersection s t q) ∙ m)

  pub meet_has : set.contains s q ≡ true → set.contains t q ≡ true → set.contains (set.intersection s t) q ≡ true
  meet_has a b = contains-intersection s t q ∙ both (set.contains s q) (set.contains t q) a b

  pub in_minus : set.contains (set.difference s t) q ≡ true → (set.contains s q ≡ true) × (set.contains t q ≡ false)
  in_minus m =
      let parts = both_of (set.contains s q) (not (set.contains t q)) (sym (contains-difference s t q) ∙ m) in
      (parts.0, no_more (set.contains t q) parts.1)

  pub minus_has : set.contains s q ≡ true → set.contains t q ≡ false → set.contains (set.difference s t) q ≡ true
  minus_has a b = contains-difference s t q ∙ both (set.contains s q) (not (set.contains t q)) a (ap not b)

  pub in_union : set.contains (set.union s t) q ≡ true → (set.contains s q ≡ true) ⊎ (set.contains t q ≡ true)
  in_union m = either (set.contains s q) (set.contains t q) (sym (contains-union s t q) ∙ m)

  pub union_left : set.contains s q ≡ true → set.contains (set.union s t) q ≡ true
  union_left a = contains-union s t q ∙ ap (λ b. b || set.contains t q) a

  pub union_right : set.contains t q ≡ true → set.contains (set.union s t) q ≡ true
  union_right a = contains-union s t q ∙ ap (λ b. set.contains s q || b) a ∙ or_true (set.contains s q)

-- a set that has all of one that is not empty is not empty
pub bigger_some : (s t : Ids) → ((q : ℕ) → set.contains s q ≡ true → set.contains t q ≡ true) → is_empty s ≡ false → is_empty t ≡ false
bigger_some s t f some = is_empty-some t (λ none. false≢true (sym some ∙ is_empty-empty s
    (same_members s set.empty (λ q. by_test (set.contains s q)
    (λ m. absurd (false≢true (sym (contains-empty q) ∙ ap (λ x. set.contains x q) (sym none) ∙ f q m)))
    (λ m. m ∙ sym (contains-empty q))))))

-- what each of those that pass has is in the set of all
pub in_all : (test : Entry → Bool) (sets : Entry → Ids) (entries : List Entry)
    → AllByRecursion (λ d. test d ≡ true → (q : ℕ) → set.contains (sets d) q ≡ true → set.contains (all_of_those test sets entries) q ≡ true) entries
in_all test sets [] = tt
in_all test sets (x ∷ xs) = (
  (λ t q m. union_left (cond (test x) (sets x) set.empty) (all_of_those test sets xs) q (ap (λ t. set.contains (cond t (sets x) set.empty) q) t ∙ m)),
  all_map (λ d. test d ≡ true → (q : ℕ) → set.contains (sets d) q ≡ true → set.contains (all_of_those test sets xs) q ≡ true)
      (λ d. test d ≡ true → (q : ℕ) → set.contains (sets d) q ≡ true → set.contains (set.union (cond (test x) (sets x) set.empty) (all_of_those test sets xs)) q ≡ true)
      (λ d f t q m. union_right (cond (test x) (sets x) set.empty) (all_of_those test sets xs) q (f t q m))
      xs (in_all test sets xs),
)

-- what is in the set of all, one of them has
pub of_all : (test : Entry → Bool) (sets : Entry → Ids) (q : ℕ) (found : Bool) (entries : List Entry)
    → AllByRecursion (λ d. test d ≡ true → set.contains (sets d) q ≡ true → found ≡ true) entries → set.contains (all_of_those test sets entries) q ≡ true → found ≡ true
of_all test sets q found [] all m = absurd (false≢true (sym (contains-empty q) ∙ m))
of_all test sets q found (x ∷ xs) all m =
    one_of_two (in_union (cond (test x) (sets x) set.empty) (all_of_those test sets xs) q m)
    (λ first. by_test (test x)
    (λ t. all.0 t (ap (λ b. set.contains (cond b (sets x) set.empty) q) (sym t) ∙ first))
    (λ f. absurd (false≢true (sym (contains-empty q) ∙ ap (λ b. set.contains (cond b (sets x) set.empty) q) (sym f) ∙ first))))
    (λ rest. of_all test sets q found xs all.1 rest)

-- such a set is put together one by one
pub union_none : (s : Ids) → set.union set.empty s ≡ s
union_none s = same_members _ _ (λ q. contains-union set.empty s q ∙ ap (λ b. b || set.contains s q) (contains-empty q))

pub none_union : (s : Ids) → set.union s set.empty ≡ s
none_union s = same_members _ _ (λ q. contains-union s set.empty q ∙ ap (λ b. set.contains s q || b) (contains-empty q) ∙ or_none (set.contains s q)) where
  or_none : (x : Bool) → (x || false) ≡ x
  or_none true = refl
  or_none false = refl

union_again : (a b c : Ids) → set.union (set.union a b) c ≡ set.union a (set.union b c)
union_again a b c = same_members _ _ (λ q.
    contains-union (set.union a b) c q ∙ ap (λ x. x || set.contains c q) (contains-union a b q)
    ∙ turn (set.contains a q) (set.contains b q) (set.contains c q)
    ∙ ap (λ x. set.contains a q || x) (sym (contains-union b c q)) ∙ sym (contains-union a (set.union b c) q)) where
      turn : (x y z : Bool) → ((x || y) || z) ≡ (x || (y || z))
      turn true y z = refl
      turn false y z = refl

pub one_more : (test : Entry → Bool) (sets : Entry → Ids) (all : Ids) (entries : List Entry) (i : ℕ) (e : Entry) → i < length entries → e ≡ get_or entries i e
    → set.union (set.union all (cond (test e) (sets e) set.empty)) (all_of_those test sets (drop (i + 1) entries)) ≡ set.union all (all_of_those test sets (drop i entries))
one_more test sets all entries i e within at =
    union_again all (cond (test e) (sets e) set.empty) (all_of_those test sets (drop (i + 1) entries))
    ∙ ap (λ xs. set.union all (all_of_those test sets xs)) (sym (drop_more entries i e within ∙ ap (λ x. x ∷ drop (i + 1) entries) (sym at)))

pub all_of_them : (test : Entry → Bool) (sets : Entry → Ids) (all : Ids) (entries : List Entry) (i : ℕ) → length entries ≤ i
    → set.union all (all_of_those test sets (drop i entries)) ≡ all
all_of_them test sets all entries i past = ap (λ xs. set.union all (all_of_those test sets xs)) (drop_all entries i past) ∙ none_union all where
  drop_all : (xs : List Entry) (n : ℕ) → length xs ≤ n → drop n xs ≡ []
  drop_all [] zero p = refl
  drop_all [] (suc n) p = refl
  drop_all (x ∷ xs) zero p = absurd (omega (arith, p))
  drop_all (x ∷ xs) (suc n) p = drop_all xs n (omega (arith, p))

-- one more of those that a look goes over
pub looked_at : (test : Entry → Bool) (sets : Entry → Ids) (all next : Ids) (entries : List Entry) (i : ℕ) (e : Entry) → i < length entries → e ≡ get_or entries i e
    → next ≡ set.union all (cond (test e) (sets e) set.empty) → set.union all (all_of_those test sets (drop i entries)) ≡ all_of_those test sets entries
    → set.union next (all_of_those test sets (drop (i + 1) entries)) ≡ all_of_those test sets entries
looked_at test sets all next entries i e within at is before =
    ap (λ s. set.union s (all_of_those test sets (drop (i + 1) entries))) is ∙ one_more test sets all entries i e within at ∙ before

-- a test of emptiness
pub tells_empty : (b : Bool) (s : Ids) → (b ≡ true → s ≡ set.empty) → (s ≡ set.empty → b ≡ true) → b ≡ is_empty s
tells_empty true s f g = sym (is_empty-empty s (f refl))
tells_empty false s f g = sym (is_empty-some s (λ e. false≢true (g e)))
