-- The test that no number is in the sets of two of some things, taken one after another.
use Rattle.std.proofs.Common.{◌≡◌, ℕ, ◌+◌, ◌<◌, Bool, true, false, ◌&&◌, ◌||◌, List, [], ◌∷◌, ◌++◌, length, take, drop, get_or, refl, sym, ap, ◌∙◌, take-append-drop}
use Rattle.std.specs.List.{list_any, list_all}
use Rattle.std.specs.FinSet as set
use Rattle.std.specs.Ordering.{nat_cmp}
use Rattle.std.proofs.lemmas.Bool.{eqb-true, false_from_ne_true, true_from_ne_false, both_ways, and_from, or_left, or_right}
use Rattle.std.proofs.lemmas.List.{take_more}
use Rattle.std.proofs.lemmas.List.Folds.{list_all-append, list_any_more}
use Rattle.cpu_set.specs.Ids.{Ids, IsDisjoint}
use Rattle.cpu_set.specs.PointwiseLaws.{contains-union}
use Rattle.cpu_set.specs.SetLaws.{meet_empty-IsDisjoint, IsDisjoint-meet_empty}
use Rattle.certificate.specs.Limits.{is_disjoint, are_apart}
use Rattle.certificate.specs.TestLaws.{true_left, true_right}
use Rattle.std.proofs.Math.Bool.{and-false}

pub is_disjoint-true : (s t : Ids) → IsDisjoint s t → is_disjoint s t ≡ true
is_disjoint-true s t apart = rw (IsDisjoint-meet_empty s t apart, set.len-empty nat_cmp) refl

pub is_disjoint-says : (s t : Ids) → is_disjoint s t ≡ true → IsDisjoint s t
is_disjoint-says s t e = meet_empty-IsDisjoint s t (set.empty_of_len (set.intersection s t) (eqb-true _ _ e))

module _ {A : Type 0} (set_of : A → Ids) where
  -- the number is in the set of one of them
  abbrev pub is_in_one : List A → ℕ → Bool
  is_in_one xs c = list_any (λ x. set.contains (set_of x) c) xs

  -- each one's set is disjoint from this one
  abbrev is_clear : List A → Ids → Bool
  is_clear xs s = list_all (λ x. is_disjoint (set_of x) s) xs

  clear_says :
      (xs : List A) (s : Ids) → is_clear xs s ≡ true → (c : ℕ) → is_in_one xs c ≡ true → set.contains s c ≡ true → ⊥
  clear_says [] s clear c one here = both_ways false refl one
  clear_says (x ∷ xs) s clear c one here =
      by_cases (set.contains (set_of x) c) refl one (λ more. clear_says xs s (true_right _ _ clear) c more here)
    where
      by_cases : (b : Bool) → set.contains (set_of x) c ≡ b → (b || is_in_one xs c) ≡ true → (is_in_one xs c ≡ true → ⊥) → ⊥
      by_cases true e one rest = is_disjoint-says (set_of x) s (true_left _ _ clear) c e here
      by_cases false e one rest = rest one

  clear_true :
      (xs : List A) (s : Ids) → ((c : ℕ) → is_in_one xs c ≡ true → set.contains s c ≡ true → ⊥) → is_clear xs s ≡ true
  clear_true [] s never = refl
  clear_true (x ∷ xs) s never =
      and_from _ _ (is_disjoint-true (set_of x) s (λ c p q. never c (or_left _ _ p) q))
      (clear_true xs s (λ c p q. never c (or_right _ _ p) q))

  regroup : (a b c d : Bool) → ((a && (b && true)) && (c && d)) ≡ ((a && c) && (b && d))
  regroup true true c d = refl
  regroup true false true d = refl
  regroup true false false d = refl
  regroup false b c d = refl

  are_apart_push : (xs : List A) (x : A) → are_apart set_of (xs ++ x ∷ []) ≡ (are_apart set_of xs && is_clear xs (set_of x))
  are_apart_push [] x = refl
  are_apart_push (y ∷ xs) x =
      rw (list_all-append (λ z. is_disjoint (set_of y) (set_of z)) xs (x ∷ []), are_apart_push xs x)
      (regroup (list_all (λ z. is_disjoint (set_of y) (set_of z)) xs) (is_disjoint (set_of y) (set_of x)) (are_apart set_of xs) (is_clear xs (set_of x)))

  front_fails : (a b c d : Bool) → (a && b) ≡ false → (b ≡ false → d ≡ false) → ((a && c) && d) ≡ false
  front_fails true b true d e f = f e
  front_fails true b false d e f = refl
  front_fails false b c d e f = refl

  are_apart_front : (xs ys : List A) → are_apart set_of xs ≡ false → are_apart set_of (xs ++ ys) ≡ false
  are_apart_front [] ys e = absurd (both_ways true e refl)
  are_apart_front (x ∷ xs) ys e =
      rw (list_all-append (λ z. is_disjoint (set_of x) (set_of z)) xs ys)
      (front_fails (list_all (λ z. is_disjoint (set_of x) (set_of z)) xs) (are_apart set_of xs) _ _ e (are_apart_front xs ys))

  -- one more, whose set is disjoint from all the numbers seen so far
  pub are_apart_more :
      (xs : List A) (k : ℕ) (x : A) (seen : Ids) → k < length xs → x ≡ get_or xs k x
      → ((c : ℕ) → set.contains seen c ≡ is_in_one (take k xs) c) → are_apart set_of (take k xs) ≡ true → IsDisjoint seen (set_of x)
      → are_apart set_of (take (k + 1) xs) ≡ true
  are_apart_more xs k x seen lt is same apart clear =
      rw (take_more xs k x lt, ← is, are_apart_push (take k xs) x)
      (and_from _ _ apart (clear_true (take k xs) (set_of x) (λ c p q. clear c (same c ∙ p) q)))

  -- one more, whose set has a number seen before: they are not apart, however many follow
  pub are_apart_stop :
      (xs : List A) (k : ℕ) (x : A) (seen : Ids) → k < length xs → x ≡ get_or xs k x
      → ((c : ℕ) → set.contains seen c ≡ is_in_one (take k xs) c) → (IsDisjoint seen (set_of x) → ⊥)
      → are_apart set_of xs ≡ false
  are_apart_stop xs k x seen lt is same meets =
      let never : is_clear (take k xs) (set_of x) ≡ false =
      false_from_ne_true _ (λ clear. meets (λ c p q. clear_says (take k xs) (set_of x) clear c (sym (same c) ∙ p) q)) in
      let front : are_apart set_of (take (k + 1) xs) ≡ false =
      rw (take_more xs k x lt, ← is, are_apart_push (take k xs) x, never) (and-false _) in
      ap (are_apart set_of) (sym (take-append-drop (k + 1) xs)) ∙ are_apart_front (take (k + 1) xs) (drop (k + 1) xs) front

  -- the numbers seen, with those of one more
  pub is_in_one_more :
      (xs : List A) (k : ℕ) (x : A) (seen : Ids) → k < length xs → x ≡ get_or xs k x
      → ((c : ℕ) → set.contains seen c ≡ is_in_one (take k xs) c)
      → (c : ℕ) → set.contains (set.union seen (set_of x)) c ≡ is_in_one (take (k + 1) xs) c
  is_in_one_more xs k x seen lt is same c =
      contains-union seen (set_of x) c ∙ ap (λ b. b || set.contains (set_of x) c) (same c)
      ∙ ap (λ y. is_in_one (take k xs) c || set.contains (set_of y) c) is
      ∙ sym (list_any_more (λ y. set.contains (set_of y) c) xs k x lt)

  -- a number of one of them is in none before it
  pub apart_at :
      (xs : List A) (k : ℕ) (x : A) → k < length xs → x ≡ get_or xs k x → are_apart set_of xs ≡ true
      → (c : ℕ) → set.contains (set_of x) c ≡ true → is_in_one (take k xs) c ≡ false
  apart_at xs k x lt is apart c here =
      let front : are_apart set_of (take (k + 1) xs) ≡ true =
      true_from_ne_false _ (λ fails. both_ways _ (are_apart_front (take (k + 1) xs) (drop (k + 1) xs) fails) (ap (are_apart set_of) (take-append-drop (k + 1) xs) ∙ apart)) in
      let parts : (are_apart set_of (take k xs) && is_clear (take k xs) (set_of x)) ≡ true =
      sym (are_apart_push (take k xs) x) ∙ ap (λ y. are_apart set_of (take k xs ++ y ∷ [])) is ∙ ap (are_apart set_of) (sym (take_more xs k x lt)) ∙ front in
      false_from_ne_true _ (λ one. clear_says (take k xs) (set_of x) (true_right _ _ parts) c one here)
