-- What a look through a list finds, and facts on each element and on each two.
use Rattle.std.proofs.Common.{◌≡◌, ℕ, zero, suc, ◌+◌, ◌*◌, ◌<◌, ◌≤◌, get_or, Bool, true, false, List, [], ◌∷◌, ◌++◌, length, refl, sym, ap, ◌∙◌, subst, arith}
use Rattle.std.proofs.lemmas.Bool.{false≢true}
use Rattle.std.proofs.lemmas.Option.{none-some}
use Rattle.std.proofs.lemmas.List.Sums.{sum_by-cons}
use Rattle.std.specs.Prelude.{cond, find, map, is_none, Some, None}
use Rattle.std.specs.List.{AllByRecursion, sum_by}
use Rattle.apply_plan.specs.Holders.{Pairwise}

module _ {X : Type 0} where
  -- of each that P holds of, Q holds
  pub all_map : (P Q : X → Type 0) → ((x : X) → P x → Q x) → (xs : List X) → AllByRecursion P xs → AllByRecursion Q xs
  all_map P Q f [] h = tt
  all_map P Q f (x ∷ xs) h = (f x h.0, all_map P Q f xs h.1)

  pub all_map2 : (P R Q : X → Type 0) → ((x : X) → P x → R x → Q x) → (xs : List X) → AllByRecursion P xs → AllByRecursion R xs → AllByRecursion Q xs
  all_map2 P R Q f [] h i = tt
  all_map2 P R Q f (x ∷ xs) h i = (f x h.0 i.0, all_map2 P R Q f xs h.1 i.1)

  pub all_of : (P : X → Type 0) → ((x : X) → P x) → (xs : List X) → AllByRecursion P xs
  all_of P f [] = tt
  all_of P f (x ∷ xs) = (f x, all_of P f xs)

  pub all_behind : (P : X → Type 0) (xs ys : List X) → AllByRecursion P (xs ++ ys) → AllByRecursion P ys
  all_behind P [] ys h = h
  all_behind P (x ∷ xs) ys h = all_behind P xs ys h.1

  pub all_at : (P : X → Type 0) (xs : List X) (i : ℕ) (x : X) → AllByRecursion P xs → i < length xs → x ≡ get_or xs i x → P x
  all_at P [] i x h within is = absurd (omega arith)
  all_at P (y ∷ ys) zero x h within is = subst P (sym is) h.0
  all_at P (y ∷ ys) (suc i) x h within is = all_at P ys i x h.1 (omega arith) is

  -- of each two that R holds of, and that P holds of one by one, S holds
  pub pairs_map : (P : X → Type 0) (R S : X → X → Type 0) → ((x y : X) → P x → P y → R x y → S x y) → (xs : List X) → AllByRecursion P xs → Pairwise R xs
      → Pairwise S xs
  pairs_map P R S f [] h i = tt
  pairs_map P R S f (x ∷ xs) h i = (all_map2 P (R x) (S x) (λ y. f x y h.0) xs h.1 i.0, pairs_map P R S f xs h.1 i.1)

  pub pairs_both : (R S T : X → X → Type 0) → ((x y : X) → R x y → S x y → T x y) → (xs : List X) → Pairwise R xs → Pairwise S xs → Pairwise T xs
  pairs_both R S T f [] h i = tt
  pairs_both R S T f (x ∷ xs) h i = (all_map2 (R x) (S x) (T x) (f x) xs h.0 i.0, pairs_both R S T f xs h.1 i.1)

  pub sum_same : (f g : X → ℕ) (xs : List X) → AllByRecursion (λ a. f a ≡ g a) xs → sum_by f xs ≡ sum_by g xs
  sum_same f g [] h = refl
  sum_same f g (x ∷ xs) h = let e : f x ≡ g x = h.0 in let rest : sum_by f xs ≡ sum_by g xs = sum_same f g xs h.1 in omega (arith, sum_by-cons f x xs, sum_by-cons g x xs)

  pub sum_le : (f g : X → ℕ) (xs : List X) → AllByRecursion (λ a. f a ≤ g a) xs → sum_by f xs ≤ sum_by g xs
  sum_le f g [] h = omega arith
  sum_le f g (x ∷ xs) h = let e : f x ≤ g x = h.0 in let rest : sum_by f xs ≤ sum_by g xs = sum_le f g xs h.1 in omega (arith, sum_by-cons f x xs, sum_by-cons g x xs)

  module _ (test : X → Bool) where
    -- the first of a list passes and is found, or it fails and is passed over
    here : (x y : X) (xs : List X) → test x ≡ true → find test (x ∷ xs) ≡ Some y → x ≡ y
    here x y xs t e = cc (ap (λ b. cond b (Some x) (find test xs)) t, e)

    later : (x : X) (xs : List X) → test x ≡ false → find test (x ∷ xs) ≡ find test xs
    later x xs t = ap (λ b. cond b (Some x) (find test xs)) t

    split : {P : Type 0} (x : X) → (test x ≡ true → P) → (test x ≡ false → P) → P
    split {P} x passes fails = by (test x) refl where
      by : (b : Bool) → test x ≡ b → P
      by true t = passes t
      by false t = fails t

    -- what is found passes, and what holds of each holds of it
    pub find_passes : (xs : List X) (y : X) → find test xs ≡ Some y → test y ≡ true
    find_passes [] y e = absurd (none-some y e)
    find_passes (x ∷ xs) y e = split x (λ t. ap test (sym (here x y xs t e)) ∙ t) (λ t. find_passes xs y (sym (later x xs t) ∙ e))

    pub find_among : (P : X → Type 0) (xs : List X) (y : X) → AllByRecursion P xs → find test xs ≡ Some y → P y
    find_among P [] y h e = absurd (none-some y e)
    find_among P (x ∷ xs) y h e = split x (λ t. subst P (here x y xs t e) h.0) (λ t. find_among P xs y h.1 (sym (later x xs t) ∙ e))

    -- where nothing is found, nothing passes
    pub find_none : (xs : List X) → find test xs ≡ None → AllByRecursion (λ x. test x ≡ false) xs
    find_none [] e = tt
    find_none (x ∷ xs) e =
        split x (λ t. absurd (none-some x (sym e ∙ ap (λ b. cond b (Some x) (find test xs)) t))) (λ t. (t, find_none xs (sym (later x xs t) ∙ e)))

    pub none_found : (xs : List X) → AllByRecursion (λ x. test x ≡ false) xs → find test xs ≡ None
    none_found [] h = refl
    none_found (x ∷ xs) h = later x xs h.0 ∙ none_found xs h.1

    -- of two lists one after the other nothing is found where nothing is in either
    pub none_in_both : (xs ys : List X) → is_none (find test ys) ≡ true → is_none (find test (xs ++ ys)) ≡ is_none (find test xs)
    none_in_both [] ys none = none
    none_in_both (x ∷ xs) ys none =
        split x (λ t. ap is_none (passes (xs ++ ys) t ∙ sym (passes xs t))) (λ t. ap is_none (later x (xs ++ ys) t) ∙ none_in_both xs ys none ∙ sym (ap is_none (later x xs t)))
      where
        passes : (zs : List X) → test x ≡ true → find test (x ∷ zs) ≡ Some x
        passes zs t = ap (λ b. cond b (Some x) (find test zs)) t

    pub some_in_later : (xs ys : List X) → is_none (find test ys) ≡ false → is_none (find test (xs ++ ys)) ≡ false
    some_in_later [] ys some = some
    some_in_later (x ∷ xs) ys some =
        split x (λ t. ap (λ b. is_none (cond b (Some x) (find test (xs ++ ys)))) t) (λ t. ap is_none (later x (xs ++ ys) t) ∙ some_in_later xs ys some)

    module _ (same : X → X → Bool) (swap : (a b : X) → same a b ≡ same b a) where
      -- what is found is the only one that is the same as it
      pub found_alone : (xs : List X) (y : X) → Pairwise (λ a b. same a b ≡ false) xs → find test xs ≡ Some y → AllByRecursion (λ a. same y a ≡ true → a ≡ y) xs
      found_alone [] y h e = tt
      found_alone (x ∷ xs) y h e =
          split x
          (λ t. (
            (λ _. here x y xs t e),
            all_map (λ a. same x a ≡ false) (λ a. same y a ≡ true → a ≡ y)
                (λ a f d. absurd (false≢true (sym f ∙ ap (λ z. same z a) (here x y xs t e) ∙ d))) xs h.0,
          ))
          (λ t. (
            (λ d. absurd (false≢true (sym (find_among (λ a. same x a ≡ false) xs y h.0 (sym (later x xs t) ∙ e)) ∙ swap x y ∙ d))),
            found_alone xs y h.1 (sym (later x xs t) ∙ e),
          ))

      -- a sum in which the summand of what is found is one less
      pub sum_lowered : (f g : X → ℕ) (xs : List X) (y : X) → Pairwise (λ a b. same a b ≡ false) xs → find test xs ≡ Some y → f y ≡ g y + 1
          → ((a : X) → same y a ≡ false → f a ≡ g a) → sum_by f xs ≡ sum_by g xs + 1
      sum_lowered f g [] y h e less others = absurd (none-some y e)
      sum_lowered f g (x ∷ xs) y h e less others = split x
          (λ t.
          let at : x ≡ y = here x y xs t e in
          let first : f x ≡ g x + 1 = ap f at ∙ less ∙ ap (λ z. g z + 1) (sym at) in
          let rest : sum_by f xs ≡ sum_by g xs = sum_same f g xs (all_map (λ a. same x a ≡ false) (λ a. f a ≡ g a) (λ a d. others a (ap (λ z. same z a) (sym at) ∙ d)) xs h.0) in
          omega (arith, sum_by-cons f x xs, sum_by-cons g x xs))
          (λ t.
          let on = sym (later x xs t) ∙ e in
          let first : f x ≡ g x = others x (swap y x ∙ find_among (λ a. same x a ≡ false) xs y h.0 on) in
          let rest : sum_by f xs ≡ sum_by g xs + 1 = sum_lowered f g xs y h.1 on less others in
          omega (arith, sum_by-cons f x xs, sum_by-cons g x xs))

-- facts on what the elements are mapped to
module _ {X Y : Type 0} (f : X → Y) where
  pub all_of_map : (P : Y → Type 0) (xs : List X) → AllByRecursion (λ a. P (f a)) xs → AllByRecursion P (map f xs)
  all_of_map P [] h = tt
  all_of_map P (x ∷ xs) h = (h.0, all_of_map P xs h.1)

  pub of_all_map : (P : Y → Type 0) (xs : List X) → AllByRecursion P (map f xs) → AllByRecursion (λ a. P (f a)) xs
  of_all_map P [] h = tt
  of_all_map P (x ∷ xs) h = (h.0, of_all_map P xs h.1)

  pub pairs_of_map : (R : Y → Y → Type 0) (xs : List X) → Pairwise (λ a b. R (f a) (f b)) xs → Pairwise R (map f xs)
  pairs_of_map R [] h = tt
  pairs_of_map R (x ∷ xs) h = (all_of_map (R (f x)) xs h.0, pairs_of_map R xs h.1)

  pub of_pairs_map : (R : Y → Y → Type 0) (xs : List X) → Pairwise R (map f xs) → Pairwise (λ a b. R (f a) (f b)) xs
  of_pairs_map R [] h = tt
  of_pairs_map R (x ∷ xs) h = (of_all_map (R (f x)) xs h.0, of_pairs_map R xs h.1)

-- a sum of summands of which none is above a bound
pub sum_bounded : {X : Type 0} (f : X → ℕ) (most : ℕ) (xs : List X) → ((x : X) → f x ≤ most) → sum_by f xs ≤ most * length xs
sum_bounded f most [] h = omega arith
sum_bounded f most (x ∷ xs) h =
    let first : f x ≤ most = h x in
    let rest : sum_by f xs ≤ most * length xs = sum_bounded f most xs h in
    grind (arith, sum_by-cons f x xs)
