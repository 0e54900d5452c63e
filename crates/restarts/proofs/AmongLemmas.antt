-- Members of lists, and how many of them there can be.
use Rattle.std.proofs.Common.{◌≡◌, inl, inr, ℕ, suc, ◌+◌, ◌≤◌, Bool, true, false, cond, List, [], ◌∷◌, ◌++◌, length, refl, sym, ap, ◌∙◌, subst, arith}
use Rattle.std.proofs.lemmas.Bool.{false≢true}
use Rattle.std.proofs.lemmas.Option.{none-some}
use Rattle.std.proofs.lemmas.Slice.Eq.{bytes_eq-Decides}
use Rattle.std.specs.Prelude.{◌⊎◌, Some, None}
use Rattle.std.specs.List.{AllByRecursion}
use Rattle.std.specs.Map.{lookup}
use Rattle.std.specs.Str.{bytes_eq}
use Rattle.apply_plan.specs.Holders.{Pairwise}
use Rattle.node.specs.NodeState.{ContainerState}
use Rattle.restarts.specs.Left.{Left, IsAmong}

module _ {X : Type 0} where
  pub all_among : (P : X → Type 0) (xs : List X) (x : X) → AllByRecursion P xs → IsAmong xs x → P x
  all_among P [] x all among = absurd among
  all_among P (y ∷ xs) x all (inl is) = subst P (sym is) all.0
  all_among P (y ∷ xs) x all (inr later) = all_among P xs x all.1 later

  -- two members are one, or what holds of each two holds of them
  pub pairs_among : (R : X → X → Type 0) → ((x y : X) → R x y → R y x) → (xs : List X) (x y : X) → Pairwise R xs → IsAmong xs x → IsAmong xs y → (x ≡ y) ⊎ R x y
  pairs_among R turn [] x y pairs a b = absurd a
  pairs_among R turn (z ∷ xs) x y pairs (inl a) (inl b) = inl (a ∙ sym b)
  pairs_among R turn (z ∷ xs) x y pairs (inl a) (inr b) = inr (subst (λ w. R w y) (sym a) (all_among (R z) xs y pairs.0 b))
  pairs_among R turn (z ∷ xs) x y pairs (inr a) (inl b) = inr (turn y x (subst (λ w. R w x) (sym b) (all_among (R z) xs x pairs.0 a)))
  pairs_among R turn (z ∷ xs) x y pairs (inr a) (inr b) = pairs_among R turn xs x y pairs.1 a b

  pub all_push : (P : X → Type 0) (xs : List X) (y : X) → AllByRecursion P xs → P y → AllByRecursion P (xs ++ y ∷ [])
  all_push P [] y h p = (p, tt)
  all_push P (x ∷ xs) y h p = (h.0, all_push P xs y h.1 p)

pub swapped_ids : (a b : List ℕ) → bytes_eq a b ≡ false → bytes_eq b a ≡ false
swapped_ids a b f = by (bytes_eq b a) refl where
  by : (t : Bool) → bytes_eq b a ≡ t → bytes_eq b a ≡ false
  by true t = absurd (false≢true (sym f ∙ (bytes_eq-Decides a b).1 (sym ((bytes_eq-Decides b a).0 t))))
  by false t = t

pub same_id : (a b : List ℕ) → bytes_eq a b ≡ true → a ≡ b
same_id a b = (bytes_eq-Decides a b).0

-- of ids of which no two are one, and each is that of one of these, there are no more than of these
abbrev pub HasOne : List Left → List ℕ → Type 0
HasOne left id = (b : Left) × IsAmong left b × (bytes_eq id b.id ≡ true)

without : List ℕ → List Left → List Left
without id [] = []
without id (b ∷ later) = cond (bytes_eq id b.id) later (b ∷ without id later)

drop_here : (id : List ℕ) (b : Left) (later : List Left) → bytes_eq id b.id ≡ true → without id (b ∷ later) ≡ later
unfolding without
drop_here id b later t = ap (λ c. cond c later (b ∷ without id later)) t

drop_later : (id : List ℕ) (b : Left) (later : List Left) → bytes_eq id b.id ≡ false → without id (b ∷ later) ≡ b ∷ without id later
unfolding without
drop_later id b later t = ap (λ c. cond c later (b ∷ without id later)) t

one_less : (id : List ℕ) (left : List Left) → HasOne left id → length left ≡ length (without id left) + 1
one_less id [] has = absurd has.1
one_less id (b ∷ later) has = by (λ h. one_less id later h) (bytes_eq id b.id) refl has.1 where
  by : (HasOne later id → length later ≡ length (without id later) + 1) → (t : Bool) → bytes_eq id b.id ≡ t → IsAmong (b ∷ later) has.0 → length (b ∷ later) ≡ length (without id (b ∷ later)) + 1
  by less true t among = let e : length (without id (b ∷ later)) ≡ length later = ap length (drop_here id b later t) in omega (arith, e)
  by less false t (inl is) = absurd (false≢true (sym t ∙ ap (λ (x : Left). bytes_eq id x.id) (sym is) ∙ has.2))
  by less false t (inr among) =
      let e : length (without id (b ∷ later)) ≡ length (without id later) + 1 = ap length (drop_later id b later t) ∙ omega arith in
      let rest : length later ≡ length (without id later) + 1 = less (has.0, among, has.2) in
      omega (arith, e, rest)

still_has : (id other : List ℕ) (left : List Left) → bytes_eq id other ≡ false → HasOne left other → HasOne (without id left) other
still_has id other [] differ has = absurd has.1
still_has id other (b ∷ later) differ has = by (λ h. still_has id other later differ h) (bytes_eq id b.id) refl has.1 where
  by : (HasOne later other → HasOne (without id later) other) → (t : Bool) → bytes_eq id b.id ≡ t → IsAmong (b ∷ later) has.0 → HasOne (without id (b ∷ later)) other
  by still true t (inl is) =
      let same : other ≡ id = same_id other has.0.id has.2 ∙ ap (λ (x : Left). x.id) is ∙ sym (same_id id b.id t) in
      absurd (false≢true (sym differ ∙ (bytes_eq-Decides id other).1 (sym same)))
  by still true t (inr among) = subst (λ (xs : List Left). HasOne xs other) (sym (drop_here id b later t)) (has.0, among, has.2)
  by still false t (inl is) = subst (λ (xs : List Left). HasOne xs other) (sym (drop_later id b later t)) (has.0, inl is, has.2)
  by still false t (inr among) =
      let rest = still (has.0, among, has.2) in
      subst (λ (xs : List Left). HasOne xs other) (sym (drop_later id b later t)) (rest.0, inr rest.1, rest.2)

pub no_more_ids : (ids : List (List ℕ)) (left : List Left) → Pairwise (λ a b. bytes_eq a b ≡ false) ids → AllByRecursion (HasOne left) ids → length ids ≤ length left
no_more_ids [] left apart has = omega arith
no_more_ids (id ∷ ids) left apart has =
    let rest : length ids ≤ length (without id left) = no_more_ids ids (without id left) apart.1 (both ids apart.0 has.1) in
    let less : length left ≡ length (without id left) + 1 = one_less id left has.0 in
    omega (arith, rest, less) where
      both : (others : List (List ℕ)) → AllByRecursion (λ b. bytes_eq id b ≡ false) others → AllByRecursion (HasOne left) others → AllByRecursion (HasOne (without id left)) others
      both [] a b = tt
      both (other ∷ others) a b = (still_has id other left a.0 b.0, both others a.1 b.1)

-- containers by their ids
abbrev pub Entries : Type 0
Entries = List (List ℕ × ContainerState)

-- their ids
abbrev pub ids_of : Entries → List (List ℕ)
ids_of [] = []
ids_of (e ∷ es) = e.0 ∷ ids_of es

pub long_ids : (es : Entries) → length (ids_of es) ≡ length es
long_ids [] = refl
long_ids (e ∷ es) = ap (λ n. suc n) (long_ids es)

module _ (id : List ℕ) where
  pub split : {P : Type 0} (x : List ℕ × ContainerState) → (bytes_eq id x.0 ≡ true → P) → (bytes_eq id x.0 ≡ false → P) → P
  split {P} x passes fails = by (bytes_eq id x.0) refl where
    by : (b : Bool) → bytes_eq id x.0 ≡ b → P
    by true t = passes t
    by false t = fails t

  here : (x : List ℕ × ContainerState) (xs : Entries) → bytes_eq id x.0 ≡ true → lookup (bytes_eq id) (x ∷ xs) ≡ Some x.1
  here x xs t = ap (λ b. cond b (Some x.1) (lookup (bytes_eq id) xs)) t

  later : (x : List ℕ × ContainerState) (xs : Entries) → bytes_eq id x.0 ≡ false → lookup (bytes_eq id) (x ∷ xs) ≡ lookup (bytes_eq id) xs
  later x xs t = ap (λ b. cond b (Some x.1) (lookup (bytes_eq id) xs)) t

  pub other_ids : (xs : Entries) → lookup (bytes_eq id) xs ≡ None → AllByRecursion (λ e. bytes_eq id e.0 ≡ false) xs
  other_ids [] e = tt
  other_ids (x ∷ xs) e = split x
      (λ t. absurd (none-some x.1 (sym e ∙ here x xs t)))
      (λ t. (t, other_ids xs (sym (later x xs t) ∙ e)))

  -- what is found there is of one with this id
  pub found : (P : List ℕ × ContainerState → Type 0) (xs : Entries) (c : ContainerState) → lookup (bytes_eq id) xs ≡ Some c → AllByRecursion P xs → P (id, c)
  found P [] c e h = absurd (none-some c e)
  found P (x ∷ xs) c e h = split x
      (λ t.
      let same : x.1 ≡ c = let both : Some x.1 ≡ Some c = sym (here x xs t) ∙ e in cc in
      subst (λ y. P (y, c)) (sym (same_id id x.0 t)) (subst (λ (y : ContainerState). P (x.0, y)) same h.0))
      (λ t. found P xs c (sym (later x xs t) ∙ e) h.1)

  -- one more behind them is found where none was, and nothing else is
  pub found_last : (xs : Entries) (c : ContainerState) → lookup (bytes_eq id) xs ≡ None → lookup (bytes_eq id) (xs ++ (id, c) ∷ []) ≡ Some c
  found_last [] c e = here (id, c) [] ((bytes_eq-Decides id id).1 refl)
  found_last (x ∷ xs) c e = split x
      (λ t. absurd (none-some x.1 (sym e ∙ here x xs t)))
      (λ t. later x (xs ++ (id, c) ∷ []) t ∙ found_last xs c (sym (later x xs t) ∙ e))

  pub found_still : (xs : Entries) (c : ContainerState) (y : List ℕ × ContainerState) → lookup (bytes_eq id) xs ≡ Some c → lookup (bytes_eq id) (xs ++ y ∷ []) ≡ Some c
  found_still [] c y e = absurd (none-some c e)
  found_still (x ∷ xs) c y e = split x
      (λ t. here x (xs ++ y ∷ []) t ∙ sym (here x xs t) ∙ e)
      (λ t. later x (xs ++ y ∷ []) t ∙ found_still xs c y (sym (later x xs t) ∙ e))
