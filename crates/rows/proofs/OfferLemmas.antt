-- The CPUs of one weight, and the offers of all weights.
use Rattle.std.proofs.Common.{◌≡◌, ℕ, zero, suc, ◌+◌, ◌<◌, ◌≤◌, ◌-◌, Bool, true, false, cond, not, ◌&&◌, ◌==◌, nat_lt, nat_le, inl, inr, List, [], ◌∷◌, ◌++◌, filter, get_or, refl, sym, ap, ◌∙◌, arith}
use Rattle.std.proofs.lemmas.Bool.{false≢true, cases_eq, cases_lt}
use Rattle.std.proofs.lemmas.Bool.Decides.{nat_tests}
use Rattle.std.proofs.lemmas.List.FromFn.{filter_of_map_range_with_len_more}
use Rattle.std.proofs.lemmas.List.{append-nil}
use Rattle.std.specs.FinSet as set
use Rattle.cpu_set.specs.Ids.{Ids}
use Rattle.cpu_set.specs.PointwiseLaws.{same_members, contains-empty, contains-intersection, contains-difference}
use Rattle.machine.specs.Layout.{Layout}
use Rattle.machine.specs.Nodes.{node_of}
use Rattle.machine.specs.Present.{present}
use Rattle.machine.specs.Weight.{weight, AreWeights}
use Rattle.certificate.specs.declared.Offer.{Offer}
use Rattle.rows.specs.Reach.{AreInReach}
use Rattle.rows.specs.Offers.{of_weight, offer_at, has_some, offers_below, offers_by_distance}
use Rattle.rows.specs.OfferSetLemmas.{contains-of_weight}

module _ (m : Layout) (homes cpus : Ids) where
  abbrev w : ℕ → ℕ
  w c = weight m homes c

  none_of : (n : ℕ) → ((c : ℕ) → set.contains cpus c ≡ true → w c ≡ n → ⊥) → of_weight m homes cpus n ≡ set.empty
  none_of n none = same_members _ _ (λ c. contains-of_weight m homes cpus n c ∙ one c (set.contains cpus c) (w c == n) refl refl ∙ sym (contains-empty c))
    where
      one : (c : ℕ) (a b : Bool) → set.contains cpus c ≡ a → (w c == n) ≡ b → (a && b) ≡ false
      one c false b e f = refl
      one c true false e f = refl
      one c true true e f = absurd (none c e (grind (arith, nat_tests)))

  pub offers_none : (n : ℕ) → ((c : ℕ) → set.contains cpus c ≡ true → w c ≡ n → ⊥) → has_some (offer_at m homes cpus n) ≡ false
  offers_none n none = ap (λ s. nat_lt 0 (set.len s)) (none_of n none) ∙ ap (nat_lt 0) (set.len-empty _)

  -- one weight more
  pub one_more : (n : ℕ) → offers_below m homes cpus (n + 1) ≡ offers_below m homes cpus n ++ cond (has_some (offer_at m homes cpus n)) (offer_at m homes cpus n ∷ []) []
  one_more n = filter_of_map_range_with_len_more has_some (offer_at m homes cpus) 0 n n (omega arith)

  -- weights that no CPU has
  pub none_between : (n k : ℕ) → ((c : ℕ) → set.contains cpus c ≡ true → n ≤ w c → w c < n + k → ⊥) → offers_below m homes cpus (n + k) ≡ offers_below m homes cpus n
  none_between n zero none = ap (offers_below m homes cpus) (omega arith)
  none_between n (suc k) none =
      let last : n + suc k ≡ (n + k) + 1 = omega arith in
      ap (offers_below m homes cpus) last ∙ one_more (n + k)
      ∙ ap (λ b. offers_below m homes cpus (n + k) ++ cond b (offer_at m homes cpus (n + k) ∷ []) [])
      (offers_none (n + k) (λ c has is. none c has (omega (arith, is)) (omega (arith, is))))
      ∙ append-nil _
      ∙ none_between n k (λ c has above below. none c has above (omega (arith, below)))

-- the code's set of a weight is the definition's
pub are_of_weight :
    (m : Layout) (homes cpus at here : Ids) (weights : List ℕ) (n : ℕ) → AreInReach m homes cpus → AreWeights m homes weights
    → ((c : ℕ) → set.contains at c ≡ (set.contains (present m) c && (get_or weights (node_of m c) 255 == n)))
    → here ≡ set.intersection at cpus → here ≡ of_weight m homes cpus n
are_of_weight m homes cpus at here weights n reach are each is =
    is ∙ same_members _ _ (λ c.
    contains-intersection at cpus c ∙ ap (λ b. b && set.contains cpus c) (each c)
    ∙ by_cpus c (set.contains cpus c) (set.contains (present m) c) refl refl
    ∙ sym (contains-of_weight m homes cpus n c))
  where
    and_true : (b : Bool) → (b && true) ≡ b
    and_true true = refl
    and_true false = refl

    and_false : (b : Bool) → (b && false) ≡ false
    and_false true = refl
    and_false false = refl

    by_cpus : (c : ℕ) (a p : Bool) → set.contains cpus c ≡ a → set.contains (present m) c ≡ p
        → ((p && (get_or weights (node_of m c) 255 == n)) && a) ≡ (a && (weight m homes c == n))
    by_cpus c false p has there = and_false _
    by_cpus c true false has there = absurd (false≢true (sym there ∙ (reach c has).0))
    by_cpus c true true has there = and_true _ ∙ ap (λ w. w == n) (are.each c there)

-- and one that none has is not
pub passed_over : (m : Layout) (homes cpus here : Ids) (n : ℕ) (offers : List Offer) → offers ≡ offers_below m homes cpus n
    → here ≡ of_weight m homes cpus n → here ≡ set.empty → offers ≡ offers_below m homes cpus (n + 1)
passed_over m homes cpus here n offers before is none =
    before ∙ sym (one_more m homes cpus n
    ∙ ap (λ b. offers_below m homes cpus n ++ cond b (offer_at m homes cpus n ∷ []) [])
    (ap (λ s. nat_lt 0 (set.len s)) (sym is ∙ none) ∙ ap (nat_lt 0) (set.len-empty _))
    ∙ append-nil _)

-- the lesser weights are offered, and the CPUs of the others are left
pub record Offering (m : Layout) (homes cpus : Ids) (n : ℕ) (offers : List Offer) (left : Ids) : Type 0 where
  pub so_far : offers ≡ offers_below m homes cpus n
  pub left_are : (c : ℕ) → set.contains left c ≡ (set.contains cpus c && nat_le n (weight m homes c))

pub offering_start : (m : Layout) (homes cpus left : Ids) (offers : List Offer) → offers ≡ [] → left ≡ cpus → Offering m homes cpus 0 offers left
offering_start m homes cpus left offers none all = record {
  so_far = none;
  left_are = λ c. ap (λ s. set.contains s c) all ∙ from_zero (set.contains cpus c) (weight m homes c);
}
  where
    from_zero : (b : Bool) (v : ℕ) → b ≡ (b && nat_le 0 v)
    from_zero true v = grind (arith, nat_tests)
    from_zero false v = refl

-- an offer of the CPUs of a weight, if there are any
added : (m : Layout) (homes cpus here : Ids) (n v : ℕ) (offers more : List Offer) → v ≡ n → offers ≡ offers_below m homes cpus n → here ≡ of_weight m homes cpus n
    → more ≡ offers ++ filter has_some (record { weight = v; cpus = here } ∷ []) → more ≡ offers_below m homes cpus (n + 1)
added m homes cpus here n v offers more same before is are =
    are
    ∙ ap (λ u. offers ++ filter has_some (record { weight = u; cpus = here } ∷ [])) same
    ∙ ap (λ s. offers ++ filter has_some (record { weight = n; cpus = s } ∷ [])) is
    ∙ ap (λ l. l ++ filter has_some (offer_at m homes cpus n ∷ [])) before
    ∙ sym (one_more m homes cpus n)

pub offering_more : (m : Layout) (homes cpus left here less : Ids) (n v : ℕ) (offers more : List Offer) → Offering m homes cpus n offers left → v ≡ n
    → here ≡ of_weight m homes cpus n → less ≡ set.difference left here → more ≡ offers ++ filter has_some (record { weight = v; cpus = here } ∷ [])
    → Offering m homes cpus (n + 1) more less
offering_more m homes cpus left here less n v offers more h same is without are = record {
  so_far = added m homes cpus here n v offers more same h.so_far is are;
  left_are = λ c.
      ap (λ s. set.contains s c) without ∙ contains-difference left here c
      ∙ ap (λ b. b && not (set.contains here c)) (h.left_are c)
      ∙ ap (λ b. (set.contains cpus c && nat_le n (weight m homes c)) && not b) (ap (λ s. set.contains s c) is ∙ contains-of_weight m homes cpus n c)
      ∙ above (set.contains cpus c) (weight m homes c);
}
  where
    above : (b : Bool) (x : ℕ) → ((b && nat_le n x) && not (b && (x == n))) ≡ (b && nat_le (n + 1) x)
    above true x = grind (arith, nat_tests)
    above false x = refl

-- a weight that no node has is not offered
pub offering_none : (m : Layout) (homes cpus left : Ids) (weights : List ℕ) (n : ℕ) (offers : List Offer) → AreInReach m homes cpus → AreWeights m homes weights
    → ((k : ℕ) → get_or weights k 255 ≡ n → ⊥) → Offering m homes cpus n offers left → Offering m homes cpus (n + 1) offers left
offering_none m homes cpus left weights n offers reach are none h = record {
  so_far = passed_over m homes cpus (of_weight m homes cpus n) n offers h.so_far refl (none_of m homes cpus n never);
  left_are = λ c. h.left_are c ∙ by_cpus c (set.contains cpus c) refl;
}
  where
    never : (c : ℕ) → set.contains cpus c ≡ true → weight m homes c ≡ n → ⊥
    never c has is = none (node_of m c) (are.each c (reach c has).0 ∙ is)

    by_cpus : (c : ℕ) (b : Bool) → set.contains cpus c ≡ b → (b && nat_le n (weight m homes c)) ≡ (b && nat_le (n + 1) (weight m homes c))
    by_cpus c false e = refl
    by_cpus c true e = elim (cases_eq (weight m homes c) n) [ inl is ↦ absurd (never c e is) | inr other ↦ apart (weight m homes c) other ]
      where
        apart : (x : ℕ) → (x ≡ n → ⊥) → nat_le n x ≡ nat_le (n + 1) x
        apart x other = elim (cases_lt x n) [ inl lt ↦ grind (arith, nat_tests) | inr le ↦ let lt : n < x = omega (arith, le, other) in grind (arith, nat_tests) ]

-- none of the CPUs is farther than the farthest node, so what is left is offered at its weight
pub offering_end : (m : Layout) (homes cpus left : Ids) (weights : List ℕ) (n v : ℕ) (offers more : List Offer) → AreInReach m homes cpus → AreWeights m homes weights
    → n < 255 → ((k : ℕ) → get_or weights k 255 < 255 → get_or weights k 255 ≤ n) → Offering m homes cpus n offers left → v ≡ n
    → more ≡ offers ++ filter has_some (record { weight = v; cpus = left } ∷ []) → more ≡ offers_by_distance m homes cpus
unfolding offers_by_distance
offering_end m homes cpus left weights n v offers more reach are below most h same is =
    let whole : (n + 1) + (254 - n) ≡ 255 = omega (arith, below) in
    added m homes cpus left n v offers more same h.so_far rest is
    ∙ sym (none_between m homes cpus (n + 1) (254 - n) (λ c has above under. let near : weight m homes c ≤ n = low c has in omega (arith, near, above)))
    ∙ ap (offers_below m homes cpus) whole
  where
    low : (c : ℕ) → set.contains cpus c ≡ true → weight m homes c ≤ n
    low c has =
        let at : get_or weights (node_of m c) 255 ≡ weight m homes c = are.each c (reach c has).0 in
        let near : weight m homes c < 255 = (reach c has).1 in
        let le : get_or weights (node_of m c) 255 ≤ n = most (node_of m c) (omega (arith, at, near)) in
        omega (arith, at, le)

    by_cpus : (c : ℕ) (b : Bool) → set.contains cpus c ≡ b → (b && nat_le n (weight m homes c)) ≡ (b && (weight m homes c == n))
    by_cpus c false e = refl
    by_cpus c true e = last (weight m homes c) (low c e)
      where
        last : (x : ℕ) → x ≤ n → nat_le n x ≡ (x == n)
        last x le = grind (arith, nat_tests)

    rest : left ≡ of_weight m homes cpus n
    rest = same_members _ _ (λ c. h.left_are c ∙ by_cpus c (set.contains cpus c) refl ∙ sym (contains-of_weight m homes cpus n c))
