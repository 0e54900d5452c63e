-- What offers know of themselves, as they come.
use Rattle.certificate.specs.Limits.{is_rising}
use Rattle.certificate.specs.RisingOffers.{AreRising}
use Rattle.certificate.specs.declared.rows.Offer.{Offer}
use Rattle.std.proofs.Common.{◌↔◌, Bool, List, [], ap, arith, get_or, inl, inr, length, refl, subst, true, ℕ, ◌++◌, ◌+◌, ◌-◌, ◌<◌, ◌∷◌, ◌≡◌, ◌≤◌}
use Rattle.std.proofs.lemmas.Bool.{cases_eq, cases_lt}
use Rattle.std.proofs.lemmas.List.{get_or_append_left, get_or_push, length_push}

-- they are said to rise where they do, and the bound is right above the last weight
pub record AreTold (offers : List Offer) (is_rising : Bool) (least : ℕ) : Type 0 where
  pub rising : (is_rising ≡ true) ↔ AreRising offers
  pub none : length offers ≡ 0 → least ≡ 0
  pub last : (i : ℕ) (d : Offer) → i + 1 ≡ length offers → least ≡ (get_or offers i d).weight + 1

pub rising_none : (true ≡ true) ↔ AreRising []
rising_none = (λ on i j d before lt. absurd (omega (arith, lt)), λ up. refl)

-- all of them are below the bound where they rise
below : (offers : List Offer) (least : ℕ) → AreTold offers true least → (i : ℕ) (d : Offer) → i < length offers → (get_or offers i d).weight < least
below offers least told i d lt = elim (cases_eq (i + 1) (length offers)) [
  | inl e ↦ omega (arith, told.last i d e)
  | inr ne ↦ omega (arith, told.last (length offers - 1) d (omega (arith, lt)), told.rising.0 refl i (length offers - 1) d (omega (arith, lt, ne)) (omega (arith, lt)))
]

-- one offer more; they still rise where they did and it weighs at least the bound
pub told_more :
    (offers : List Offer) (o : Offer) (is_rising still : Bool) (least : ℕ) → AreTold offers is_rising least
    → (still ≡ true → (is_rising ≡ true) × (least ≤ o.weight)) → (is_rising ≡ true → least ≤ o.weight → still ≡ true)
    → ((still ≡ true) ↔ AreRising (offers ++ o ∷ []))
told_more offers o is_rising still least told rises stays =
    (λ on. up (rises on).0 (rises on).1, λ all. stays (told.rising.1 (front all)) (above all))
  where
    earlier : (i : ℕ) (d : Offer) → i < length offers → get_or (offers ++ o ∷ []) i d ≡ get_or offers i d
    earlier i d lt = get_or_append_left offers (o ∷ []) d i lt

    last : (i : ℕ) (d : Offer) → length offers ≡ i → get_or (offers ++ o ∷ []) i d ≡ o
    last i d e = get_or_push offers o d i e

    up : is_rising ≡ true → least ≤ o.weight → AreRising (offers ++ o ∷ [])
    up on over i j d before lt = elim (cases_lt j (length offers)) [
      | inl b ↦ rw (earlier i d (omega (arith, b, before)), earlier j d b) (told.rising.0 on i j d before b)
      | inr a ↦ rw (earlier i d (omega (arith, lt, before, length_push offers o)), last j d (omega (arith, a, lt, length_push offers o)))
          (omega (arith, below offers least (subst (λ b. AreTold offers b least) on told) i d (omega (arith, lt, before, length_push offers o)), over))
    ]

    front : AreRising (offers ++ o ∷ []) → AreRising offers
    front all i j d before lt = rw (← earlier i d (omega (arith, before, lt)), ← earlier j d lt) (all i j d before (omega (arith, lt, length_push offers o)))

    above : AreRising (offers ++ o ∷ []) → least ≤ o.weight
    above all = elim (cases_eq (length offers) 0) [
      | inl e ↦ omega (arith, told.none e)
      | inr ne ↦ (let k = length offers - 1 in
          omega (
            arith,
            told.last k o (omega (arith, ne)),
            ap (λ (p : Offer). p.weight) (earlier k o (omega (arith, ne))),
            ap (λ (p : Offer). p.weight) (last (length offers) o refl),
            all k (length offers) o (omega (arith, ne)) (omega (arith, length_push offers o)),
          ))
    ]
