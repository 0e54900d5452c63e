-- CPUs of one weight, offer by offer.
use Rattle.std.proofs.Common.{◌≡◌, ℕ, zero, suc, ◌+◌, ◌<◌, ◌≤◌, Bool, true, false, cond, not, ◌&&◌, ◌||◌, ◌==◌, Option, Some, None, option_map, is_some, List, [], ◌∷◌, length, take, take_all, drop, get_or, refl, sym, ap, ◌∙◌, inl, inr, arith}
use Rattle.std.specs.Option.{option_or}
use Rattle.std.specs.FinSet as set
use Rattle.std.proofs.Math.Numerals.{add-one}
use Rattle.std.proofs.lemmas.Bool.{cases_eq, cases_lt, eqb-true, eq-eqb, ne_eqb, true≢false, false≢true, and_from, or_right}
use Rattle.std.proofs.lemmas.List.{get_or_default, take_more, take-append-drop}
use Rattle.std.proofs.lemmas.List.Folds.{find-append}
use Rattle.certificate.specs.Weight.{weight_in}
use Rattle.certificate.specs.Limits.{offers_fit}
use Rattle.certificate.specs.declared.rows.Offer.{Offer}
use Rattle.certificate.specs.ApartTestLemmas.{apart_at}
use Rattle.certificate.specs.OfferLaws.{offers_apart}
use Rattle.certificate.specs.OfferLemmas.{is_some-find}
use Rattle.twins.specs.IsPart.{is_same_weight}
use Rattle.certificate.specs.RisingOffers.{AreRising}
use Rattle.std.proofs.Math.Bool.{or-false}

-- an offer at a place, by any default
pub at_place : (offers : List Offer) (k : ℕ) (d : Offer) → k < length offers → get_or offers k d ≡ get_or offers k (get_or offers k d)
at_place offers k d lt = get_or_default offers k d (get_or offers k d) lt

-- the test says what its name does
pub same_says : (v w : Option ℕ) → is_same_weight v w ≡ true → v ≡ w
same_says None None e = refl
same_says (Some v) (Some w) e = ap Some (eqb-true v w e)
same_says (Some v) None e = absurd (false≢true e)
same_says None (Some w) e = absurd (false≢true e)

eqb_itself : (n : ℕ) → (n == n) ≡ true
eqb_itself n = eq-eqb n n refl

pub same_itself : (v : Option ℕ) → is_same_weight v v ≡ true
same_itself None = refl
same_itself (Some v) = eqb_itself v

pub same_none : (v : Option ℕ) → is_same_weight None v ≡ not (is_some v)
same_none None = refl
same_none (Some v) = refl

one_same :
    (w : ℕ) (o : Offer) (b : Bool) (before : Option Offer) → (b ≡ true → is_some before ≡ false)
    → is_same_weight (Some w) (option_map (λ (p : Offer). p.weight) (option_or before (cond b (Some o) None)))
    ≡ (is_same_weight (Some w) (option_map (λ (p : Offer). p.weight) before) || (b && (w == o.weight)))
one_same w o true None apart = refl
one_same w o true (Some p) apart = absurd (true≢false (apart refl))
one_same w o false None apart = refl
one_same w o false (Some p) apart = sym (or-false (w == p.weight))

-- one offer more
pub same_more :
    (w : ℕ) (offers : List Offer) (k : ℕ) (o : Offer) (c : ℕ) → k < length offers → o ≡ get_or offers k o → offers_fit offers ≡ true
    → is_same_weight (Some w) (weight_in (take (k + 1) offers) c)
    ≡ (is_same_weight (Some w) (weight_in (take k offers) c) || (set.contains o.cpus c && (w == o.weight)))
same_more w offers k o c lt is fit =
    rw (take_more offers k o lt, ← is, find-append (λ (p : Offer). set.contains p.cpus c) (take k offers) (o ∷ []))
    (one_same w o (set.contains o.cpus c) _ (λ has.
    is_some-find (λ (p : Offer). set.contains p.cpus c) (take k offers) ∙ apart_at (λ (p : Offer). p.cpus) offers k o lt is (offers_apart offers fit) c has))

with_match : (v w : ℕ) (a b c : Bool) → w ≡ v → a ≡ c → (a || b) ≡ (c || (b && (v == w)))
with_match v w a true c e same = rw (same, e, eqb_itself) refl
with_match v w a false c e same = rw same refl

-- an offer of the weight adds its CPUs
pub same_with :
    (w : ℕ) (offers : List Offer) (k : ℕ) (o : Offer) (found : Bool) (c : ℕ) → k < length offers → o ≡ get_or offers k o → offers_fit offers ≡ true
    → o.weight ≡ w → found ≡ is_same_weight (Some w) (weight_in (take k offers) c)
    → (found || set.contains o.cpus c) ≡ is_same_weight (Some w) (weight_in (take (k + 1) offers) c)
same_with w offers k o found c lt is fit weighs same =
    with_match w o.weight found (set.contains o.cpus c) _ weighs same ∙ sym (same_more w offers k o c lt is fit)

eqb_differ : (v w : ℕ) → (w ≡ v → ⊥) → (v == w) ≡ false
eqb_differ v w differ = ne_eqb v w (λ e. differ (sym e))

without_match : (v w : ℕ) (b c : Bool) → (w ≡ v → ⊥) → c ≡ (c || (b && (v == w)))
without_match v w b c differ = rw (eqb_differ v w differ) (keep b c)
  where
    keep : (b c : Bool) → c ≡ (c || (b && false))
    keep true c = sym (or-false c)
    keep false c = sym (or-false c)

-- an offer of another weight adds none
pub same_without :
    (w : ℕ) (offers : List Offer) (k : ℕ) (o : Offer) (found : Bool) (c : ℕ) → k < length offers → o ≡ get_or offers k o → offers_fit offers ≡ true
    → (o.weight ≡ w → ⊥) → found ≡ is_same_weight (Some w) (weight_in (take k offers) c)
    → found ≡ is_same_weight (Some w) (weight_in (take (k + 1) offers) c)
same_without w offers k o found c lt is fit differ same =
    same ∙ without_match w o.weight (set.contains o.cpus c) _ differ ∙ sym (same_more w offers k o c lt is fit)

-- a CPU that is in none of the first offers, and not in one more
pub none_more :
    (offers : List Offer) (k : ℕ) (o : Offer) (c : ℕ) → k < length offers → o ≡ get_or offers k o → set.contains o.cpus c ≡ false → weight_in (take k offers) c ≡ None
    → weight_in (take (k + 1) offers) c ≡ None
none_more offers k o c lt is off none =
    rw (take_more offers k o lt, ← is, find-append (λ (p : Offer). set.contains p.cpus c) (take k offers) (o ∷ []), off) (still _ none)
  where
    still : (before : Option Offer) → option_map (λ (p : Offer). p.weight) before ≡ None → option_map (λ (p : Offer). p.weight) (option_or before None) ≡ None
    still None e = refl
    still (Some p) e = e

-- by rising weight, the CPUs of an offer are all of its weight
module _ (offers : List Offer) (k : ℕ) (o : Offer) (q : ℕ) (lt : k < length offers) (is : o ≡ get_or offers k o) (fit : offers_fit offers ≡ true) (rising : AreRising offers) where
  differ : (n : ℕ) → n < length offers → (n ≡ k → ⊥) → (get_or offers n o).weight ≡ o.weight → ⊥
  differ n in_n ne e =
      let own : o.weight ≡ (get_or offers k o).weight = ap (λ (p : Offer). p.weight) is in
      elim (cases_lt n k) [
        | inl before ↦ omega (arith, rising n k o before lt, own, e)
        | inr after ↦ omega (arith, rising k n o (omega (arith, after, ne)) in_n, own, e)
      ]

  without : (n : ℕ) (found : Bool) → n < length offers → (n ≡ k → ⊥) → found ≡ is_same_weight (Some o.weight) (weight_in (take n offers) q)
      → found ≡ is_same_weight (Some o.weight) (weight_in (take (n + 1) offers) q)
  without n found in_n ne =
      same_without o.weight offers n (get_or offers n o) found q in_n (get_or_default offers n o (get_or offers n o) in_n) fit (differ n in_n ne)

  none_before : (n : ℕ) → n ≤ k → false ≡ is_same_weight (Some o.weight) (weight_in (take n offers) q)
  none_before zero le = refl
  none_before (suc n) le = rw (← add-one) (without n false (omega (arith, le, lt)) (λ e. omega (arith, e, le)) (none_before n (omega (arith, le))))

  all_after : (n : ℕ) → k < n → n ≤ length offers → set.contains o.cpus q ≡ is_same_weight (Some o.weight) (weight_in (take n offers) q)
  all_after zero later le = absurd (omega (arith, later))
  all_after (suc n) later le = elim (cases_eq n k) [
    | inl e ↦ rw (e, ← add-one) (same_with o.weight offers k o false q lt is fit refl (none_before k (omega arith)))
    | inr ne ↦ rw (← add-one) (without n (set.contains o.cpus q) (omega (arith, le)) ne (all_after n (omega (arith, later, ne)) (omega (arith, le))))
  ]

  pub rising_same : set.contains o.cpus q ≡ is_same_weight (Some o.weight) (weight_in offers q)
  rising_same =
      all_after (length offers) lt (omega arith)
      ∙ ap (λ l. is_same_weight (Some o.weight) (weight_in l q)) (take_all (length offers) offers (omega arith))

extended : (found later : Option Offer) (w : ℕ) → option_map (λ (o : Offer). o.weight) found ≡ Some w → option_map (λ (o : Offer). o.weight) (option_or found later) ≡ Some w
extended None later w e = (let none : None ≡ Some w = e in cc)
extended (Some o) later w e = e

-- the CPUs of an offer have its weight
pub in_offer :
    (offers : List Offer) (k : ℕ) (o : Offer) (c : ℕ) → k < length offers → o ≡ get_or offers k o → offers_fit offers ≡ true → set.contains o.cpus c ≡ true
    → weight_in offers c ≡ Some o.weight
in_offer offers k o c lt is fit has =
    let first : weight_in (take (k + 1) offers) c ≡ Some o.weight =
    sym (same_says (Some o.weight) _ (same_more o.weight offers k o c lt is fit ∙ or_right _ _ (and_from _ _ has (eqb_itself o.weight)))) in
    ap (λ l. weight_in l c) (sym (take-append-drop (k + 1) offers))
    ∙ ap (option_map (λ (p : Offer). p.weight)) (find-append (λ (p : Offer). set.contains p.cpus c) (take (k + 1) offers) (drop (k + 1) offers))
    ∙ extended _ _ o.weight first

-- CPUs of one weight in some offers, which both are in one more or both not
pub same_with_one_more :
    (offers : List Offer) (k : ℕ) (o : Offer) (a b : ℕ) → k < length offers → o ≡ get_or offers k o → weight_in (take k offers) a ≡ weight_in (take k offers) b
    → set.contains o.cpus a ≡ set.contains o.cpus b → weight_in (take (k + 1) offers) a ≡ weight_in (take (k + 1) offers) b
same_with_one_more offers k o a b lt is before same =
    more a ∙ (λ i. option_or (before i) (cond (same i) (Some o.weight) None)) ∙ sym (more b)
  where
    both_ways : (found : Option Offer) (has : Bool) → option_map (λ (p : Offer). p.weight) (option_or found (cond has (Some o) None)) ≡ option_or (option_map (λ (p : Offer). p.weight) found) (cond has (Some o.weight) None)
    both_ways None true = refl
    both_ways None false = refl
    both_ways (Some p) true = refl
    both_ways (Some p) false = refl

    more : (c : ℕ) → weight_in (take (k + 1) offers) c ≡ option_or (weight_in (take k offers) c) (cond (set.contains o.cpus c) (Some o.weight) None)
    more c = rw (take_more offers k o lt, ← is, find-append (λ (p : Offer). set.contains p.cpus c) (take k offers) (o ∷ [])) (both_ways _ (set.contains o.cpus c))
