-- What is wrong with an item: the first cause in the order, and in the words of the rule.
use Rattle.std.proofs.Common.{◌≡◌, ℕ, ◌<◌, ◌≤◌, Bool, true, false, ◌||◌, leb, ltb, List, [], ◌∷◌, Option, Some, None, ◌⊎◌, inl, inr, refl, ap, ◌∙◌, arith}
use Rattle.std.proofs.lemmas.Bool.{or_parts, or_cases, or_left, or_right, or_from, ltb-true, ltb-false, leb-true, leb-false, lt-ltb, le-ltb, le-leb, lt-leb}
use Rattle.faults.specs.First.{when, first_of}
use Rattle.cpu_list.specs.declared.fault.ListErrorKind.{ListErrorKind}
use Rattle.cpu_list.specs.declared.fault.ListErrorKind.TheVariants.{BadItem, TooLarge, Descending}
use Rattle.cpu_list.specs.ListText.{range_of, number_of, IsItem}
use Rattle.cpu_list.specs.FirstFault.{range_fault, item_fault, IsFaultOf}

-- no bytes are no range
pub range_of-nil : range_of [] ≡ None
unfolding range_of number_of
range_of-nil = refl

abbrev tested : Bool → Bool → Option ListErrorKind
tested large falls = first_of (when large TooLarge ∷ when falls Descending ∷ [])

tested-None : (large falls : Bool) → tested large falls ≡ None → (large ≡ false) × (falls ≡ false)
tested-None true falls e = cc
tested-None false true e = cc
tested-None false false e = (refl, refl)

tested-TooLarge : (large falls : Bool) → tested large falls ≡ Some TooLarge → large ≡ true
tested-TooLarge true falls e = refl
tested-TooLarge false true e = cc
tested-TooLarge false false e = cc

tested-Descending : (large falls : Bool) → tested large falls ≡ Some Descending → (large ≡ false) × (falls ≡ true)
tested-Descending true falls e = cc
tested-Descending false true e = (refl, refl)
tested-Descending false false e = cc

tested-BadItem : (large falls : Bool) → tested large falls ≡ Some BadItem → ⊥
tested-BadItem true falls e = cc
tested-BadItem false true e = cc
tested-BadItem false false e = cc

-- the numbers of a range, and their tests
too_large : (limit first last : ℕ) → (leb limit first || leb limit last) ≡ true → (limit ≤ first) ⊎ (limit ≤ last)
too_large limit first last e =
    elim (or_cases _ _ e) [ inl a ↦ inl (leb-true limit first a) | inr b ↦ inr (leb-true limit last b) ]

is_too_large : (limit first last : ℕ) → (limit ≤ first) ⊎ (limit ≤ last) → (leb limit first || leb limit last) ≡ true
is_too_large limit first last (inl a) = or_left _ _ (le-leb limit first a)
is_too_large limit first last (inr b) = or_right _ _ (le-leb limit last b)

both_below : (limit first last : ℕ) → (leb limit first || leb limit last) ≡ false → (first < limit) × (last < limit)
both_below limit first last e = let p = or_parts _ _ e in (leb-false limit first p.0, leb-false limit last p.1)

are_below : (limit first last : ℕ) → first < limit → last < limit → (leb limit first || leb limit last) ≡ false
are_below limit first last a b = or_from _ _ (lt-leb limit first a) (lt-leb limit last b)

range_right : (limit : ℕ) (o : Option (ℕ × ℕ)) → range_fault limit o ≡ None → (first last : ℕ) × (o ≡ Some (first, last)) × (first ≤ last) × (last < limit)
range_right limit None e = cc
range_right limit (Some (first, last)) e =
    let p = tested-None _ _ e in
    (first, last, refl, ltb-false last first p.1, (both_below limit first last p.0).1)

-- an item without a fault may stand in a list, and the other way round
pub IsItem-from_None : (limit : ℕ) (item : List ℕ) → item_fault limit item ≡ None → IsItem limit item
IsItem-from_None limit [] e = inl refl
IsItem-from_None limit (b ∷ bytes) e = inr (range_right limit (range_of (b ∷ bytes)) e)

right_range : (limit first last : ℕ) (o : Option (ℕ × ℕ)) → o ≡ Some (first, last) → first ≤ last → last < limit → range_fault limit o ≡ None
right_range limit first last o e rising below =
    ap (range_fault limit) e
    ∙ ap (λ b. tested b (ltb last first)) (are_below limit first last (omega arith) below)
    ∙ ap (λ b. tested false b) (le-ltb last first rising)

pub None-from_IsItem : (limit : ℕ) (item : List ℕ) → IsItem limit item → item_fault limit item ≡ None
None-from_IsItem limit [] h = refl
None-from_IsItem limit (b ∷ bytes) (inl e) = cc
None-from_IsItem limit (b ∷ bytes) (inr (first, last, e, rising, below)) = right_range limit first last _ e rising below

-- what is wrong with a range, in the same words
abbrev IsRangeFault : ℕ → Option (ℕ × ℕ) → ListErrorKind → Type 0
IsRangeFault limit o BadItem = o ≡ None
IsRangeFault limit o TooLarge = (first last : ℕ) × (o ≡ Some (first, last)) × ((limit ≤ first) ⊎ (limit ≤ last))
IsRangeFault limit o Descending = (first last : ℕ) × (o ≡ Some (first, last)) × (first < limit) × (last < limit) × (last < first)

range_wrong : (limit : ℕ) (o : Option (ℕ × ℕ)) (kind : ListErrorKind) → range_fault limit o ≡ Some kind → IsRangeFault limit o kind
range_wrong limit None BadItem e = refl
range_wrong limit None TooLarge e = cc
range_wrong limit None Descending e = cc
range_wrong limit (Some (first, last)) BadItem e = absurd (tested-BadItem _ _ e)
range_wrong limit (Some (first, last)) TooLarge e = (first, last, refl, too_large limit first last (tested-TooLarge _ _ e))
range_wrong limit (Some (first, last)) Descending e =
    let p = tested-Descending _ _ e in
    let below = both_below limit first last p.0 in
    (first, last, refl, below.0, below.1, ltb-true last first p.1)

-- the fault of an item stands, and the other way round
pub IsFaultOf-from_Some : (limit : ℕ) (item : List ℕ) (kind : ListErrorKind) → item_fault limit item ≡ Some kind → IsFaultOf limit item kind
IsFaultOf-from_Some limit [] kind e = cc
IsFaultOf-from_Some limit (b ∷ bytes) BadItem e = ((λ nil. cc), range_wrong limit (range_of (b ∷ bytes)) BadItem e)
IsFaultOf-from_Some limit (b ∷ bytes) TooLarge e = range_wrong limit (range_of (b ∷ bytes)) TooLarge e
IsFaultOf-from_Some limit (b ∷ bytes) Descending e = range_wrong limit (range_of (b ∷ bytes)) Descending e

no_range : (r : ℕ × ℕ) → range_of [] ≡ Some r → ⊥
no_range r e = let none = range_of-nil in cc

pub Some-from_IsFaultOf : (limit : ℕ) (item : List ℕ) (kind : ListErrorKind) → IsFaultOf limit item kind → item_fault limit item ≡ Some kind
Some-from_IsFaultOf limit [] BadItem h = absurd (h.0 refl)
Some-from_IsFaultOf limit [] TooLarge (first, last, e, large) = absurd (no_range _ e)
Some-from_IsFaultOf limit [] Descending (first, last, e, a, b, falls) = absurd (no_range _ e)
Some-from_IsFaultOf limit (b ∷ bytes) BadItem h = ap (range_fault limit) h.1
Some-from_IsFaultOf limit (b ∷ bytes) TooLarge (first, last, e, large) =
    ap (range_fault limit) e ∙ ap (λ t. tested t (ltb last first)) (is_too_large limit first last large)
Some-from_IsFaultOf limit (b ∷ bytes) Descending (first, last, e, below, under, falls) =
    ap (range_fault limit) e ∙ ap (λ t. tested t (ltb last first)) (are_below limit first last below under)
    ∙ ap (λ t. tested false t) (lt-ltb last first falls)
