-- A plan's sets and values, as they are kept together.
use Rattle.std.proofs.Common.{◌≡◌, ℕ, suc, ◌+◌, ◌<◌, ◌++◌, List, [], ◌∷◌, length, get_or, take, refl, ap, sym, ◌∙◌, arith}
use Rattle.std.proofs.Math.ListN.{get_or-map}
use Rattle.std.proofs.lemmas.List.{take_more, map-append}
use Rattle.std.specs.FinSet as set
use Rattle.cpu_set.specs.Ids.{Ids}
use Rattle.certificate_text.specs.Held.{sets_of, values_of}

pub sets_length : (held : List (ℕ × Ids)) → length (sets_of held) ≡ length held
sets_length [] = refl
sets_length (p ∷ held) = ap suc (sets_length held)

values_length : (held : List (ℕ × Ids)) → length (values_of held) ≡ length held
values_length [] = refl
values_length (p ∷ held) = ap suc (values_length held)

-- one more of each
pub set_more : (held : List (ℕ × Ids)) (k : ℕ) (s : Ids) → k < length held → ((d : ℕ × Ids) → s ≡ (get_or held k d).1)
    → take k (sets_of held) ++ s ∷ [] ≡ take (k + 1) (sets_of held)
set_more held k s lt is =
    let none : Ids = set.empty in
    let d : ℕ × Ids = (0, none) in
    ap (λ x. take k (sets_of held) ++ x ∷ []) (is d ∙ sym (get_or-map (λ (p : ℕ × Ids). p.1) held k d))
    ∙ sym (take_more (sets_of held) k none (omega (arith, lt, sets_length held)))

pub value_more : (held : List (ℕ × Ids)) (k v : ℕ) → k < length held → ((d : ℕ × Ids) → v ≡ (get_or held k d).0)
    → take k (values_of held) ++ v ∷ [] ≡ take (k + 1) (values_of held)
value_more held k v lt is =
    let none : Ids = set.empty in
    let d : ℕ × Ids = (0, none) in
    ap (λ x. take k (values_of held) ++ x ∷ []) (is d ∙ sym (get_or-map (λ (p : ℕ × Ids). p.0) held k d))
    ∙ sym (take_more (values_of held) k 0 (omega (arith, lt, values_length held)))

pub sets_push : (held : List (ℕ × Ids)) (v : ℕ) (s : Ids) → sets_of (held ++ (v, s) ∷ []) ≡ sets_of held ++ s ∷ []
sets_push held v s = map-append (λ (p : ℕ × Ids). p.1) held ((v, s) ∷ [])

pub values_push : (held : List (ℕ × Ids)) (v : ℕ) (s : Ids) → values_of (held ++ (v, s) ∷ []) ≡ values_of held ++ v ∷ []
values_push held v s = map-append (λ (p : ℕ × Ids). p.0) held ((v, s) ∷ [])
