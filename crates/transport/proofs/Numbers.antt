-- Numbers raised place by place.
use Rattle.std.proofs.Common.{◌≡◌, ℕ, ◌+◌, ◌<◌, Bool, true, false, List, [], ◌∷◌, ◌++◌, length, get_or, set, take, refl, sym, ap, ◌∙◌, subst, inl, inr, arith}
use Rattle.std.proofs.lemmas.List.{length-set, get_or-set_same, get_or-set_other, take_more, length_push, get_or_push, get_or_append_left, get_or_read, get_or-take, length-take-le}
use Rattle.std.proofs.lemmas.Bool.{cases_lt, both_ways}
use Rattle.transport.specs.Numbers.{number, is_marked, IsIn, IsListing, IsRaised}

-- what a read of a mark says
pub read_mark : (bs : List Bool) (i n : ℕ) (x b : Bool) → i < n → length bs ≡ n → x ≡ get_or bs i x → x ≡ b → is_marked bs i ≡ b
read_mark bs i n x b lt long is e = sym (get_or_read bs i x (omega (arith, lt, long)) is false) ∙ e

pub read_number : (ns : List ℕ) (i n x : ℕ) → i < n → length ns ≡ n → x ≡ get_or ns i x → number ns i ≡ x
read_number ns i n x lt long is = sym (get_or_read ns i x (omega (arith, lt, long)) is 0)

pub raised_none : (xs order : List ℕ) (by : ℕ) → IsRaised xs xs (take 0 order) by
raised_none xs order by = record { long = refl; on = λ i h. absurd (omega arith); off = λ k none. refl }

pub in_push : (order : List ℕ) (n k : ℕ) → IsIn order k → IsIn (order ++ n ∷ []) k
in_push order n k h = record {
  index = h.index;
  within = omega (arith, length_push order n, h.within);
  is = get_or_append_left order (n ∷ []) 0 h.index h.within ∙ h.is;
}

pub in_last : (order : List ℕ) (n : ℕ) → IsIn (order ++ n ∷ []) n
in_last order n = record {
  index = length order;
  within = omega (arith, length_push order n);
  is = get_or_push order n 0 (length order) refl;
}

-- one place more
raised_push :
    (old new order : List ℕ) (n by : ℕ) → IsRaised old new order by → (IsIn order n → ⊥) → n < length old
    → IsRaised old (set new n (number new n + by)) (order ++ n ∷ []) by
raised_push old new order n by h apart lt = record {
  long = length-set new n (number new n + by) ∙ h.long;
  on = λ i within. elim (cases_lt i (length order)) [ inl before ↦ earlier i before | inr after ↦ last i (omega (arith, length_push order n, within)) ];
  off = λ k none. get_or-set_other new n k _ 0 (λ e. none (subst (IsIn (order ++ n ∷ [])) (sym e) (in_last order n))) ∙ h.off k (λ here. none (in_push order n k here));
}
  where
    fits : n < length new
    fits = omega (arith, h.long, lt)

    earlier : (i : ℕ) → i < length order → number (set new n (number new n + by)) (number (order ++ n ∷ []) i) ≡ number old (number (order ++ n ∷ []) i) + by
    earlier i before =
        rw (get_or_append_left order (n ∷ []) 0 i before)
        (get_or-set_other new n (number order i) _ 0 (λ e. apart (record { index = i; within = before; is = e })) ∙ h.on i before)

    last : (i : ℕ) → i ≡ length order → number (set new n (number new n + by)) (number (order ++ n ∷ []) i) ≡ number old (number (order ++ n ∷ []) i) + by
    last i e =
        rw (get_or_push order n 0 i (sym e))
        (get_or-set_same new n _ 0 fits ∙ ap (λ x. x + by) (h.off n apart))

pub raised_more :
    (old new order : List ℕ) (i n by : ℕ) → IsRaised old new (take i order) by → i < length order → n ≡ number order i
    → ((a b : ℕ) → a < length order → b < length order → number order a ≡ number order b → a ≡ b)
    → ((a : ℕ) → a < length order → number order a < length old)
    → IsRaised old (set new n (number new n + by)) (take (i + 1) order) by
raised_more old new order i n by h lt is once within =
    rw (take_more order i 0 lt, ← is)
    (raised_push old new (take i order) n by h apart (rw is (within i lt)))
  where
    apart : IsIn (take i order) n → ⊥
    apart here =
        let short : length (take i order) ≡ i = length-take-le i order (omega arith) in
        let e = get_or-take i order here.index 0 (omega (arith, short, here.within)) in
        let same : here.index ≡ i = once here.index i (omega (arith, short, here.within)) lt (sym e ∙ here.is ∙ is) in
        omega (arith, short, here.within)

-- a marked place's number is raised, and no other
pub raised_marked :
    (old new order : List ℕ) (marks : List Bool) (by : ℕ) → IsRaised old new order by → IsListing order marks
    → (k : ℕ) → is_marked marks k ≡ true → number new k ≡ number old k + by
raised_marked old new order marks by h listing k here =
    let p = listing.all k here in
    subst (λ n. number new n ≡ number old n + by) p.is (h.on p.index p.within)

pub raised_others :
    (old new order : List ℕ) (marks : List Bool) (by : ℕ) → IsRaised old new order by → IsListing order marks
    → (k : ℕ) → is_marked marks k ≡ false → number new k ≡ number old k
raised_others old new order marks by h listing k not =
    h.off k (λ here. both_ways (is_marked marks k) not (subst (λ n. is_marked marks n ≡ true) here.is (listing.on here.index here.within)))
