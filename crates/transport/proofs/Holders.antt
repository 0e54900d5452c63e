-- Whose the shares of a class are.
use Rattle.std.proofs.Common.{◌≡◌, ℕ, zero, suc, ◌<◌, ◌≤◌, cond, List, [], ◌∷◌, ◌++◌, length, get_or, set, refl, sym, ap, ◌∙◌, subst, inl, inr, arith}
use Rattle.std.proofs.Math.Seq.{map-set_same}
use Rattle.std.proofs.lemmas.List.{map-append, length-map, get_or-map, get_or_push, get_or_append_left, length_push}
use Rattle.std.proofs.lemmas.List.Sums.{sum_by-cons}
use Rattle.std.proofs.lemmas.Bool.{cases_lt, eq-eqb, ne_eqb}
use Rattle.twins.specs.Holdings.{share_of}
use Rattle.transport.specs.Numbers.{number, IsIn, IsEachOnce}
use Rattle.transport.specs.Shares.{amount_of, holders_of, HasNoShare}
use Rattle.twins.specs.declared.holders.Share.{Share}

pub holders_set : (xs : List Share) (i : ℕ) (y s d : Share) → s ≡ get_or xs i d → s.row ≡ y.row → holders_of (set xs i y) ≡ holders_of xs
holders_set xs i y s d is own = map-set_same (λ (x : Share). x.row) xs i y d (sym own ∙ ap (λ (x : Share). x.row) is)

pub holders_push : (xs : List Share) (y : Share) → holders_of (xs ++ y ∷ []) ≡ holders_of xs ++ y.row ∷ []
holders_push xs y = map-append (λ (x : Share). x.row) xs (y ∷ [])

module _ (ns : List ℕ) (k : ℕ) where
  before : (i : ℕ) → i < length ns → number (ns ++ k ∷ []) i ≡ number ns i
  before i lt = get_or_append_left ns (k ∷ []) 0 i lt

  last : (i : ℕ) → i ≡ length ns → number (ns ++ k ∷ []) i ≡ k
  last i e = get_or_push ns k 0 i (sym e)

  pub in_pushed : (j : ℕ) → (j ≡ k → ⊥) → IsIn (ns ++ k ∷ []) j → IsIn ns j
  in_pushed j ne h = elim (cases_lt h.index (length ns)) [
    | inl lt ↦ record { index = h.index; within = lt; is = sym (before h.index lt) ∙ h.is }
    | inr past ↦ absurd (ne (sym h.is ∙ last h.index (omega (arith, h.within, past, length_push ns k))))
  ]

  pub once_push : IsEachOnce ns → (IsIn ns k → ⊥) → IsEachOnce (ns ++ k ∷ [])
  once_push once apart i j a b e = elim (cases_lt i (length ns)) [
    | inl i_before ↦ elim (cases_lt j (length ns)) [
      | inl j_before ↦ once i j i_before j_before (sym (before i i_before) ∙ e ∙ before j j_before)
      | inr j_after ↦ absurd (apart (record { index = i; within = i_before; is = sym (before i i_before) ∙ e ∙ last j (omega (arith, length_push ns k, b, j_after)) }))
    ]
    | inr i_after ↦ elim (cases_lt j (length ns)) [
      | inl j_before ↦ absurd (apart (record { index = j; within = j_before; is = sym (before j j_before) ∙ sym e ∙ last i (omega (arith, length_push ns k, a, i_after)) }))
      | inr j_after ↦ omega (arith, length_push ns k, a, b, i_after, j_after)
    ]
  ]

-- no share, no CPU
pub share_none : (k : ℕ) (xs : List Share) → HasNoShare k xs → share_of k xs ≡ 0
share_none k [] none = refl
share_none k (x ∷ xs) none =
    let ne : x.row ≡ k → ⊥ = λ e. none (record { index = 0; within = omega arith; is = e }) in
    let more : HasNoShare k xs = λ h. none (record { index = suc h.index; within = omega (arith, h.within); is = h.is }) in
    let here : amount_of k x ≡ 0 = ap (λ b. cond b x.amount 0) (ne_eqb x.row k ne) in
    omega (arith, sum_by-cons (amount_of k) x xs, here, share_none k xs more)

-- a row that is none of those gone through, to the end
pub none_seen : (k n : ℕ) (xs : List Share) → ((i : ℕ) → i < n → number (holders_of xs) i ≡ k → ⊥) → length xs ≤ n → HasNoShare k xs
none_seen k n xs seen all h = seen h.index (omega (arith, h.within, length-map xs (λ (s : Share). s.row), all)) h.is

pub holder_at : (xs : List Share) (i : ℕ) (s d : Share) → i < length xs → s ≡ get_or xs i d → number (holders_of xs) i ≡ s.row
holder_at xs i s d lt is = get_or-map (λ (x : Share). x.row) xs i d 0 lt ∙ ap (λ (x : Share). x.row) (sym is)

-- where no row stands in two shares, each share is all that its row has
pub share_once : (xs : List Share) (i : ℕ) (s d : Share) → IsEachOnce (holders_of xs) → i < length xs → s ≡ get_or xs i d → share_of s.row xs ≡ s.amount
share_once [] i s d once lt is = absurd (omega (arith, lt))
share_once (x ∷ xs) zero s d once lt is =
    let apart : HasNoShare x.row xs = λ h. absurd (omega (arith, once 0 (suc h.index) (omega arith) (omega (arith, h.within)) (sym h.is))) in
    let here : amount_of x.row x ≡ x.amount = ap (λ b. cond b x.amount 0) (eq-eqb x.row x.row refl) in
    let whole : share_of x.row (x ∷ xs) ≡ x.amount = omega (arith, sum_by-cons (amount_of x.row) x xs, here, share_none x.row xs apart) in
    subst (λ (y : Share). share_of y.row (x ∷ xs) ≡ y.amount) (sym is) whole
share_once (x ∷ xs) (suc i) s d once lt is =
    let its : number (holders_of xs) i ≡ s.row = holder_at xs i s d (omega (arith, lt)) is in
    let other : x.row ≡ s.row → ⊥ = λ e. absurd (omega (arith, once 0 (suc i) (omega arith) (omega (arith, lt, length-map xs (λ (y : Share). y.row))) (e ∙ sym its))) in
    let here : amount_of s.row x ≡ 0 = ap (λ b. cond b x.amount 0) (ne_eqb x.row s.row other) in
    let rest : IsEachOnce (holders_of xs) = λ a b a_in b_in e. omega (arith, once (suc a) (suc b) (omega (arith, a_in)) (omega (arith, b_in)) e) in
    omega (arith, sum_by-cons (amount_of s.row) x xs, here, share_once xs i s d rest (omega (arith, lt)) is)
