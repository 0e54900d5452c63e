-- CPUs of a class given to a row and taken from it, share by share.
use Rattle.std.proofs.Common.{◌≡◌, ℕ, ◌+◌, ◌-◌, ◌<◌, ◌≤◌, min, cond, List, [], ◌∷◌, ◌++◌, length, get_or, set, take, Some, slice_get, refl, sym, ap, ◌∙◌, subst, inl, inr, arith}
use Rattle.std.proofs.lemmas.List.{length-set, length_push, get_or-set_same, get_or-set_other, get_or_push, get_or_append_left, take_more_set, take_all}
use Rattle.std.proofs.lemmas.List.Sums.{sum_by-set, sum_by_push, sum_by_more}
use Rattle.std.proofs.lemmas.Option.{slice_get-get_or, get_or_from_slice_get, slice_get_within}
use Rattle.std.proofs.lemmas.Bool.{cases_eq, cases_lt, eq-eqb, ne_eqb}
use Rattle.twins.specs.Holdings.{share_of}
use Rattle.transport.specs.Shares.{amount_of, AllBelow, holders_of, HasNoShare, IsShareGiven, IsShareTaken, IsTaking}
use Rattle.transport.specs.Numbers.{IsIn, IsEachOnce}
use Rattle.transport.proofs.Holders.{holders_set, holders_push, in_pushed, once_push}
use Rattle.twins.specs.declared.holders.Share.{Share}

amount_at : (k : ℕ) (s : Share) → s.row ≡ k → amount_of k s ≡ s.amount
amount_at k s e = ap (λ b. cond b s.amount 0) (eq-eqb s.row k e)

amount_not : (k : ℕ) (s : Share) → (s.row ≡ k → ⊥) → amount_of k s ≡ 0
amount_not k s ne = ap (λ b. cond b s.amount 0) (ne_eqb s.row k ne)

module _ (xs new : List Share) (i k a : ℕ) (s d : Share) (lt : i < length xs) (is : s ≡ get_or xs i d) (own : s.row ≡ k) (now : new ≡ set xs i (record { row = k; amount = a })) where
  set_own : share_of k new + s.amount ≡ share_of k xs + a
  set_own =
      let y : Share = record { row = k; amount = a } in
      let e = sum_by-set (amount_of k) xs i y d lt in
      let old : amount_of k (get_or xs i d) ≡ s.amount = ap (amount_of k) (sym is) ∙ amount_at k s own in
      let here : amount_of k y ≡ a = amount_at k y refl in
      rw now (omega (arith, e, old, here))

  set_others : (j : ℕ) → (j ≡ k → ⊥) → share_of j new ≡ share_of j xs
  set_others j ne =
      let y : Share = record { row = k; amount = a } in
      let e = sum_by-set (amount_of j) xs i y d lt in
      let old : amount_of j (get_or xs i d) ≡ 0 = ap (amount_of j) (sym is) ∙ amount_not j s (λ h. ne (sym h ∙ own)) in
      let here : amount_of j y ≡ 0 = amount_not j y (λ h. ne (sym h)) in
      rw now (omega (arith, e, old, here))

  set_rows : (n : ℕ) → k < n → AllBelow n xs → AllBelow n new
  set_rows n in_n all j m its = elim (cases_eq j i) [
    | inl e ↦ (let y : Share = record { row = k; amount = a } in
        let read : get_or new i d ≡ m = get_or_from_slice_get new i m d (subst (λ x. slice_get new x ≡ Some m) e its) in
        let here : get_or new i d ≡ y = subst (λ zs. get_or zs i d ≡ y) (sym now) (get_or-set_same xs i y d lt) in
        subst (λ (z : Share). z.row < n) (sym here ∙ read) in_n)
    | inr ne ↦ (let y : Share = record { row = k; amount = a } in
        let read : get_or new j d ≡ m = get_or_from_slice_get new j m d its in
        let here : get_or new j d ≡ get_or xs j d = subst (λ zs. get_or zs j d ≡ get_or xs j d) (sym now) (get_or-set_other xs i j y d ne) in
        let within : j < length xs = omega (arith, slice_get_within new j m its, ap length now, length-set xs i y) in
        subst (λ (z : Share). z.row < n) (sym here ∙ read) (all j (get_or xs j d) (slice_get-get_or xs j d within)))
  ]

  set_holders : holders_of new ≡ holders_of xs
  set_holders = ap holders_of now ∙ holders_set xs i (record { row = k; amount = a }) s d is own

pub given_at : (xs new : List Share) (i k amount : ℕ) (s d : Share) → i < length xs → s ≡ get_or xs i d → s.row ≡ k → new ≡ set xs i (record { row = k; amount = s.amount + amount }) → IsShareGiven xs new k amount
given_at xs new i k amount s d lt is own now = record {
  own = omega (arith, set_own xs new i k (s.amount + amount) s d lt is own now);
  others = set_others xs new i k (s.amount + amount) s d lt is own now;
  rows = set_rows xs new i k (s.amount + amount) s d lt is own now;
  once = λ once. subst IsEachOnce (sym (set_holders xs new i k (s.amount + amount) s d lt is own now)) once;
  none = λ j ne none h. none (subst (λ ns. IsIn ns j) (set_holders xs new i k (s.amount + amount) s d lt is own now) h);
}

pub given_push : (xs new : List Share) (k amount : ℕ) → HasNoShare k xs → new ≡ xs ++ (record { row = k; amount = amount }) ∷ [] → IsShareGiven xs new k amount
given_push xs new k amount fresh now = record {
  own = (let y : Share = record { row = k; amount = amount } in let here : amount_of k y ≡ amount = amount_at k y refl in rw now (omega (arith, sum_by_push (amount_of k) xs y, here)));
  others = λ j ne. (let y : Share = record { row = k; amount = amount } in let here : amount_of j y ≡ 0 = amount_not j y (λ h. ne (sym h)) in rw now (omega (arith, sum_by_push (amount_of j) xs y, here)));
  rows = rows;
  once = λ once. subst IsEachOnce (sym holders) (once_push (holders_of xs) k once fresh);
  none = λ j ne none h. none (in_pushed (holders_of xs) k j ne (subst (λ ns. IsIn ns j) holders h));
}
  where
    holders : holders_of new ≡ holders_of xs ++ k ∷ []
    holders = ap holders_of now ∙ holders_push xs (record { row = k; amount = amount })

    rows : (n : ℕ) → k < n → AllBelow n xs → AllBelow n new
    rows n in_n all j m its =
        let y : Share = record { row = k; amount = amount } in
        let read : get_or new j y ≡ m = get_or_from_slice_get new j m y its in
        elim (cases_lt j (length xs)) [
          | inl before ↦ (let here : get_or new j y ≡ get_or xs j y = subst (λ zs. get_or zs j y ≡ get_or xs j y) (sym now) (get_or_append_left xs (y ∷ []) y j before) in
              subst (λ (z : Share). z.row < n) (sym here ∙ read) (all j (get_or xs j y) (slice_get-get_or xs j y before)))
          | inr after ↦ (let e : length xs ≡ j = omega (arith, after, slice_get_within new j m its, ap length now, length_push xs y) in
              let here : get_or new j y ≡ y = subst (λ zs. get_or zs j y ≡ y) (sym now) (get_or_push xs y y j e) in
              subst (λ (z : Share). z.row < n) (sym here ∙ read) in_n)
        ]

pub taking_none : (xs : List Share) (k amount : ℕ) → IsTaking xs xs k amount amount 0
taking_none xs k amount = record { own = refl; others = λ j ne. refl; rows = λ n in_n all. all; holders = refl; done = λ some. refl; long = refl }

pub taking_skip : (old xs : List Share) (k amount left i : ℕ) (s d : Share) → IsTaking old xs k amount left i → i < length xs → s ≡ get_or xs i d → (s.row ≡ k → ⊥) → IsTaking old xs k amount left (i + 1)
taking_skip old xs k amount left i s d h lt is ne = record {
  own = h.own;
  others = h.others;
  rows = h.rows;
  holders = h.holders;
  done = λ some. (let e = sum_by_more (amount_of k) xs i d lt in
      let here : amount_of k (get_or xs i d) ≡ 0 = ap (amount_of k) (sym is) ∙ amount_not k s ne in
      omega (arith, e, here, h.done some));
  long = h.long;
}

pub taking_some : (old xs new : List Share) (k amount left i t : ℕ) (s d : Share) → IsTaking old xs k amount left i → i < length xs → s ≡ get_or xs i d → s.row ≡ k → t ≡ min left s.amount
    → new ≡ set xs i (record { row = k; amount = s.amount - t }) → IsTaking old new k amount (left - t) (i + 1)
taking_some old xs new k amount left i t s d h lt is own t_is now = record {
  own = omega (arith, h.own, set_own xs new i k (s.amount - t) s d lt is own now, t_is);
  others = λ j ne. set_others xs new i k (s.amount - t) s d lt is own now j ne ∙ h.others j ne;
  rows = λ n in_n all. set_rows xs new i k (s.amount - t) s d lt is own now n in_n (h.rows n in_n all);
  holders = set_holders xs new i k (s.amount - t) s d lt is own now ∙ h.holders;
  done = done;
  long = ap length now ∙ length-set _ _ _ ∙ h.long;
}
  where
    done : 0 < left - t → share_of k (take (i + 1) new) ≡ 0
    done some =
        let y : Share = record { row = k; amount = s.amount - t } in
        let here : amount_of k y ≡ s.amount - t = amount_at k y refl in
        let front : take (i + 1) new ≡ take i xs ++ y ∷ [] = subst (λ zs. take (i + 1) zs ≡ take i xs ++ y ∷ []) (sym now) (take_more_set xs i y lt) in
        rw front (omega (arith, sum_by_push (amount_of k) (take i xs) y, here, h.done (omega (arith, some)), some, t_is))

pub taking_all : (old xs : List Share) (k amount left i : ℕ) → IsTaking old xs k amount left i → length xs ≤ i → amount ≤ share_of k old → IsShareTaken old xs k amount
taking_all old xs k amount left i h past within = record {
  own = elim (cases_lt 0 left) [
    | inl some ↦ (let none : share_of k xs ≡ 0 = subst (λ zs. share_of k zs ≡ 0) (take_all i xs past) (h.done some) in absurd (omega (arith, none, h.own, some, within)))
    | inr zero_left ↦ omega (arith, h.own, zero_left)
  ];
  others = h.others;
  rows = h.rows;
  holders = h.holders;
}
