-- A set that is within another and has as many members is that other.
use Rattle.std.proofs.Common.{◌≡◌, inl, inr, ℕ, zero, suc, ◌+◌, ◌<◌, ◌≤◌, Bool, true, false, cond, refl, sym, ap, ◌∙◌, subst, arith}
use Rattle.std.proofs.Math.Numerals.{add-one}
use Rattle.std.proofs.lemmas.Bool.{false≢true, cases_eq}
use Rattle.std.specs.FinSet as set
use Rattle.std.specs.Ordering.{nat_cmp}
use Rattle.cpu_set.specs.Ids.{Ids}
use Rattle.cpu_set.specs.Members.{InRange}
use Rattle.cpu_set.specs.PointwiseLaws.{same_members, contains-difference}
use Rattle.cpu_set.specs.SetLaws.{empty_of_none, len-those_more, len-those_none, those-contains}
use Rattle.cpu_set.specs.Those.{those}
use Rattle.cpu_set.specs.declared.TheConstants.{CPU_LIMIT}
use Rattle.faults.specs.TestLaws.{none_left}

-- of two tests of which one passes where the other does
module _ (p q : ℕ → Bool) (within : (c : ℕ) → p c ≡ true → q c ≡ true) where
  one_or_less : (n : ℕ) → cond (p n) 1 0 ≤ cond (q n) 1 0
  one_or_less n = by (p n) (q n) (within n) where
    by : (a b : Bool) → (a ≡ true → b ≡ true) → cond a 1 0 ≤ cond b 1 0
    by true true f = omega arith
    by true false f = absurd (false≢true (f refl))
    by false true f = omega arith
    by false false f = omega arith

  fewer : (n : ℕ) → set.len (those p n) ≤ set.len (those q n)
  fewer zero = omega (arith, len-those_none p, len-those_none q)
  fewer (suc n) =
      subst (λ m. set.len (those p m) ≤ set.len (those q m)) (add-one n)
      (omega (arith, len-those_more p n, len-those_more q n, one_or_less n, fewer n))

  same_bit : (a b : Bool) → cond {A = ℕ} a 1 0 ≡ cond b 1 0 → a ≡ b
  same_bit true true is = refl
  same_bit true false is = absurd (omega (arith, is))
  same_bit false true is = absurd (omega (arith, is))
  same_bit false false is = refl

  -- where as many pass, the same pass
  as_many : (n : ℕ) → set.len (those p n) ≡ set.len (those q n) → (c : ℕ) → c < n → p c ≡ q c
  as_many zero same c below = absurd (omega (arith, below))
  as_many (suc n) same c below =
      let more : set.len (those p (n + 1)) ≡ set.len (those q (n + 1)) = subst (λ m. set.len (those p m) ≡ set.len (those q m)) (sym (add-one n)) same in
      let bit : cond {A = ℕ} (p n) 1 0 ≡ cond (q n) 1 0 = omega (arith, more, len-those_more p n, len-those_more q n, one_or_less n, fewer n) in
      let rest : set.len (those p n) ≡ set.len (those q n) = omega (arith, more, len-those_more p n, len-those_more q n, bit) in
      elim (cases_eq c n) [
        | inl is ↦ ap p is ∙ same_bit (p n) (q n) bit ∙ ap q (sym is)
        | inr other ↦ as_many n rest c (omega (arith, below, other))
      ]

pub same_size : (s t : Ids) → InRange t → ((c : ℕ) → set.contains s c ≡ true → set.contains t c ≡ true) → set.len s ≡ set.len t → s ≡ t
same_size s t range within same = same_members s t (λ c. by c (set.contains t c) refl) where
  counted : set.len (those (set.contains s) CPU_LIMIT) ≡ set.len (those (set.contains t) CPU_LIMIT)
  counted =
      ap set.len (those-contains s CPU_LIMIT (λ c has. range c (within c has))) ∙ same ∙ ap set.len (sym (those-contains t CPU_LIMIT range))

  not_in : (c : ℕ) → set.contains t c ≡ false → (b : Bool) → set.contains s c ≡ b → b ≡ false
  not_in c out true is = absurd (false≢true (sym out ∙ within c is))
  not_in c out false is = refl

  by : (c : ℕ) (b : Bool) → set.contains t c ≡ b → set.contains s c ≡ set.contains t c
  by c true is = as_many (set.contains s) (set.contains t) within CPU_LIMIT counted c (range c is)
  by c false is = not_in c is (set.contains s c) refl ∙ sym is

-- nothing of a set is left without itself
pub none_left_of : (s : Ids) → set.len (set.difference s s) ≡ 0
none_left_of s =
    ap set.len (empty_of_none (set.difference s s) (λ c _. contains-difference s s c ∙ none_left (set.contains s c) (set.contains s c) (λ has. has))) ∙ set.len-empty nat_cmp
