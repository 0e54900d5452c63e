-- The text of a set is its canonical text, and the only one.
use Rattle.std.proofs.Common.{◌≡◌, ℕ, ◌+◌, ◌<◌, ◌≤◌, Bool, true, false, ◌&&◌, nat_le, nat_lt, List, [], ◌∷◌, refl, sym, ap, subst, ◌∙◌, ⊎_elim, arith}
use Rattle.std.specs.FinSet as set
use Rattle.std.proofs.lemmas.Bool.{true≢false, cases_lt}
use Rattle.std.proofs.lemmas.Bool.Decides.{nat_tests}
use Rattle.cpu_set.specs.Ids.{Ids}
use Rattle.cpu_set.specs.Members.{InRange}
use Rattle.cpu_set.specs.declared.TheConstants.{CPU_LIMIT}
use Rattle.cpu_set.specs.Ranges.{AreRuns, in_ranges}
use Rattle.cpu_list.specs.CanonicalList.{ranges_text, list_text, IsCanonical}
use Rattle.cpu_list.specs.CanonicalLaws.{TextIsCanonical, OneCanonicalText}
use Rattle.cpu_set.specs.RangesFrom.{ranges_from}
use Rattle.cpu_set.specs.RangeLaws.{ranges_among, AreRuns-ranges_among, above_first, first_in, in_ranges-among, none_below, ranges_from-is}
use Rattle.cpu_list.proofs.RangeText.{text_after-nil}
use Rattle.cpu_list.proofs.SetTexts.{list_text-is}

within : (q n : ℕ) (v : Bool) → (v ≡ true → q < n) → v ≡ ((nat_le 0 q && nat_lt q (0 + n)) && v)
within q n true below = let lt = below refl in grind (arith, nat_tests)
within q n false below = grind (arith, nat_tests)

canonical_at : (s : Ids) (n : ℕ) → n ≡ CPU_LIMIT → InRange s → IsCanonical (list_text s) s
canonical_at s n e small =
    let is : ranges_from s 0 ≡ ranges_among (set.contains s) 0 n = ranges_from-is s 0 n (omega arith) in
    record {
      ranges = ranges_from s 0;
      rising = subst (AreRuns 0) (sym is) (AreRuns-ranges_among (set.contains s) 0 n);
      same = λ q.
          within q n (set.contains s q) (λ member. let lt = small q member in omega arith)
          ∙ sym (ap (λ rs. in_ranges rs q) is ∙ in_ranges-among (set.contains s) 0 n q);
      spelled = list_text-is s ∙ text_after-nil (ranges_from s 0);
    }

pub text_is_canonical : TextIsCanonical
text_is_canonical s small = canonical_at s CPU_LIMIT refl small

-- the first number of one is not below that of the other, and its first range ends no later
no_earlier : (a b : ℕ) (r q : ℕ × ℕ) (rs qs : List (ℕ × ℕ)) → AreRuns a (r ∷ rs) → AreRuns b (q ∷ qs) → ((n : ℕ) → in_ranges (r ∷ rs) n ≡ in_ranges (q ∷ qs) n) → q.0 ≤ r.0
no_earlier a b r q rs qs one two same =
    ⊎_elim (λ low.
    let out : in_ranges (q ∷ qs) r.0 ≡ false = none_below q.0 r.0 (q ∷ qs) (omega arith, two.1, two.2) low in
    absurd (true≢false (sym (first_in r rs r.0 (omega arith) one.1) ∙ same r.0 ∙ out)))
    (λ h. h) (cases_lt r.0 q.0)

no_later : (a b : ℕ) (r q : ℕ × ℕ) (rs qs : List (ℕ × ℕ)) → AreRuns a (r ∷ rs) → AreRuns b (q ∷ qs) → ((n : ℕ) → in_ranges (r ∷ rs) n ≡ in_ranges (q ∷ qs) n) → q.0 ≤ r.0 → q.1 ≤ r.1
no_later a b r q rs qs one two same first =
    ⊎_elim (λ long.
    let past : in_ranges (r ∷ rs) (r.1 + 1) ≡ false =
    above_first r rs (r.1 + 1) (omega arith) ∙ none_below (r.1 + 2) (r.1 + 1) rs one.2 (omega arith) in
    absurd (true≢false (sym (first_in q qs (r.1 + 1) (omega (arith, one.1)) (omega arith)) ∙ sym (same (r.1 + 1)) ∙ past)))
    (λ h. h) (cases_lt r.1 q.1)

rest_same : (a b : ℕ) (r q : ℕ × ℕ) (rs qs : List (ℕ × ℕ)) → AreRuns a (r ∷ rs) → AreRuns b (q ∷ qs) → ((n : ℕ) → in_ranges (r ∷ rs) n ≡ in_ranges (q ∷ qs) n) → r.1 ≡ q.1
    → (n : ℕ) → in_ranges rs n ≡ in_ranges qs n
rest_same a b r q rs qs one two same ends n =
    ⊎_elim (λ high. sym (above_first r rs n high) ∙ same n ∙ above_first q qs n (omega arith))
    (λ low. none_below (r.1 + 2) n rs one.2 (omega arith) ∙ sym (none_below (q.1 + 2) n qs two.2 (omega arith)))
    (cases_lt r.1 n)

-- rising ranges with the same numbers are the same
pub same_ranges : (a b : ℕ) (rs qs : List (ℕ × ℕ)) → AreRuns a rs → AreRuns b qs → ((n : ℕ) → in_ranges rs n ≡ in_ranges qs n) → rs ≡ qs
same_ranges a b [] [] one two same = refl
same_ranges a b [] (q ∷ qs) one two same = absurd (true≢false (sym (first_in q qs q.0 (omega arith) two.1) ∙ sym (same q.0)))
same_ranges a b (r ∷ rs) [] one two same = absurd (true≢false (sym (first_in r rs r.0 (omega arith) one.1) ∙ same r.0))
same_ranges a b (r ∷ rs) (q ∷ qs) one two same =
    let back : (n : ℕ) → in_ranges (q ∷ qs) n ≡ in_ranges (r ∷ rs) n = λ n. sym (same n) in
    let low = no_earlier a b r q rs qs one two same in
    let high = no_earlier b a q r qs rs two one back in
    let first : r.0 ≡ q.0 = omega arith in
    let long = no_later a b r q rs qs one two same low in
    let short = no_later b a q r qs rs two one back high in
    let last : r.1 ≡ q.1 = omega arith in
    ap (λ n. (n, r.1) ∷ rs) first ∙ ap (λ n. (q.0, n) ∷ rs) last
    ∙ ap (λ more. q ∷ more) (same_ranges (r.1 + 2) (q.1 + 2) rs qs one.2 two.2 (rest_same a b r q rs qs one two same last))

pub one_canonical_text : OneCanonicalText
one_canonical_text s one other h k =
    h.spelled ∙ ap ranges_text (same_ranges 0 0 h.ranges k.ranges h.rising k.rising (λ n. sym (h.same n) ∙ k.same n)) ∙ sym k.spelled
