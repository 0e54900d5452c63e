-- The ranges of a set less the numbers of another, piece by piece.
use Rattle.cpu_set.specs.Ids.{Ids, IsFirstFrom, NoneFrom}
use Rattle.cpu_set.specs.Members.{InRange, IsComplement, IsCpu}
use Rattle.cpu_set.specs.PointwiseLaws.{contains-difference}
use Rattle.cpu_set.specs.RangeLaws.{AreRuns-weaker, above_first, first_in, members_ranges, none_below, ranges_among, ranges_from-is, ranges_none_among, ranges_skip}
use Rattle.cpu_set.specs.Ranges.{AreRuns, in_ranges}
use Rattle.cpu_set.specs.RangesFrom.{ranges_from}
use Rattle.cpu_set.specs.SetRangeLaws.{from_range}
use Rattle.cpu_set.specs.declared.TheConstants.{CPU_LIMIT}
use Rattle.std.proofs.Common.{nat_le, Bool, List, MatchOption, None, Option, Some, [], ap, append_assoc, append-nil, arith, drop, drop-cons, false, get_or, length, min, nat_lt, not, refl, subst, suc, sym, take, take-append-drop, true, unwrap_or, zero, ℕ, ◌&&◌, ◌++◌, ◌+◌, ◌-◌, ◌<◌, ◌||◌, ◌∙◌, ◌∷◌, ◌≡◌, ◌≤◌, ⊎_elim}
use Rattle.std.proofs.lemmas.Bool.{and_parts, cases_eq, cases_lt, or_cases, or_right}
use Rattle.std.proofs.lemmas.Bool.Decides.{nat_tests}
use Rattle.std.proofs.lemmas.List.{drop_all, get_or-drop, length-drop, length-take, take-append-le, take_all, take_more}
use Rattle.std.proofs.lemmas.List.Folds.{list_any-append}
use Rattle.std.specs.FinSet as set
use Rattle.std.specs.Prelude.{All}
use Rattle.tagged_sets.proofs.Sets.{in_range-ranges, runs_of_set}
use Rattle.tagged_sets.specs.RangeSetLaws.{in_of_set}
use Rattle.tagged_sets.specs.CutOut.{IsCut, IsRun}
use Rattle.tagged_sets.specs.Tagged.{IsOfSet, ranges_of_set, set_of_ranges}

-- where a set has no number the ranges go on the same
skip : (t : Ids) (a b : ℕ) → a ≤ b → b ≤ CPU_LIMIT → ((q : ℕ) → a ≤ q → q < b → set.contains t q ≡ false) → ranges_from t a ≡ ranges_from t b
skip t a b le fit none =
    let at : a + (b - a) ≡ b = omega arith in
    ranges_from-is t a (CPU_LIMIT - a) (omega arith)
    ∙ ranges_skip (set.contains t) a (b - a) (CPU_LIMIT - a) (CPU_LIMIT - b) (omega arith) (λ m lo hi. none m lo (omega arith))
    ∙ ap (λ m. ranges_among (set.contains t) m (CPU_LIMIT - b)) at ∙ sym (ranges_from-is t b (CPU_LIMIT - b) (omega arith))

-- a piece up to a number that the set lacks
piece : (t : Ids) (a e : ℕ) → a < e → InRange t → ((q : ℕ) → a ≤ q → q < e → set.contains t q ≡ true) → set.contains t e ≡ false
    → ranges_from t a ≡ (a, e - 1) ∷ ranges_from t e
piece t a e rise low whole stop =
    let next : e - 1 + 1 ≡ e = omega arith in
    from_range t a (e - 1) (record {
      rising = omega arith;
      in_range = low (e - 1) (whole (e - 1) (omega arith) (omega arith));
      whole = λ n lo hi. whole n lo (omega arith);
      longest = λ more. ap (set.contains t) next ∙ stop;
    })
    ∙ ap (λ n. (a, e - 1) ∷ ranges_from t n) next

-- a range from a number on, where the next numbers to be cut out are known
pub record IsStep (t s : Ids) (first last next from to end past : ℕ) : Type 0 where
  pub cut : IsCut t s first last
  pub run : IsRun s next from to
  pub after : first ≤ next
  pub before : next ≤ last
  pub below : last < CPU_LIMIT
  pub ends : end ≡ min from (last + 1)
  pub goes_on : past ≡ min to (last + 1)

-- none is left where the numbers are cut out
cut_out : (t s : Ids) (first last next from to end past : ℕ) → IsStep t s first last next from to end past
    → (q : ℕ) → next ≤ q → end ≤ q → q < past → set.contains t q ≡ false
cut_out t s first last next from to end past h q above lo hi =
    h.cut.inside q (omega (arith, h.after)) (omega (arith, h.goes_on))
    ∙ ap not (h.run.each q (omega (arith, h.ends, h.goes_on)) (omega (arith, h.goes_on)) (omega (arith, h.goes_on, h.below)))

rises : (t s : Ids) (first last next from to end past : ℕ) → IsStep t s first last next from to end past → (end ≤ past) × (past ≤ CPU_LIMIT)
rises t s first last next from to end past h =
    (omega (arith, h.ends, h.goes_on, h.run.rising), omega (arith, h.goes_on, h.below))

pub cut_piece : (t s : Ids) (first last next from to end past : ℕ) → IsStep t s first last next from to end past → next < end
    → ranges_from t next ≡ (next, end - 1) ∷ ranges_from t past
cut_piece t s first last next from to end past h lt =
    let fits = rises t s first last next from to end past h in
    let stop : set.contains t end ≡ false =
    ⊎_elim (λ short. cut_out t s first last next from to end past h end (omega arith) (omega arith) (omega (arith, h.ends, h.goes_on, h.run.rising)))
    (λ long. let e : end ≡ last + 1 = omega (arith, h.ends) in ap (set.contains t) e ∙ h.cut.behind)
    (cases_lt from (last + 1)) in
    piece t next end lt h.cut.in_range
    (λ q lo hi. h.cut.inside q (omega (arith, h.after)) (omega (arith, h.ends)) ∙ ap not (h.run.none q lo (omega (arith, h.ends)))) stop
    ∙ ap (λ rs. (next, end - 1) ∷ rs) (skip t end past fits.0 fits.1 (λ q lo hi. cut_out t s first last next from to end past h q (omega arith) lo hi))

pub cut_nothing : (t s : Ids) (first last next from to end past : ℕ) → IsStep t s first last next from to end past → end ≤ next → next ≤ past
    → ranges_from t next ≡ ranges_from t past
cut_nothing t s first last next from to end past h le on =
    let fits = rises t s first last next from to end past h in
    skip t next past on fits.1 (λ q lo hi. cut_out t s first last next from to end past h q lo (omega arith) hi)

pub IsRun-later : (s : Ids) (a b first end : ℕ) → a ≤ b → IsRun s a first end → IsRun s b first end
IsRun-later s a b first end le h = record { none = λ q lo hi. h.none q (omega arith) hi; each = h.each; rising = h.rising }

not_lacked : (n : ℕ) (b c : Bool) → n < CPU_LIMIT → c ≡ (nat_lt n CPU_LIMIT && not b) → c ≡ false → b ≡ true
not_lacked n b c lt e f = grind (arith, nat_tests)

-- from a number on t has the numbers of the ranges that s lacks
pub record IsLeft (t s : Ids) (rest : List (ℕ × ℕ)) (from : ℕ) : Type 0 where
  pub runs : AreRuns from rest
  pub below : (q : ℕ) → in_ranges rest q ≡ true → IsCpu q
  pub in_range : InRange t
  pub same : (q : ℕ) → from ≤ q → set.contains t q ≡ (in_ranges rest q && not (set.contains s q))

-- the number behind the first k ranges
unfoldable pub past : ℕ → List (ℕ × ℕ) → ℕ → ℕ
past from rest zero = from
past from [] (suc k) = from
past from (r ∷ more) (suc k) = past (r.1 + 1) more k

left_next : (t s : Ids) (r : ℕ × ℕ) (more : List (ℕ × ℕ)) (from : ℕ) → IsLeft t s (r ∷ more) from → IsLeft t s more (r.1 + 1)
left_next t s r more from h = record {
  runs = AreRuns-weaker (r.1 + 1) (r.1 + 2) more (omega arith) h.runs.2;
  below = λ q has. h.below q (or_right _ _ has);
  in_range = h.in_range;
  same = λ q lo. h.same q (omega (arith, h.runs.0, h.runs.1)) ∙ ap (λ b. b && not (set.contains s q)) (above_first r more q (omega arith));
}

left_cut : (t s : Ids) (r : ℕ × ℕ) (more : List (ℕ × ℕ)) (from : ℕ) → IsLeft t s (r ∷ more) from → IsCut t s r.0 r.1
left_cut t s r more from h = record {
  in_range = h.in_range;
  inside = λ q lo hi. h.same q (omega (arith, h.runs.0)) ∙ ap (λ b. b && not (set.contains s q)) (first_in r more q lo hi);
  behind = h.same (r.1 + 1) (omega (arith, h.runs.0, h.runs.1))
      ∙ ap (λ b. b && not (set.contains s (r.1 + 1))) (above_first r more (r.1 + 1) (omega arith) ∙ none_below (r.1 + 2) (r.1 + 1) more h.runs.2 (omega arith));
}

first_below : (t s : Ids) (r : ℕ × ℕ) (more : List (ℕ × ℕ)) (from : ℕ) → IsLeft t s (r ∷ more) from → r.1 < CPU_LIMIT
first_below t s r more from h = h.below r.1 (first_in r more r.1 h.runs.1 (omega arith))

left_skip : (t s : Ids) (r : ℕ × ℕ) (more : List (ℕ × ℕ)) (from : ℕ) → IsLeft t s (r ∷ more) from → ranges_from t from ≡ ranges_from t r.0
left_skip t s r more from h =
    let low = first_below t s r more from h in
    skip t from r.0 h.runs.0 (omega (arith, h.runs.1))
    (λ q lo hi. h.same q lo ∙ ap (λ b. b && not (set.contains s q)) (none_below r.0 q (r ∷ more) (omega arith, h.runs.1, h.runs.2) hi))

left_whole : (t s : Ids) (r : ℕ × ℕ) (more : List (ℕ × ℕ)) (from : ℕ) → IsLeft t s (r ∷ more) from → ((q : ℕ) → r.0 ≤ q → q ≤ r.1 → set.contains s q ≡ false)
    → ranges_from t from ≡ r ∷ ranges_from t (r.1 + 1)
left_whole t s r more from h none =
    let cut = left_cut t s r more from h in
    left_skip t s r more from h
    ∙ from_range t r.0 r.1 (record {
      rising = h.runs.1;
      in_range = first_below t s r more from h;
      whole = λ q lo hi. cut.inside q lo hi ∙ ap not (none q lo hi);
      longest = λ on. cut.behind;
    })

left_after : (t s : Ids) (rest : List (ℕ × ℕ)) (from k : ℕ) → IsLeft t s rest from → IsLeft t s (drop k rest) (past from rest k)
unfolding past
left_after t s rest from zero h = h
left_after t s [] from (suc k) h = h
left_after t s (r ∷ more) from (suc k) h = left_after t s more (r.1 + 1) k (left_next t s r more from h)

-- ranges that have none of the numbers stay as they are
stretch : (t s : Ids) (rest : List (ℕ × ℕ)) (from k first : ℕ) → IsLeft t s rest from → k ≤ length rest → ((q : ℕ) → from ≤ q → q < first → set.contains s q ≡ false)
    → All (λ r. r.1 < first) (take k rest) → ranges_from t from ≡ take k rest ++ ranges_from t (past from rest k)
unfolding past
stretch t s rest from zero first h fits none below = refl
stretch t s [] from (suc k) first h fits none below = absurd (omega arith)
stretch t s (r ∷ more) from (suc k) first h fits none below =
    let low : r.1 < first = below 0 r (omega arith) in
    left_whole t s r more from h (λ q lo hi. none q (omega (arith, h.runs.0)) (omega arith))
    ∙ ap (λ rs. r ∷ rs) (stretch t s more (r.1 + 1) k first (left_next t s r more from h) (omega arith) (λ q lo hi. none q (omega (arith, h.runs.0, h.runs.1)) hi)
    (λ i d lt. below (suc i) d (omega arith)))

past-none : (from k : ℕ) → past from [] k ≡ from
unfolding past
past-none from zero = refl
past-none from (suc k) = refl

pub past-add : (from : ℕ) (rest : List (ℕ × ℕ)) (j k n : ℕ) → n ≡ j + k → past (past from rest j) (drop j rest) k ≡ past from rest n
unfolding past
past-add from rest zero k n e = let same : k ≡ n = omega arith in ap (past from rest) same
past-add from [] (suc j) k n e = past-none from k ∙ sym (past-none from n)
past-add from (r ∷ more) (suc j) k zero e = absurd (omega arith)
past-add from (r ∷ more) (suc j) k (suc n) e = past-add (r.1 + 1) more j k n (omega arith)

pub past-rises : (t s : Ids) (rest : List (ℕ × ℕ)) (from k : ℕ) → IsLeft t s rest from → from ≤ past from rest k
unfolding past
past-rises t s rest from zero h = omega arith
past-rises t s [] from (suc k) h = omega arith
past-rises t s (r ∷ more) from (suc k) h =
    let later = past-rises t s more (r.1 + 1) k (left_next t s r more from h) in
    omega (arith, h.runs.0, h.runs.1)

-- no ranges, nothing left
nothing_left : (t s : Ids) (from : ℕ) → IsLeft t s [] from → ranges_from t from ≡ []
unfolding ranges_from
nothing_left t s from h = ranges_none_among (set.contains t) from (CPU_LIMIT - from) (λ m lo hi. h.same m lo)

pub all_of : (t : Ids) → ranges_from t 0 ≡ ranges_of_set t
unfolding ranges_of_set
all_of t = sym (members_ranges t CPU_LIMIT refl)

pub difference_in_range : (ranges : List (ℕ × ℕ)) (s : Ids) → InRange (set.difference (set_of_ranges ranges) s)
difference_in_range ranges s q has = in_range-ranges ranges q (and_parts _ _ (sym (contains-difference (set_of_ranges ranges) s q) ∙ has)).0

-- at first all ranges of a set are left
pub all_left : (ranges : List (ℕ × ℕ)) (s : Ids) → IsOfSet ranges → IsLeft (set.difference (set_of_ranges ranges) s) s ranges 0
all_left ranges s of = record {
  runs = subst (AreRuns 0) of (runs_of_set (set_of_ranges ranges));
  below = λ q has. in_range-ranges ranges q (in_of_set ranges of q ∙ has);
  in_range = difference_in_range ranges s;
  same = λ q lo. contains-difference (set_of_ranges ranges) s q ∙ ap (λ b. b && not (set.contains s q)) (in_of_set ranges of q);
}

-- from the first number of the first range on the same ranges are left
left_first : (t s : Ids) (r : ℕ × ℕ) (more : List (ℕ × ℕ)) (from : ℕ) → IsLeft t s (r ∷ more) from → IsLeft t s (r ∷ more) r.0
left_first t s r more from h = record {
  runs = (omega arith, h.runs.1, h.runs.2);
  below = h.below;
  in_range = h.in_range;
  same = λ q lo. h.same q (omega (arith, h.runs.0));
}

past-any : (a b : ℕ) (r : ℕ × ℕ) (more : List (ℕ × ℕ)) (k : ℕ) → 0 < k → past a (r ∷ more) k ≡ past b (r ∷ more) k
unfolding past
past-any a b r more zero some = absurd (omega arith)
past-any a b r more (suc k) some = refl

stretch_first :
    (t s : Ids) (r : ℕ × ℕ) (more : List (ℕ × ℕ)) (from k first end : ℕ) → IsLeft t s (r ∷ more) from → 0 < k → k ≤ length (r ∷ more) → IsRun s r.0 first end
    → All (λ r. r.1 < first) (take k (r ∷ more)) → ranges_from t from ≡ take k (r ∷ more) ++ ranges_from t (past from (r ∷ more) k)
stretch_first t s r more from k first end h some fits run below =
    left_skip t s r more from h
    ∙ stretch t s (r ∷ more) r.0 k first (left_first t s r more from h) fits run.none below
    ∙ ap (λ n. take k (r ∷ more) ++ ranges_from t n) (past-any r.0 from r more k some)

-- some ranges are added as they stand
pub after_whole :
    (t s : Ids) (more rest : List (ℕ × ℕ)) (at k first end : ℕ) (r d : ℕ × ℕ) (out new all : List (ℕ × ℕ)) → rest ≡ drop at more → IsLeft t s more 0
    → at < length more → r ≡ get_or more at d → 0 < k → k ≤ length rest → IsRun s r.0 first end → All (λ r. r.1 < first) (take k rest)
    → out ++ ranges_from t (past 0 more at) ≡ all → new ≡ out ++ take k rest → new ++ ranges_from t (past 0 more (at + k)) ≡ all
after_whole t s more rest at k first end r d out new all e left lt at_r some fits run below are is =
    let cons : drop at more ≡ r ∷ drop (suc at) more = drop-cons more at d lt ∙ ap (λ x. x ∷ drop (suc at) more) (sym at_r) in
    let same : rest ≡ r ∷ drop (suc at) more = e ∙ cons in
    let h : IsLeft t s (r ∷ drop (suc at) more) (past 0 more at) = subst (λ xs. IsLeft t s xs (past 0 more at)) cons (left_after t s more 0 at left) in
    ap (λ xs. xs ++ ranges_from t (past 0 more (at + k))) is
    ∙ append_assoc out (take k rest) (ranges_from t (past 0 more (at + k)))
    ∙ ap (λ n. out ++ (take k rest ++ ranges_from t n)) (sym (past-add 0 more at k (at + k) refl) ∙ ap (λ xs. past (past 0 more at) xs k) cons)
    ∙ ap (λ xs. out ++ (take k xs ++ ranges_from t (past (past 0 more at) (r ∷ drop (suc at) more) k))) same
    ∙ ap (λ rs. out ++ rs)
    (sym (stretch_first t s r (drop (suc at) more) (past 0 more at) k first end h some (omega (arith, ap length same)) run (subst (λ xs. All (λ r. r.1 < first) (take k xs)) same below)))
    ∙ are

pub past-later : (t s : Ids) (more : List (ℕ × ℕ)) (at k : ℕ) → IsLeft t s more 0 → past 0 more at ≤ past 0 more (at + k)
past-later t s more at k left =
    omega (arith, past-rises t s (drop at more) (past 0 more at) k (left_after t s more 0 at left), past-add 0 more at k (at + k) refl)

-- ranges that are cut out as a whole leave nothing
nothing_of : (t s : Ids) (rest : List (ℕ × ℕ)) (from k : ℕ) → IsLeft t s rest from → ((q : ℕ) → in_ranges (take k rest) q ≡ true → set.contains s q ≡ true)
    → ranges_from t from ≡ ranges_from t (past from rest k)
unfolding past
nothing_of t s rest from zero h gone = refl
nothing_of t s [] from (suc k) h gone = refl
nothing_of t s (r ∷ more) from (suc k) h gone =
    let low = first_below t s r more from h in
    let cut = left_cut t s r more from h in
    left_skip t s r more from h
    ∙ skip t r.0 (r.1 + 1) (omega (arith, h.runs.1)) (omega (arith, low))
    (λ q lo hi. cut.inside q lo (omega arith) ∙ ap not (gone q (first_in r (take k more) q lo (omega arith))))
    ∙ nothing_of t s more (r.1 + 1) k (left_next t s r more from h) (λ q has. gone q (or_right _ _ has))

pub after_gone :
    (t s : Ids) (more rest : List (ℕ × ℕ)) (at k : ℕ) (out all : List (ℕ × ℕ)) → rest ≡ drop at more → IsLeft t s more 0
    → ((q : ℕ) → in_ranges (take k rest) q ≡ true → set.contains s q ≡ true) → out ++ ranges_from t (past 0 more at) ≡ all → out ++ ranges_from t (past 0 more (at + k)) ≡ all
after_gone t s more rest at k out all e left gone are =
    ap (λ n. out ++ ranges_from t n) (sym (past-add 0 more at k (at + k) refl))
    ∙ ap (λ rs. out ++ rs)
    (sym (nothing_of t s (drop at more) (past 0 more at) k (left_after t s more 0 at left) (λ q has. gone q (ap (λ xs. in_ranges (take k xs) q) e ∙ has))))
    ∙ are

between : (first last q : ℕ) (b : Bool) → ((nat_le first q && nat_le q last) || false) ≡ true → last - first ≤ 1 → (first ≡ q → b ≡ true) → (last ≡ q → b ≡ true) → b ≡ true
between first last q b has short low high = let one = cases_eq first q in let two = cases_eq last q in grind (arith, nat_tests)

-- one range more of which each number is cut out
pub gone_more : (s : Ids) (ranges : List (ℕ × ℕ)) (k : ℕ) (d : ℕ × ℕ) → k < length ranges → ((q : ℕ) → in_ranges (take k ranges) q ≡ true → set.contains s q ≡ true)
    → (get_or ranges k d).1 - (get_or ranges k d).0 ≤ 1 → set.contains s (get_or ranges k d).0 ≡ true → set.contains s (get_or ranges k d).1 ≡ true
    → (q : ℕ) → in_ranges (take (k + 1) ranges) q ≡ true → set.contains s q ≡ true
gone_more s ranges k d lt before short low high q has =
    let r : ℕ × ℕ = get_or ranges k d in
    let split : (in_ranges (take k ranges) q || in_ranges (r ∷ []) q) ≡ true =
    sym (ap (λ xs. in_ranges xs q) (take_more ranges k d lt) ∙ list_any-append (λ r. nat_le r.0 q && nat_le q r.1) (take k ranges) (r ∷ [])) ∙ has in
    ⊎_elim (λ first. before q first)
    (λ last. between r.0 r.1 q (set.contains s q) last short (λ e. ap (set.contains s) (sym e) ∙ low) (λ e. ap (set.contains s) (sym e) ∙ high))
    (or_cases _ _ split)

-- none is left behind the last
pub after_all : (t s : Ids) (more : List (ℕ × ℕ)) (n : ℕ) (out all : List (ℕ × ℕ)) → IsLeft t s more 0 → n ≡ length more → out ++ ranges_from t (past 0 more n) ≡ all → out ≡ all
after_all t s more n out all left e are =
    let h : IsLeft t s [] (past 0 more n) = subst (λ rest. IsLeft t s rest (past 0 more n)) (drop_all n more (omega arith)) (left_after t s more 0 n left) in
    sym (append-nil out) ∙ ap (λ rs. out ++ rs) (sym (nothing_left t s (past 0 more n) h)) ∙ are

-- the range at a place, where those before it were added
pub record IsAt (t s : Ids) (more : List (ℕ × ℕ)) (at : ℕ) (r : ℕ × ℕ) : Type 0 where
  pub cut : IsCut t s r.0 r.1
  pub before : past 0 more at ≤ r.0
  pub from : ranges_from t (past 0 more at) ≡ ranges_from t r.0
  pub next : past 0 more (at + 1) ≡ r.1 + 1
  pub rising : r.0 ≤ r.1
  pub below : r.1 < CPU_LIMIT

pub at_place : (t s : Ids) (more : List (ℕ × ℕ)) (at : ℕ) (r d : ℕ × ℕ) → IsLeft t s more 0 → at < length more → r ≡ get_or more at d → IsAt t s more at r
unfolding past
at_place t s more at r d left lt is =
    let e : drop at more ≡ r ∷ drop (suc at) more = drop-cons more at d lt ∙ ap (λ x. x ∷ drop (suc at) more) (sym is) in
    let h : IsLeft t s (r ∷ drop (suc at) more) (past 0 more at) = subst (λ rest. IsLeft t s rest (past 0 more at)) e (left_after t s more 0 at left) in
    record {
      cut = left_cut t s r (drop (suc at) more) (past 0 more at) h;
      before = h.runs.0;
      from = left_skip t s r (drop (suc at) more) (past 0 more at) h;
      next = sym (past-add 0 more at 1 (at + 1) refl) ∙ ap (λ rest. past (past 0 more at) rest 1) e;
      rising = h.runs.1;
      below = first_below t s r (drop (suc at) more) (past 0 more at) h;
    }

pub past-first : (more : List (ℕ × ℕ)) → past 0 more 0 ≡ 0
unfolding past
past-first more = refl

-- what was there first stays
pub there_more : (was mid new : List (ℕ × ℕ)) → take (length was) mid ≡ was → take (length mid) new ≡ mid → take (length was) new ≡ was
there_more was mid new first then =
    let split : new ≡ mid ++ drop (length mid) new = sym (take-append-drop (length mid) new) ∙ ap (λ xs. xs ++ drop (length mid) new) then in
    ap (take (length was)) split
    ∙ take-append-le (length was) mid (drop (length mid) new) (omega (arith, length-take (length was) mid, ap length first)) ∙ first

pub there_behind : (was mid more : List (ℕ × ℕ)) → take (length was) mid ≡ was → take (length was) (mid ++ more) ≡ was
there_behind was mid more first =
    take-append-le (length was) mid more (omega (arith, length-take (length was) mid, ap length first)) ∙ first

-- a run goes up to the next number that the set lacks
pub run_found :
    (s others : Ids) (from first last end : ℕ) (next : Option ℕ) → IsComplement s others → ((q : ℕ) → from ≤ q → q < first → set.contains s q ≡ false)
    → (first < CPU_LIMIT → set.contains s first ≡ true) → first < last → last < CPU_LIMIT
    → MatchOption next (NoneFrom others (first + 1)) (IsFirstFrom others (first + 1)) → end ≡ unwrap_or next CPU_LIMIT → IsRun s from first end
run_found s others from first last end None lacks none member short fits gap e = record {
  none = none;
  each = λ q lo hi cpu. ⊎_elim (λ same. ap (set.contains s) (sym same) ∙ member (omega arith)) (λ other. not_lacked q _ _ cpu (lacks q) (gap q (omega arith))) (cases_eq first q);
  rising = omega arith;
}
run_found s others from first last end (Some m) lacks none member short fits gap e = record {
  none = none;
  each = λ q lo hi cpu. ⊎_elim (λ same. ap (set.contains s) (sym same) ∙ member (omega arith)) (λ other. not_lacked q _ _ cpu (lacks q) (gap.least q (omega arith) (omega arith))) (cases_eq first q);
  rising = omega (arith, gap.above);
}

pub run_of_one : (s : Ids) (from first : ℕ) → ((q : ℕ) → from ≤ q → q < first → set.contains s q ≡ false) → (first < CPU_LIMIT → set.contains s first ≡ true) → IsRun s from first (first + 1)
run_of_one s from first none member = record {
  none = none;
  each = λ q lo hi cpu. let same : first ≡ q = omega arith in ap (set.contains s) (sym same) ∙ member (omega arith);
  rising = omega arith;
}

-- the ranges from a place on
pub rest_is : (xs : List (ℕ × ℕ)) (at : ℕ) → take (length xs - at) (drop at xs) ≡ drop at xs
rest_is xs at = take_all (length xs - at) (drop at xs) (omega (arith, length-drop at xs))

pub rest_at : (xs : List (ℕ × ℕ)) (at k : ℕ) (d : ℕ × ℕ) → get_or (take (length xs - at) (drop at xs)) k d ≡ get_or xs (at + k) d
rest_at xs at k d = ap (λ rest. get_or rest k d) (rest_is xs at) ∙ get_or-drop at xs k d

pub rest_first : (xs : List (ℕ × ℕ)) (at : ℕ) (d : ℕ × ℕ) → get_or (take (length xs - at) (drop at xs)) 0 d ≡ get_or xs at d
rest_first xs at d = let same : at + 0 ≡ at = omega arith in rest_at xs at 0 d ∙ ap (λ k. get_or xs k d) same

pub rest_length : (xs : List (ℕ × ℕ)) (at : ℕ) → length (take (length xs - at) (drop at xs)) ≡ length xs - at
rest_length xs at = ap length (rest_is xs at) ∙ length-drop at xs

pub past-behind : (t s : Ids) (more : List (ℕ × ℕ)) (at k : ℕ) (r : ℕ × ℕ) → IsLeft t s more 0 → IsAt t s more at r → 0 < k → r.0 ≤ past 0 more (at + k)
past-behind t s more at k r left place some =
    let same : at + 1 + (k - 1) ≡ at + k = omega arith in
    omega (arith, place.next, place.rising, past-later t s more (at + 1) (k - 1) left, ap (past 0 more) same)
