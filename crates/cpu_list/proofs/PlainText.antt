-- Which bytes a printed text has, and when it has none.
use Rattle.std.proofs.Common.{◌≡◌, ℕ, ◌+◌, ◌^◌, ◌<◌, ◌≤◌, Bool, true, false, ◌&&◌, ◌==◌, nat_le, nat_lt, List, [], ◌∷◌, ◌++◌, length, decimal, refl, sym, ap, subst, ◌∙◌, ⊎_elim, length-append, arith}
use Rattle.std.specs.FinSet as set
use Rattle.std.specs.List.{list_all}
use Rattle.std.proofs.lemmas.Bool.{true≢false, ne_eqb, and_from, cases_eq, cond-true, eq-eqb}
use Rattle.std.proofs.lemmas.Bool.Decides.{nat_tests}
use Rattle.std.proofs.lemmas.Fmt.{decimal_nonempty}
use Rattle.std.proofs.lemmas.List.Folds.{list_all-append}
use Rattle.cpu_set.specs.Ids.{Ids}
use Rattle.cpu_set.specs.Members.{IsCpu}
use Rattle.cpu_set.specs.declared.TheConstants.{CPU_LIMIT}
use Rattle.cpu_set.specs.Ranges.{AreRuns, in_ranges}
use Rattle.cpu_list.specs.CanonicalList.{range_text, list_text}
use Rattle.cpu_list.specs.CanonicalLaws.{is_list_byte, TextIsPlain, TextLacks, TextIsEmpty}
use Rattle.cpu_set.specs.RangesFrom.{ranges_from}
use Rattle.cpu_list.specs.TextAfter.{text_after}
use Rattle.cpu_set.specs.RangeLaws.{ranges_among, AreRuns-ranges_among, in_ranges-among, ranges_none_among, ranges_from-is}
use Rattle.cpu_list.proofs.RangeText.{range_text-apart}
use Rattle.cpu_list.proofs.RoundTrip.{AreBelow, AreBelow-from_runs}
use Rattle.cpu_list.proofs.SetTexts.{list_text-is}
use Rattle.cpu_list.proofs.TextBytes.{all_pass_weaker, none_pass, is_range_byte, range_byte-is_list_byte, range_bytes}

low : (q n : ℕ) (v : Bool) → ((nat_le 0 q && nat_lt q (0 + n)) && v) ≡ true → q < n
low q n v h = grind (arith, nat_tests)

ranges_below : (s : Ids) (n : ℕ) → n ≡ CPU_LIMIT → AreBelow n (ranges_from s 0)
ranges_below s n e =
    let is : ranges_from s 0 ≡ ranges_among (set.contains s) 0 n = ranges_from-is s 0 n (omega arith) in
    AreBelow-from_runs n 0 (ranges_from s 0) (subst (AreRuns 0) (sym is) (AreRuns-ranges_among (set.contains s) 0 n))
    (λ q h. low q n (set.contains s q) (sym (in_ranges-among (set.contains s) 0 n q) ∙ sym (ap (λ rs. in_ranges rs q) is) ∙ h))

plain_after : (limit : ℕ) → limit ≤ 2 ^ 64 → (separator : List ℕ) (rs : List (ℕ × ℕ)) → list_all is_list_byte separator ≡ true → AreBelow limit rs
    → list_all is_list_byte (text_after separator rs) ≡ true
plain_after limit small separator [] plain h = refl
plain_after limit small separator (r ∷ more) plain h =
    let bytes = range_bytes r.0 r.1 (omega (arith, h.0)) (omega (arith, h.0)) in
    list_all-append is_list_byte separator (range_text r ++ text_after (44 ∷ []) more)
    ∙ and_from _ _ plain (
    list_all-append is_list_byte (range_text r) (text_after (44 ∷ []) more)
    ∙ and_from _ _ (all_pass_weaker is_range_byte is_list_byte range_byte-is_list_byte (range_text r) bytes)
    (plain_after limit small (44 ∷ []) more refl h.1))

plain_at : (s : Ids) (n : ℕ) → n ≡ CPU_LIMIT → n ≤ 2 ^ 64 → list_all is_list_byte (list_text s) ≡ true
plain_at s n e small = ap (list_all is_list_byte) (list_text-is s) ∙ plain_after n small [] (ranges_from s 0) refl (ranges_below s n e)

pub text_is_plain : TextIsPlain
text_is_plain s = plain_at s CPU_LIMIT refl (omega arith)

other_byte : (other b : ℕ) → is_list_byte other ≡ false → is_list_byte b ≡ true → (b == other) ≡ false
other_byte other b out passes = ne_eqb b other (λ same. true≢false (sym passes ∙ ap is_list_byte same ∙ out))

pub text_lacks : TextLacks
text_lacks s other out = none_pass is_list_byte (λ b. b == other) (λ b passes. other_byte other b out passes) (list_text s) (text_is_plain s)

range_some : (first last : ℕ) → first < 2 ^ 64 → 0 < length (range_text (first, last))
range_some first last fits =
    let some = decimal_nonempty first fits in
    ⊎_elim (λ same. let is : range_text (first, last) ≡ decimal first = cond-true _ _ _ (eq-eqb first last same) in rw is some)
    (λ apart. rw (range_text-apart first last apart, length-append) (omega arith)) (cases_eq first last)

-- ranges without a text are none
no_ranges : (limit : ℕ) → limit ≤ 2 ^ 64 → (rs : List (ℕ × ℕ)) → AreBelow limit rs → text_after [] rs ≡ [] → rs ≡ []
no_ranges limit small [] h e = refl
no_ranges limit small (r ∷ more) h e =
    let some = range_some r.0 r.1 (omega (arith, h.0)) in
    let both = length-append (range_text r) (text_after (44 ∷ []) more) in
    absurd (omega (arith, ap length e))

empty_at : (s : Ids) (n : ℕ) → n ≡ CPU_LIMIT → n ≤ 2 ^ 64 → list_text s ≡ [] → (q : ℕ) → IsCpu q → set.contains s q ≡ false
empty_at s n e small none q lt =
    let is : ranges_from s 0 ≡ ranges_among (set.contains s) 0 n = ranges_from-is s 0 n (omega arith) in
    let gone : ranges_from s 0 ≡ [] = no_ranges n small (ranges_from s 0) (ranges_below s n e) (sym (list_text-is s) ∙ none) in
    let out : false ≡ ((nat_le 0 q && nat_lt q (0 + n)) && set.contains s q) =
    sym (ap (λ rs. in_ranges rs q) gone) ∙ ap (λ rs. in_ranges rs q) is ∙ in_ranges-among (set.contains s) 0 n q in
    let below : q < n = omega arith in
    grind (arith, nat_tests)

nothing_at : (s : Ids) (n : ℕ) → n ≡ CPU_LIMIT → ((q : ℕ) → IsCpu q → set.contains s q ≡ false) → list_text s ≡ []
nothing_at s n e none =
    list_text-is s
    ∙ ap (text_after []) (ranges_from-is s 0 n (omega arith) ∙ ranges_none_among (set.contains s) 0 n (λ q low high. none q (omega arith)))

pub text_is_empty : TextIsEmpty
text_is_empty s = (empty_at s CPU_LIMIT refl (omega arith), nothing_at s CPU_LIMIT refl)
