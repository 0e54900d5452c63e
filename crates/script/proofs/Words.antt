-- The words of a line, one after another.
use Rattle.std.proofs.Common.{◌≡◌, ℕ, ◌+◌, ◌<◌, ◌≤◌, true, false, cond, List, [], ◌∷◌, length, take, drop, get_or, zero, suc, refl, sym, ap, ◌∙◌, arith, rules, drop-cons, length-take, take_all, inl, inr, ◌⊎◌}
use Rattle.std.proofs.lemmas.Bool.{cases_lt}
use Rattle.std.proofs.lemmas.Bool.Decides.{nat_tests}
use Rattle.std.proofs.lemmas.List.Splits.{slice_split_first, slice_split_none}
use Rattle.std.proofs.lemmas.List.{drop_all, get_or_default, get_or-drop, length-drop}
use Rattle.std.proofs.lemmas.List.Sums.{fails_before_first, passes_at_first, prefix_len_passes, prefix_len_stops}
use Rattle.std.specs.List.{filter, onto_first, position_or_len, prefix_len, slice_split}
use Rattle.script.specs.Lines.{is_blank, is_some_word, words_of}

-- a blank before a line changes none of its words
words-blank : (x : ℕ) (xs : List ℕ) → is_blank x ≡ true → words_of (x ∷ xs) ≡ words_of xs
words-blank x xs e = ap (λ b. filter is_some_word (cond b ([] ∷ slice_split is_blank xs) (onto_first x (slice_split is_blank xs)))) e

-- nor do several
pub words-drop : (line : List ℕ) (n : ℕ) → n ≤ length line → ((k : ℕ) → k < n → is_blank (get_or line k 0) ≡ true) → words_of (drop n line) ≡ words_of line
words-drop line zero within all = refl
words-drop line (suc n) within all =
    let lt : n < length line = omega (arith, within) in
    sym (words-blank (get_or line n 0) (drop (suc n) line) (all n (omega arith))) ∙ ap words_of (sym (drop-cons line n 0 lt))
    ∙ words-drop line n (omega (arith, within)) (λ k h. all k (omega (arith, h)))

-- a line that begins with no blank begins with a word
word-some : (xs : List ℕ) → 0 < length xs → is_blank (get_or xs 0 0) ≡ false → 0 < position_or_len is_blank xs
word-some [] some e = absurd (omega (arith, some))
word-some (x ∷ xs) some e = rw e (omega arith)

word-kept : (word : List ℕ) (others : List (List ℕ)) → 0 < length word → filter is_some_word (word ∷ others) ≡ word ∷ filter is_some_word others
word-kept [] others some = absurd (omega (arith, some))
word-kept (x ∷ word) others some = search (rules, nat_tests)

-- it and what stands behind it
pub words-first : (xs : List ℕ) → 0 < length xs → is_blank (get_or xs 0 0) ≡ false
    → words_of xs ≡ take (position_or_len is_blank xs) xs ∷ words_of (drop (position_or_len is_blank xs) xs)
words-first xs some e = at_end_or_not (cases_lt (position_or_len is_blank xs) (length xs))
  where
    n : ℕ
    n = position_or_len is_blank xs

    long : 0 < n
    long = word-some xs some e

    taken : 0 < length (take n xs)
    taken = omega (arith, long, some, length-take n xs)

    at_end_or_not : (n < length xs) ⊎ (length xs ≤ n) → words_of xs ≡ take n xs ∷ words_of (drop n xs)
    at_end_or_not (inl lt) =
        ap (filter is_some_word) (slice_split_first is_blank xs 0 lt) ∙ word-kept (take n xs) (slice_split is_blank (drop (n + 1) xs)) taken
        ∙ ap (λ ws. take n xs ∷ ws) (ap words_of (let e : n + 1 ≡ suc n = omega arith in ap (λ k. drop k xs) e)
        ∙ sym (words-blank (get_or xs n 0) (drop (suc n) xs) (passes_at_first is_blank xs 0 lt)) ∙ ap words_of (sym (drop-cons xs n 0 lt)))
    at_end_or_not (inr ge) =
        ap (filter is_some_word) (slice_split_none is_blank xs (λ k d h. ap is_blank (get_or_default xs k d 0 h) ∙ fails_before_first is_blank xs k 0 (omega (arith, h, ge))))
        ∙ word-kept xs [] some
        ∙ ap (λ w. w ∷ []) (sym (take_all n xs ge)) ∙ ap (λ rest. take n xs ∷ words_of rest) (sym (drop_all n xs ge))

-- a line of blanks has none
pub words-none : (line : List ℕ) (n : ℕ) → n ≡ prefix_len is_blank line → n ≡ length line → words_of line ≡ []
words-none line n blanks all =
    sym (words-drop line n (omega (arith, all)) (λ k h. prefix_len_passes is_blank line k 0 (omega (arith, h, blanks)))) ∙ ap words_of (drop_all n line (omega (arith, all)))

-- the first word behind the blanks, and what stands behind it
pub words-next : (line : List ℕ) (n k : ℕ) → n ≡ prefix_len is_blank line → n < length line → k ≡ position_or_len is_blank (drop n line)
    → words_of line ≡ take k (drop n line) ∷ words_of (drop k (drop n line))
words-next line n k blanks lt e =
    sym (words-drop line n (omega (arith, lt)) (λ j h. prefix_len_passes is_blank line j 0 (omega (arith, h, blanks))))
    ∙ rw e (words-first (drop n line) (omega (arith, lt, length-drop n line)) starts)
  where
    starts : is_blank (get_or (drop n line) 0 0) ≡ false
    starts = ap is_blank (get_or-drop n line 0 0) ∙ ap (λ j. is_blank (get_or line j 0)) (let e : n + 0 ≡ prefix_len is_blank line = omega (arith, blanks) in e)
        ∙ prefix_len_stops is_blank line 0 (omega (arith, blanks, lt))
