-- A line that is no text.
use Rattle.std.proofs.Common.{◌≡◌, ℕ, ◌<◌, Bool, true, false, cond, ◌&&◌, nat_lt, List, [], ◌∷◌, ◌++◌, length, codes, bytes_eq, Option, None, refl, sym, ap, ◌∙◌, subst, arith, append-nil, append_assoc}
use Rattle.std.proofs.lemmas.Bool.Decides.{nat_tests}
use Rattle.std.proofs.lemmas.Str.{IsUtf8-append, IsUtf8-from_ascii, IsUtf8-from_is_utf8, IsUtf8-nil, is_utf8-from_IsUtf8}
use Rattle.std.proofs.lemmas.Str.Ascii.{IsAscii-cons, IsAscii-nil}
use Rattle.std.specs.Char.{is_ascii_digit}
use Rattle.std.specs.List.{AllByRecursion, filter, list_all, onto_first, slice_split}
use Rattle.std.specs.Str.{IsAscii, IsUtf8, is_utf8}
use Rattle.std.specs.Str.Parse.{digits_value}
use Rattle.script.specs.Commands.{Asked}
use Rattle.script.specs.Lines.{is_blank, is_some_word, words_of}
use Rattle.script.specs.Requests.{asks_for, bad, command_of, fitting, number_of, request_of, short_command, text_of}

-- a line that is not UTF-8 is refused
abbrev pub NoTextIsBad : Type 0
NoTextIsBad = (line : List ℕ) → is_utf8 line ≡ false → request_of (words_of line) ≡ bad

-- bytes, and then parts of which the first goes on with them
abbrev AreTexts : List ℕ → List (List ℕ) → Type 0
AreTexts bytes [] = IsUtf8 bytes
AreTexts bytes (part ∷ parts) = IsUtf8 (bytes ++ part) × AllByRecursion IsUtf8 parts

AreTexts-shift : (bytes : List ℕ) (x : ℕ) (parts : List (List ℕ)) → AreTexts bytes (onto_first x parts) → AreTexts (bytes ++ x ∷ []) parts
AreTexts-shift bytes x [] h = h.0
AreTexts-shift bytes x (part ∷ parts) h = (subst IsUtf8 (sym (append_assoc bytes (x ∷ []) part)) h.0, h.1)

AreTexts-all : (parts : List (List ℕ)) → AllByRecursion IsUtf8 parts → AreTexts [] parts
AreTexts-all [] h = IsUtf8-nil
AreTexts-all (part ∷ parts) h = h

blank_is_text : (x : ℕ) → is_blank x ≡ true → IsUtf8 (x ∷ [])
blank_is_text x e = let small : x < 128 = grind (arith, nat_tests) in IsUtf8-from_ascii (x ∷ []) (IsAscii-cons x [] small IsAscii-nil)

-- a line whose parts are texts is one
joined : (xs bytes : List ℕ) → AreTexts bytes (slice_split is_blank xs) → IsUtf8 (bytes ++ xs)
joined [] bytes h = h.0
joined (x ∷ xs) bytes h = by_byte (is_blank x) refl (joined xs) h
  where
    by_byte : (b : Bool) → is_blank x ≡ b → ((bytes : List ℕ) → AreTexts bytes (slice_split is_blank xs) → IsUtf8 (bytes ++ xs))
        → AreTexts bytes (cond b ([] ∷ slice_split is_blank xs) (onto_first x (slice_split is_blank xs))) → IsUtf8 (bytes ++ x ∷ xs)
    by_byte true e again h =
        IsUtf8-append bytes (x ∷ xs) (subst IsUtf8 (append-nil bytes) h.0) (IsUtf8-append (x ∷ []) xs (blank_is_text x e) (again [] (AreTexts-all (slice_split is_blank xs) h.1)))
    by_byte false e again h = subst IsUtf8 (append_assoc bytes (x ∷ []) xs) (again (bytes ++ x ∷ []) (AreTexts-shift bytes x (slice_split is_blank xs) h))

-- empty parts are texts
unfiltered : (parts : List (List ℕ)) → AllByRecursion IsUtf8 (filter is_some_word parts) → AllByRecursion IsUtf8 parts
unfiltered [] h = tt
unfiltered ([] ∷ parts) h = (IsUtf8-nil, unfiltered parts h)
unfiltered ((x ∷ part) ∷ parts) h = let kept : nat_lt 0 (length (x ∷ part)) ≡ true = grind (arith, nat_tests) in
    let both : AllByRecursion IsUtf8 ((x ∷ part) ∷ filter is_some_word parts) =
    subst (λ b. AllByRecursion IsUtf8 (cond b ((x ∷ part) ∷ filter is_some_word parts) (filter is_some_word parts))) kept h in
    (both.0, unfiltered parts both.1)

words_are_texts : (line : List ℕ) → AllByRecursion IsUtf8 (words_of line) → IsUtf8 line
words_are_texts line h = joined line [] (AreTexts-all (slice_split is_blank line) (unfiltered (slice_split is_blank line) h))

-- digits are a text
digit_is_small : (x : ℕ) → is_ascii_digit x ≡ true → x < 128
digit_is_small x e = grind (arith, nat_tests)

digits_are_ascii : (word : List ℕ) → list_all is_ascii_digit word ≡ true → IsAscii word
digits_are_ascii [] e = IsAscii-nil
digits_are_ascii (x ∷ word) e = IsAscii-cons x word (digit_is_small x (and_left (is_ascii_digit x) (list_all is_ascii_digit word) e)) (digits_are_ascii word (and_right (is_ascii_digit x) (list_all is_ascii_digit word) e))
  where
    and_left : (a b : Bool) → (a && b) ≡ true → a ≡ true
    and_left true b e = refl
    and_left false b e = e

    and_right : (a b : Bool) → (a && b) ≡ true → b ≡ true
    and_right true b e = e
    and_right false b e = absurd (let f : ⊥ = cc in f)

no_text : (word : List ℕ) → is_utf8 word ≡ false → text_of word ≡ None
no_text word e = rw e refl

no_number : (word : List ℕ) → is_utf8 word ≡ false → number_of word ≡ None
no_number word e = by_digits (list_all is_ascii_digit word) refl (nat_lt 0 (length word))
  where
    by_digits : (all : Bool) → list_all is_ascii_digit word ≡ all → (some : Bool) → cond (some && all) (fitting (digits_value 10 word)) None ≡ None
    by_digits false is true = refl
    by_digits false is false = refl
    by_digits true is some = absurd (let t : true ≡ false = sym (is_utf8-from_IsUtf8 word (IsUtf8-from_ascii word (digits_are_ascii word is))) ∙ e in let f : ⊥ = cc in f)

-- no command takes a word that is no text
none_either : (b : Bool) (o : Option Asked) → o ≡ None → cond b None o ≡ None
none_either true o e = refl
none_either false o e = e

no_short_command : (name word : List ℕ) → is_utf8 word ≡ false → short_command name word ≡ None
no_short_command name word e =
    rw (no_text word e, no_number word e)
    (none_either (bytes_eq name (codes "start")) _ (none_either (bytes_eq name (codes "delete")) _ (none_either (bytes_eq name (codes "forget")) _ (none_either (bytes_eq name (codes "state")) _ (none_either (bytes_eq name (codes "sets")) _
    (none_either (bytes_eq name (codes "fork")) _ (none_either (bytes_eq name (codes "exit")) _ (none_either (bytes_eq name (codes "offline")) _ (none_either (bytes_eq name (codes "online")) _
    (none_either (bytes_eq name (codes "rebalance")) _ (none_either (bytes_eq name (codes "begin")) None refl)))))))))))

pub no_text_is_bad : NoTextIsBad
no_text_is_bad line e = by_words (words_of line) (λ h. let t : true ≡ false = sym (is_utf8-from_IsUtf8 line (words_are_texts line h)) ∙ e in let f : ⊥ = cc in f)
  where
    by_one : (name word : List ℕ) (b : Bool) → is_utf8 word ≡ b → (AllByRecursion IsUtf8 (name ∷ word ∷ []) → ⊥) → IsUtf8 name → asks_for (command_of name (word ∷ [])) ≡ bad
    by_one name word true is none t = absurd (none (t, (IsUtf8-from_is_utf8 word is, tt)))
    by_one name word false is none t = ap asks_for (no_short_command name word is)

    by_two : (name first second : List ℕ) (b c : Bool) → is_utf8 first ≡ b → is_utf8 second ≡ c → (AllByRecursion IsUtf8 (name ∷ first ∷ second ∷ []) → ⊥) → IsUtf8 name
        → asks_for (command_of name (first ∷ second ∷ [])) ≡ bad
    by_two name first second true true is it none t = absurd (none (t, (IsUtf8-from_is_utf8 first is, (IsUtf8-from_is_utf8 second it, tt))))
    by_two name first second true false is it none t = rw (is, it) refl
    by_two name first second false c is it none t = rw is refl

    by_three : (name first second third : List ℕ) (b c d : Bool) → is_utf8 first ≡ b → is_utf8 second ≡ c → is_utf8 third ≡ d
        → (AllByRecursion IsUtf8 (name ∷ first ∷ second ∷ third ∷ []) → ⊥) → IsUtf8 name → asks_for (command_of name (first ∷ second ∷ third ∷ [])) ≡ bad
    by_three name first second third true true true is it last none t =
        absurd (none (t, (IsUtf8-from_is_utf8 first is, (IsUtf8-from_is_utf8 second it, (IsUtf8-from_is_utf8 third last, tt)))))
    by_three name first second third true true false is it last none t = rw (is, it, last) refl
    by_three name first second third true false d is it last none t = rw (is, it) refl
    by_three name first second third false c d is it last none t = rw is refl

    by_rest : (name : List ℕ) (words : List (List ℕ)) → (AllByRecursion IsUtf8 (name ∷ words) → ⊥) → IsUtf8 name → asks_for (command_of name words) ≡ bad
    by_rest name [] none t = absurd (none (t, tt))
    by_rest name (word ∷ []) none t = by_one name word (is_utf8 word) refl none t
    by_rest name (first ∷ second ∷ []) none t = by_two name first second (is_utf8 first) (is_utf8 second) refl refl none t
    by_rest name (first ∷ second ∷ third ∷ []) none t =
        by_three name first second third (is_utf8 first) (is_utf8 second) (is_utf8 third) refl refl refl none t
    by_rest name (first ∷ second ∷ third ∷ fourth ∷ more) none t = refl

    by_name : (name : List ℕ) (words : List (List ℕ)) (b : Bool) → is_utf8 name ≡ b → (AllByRecursion IsUtf8 (name ∷ words) → ⊥) → request_of (name ∷ words) ≡ bad
    by_name name words true is none = rw is (by_rest name words none (IsUtf8-from_is_utf8 name is))
    by_name name words false is none = rw is refl

    by_words : (words : List (List ℕ)) → (AllByRecursion IsUtf8 words → ⊥) → request_of words ≡ bad
    by_words [] none = absurd (none tt)
    by_words (name ∷ words) none = by_name name words (is_utf8 name) refl none
