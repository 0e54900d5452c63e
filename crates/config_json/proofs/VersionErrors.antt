-- What is wrong with a text that is no version is never an allocation failure.
use Rattle.std.proofs.Common.{◌≡◌, ℕ, ◌+◌, ◌-◌, ◌*◌, ◌^◌, ◌==◌, ◌&&◌, Bool, true, false, nat_le, nat_lt, cond, List, [], ◌∷◌, length, Result, Ok, Err, refl, sym, ap, ◌∙◌, arith}
use Rattle.std.proofs.lemmas.Bool.{true≢false, false≢true}
use Rattle.std.proofs.lemmas.Bool.Decides.{nat_tests}
use Rattle.std.specs.Char.{is_ascii_digit}
use Rattle.semver.specs.Parse.{memory_error, ◌>>=◌, end_error, digits_end, is_leading_zero, digits_from, numeric, dot_of, is_bad_zero, part_end, is_letter, starts_zero, scan, identifier_len, identifier_of, tail_end, tail_build, tail_pre, Parts, version_parts, IsRefused, IsPlain}
use Rattle.config_json.specs.VersionFault.{is_plain}
use Rattle.semver.specs.declared.error.Error.{Error}
use Rattle.semver.specs.declared.error.ErrorKind.{ErrorKind}
use Rattle.semver.specs.declared.error.ErrorKind.TheVariants as kind
use Rattle.semver.specs.declared.error.Position.{Position}
use Rattle.semver.specs.declared.error.Position.TheVariants as place

abbrev is_memory : ErrorKind → Bool
is_memory kind.OutOfMemory = true
is_memory k = false

abbrev wants : {A : Type 0} → Result A Error → Bool
wants (Ok x) = false
wants (Err e) = is_memory e.kind

-- a value, or a fault of the text
abbrev Reads : {A : Type 0} → Result A Error → Type 0
Reads r = wants r ≡ false

next : {A B : Type 0} (r : Result A Error) (f : A → Result B Error) → Reads r → ((x : A) → Reads (f x)) → Reads (r >>= f)
next (Ok x) f first more = more x
next (Err e) f first more = first

either : {A : Type 0} (b : Bool) (x y : Result A Error) → Reads x → Reads y → Reads (cond b x y)
either true x y p q = p
either false x y p q = q

end_reads : (pos : Position) (text : List ℕ) → Reads (end_error pos text)
end_reads pos [] = refl
end_reads pos (b ∷ rest) = refl

digits_end_reads : (pos : Position) (value len : ℕ) (rest : List ℕ) → Reads (digits_end pos value len rest)
digits_end_reads pos value len rest = either (nat_lt 0 len) _ _ refl (end_reads pos rest)

digits_reads : (pos : Position) (value len : ℕ) (text : List ℕ) → Reads (digits_from pos value len text)
unfolding digits_from
digits_reads pos value len [] = digits_end_reads pos value len []
digits_reads pos value len (b ∷ rest) =
    either (is_ascii_digit b) _ _
    (either (is_leading_zero value len) _ _ refl
    (either (nat_le (2 ^ 64) (value * 10 + (b - 48))) _ _ refl (digits_reads pos (value * 10 + (b - 48)) (len + 1) rest)))
    (digits_end_reads pos value len (b ∷ rest))

dot_reads : (pos : Position) (text : List ℕ) → Reads (dot_of pos text)
dot_reads pos [] = refl
dot_reads pos (b ∷ rest) = either (b == 46) _ _ refl refl

part_end_reads : (pos : Position) (acc seg : ℕ) (nondigit lead : Bool) → Reads (part_end pos acc seg nondigit lead)
part_end_reads pos acc seg nondigit lead =
    either (seg == 0) _ _ (either (acc == 0) _ _ refl refl) (either (is_bad_zero pos seg nondigit lead) _ _ refl refl)

scan_reads : (pos : Position) (acc seg : ℕ) (nondigit lead : Bool) (text : List ℕ) → Reads (scan pos acc seg nondigit lead text)
unfolding scan
scan_reads pos acc seg nondigit lead [] = part_end_reads pos acc seg nondigit lead
scan_reads pos acc seg nondigit lead (b ∷ rest) =
    either (is_letter b) _ _ (scan_reads pos acc (seg + 1) true lead rest)
    (either (is_ascii_digit b) _ _ (scan_reads pos acc (seg + 1) nondigit (starts_zero lead seg b) rest)
    (either (b == 46) _ _
    (either (seg == 0) _ _ refl (either (is_bad_zero pos seg nondigit lead) _ _ refl (scan_reads pos (acc + seg + 1) 0 false false rest)))
    (part_end_reads pos acc seg nondigit lead)))

identifier_reads : (pos : Position) (text : List ℕ) → Reads (identifier_of pos text)
identifier_reads pos text =
    next (identifier_len pos text) _ (scan_reads pos 0 0 false false text) (λ n. either (n == 0) _ _ refl refl)

tail_end_reads : (pos : Position) (major minor patch : ℕ) (pre build text : List ℕ) → Reads (tail_end pos major minor patch pre build text)
tail_end_reads pos major minor patch pre build [] = refl
tail_end_reads pos major minor patch pre build (b ∷ rest) = refl

tail_build_reads : (pos : Position) (major minor patch : ℕ) (pre text : List ℕ) → Reads (tail_build pos major minor patch pre text)
tail_build_reads pos major minor patch pre [] = tail_end_reads pos major minor patch pre [] []
tail_build_reads pos major minor patch pre (b ∷ rest) =
    either (b == 43) _ _
    (next (identifier_of place.Build rest) _ (identifier_reads place.Build rest) (λ x. tail_end_reads place.Build major minor patch pre x.0 x.1))
    (tail_end_reads pos major minor patch pre [] (b ∷ rest))

tail_reads : (major minor patch : ℕ) (text : List ℕ) → Reads (tail_pre major minor patch text)
tail_reads major minor patch [] = tail_build_reads place.Patch major minor patch [] []
tail_reads major minor patch (b ∷ rest) =
    either (b == 45) _ _
    (next (identifier_of place.Pre rest) _ (identifier_reads place.Pre rest) (λ x. tail_build_reads place.Pre major minor patch x.0 x.1))
    (tail_build_reads place.Patch major minor patch [] (b ∷ rest))

version_reads : (text : List ℕ) → Reads (version_parts text)
version_reads text =
    either (length text == 0) _ _ refl
    (next (numeric place.Major text) _ (digits_reads place.Major 0 0 text) (λ x.
    next (dot_of place.Major x.1) _ (dot_reads place.Major x.1) (λ t.
    next (numeric place.Minor t) _ (digits_reads place.Minor 0 0 t) (λ y.
    next (dot_of place.Minor y.1) _ (dot_reads place.Minor y.1) (λ u.
    next (numeric place.Patch u) _ (digits_reads place.Patch 0 0 u) (λ z. tail_reads x.0 y.0 z.0 z.1))))))

not_memory : {A : Type 0} (r : Result A Error) → Reads r → r ≡ Err memory_error → ⊥
not_memory r reads e = true≢false (sym (ap wants e) ∙ reads)

-- the reading of no text is an allocation failure
version_is_read : (text : List ℕ) → version_parts text ≡ Err memory_error → ⊥
version_is_read text = not_memory (version_parts text) (version_reads text)

no_two : (a b : ℕ) → (a ≡ 0 → b ≡ 0 → ⊥) → (a == 0 && b == 0) ≡ false
no_two a b never = grind (arith, nat_tests)

wants_of : (T : Type 0) (r : Result Parts Error) (e : Error) → (r ≡ Err memory_error → ⊥) → e ≡ memory_error → IsRefused {T = T} r (Err e) → IsPlain {T = T} r (Err e) → is_plain r ≡ false
wants_of T (Ok p) e never is refused plain = no_two (length p.3) (length p.4) (λ pre build. false≢true (plain pre build))
wants_of T (Err x) e never is refused plain = let same : x ≡ e = cc in absurd (never (ap (λ y. Err y) (same ∙ is)))

-- what allocates is a version with more than its numbers
pub wants_memory : (T : Type 0) (text : List ℕ) (e : Error) → e ≡ memory_error → IsRefused {T = T} (version_parts text) (Err e) → IsPlain {T = T} (version_parts text) (Err e) → is_plain (version_parts text) ≡ false
wants_memory T text e is refused plain = wants_of T (version_parts text) e (version_is_read text) is refused plain
