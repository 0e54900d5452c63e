-- Each row is evaluated; its words are texts since their bytes are ASCII.
use Rattle.std.proofs.Common.{◌≡◌, ℕ, true, nat_lt, List, [], ◌∷◌, codes, refl}
use Rattle.std.proofs.lemmas.Bool.{and_parts, ltb-true}
use Rattle.std.proofs.lemmas.Str.{IsUtf8-from_ascii, is_utf8-from_IsUtf8}
use Rattle.std.proofs.lemmas.Str.Ascii.{IsAscii-cons, IsAscii-nil}
use Rattle.std.specs.List.{list_all}
use Rattle.std.specs.Str.{IsAscii, is_utf8}
use Rattle.script.proofs.laws.worked.Goals as goal

are_ascii : (word : List ℕ) → list_all (λ byte. nat_lt byte 128) word ≡ true → IsAscii word
are_ascii [] e = IsAscii-nil
are_ascii (byte ∷ word) e =
    let both = and_parts (nat_lt byte 128) (list_all (λ byte. nat_lt byte 128) word) e in
    IsAscii-cons byte word (ltb-true byte 128 both.0) (are_ascii word both.1)

is_text : (word : List ℕ) → list_all (λ byte. nat_lt byte 128) word ≡ true → is_utf8 word ≡ true
is_text word e = is_utf8-from_IsUtf8 word (IsUtf8-from_ascii word (are_ascii word e))

pub returns-clause-bare : goal.returns-clause-bare
returns-clause-bare c = rw (is_text (codes "rebalance") refl) refl

pub returns-clause-direct : goal.returns-clause-direct
returns-clause-direct c = rw (is_text (codes "begin") refl, is_text (codes "direct") refl) refl

pub returns-clause-direct_plan : goal.returns-clause-direct_plan
returns-clause-direct_plan c = rw (is_text (codes "rebalance") refl, is_text (codes "direct") refl) refl

pub returns-clause-two_texts : goal.returns-clause-two_texts
returns-clause-two_texts c = rw (is_text (codes "create") refl, is_text (codes "web") refl, is_text (codes "images/web") refl) refl

pub returns-clause-three_texts : goal.returns-clause-three_texts
returns-clause-three_texts c = rw (is_text (codes "adopt") refl, is_text (codes "web") refl, is_text (codes "b") refl, is_text (codes "2-3,6") refl) refl

pub returns-clause-leading_zeros : goal.returns-clause-leading_zeros
returns-clause-leading_zeros c = rw (is_text (codes "exit") refl) refl

pub returns-clause-forgets : goal.returns-clause-forgets
returns-clause-forgets c = rw (is_text (codes "forget") refl, is_text (codes "web") refl) refl

pub returns-clause-largest : goal.returns-clause-largest
returns-clause-largest c = rw (is_text (codes "offline") refl) refl
