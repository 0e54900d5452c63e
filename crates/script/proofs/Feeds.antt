-- Where a piece of a script has its first line feed.
use Rattle.std.proofs.Common.{◌≡◌, ℕ, ◌+◌, ◌<◌, true, false, List, ◌∷◌, ◌++◌, length, take, drop, get_or, suc, sym, ap, ◌∙◌, arith, length-take, get_or-take, drop-cons, take-append-drop}
use Rattle.std.proofs.lemmas.Bool.{false_from_ne_true}
use Rattle.std.proofs.lemmas.Bool.Decides.{nat_tests}
use Rattle.std.proofs.lemmas.List.{get_or_default}
use Rattle.std.specs.List.{All}
use Rattle.memchr.specs.Find.{Nowhere, NoneBefore, Passes}
use Rattle.script.specs.Lines.{is_feed}

-- no byte ends a line
abbrev pub HasNoFeed : List ℕ → Type 0
HasNoFeed piece = All (λ byte. is_feed byte ≡ false) piece

pub no_feed : (piece : List ℕ) → Nowhere (Passes is_feed piece) 0 (length piece) → HasNoFeed piece
no_feed piece none = λ k d h. false_from_ne_true (is_feed (get_or piece k d)) (λ e. none k (omega arith) h (ap is_feed (get_or_default piece k 0 d h) ∙ e))

-- a piece up to its first line feed, and what follows
pub record HasFeed (piece : List ℕ) (at : ℕ) : Type 0 where
  pub within : at < length piece
  pub cut : piece ≡ take at piece ++ 10 ∷ drop (at + 1) piece
  pub first : HasNoFeed (take at piece)

feed_is : (byte : ℕ) → is_feed byte ≡ true → byte ≡ 10
feed_is byte e = grind (arith, nat_tests)

suc_is : (n : ℕ) → suc n ≡ n + 1
suc_is n = omega arith

pub has_feed : (piece : List ℕ) (at : ℕ) → NoneBefore (Passes is_feed piece) 0 (length piece) at → Passes is_feed piece at → HasFeed piece at
has_feed piece at n e = record {
  within = n.high;
  cut = sym (take-append-drop at piece) ∙ ap (λ rest. take at piece ++ rest) (drop-cons piece at 0 n.high)
      ∙ ap (λ byte. take at piece ++ byte ∷ drop (suc at) piece) (feed_is (get_or piece at 0) e)
      ∙ ap (λ k. take at piece ++ 10 ∷ drop k piece) (suc_is at);
  first = λ k d h.
      let before : k < at = omega (arith, h, length-take at piece) in
      let there : k < length piece = omega (arith, before, n.high) in
      ap is_feed (get_or-take at piece k d before ∙ get_or_default piece k d 0 there) ∙ false_from_ne_true (is_feed (get_or piece k 0)) (λ e. n.before k (omega arith) before e);
}
