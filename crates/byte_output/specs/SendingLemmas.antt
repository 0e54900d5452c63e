-- Steps of a writer in the midst of some bytes, and of an output that is written piece by piece.
use Rattle.std.proofs.Common.{◌≡◌, ℕ, suc, ◌<◌, List, [], ◌++◌, length, take, drop, get_or, sym, ap, subst, ◌∙◌, arith, append-nil, append_assoc, length-append, take-append-drop, drop-cons, Option, Result, Ok, Err}
use Rattle.std.specs.List.{flat_map}
use Rattle.std.proofs.lemmas.Grind.{flat_map-append}
use Rattle.std.specs.Io.KnownBytes.{Appends}
use Rattle.std.proofs.KnownBytes.{Appends-nil, Appends-trans}
use Rattle.byte_output.specs.Output.{SendsFront, Writes}
use Rattle.byte_output.specs.Sending.{HasSent}

pub HasSent-none : (old : Option (List ℕ)) (bytes rest : List ℕ) → bytes ≡ rest → HasSent old old bytes rest
HasSent-none old bytes rest e = record { sent = []; cut = e; went_out = Appends-nil old }

-- the next part went out
pub HasSent-then : (old mid new : Option (List ℕ)) (bytes rest part left : List ℕ) → HasSent old mid bytes rest → rest ≡ part ++ left → Appends mid new part → HasSent old new bytes left
HasSent-then old mid new bytes rest part left h e taken = record {
  sent = h.sent ++ part;
  cut = h.cut ∙ ap (λ r. h.sent ++ r) e ∙ sym (append_assoc h.sent part left);
  went_out = Appends-trans old mid new h.sent part h.went_out taken;
}

-- a write took n of the bytes that were left
pub HasSent-more : (old mid new : Option (List ℕ)) (bytes rest : List ℕ) (n : ℕ) → HasSent old mid bytes rest → Appends mid new (take n rest) → HasSent old new bytes (drop n rest)
HasSent-more old mid new bytes rest n h taken =
    HasSent-then old mid new bytes rest (take n rest) (drop n rest) h (sym (take-append-drop n rest)) taken

-- nothing is left
pub HasSent-all : (old new : Option (List ℕ)) (bytes : List ℕ) → HasSent old new bytes [] → Appends old new bytes
HasSent-all old new bytes h = let P : List ℕ → Type 0 = λ b. Appends old new b in rw (h.cut, append-nil h.sent) h.went_out

-- a prefix of the first part went out
pub SendsFront-more : (old new : Option (List ℕ)) (part rest : List ℕ) → SendsFront old new part → SendsFront old new (part ++ rest)
SendsFront-more old new part rest h = record {
  sent = h.sent;
  unsent = h.unsent ++ rest;
  cut = ap (λ bytes. bytes ++ rest) h.cut ∙ append_assoc h.sent h.unsent rest;
  is_short = omega (arith, length-append h.unsent rest, h.is_short);
  went_out = h.went_out;
}

-- the first part went out, and a prefix of what follows
pub SendsFront-then : (old mid new : Option (List ℕ)) (part rest : List ℕ) → Appends old mid part → SendsFront mid new rest → SendsFront old new (part ++ rest)
SendsFront-then old mid new part rest first h = record {
  sent = part ++ h.sent;
  unsent = h.unsent;
  cut = ap (λ bytes. part ++ bytes) h.cut ∙ sym (append_assoc part h.sent h.unsent);
  is_short = h.is_short;
  went_out = Appends-trans old mid new part h.sent first h.went_out;
}

-- the first part went out, and then the rest is written
pub Writes-then : {E : Type 0} (old mid new : Option (List ℕ)) (r : Result (Unit {0}) E) (part rest : List ℕ) → Appends old mid part → Writes mid new r rest → Writes old new r (part ++ rest)
Writes-then old mid new (Ok done) part rest first h = Appends-trans old mid new part rest first h
Writes-then old mid new (Err e) part rest first h = SendsFront-then old mid new part rest first h

-- of the next part a front went out
pub HasSent-fails : (old mid new : Option (List ℕ)) (bytes rest part left : List ℕ) → HasSent old mid bytes rest → rest ≡ part ++ left → SendsFront mid new part → SendsFront old new bytes
HasSent-fails old mid new bytes rest part left h e f =
    subst (SendsFront old new) (sym (h.cut ∙ ap (λ r. h.sent ++ r) e))
    (SendsFront-then old mid new h.sent (part ++ left) h.went_out (SendsFront-more mid new part left f))

-- the parts before one, that one, and those after it
pub flat_map-at : {A : Type 0} (f : A → List ℕ) (xs : List A) (i : ℕ) (d : A) → i < length xs
    → flat_map f xs ≡ flat_map f (take i xs) ++ (f (get_or xs i d) ++ flat_map f (drop (suc i) xs))
flat_map-at f xs i d below =
    ap (flat_map f) (sym (take-append-drop i xs)) ∙ flat_map-append f (take i xs) (drop i xs)
    ∙ ap (λ rest. flat_map f (take i xs) ++ flat_map f rest) (drop-cons xs i d below)

-- all of the parts before one went out, and a prefix of that one
pub sends_part : {A : Type 0} (f : A → List ℕ) (old mid new : Option (List ℕ)) (xs : List A) (i : ℕ) (d : A) → i < length xs
    → Appends old mid (flat_map f (take i xs)) → SendsFront mid new (f (get_or xs i d)) → SendsFront old new (flat_map f xs)
sends_part f old mid new xs i d below before front =
    let x = f (get_or xs i d) in
    let later = flat_map f (drop (suc i) xs) in
    record {
      sent = flat_map f (take i xs) ++ front.sent;
      unsent = front.unsent ++ later;
      cut = flat_map-at f xs i d below ∙ ap (λ part. flat_map f (take i xs) ++ (part ++ later)) front.cut
          ∙ ap (λ rest. flat_map f (take i xs) ++ rest) (append_assoc front.sent front.unsent later)
          ∙ sym (append_assoc (flat_map f (take i xs)) front.sent (front.unsent ++ later));
      is_short = let short : 0 < length front.unsent = front.is_short in omega (arith, length-append front.unsent later);
      went_out = Appends-trans old mid new (flat_map f (take i xs)) front.sent before front.went_out;
    }
