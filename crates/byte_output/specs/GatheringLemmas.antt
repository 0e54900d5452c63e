-- Steps of an output whose bytes are gathered.
use Rattle.std.proofs.Common.{◌≡◌, ℕ, suc, ◌+◌, ◌<◌, List, [], ◌∷◌, ◌++◌, length, take, drop, get_or, sym, ap, subst, ◌∙◌, append-nil, append_assoc, Option, Result, Ok, Err}
use Rattle.std.specs.List.{flat_map}
use Rattle.std.proofs.lemmas.Grind.{flat_map-append}
use Rattle.std.proofs.lemmas.List.{take_more}
use Rattle.std.specs.Io.KnownBytes.{Appends}
use Rattle.std.proofs.KnownBytes.{Appends-nil, Appends-trans}
use Rattle.byte_output.specs.Output.{SendsFront, Writes}
use Rattle.byte_output.specs.Gathering.{HasGathered, GathersFront, Gathers}
use Rattle.byte_output.specs.Sending.{HasSent}
use Rattle.byte_output.specs.SendingLemmas.{HasSent-fails, HasSent-then, SendsFront-more, SendsFront-then, flat_map-at}

-- nothing was added
pub gathers_none : (old : Option (List ℕ)) (waited : List ℕ) → HasGathered old old waited waited []
gathers_none old waited = record { sent = []; cut = append-nil waited; went_out = Appends-nil old }

-- there was room
pub gathers_room : (old : Option (List ℕ)) (waited waits bytes : List ℕ) → waits ≡ waited ++ bytes → HasGathered old old waited waits bytes
gathers_room old waited waits bytes e = record { sent = []; cut = sym e; went_out = Appends-nil old }

-- some bytes were gathered, and then others
pub gathers_both : (old mid new : Option (List ℕ)) (w0 w1 w2 b1 b2 : List ℕ) → HasGathered old mid w0 w1 b1 → HasGathered mid new w1 w2 b2 → HasGathered old new w0 w2 (b1 ++ b2)
gathers_both old mid new w0 w1 w2 b1 b2 h k = record {
  sent = h.sent ++ k.sent;
  cut = sym (append_assoc w0 b1 b2) ∙ ap (λ bytes. bytes ++ b2) h.cut ∙ append_assoc h.sent w1 b2 ∙ ap (λ bytes. h.sent ++ bytes) k.cut ∙ sym (append_assoc h.sent k.sent w2);
  went_out = Appends-trans old mid new h.sent k.sent h.went_out k.went_out;
}

-- some bytes were gathered, and of all with the others a prefix went out
pub fails_then : (old mid new : Option (List ℕ)) (w0 w1 b1 b2 : List ℕ) → HasGathered old mid w0 w1 b1 → GathersFront mid new w1 b2 → GathersFront old new w0 (b1 ++ b2)
fails_then old mid new w0 w1 b1 b2 h f =
    let same : w0 ++ (b1 ++ b2) ≡ h.sent ++ (w1 ++ b2) = sym (append_assoc w0 b1 b2) ∙ ap (λ bytes. bytes ++ b2) h.cut ∙ append_assoc h.sent w1 b2 in
    record { front = subst (SendsFront old new) (sym same) (SendsFront-then old mid new h.sent (w1 ++ b2) h.went_out f.front) }

-- a prefix of all with the first bytes went out
pub fails_more : (old new : Option (List ℕ)) (w0 b1 b2 : List ℕ) → GathersFront old new w0 b1 → GathersFront old new w0 (b1 ++ b2)
fails_more old new w0 b1 b2 f = record { front = subst (SendsFront old new) (append_assoc w0 b1 b2) (SendsFront-more old new (w0 ++ b1) b2 f.front) }

pub gathers_then : {E : Type 0} (old mid new : Option (List ℕ)) (w0 w1 w2 : List ℕ) (r : Result (Unit {0}) E) (b1 b2 : List ℕ)
    → HasGathered old mid w0 w1 b1 → Gathers mid new w1 w2 r b2 → Gathers old new w0 w2 r (b1 ++ b2)
gathers_then old mid new w0 w1 w2 (Ok done) b1 b2 h k = gathers_both old mid new w0 w1 w2 b1 b2 h k
gathers_then old mid new w0 w1 w2 (Err e) b1 b2 h k = fails_then old mid new w0 w1 b1 b2 h k

-- one part more
pub gathers_part : {A : Type 0} (f : A → List ℕ) (old mid new : Option (List ℕ)) (w0 w1 w2 : List ℕ) (xs : List A) (i : ℕ) (d : A) → i < length xs
    → HasGathered old mid w0 w1 (flat_map f (take i xs)) → HasGathered mid new w1 w2 (f (get_or xs i d)) → HasGathered old new w0 w2 (flat_map f (take (i + 1) xs))
gathers_part f old mid new w0 w1 w2 xs i d below h k =
    let same : flat_map f (take (i + 1) xs) ≡ flat_map f (take i xs) ++ f (get_or xs i d) =
    ap (flat_map f) (take_more xs i d below) ∙ flat_map-append f (take i xs) (get_or xs i d ∷ []) ∙ ap (λ l. flat_map f (take i xs) ++ l) (append-nil (f (get_or xs i d))) in
    subst (HasGathered old new w0 w2) (sym same) (gathers_both old mid new w0 w1 w2 (flat_map f (take i xs)) (f (get_or xs i d)) h k)

-- all parts before one were gathered, and of all with that one a prefix went out
pub fails_part : {A : Type 0} (f : A → List ℕ) (old mid new : Option (List ℕ)) (w0 w1 : List ℕ) (xs : List A) (i : ℕ) (d : A) → i < length xs
    → HasGathered old mid w0 w1 (flat_map f (take i xs)) → GathersFront mid new w1 (f (get_or xs i d)) → GathersFront old new w0 (flat_map f xs)
fails_part f old mid new w0 w1 xs i d below h front =
    let later = flat_map f (drop (suc i) xs) in
    subst (GathersFront old new w0) (sym (flat_map-at f xs i d below))
    (fails_then old mid new w0 w1 (flat_map f (take i xs)) (f (get_or xs i d) ++ later) h (fails_more mid new w1 (f (get_or xs i d)) later front))

-- what waits at the end is sent
pub gathers_all : {E : Type 0} (old mid new : Option (List ℕ)) (r : Result (Unit {0}) E) (bytes waits : List ℕ) → HasGathered old mid [] waits bytes → Writes mid new r waits → Writes old new r bytes
gathers_all old mid new (Ok done) bytes waits h k = subst (Appends old new) (sym h.cut) (Appends-trans old mid new h.sent waits h.went_out k)
gathers_all old mid new (Err e) bytes waits h k = subst (SendsFront old new) (sym h.cut) (SendsFront-then old mid new h.sent waits h.went_out k)

-- where nothing waited, what failed is a prefix of the bytes
pub fails_all : (old new : Option (List ℕ)) (bytes : List ℕ) → GathersFront old new [] bytes → SendsFront old new bytes
fails_all old new bytes f = f.front

-- all went out, and nothing waits
pub gathers_sent : {E : Type 0} (old new : Option (List ℕ)) (w0 waits : List ℕ) (r : Result (Unit {0}) E) (bytes : List ℕ) → waits ≡ [] → Writes old new r (w0 ++ bytes)
    → Gathers old new w0 waits r bytes
gathers_sent old new w0 waits (Ok done) bytes none h = record { sent = w0 ++ bytes; cut = sym (append-nil (w0 ++ bytes)) ∙ ap (λ rest. (w0 ++ bytes) ++ rest) (sym none); went_out = h }
gathers_sent old new w0 waits (Err e) bytes none h = record { front = h }

-- of bytes that are left the next ones were gathered
pub gathers_next : (old mid new : Option (List ℕ)) (bytes w1 w2 left part rest : List ℕ) → HasSent old mid bytes (w1 ++ left) → left ≡ part ++ rest → HasGathered mid new w1 w2 part
    → HasSent old new bytes (w2 ++ rest)
gathers_next old mid new bytes w1 w2 left part rest h e k =
    let cut : w1 ++ left ≡ k.sent ++ (w2 ++ rest) =
    ap (λ l. w1 ++ l) e ∙ sym (append_assoc w1 part rest) ∙ ap (λ l. l ++ rest) k.cut ∙ append_assoc k.sent w2 rest in
    HasSent-then old mid new bytes (w1 ++ left) k.sent (w2 ++ rest) h cut k.went_out

-- of all with the next ones a prefix went out
pub fails_next : (old mid new : Option (List ℕ)) (w0 bytes w1 left part rest : List ℕ) → HasSent old mid (w0 ++ bytes) (w1 ++ left) → left ≡ part ++ rest → GathersFront mid new w1 part
    → GathersFront old new w0 bytes
fails_next old mid new w0 bytes w1 left part rest h e f = record {
  front = HasSent-fails old mid new (w0 ++ bytes) (w1 ++ left) (w1 ++ part) rest h (ap (λ l. w1 ++ l) e ∙ sym (append_assoc w1 part rest)) f.front;
}

-- nothing is left
pub gathers_end : (old new : Option (List ℕ)) (w0 bytes waits : List ℕ) → HasSent old new (w0 ++ bytes) (waits ++ []) → HasGathered old new w0 waits bytes
gathers_end old new w0 bytes waits h = record { sent = h.sent; cut = h.cut ∙ ap (λ rest. h.sent ++ rest) (append-nil waits); went_out = h.went_out }
