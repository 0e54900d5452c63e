-- Answers that were written, and what a flush behind them leaves.
use Rattle.std.proofs.Common.{ℕ, List, [], Option, Some, None, Result, Ok, Err, sym, ◌∙◌, append-nil}
use Rattle.std.specs.Io.KnownBytes.{Appends, Keeps}
use Rattle.script.specs.Ends.{Replies, SendsPart, WritesPart}

Appends-kept : (a b c : Option (List ℕ)) (bytes : List ℕ) → Appends a b bytes → Keeps b c → Appends a c bytes
Appends-kept None b c bytes p k = p
Appends-kept (Some xs) None c bytes p k = absurd p
Appends-kept (Some xs) (Some ys) None bytes p k = absurd k
Appends-kept (Some xs) (Some ys) (Some zs) bytes p k = k ∙ p

-- all of the bytes are a prefix of them
pub SendsPart-all : (old new : Option (List ℕ)) (bytes : List ℕ) → Appends old new bytes → SendsPart old new bytes
SendsPart-all old new bytes all = record { sent = bytes; unsent = []; cut = sym (append-nil bytes); went_out = all }

-- after a flush, whether or not it failed, the bytes are where they were
pub WritesPart-flushed : {E : Type 0} (old mid new : Option (List ℕ)) (r : Result (Unit {0}) E) (bytes : List ℕ) → Appends old mid bytes → Keeps mid new → WritesPart old new r bytes
WritesPart-flushed old mid new (Ok done) bytes all kept = Appends-kept old mid new bytes all kept
WritesPart-flushed old mid new (Err e) bytes all kept = SendsPart-all old new bytes (Appends-kept old mid new bytes all kept)

pub Replies-flushed : {S E F : Type 0} (Answers : List ℕ → S → Type 0) (old mid new : Option (List ℕ)) (r : Result (Unit {0}) E) (target : S) (done : Unit {0})
    → Replies {E = F} Answers old mid (Ok done) target → Keeps mid new → Replies Answers old new r target
Replies-flushed Answers old mid new r target done replies kept =
    record { text = replies.text; answers = replies.answers; written = WritesPart-flushed old mid new r replies.text replies.written kept }
