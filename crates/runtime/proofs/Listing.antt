-- The lines of a listing, one after another.
use Rattle.std.proofs.Common.{◌≡◌, ℕ, List, ◌∷◌, ◌++◌, sym, subst, append_assoc, codes, Option, Result}
use Rattle.std.specs.List.{flat_map}
use Rattle.byte_output.specs.Output.{Writes}
use Rattle.byte_output.specs.Sending.{HasSent}
use Rattle.byte_output.specs.SendingLemmas.{Writes-then}
use Rattle.node.specs.declared.container.Status.{Status}
use Rattle.runtime.specs.AnswerTexts.{entry_line, listing_text}

-- the next line, and then the later ones
pub listing_text-next : (entries later : List (List ℕ × Status)) (e : List ℕ × Status) → entries ≡ e ∷ later → listing_text entries ≡ entry_line e ++ listing_text later
listing_text-next entries later e is = rw is (append_assoc (entry_line e) (flat_map entry_line later) (codes "end\n"))

-- all but the rest went out, and then the rest is written
pub Writes-last : {E : Type 0} (old mid new : Option (List ℕ)) (r : Result (Unit {0}) E) (bytes rest : List ℕ) → HasSent old mid bytes rest → Writes mid new r rest → Writes old new r bytes
Writes-last old mid new r bytes rest h w = subst (Writes old new r) (sym h.cut) (Writes-then old mid new r h.sent rest h.went_out w)
