-- Lines taken one after another.
use Rattle.std.proofs.Common.{◌≡◌, ℕ, List, [], ◌∷◌, ◌++◌, Option, Some, None, refl, sym, ap, ◌∙◌}
use Rattle.std.specs.Prelude.{option_and_then}
use Rattle.std.specs.List.{AllZip}
use Rattle.certificate_text.specs.Line.{LineView, Spells}
use Rattle.certificate_text.specs.DraftView.{DraftView, next, empty_draft}
use Rattle.certificate_text.specs.Begun.{run, IsBegun}
use Rattle.certificate_text.proofs.Zips.{zip_append}

and_then_assoc : {A B C : Type 0} (f : A → Option B) (g : B → Option C) (o : Option A)
    → option_and_then g (option_and_then f o) ≡ option_and_then (λ x. option_and_then g (f x)) o
and_then_assoc f g None = refl
and_then_assoc f g (Some x) = refl

pub run-append : (d : DraftView) (ls ms : List LineView) → run d (ls ++ ms) ≡ option_and_then (λ e. run e ms) (run d ls)
run-append d [] ms = refl
run-append d (l ∷ ls) ms =
    let f : DraftView → Option DraftView = λ e. run e (ls ++ ms) in
    let g : DraftView → Option DraftView = λ e. option_and_then (λ x. run x ms) (run e ls) in
    let same : f ≡ g = λ i e. run-append e ls ms i in
    let whole : option_and_then f (next d l) ≡ option_and_then g (next d l) = ap (λ (h : DraftView → Option DraftView). option_and_then h (next d l)) same in
    whole ∙ sym (and_then_assoc (λ e. run e ls) (λ x. run x ms) (next d l))

-- the lines after some that have been taken
pub run_after : (d e : DraftView) (ls ms : List LineView) → run d ls ≡ Some e → run d (ls ++ ms) ≡ run e ms
run_after d e ls ms h = run-append d ls ms ∙ ap (λ (o : Option DraftView). option_and_then (λ x. run x ms) o) h

-- one line more
pub run_more : (d e f : DraftView) (ls : List LineView) (l : LineView) → run d ls ≡ Some e → next e l ≡ Some f → run d (ls ++ l ∷ []) ≡ Some f
run_more d e f ls l h k = run_after d e ls (l ∷ []) h ∙ ap (λ (o : Option DraftView). option_and_then (λ x. run x []) o) k

pub begun_none : IsBegun [] empty_draft
begun_none = record { said = []; spelled = tt; run_is = refl }

pub begun_more : (ls : List (List ℕ)) (line : List ℕ) (d e : DraftView) (l : LineView) → IsBegun ls d → Spells line l → next d l ≡ Some e
    → IsBegun (ls ++ line ∷ []) e
begun_more ls line d e l b s n =
    let one : AllZip Spells (line ∷ []) (l ∷ []) = (s, tt) in
    record {
      said = b.said ++ l ∷ [];
      spelled = zip_append Spells ls (line ∷ []) b.said (l ∷ []) b.spelled one;
      run_is = run_more empty_draft d e b.said l b.run_is n;
    }
