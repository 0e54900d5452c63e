-- What a draft comes to once all of a certificate has been read.
use Rattle.std.proofs.Common.{◌≡◌, ◌≢◌, ℕ, ◌<◌, ◌++◌, true, false, List, [], ◌∷◌, length, Option, Some, None, is_some, refl, ap, sym, ◌∙◌, subst, arith}
use Rattle.std.proofs.lemmas.Bool.{false≢true}
use Rattle.std.proofs.lemmas.Option.{none-some, same_Some}
use Rattle.cpu_set.specs.Ids.{Ids}
use Rattle.certificate.specs.RowView.{RowView}
use Rattle.certificate.specs.PricesView.{PricesView}
use Rattle.certificate.specs.declared.certificates.Certificate.{Certificate}
use Rattle.certificate.specs.declared.certificates.Certificate.TheVariants.{Plan, Short}
use Rattle.certificate.specs.declared.weights.Weights.{Weights}
use Rattle.certificate_text.specs.CertificateText.{IsText, AreLines}
use Rattle.certificate_text.specs.DraftView.{DraftView}
use Rattle.certificate_text.specs.Finished.{plan_of, shortage_of, finished, finished_at, IsComplete, IsDraftOf, HasSets}
use Rattle.certificate_text.specs.Line.{RowLine}
use Rattle.certificate_text.specs.Parts.{parts}
use Rattle.certificate_text.specs.TextError.{AsksForMemory}
use Rattle.certificate_text.specs.declared.stage.Stage.{Stage}
use Rattle.certificate_text.specs.declared.stage.Stage.TheVariants.{Start, Body, Totalled, Planned, Named, Shown}

pub complete_from : (d : DraftView) → is_some (finished d) ≡ true → IsComplete d
complete_from d h = at (finished d) h where
  at : (o : Option Certificate) → is_some o ≡ true → (c : Certificate) × (o ≡ Some c)
  at None e = absurd (false≢true e)
  at (Some c) e = (c, refl)

pub incomplete_from : (d : DraftView) → is_some (finished d) ≡ false → finished d ≡ None
incomplete_from d h = at (finished d) h where
  at : (o : Option Certificate) → is_some o ≡ false → o ≡ None
  at None e = refl
  at (Some c) e = absurd (false≢true (sym e))

pub plan_finished : (d : DraftView) → d.stage ≡ Planned → finished d ≡ Some (plan_of d)
plan_finished d e = ap (λ s. finished_at s d) e

-- the rows of a certificate
abbrev pub rows_of : Certificate → List RowView
rows_of (Plan rows sets prices total weights) = rows
rows_of (Short rows members weights) = rows

pub rows_finished : (d : DraftView) (c : Certificate) → finished d ≡ Some c → rows_of c ≡ d.rows
rows_finished d c h = at d.stage h where
  at : (s : Stage) → finished_at s d ≡ Some c → rows_of c ≡ d.rows
  at Start e = absurd (none-some c e)
  at Body e = absurd (none-some c e)
  at Totalled e = absurd (none-some c e)
  at Named e = absurd (none-some c e)
  at Planned e = ap rows_of (sym (same_Some (plan_of d) c e))
  at Shown e = ap rows_of (sym (same_Some (shortage_of d) c e))

-- the text stands for the certificate that its draft comes to
pub text_finished : (text : List ℕ) (d : DraftView) (c : Certificate) → IsDraftOf text d → finished d ≡ Some c → IsText text c
text_finished text d c is h = subst (λ (k : Certificate). IsText text k) (same_Some is.0 c (sym is.1 ∙ h)) is.2

-- the text of a plan that has sets has a row's line, of which something is kept
asks_lines : (text : List ℕ) (rows : List RowView) (sets : List Ids) (prices : PricesView) (total : ℕ) (weights : Weights) (ls : List (List ℕ)) → 0 < length sets
    → parts 10 text ≡ ls ++ [] ∷ [] → AreLines ls (Plan rows sets prices total weights) → AsksForMemory text
asks_lines text [] sets prices total weights ls some whole lines = let none : length sets ≡ 0 = lines.can.sets_len in absurd (omega (arith, some, none))
asks_lines text (row ∷ rows) sets prices total weights [] some whole lines = absurd lines.spelled
asks_lines text (row ∷ rows) sets prices total weights (first ∷ []) some whole lines = absurd lines.spelled.1
asks_lines text (row ∷ rows) sets prices total weights (first ∷ line ∷ more) some whole lines = record {
  before = first ∷ [];
  line = line;
  after = more ++ [] ∷ [];
  said = RowLine row;
  lines_are = whole;
  ended = never_none more;
  spelled = lines.spelled.1.0;
  kept = tt;
  begun = (more, Plan (row ∷ rows) sets prices total weights, lines);
}
  where
    never_none : (more : List (List ℕ)) → more ++ [] ∷ [] ≢ []
    never_none [] e = absurd (cc)
    never_none (l ∷ ls) e = absurd (cc)

pub asks_text : (text : List ℕ) (d : DraftView) → IsDraftOf text d → HasSets d → AsksForMemory text
asks_text text d is has =
    let t = text_finished text d (plan_of d) is (plan_finished d has.0) in
    asks_lines text d.rows d.sets (record { values = d.values; of_cpu = d.prices }) d.total d.weights t.0 has.1 t.1 t.2
