-- The grammar of certificate texts: which text stands for which certificate.
use Rattle.std.specs.Prelude.{◌≡◌, ◌≢◌, ℕ, ◌<◌, List, [], ◌∷◌, ◌++◌, map, length, slice_get, All}
use Rattle.std.specs.List.{AllZip, AllPairs}
use Rattle.std.specs.List.Sorted.{IsStrictlyIncreasing}
use Rattle.std.specs.Option.{option_map_or}
use Rattle.cpu_set.specs.Ids.{Ids}
use Rattle.certificate.specs.RowView.{RowView}
use Rattle.certificate.specs.declared.certificates.Certificate.{Certificate}
use Rattle.certificate.specs.declared.certificates.Certificate.TheVariants.{Plan, Short}
use Rattle.certificate_text.specs.Line.{LineView, HeaderLine, RowLine, HoldLine, PriceLine, TotalLine, ShortLine, EndLine, Spells}
use Rattle.certificate_text.specs.Parts.{parts}

-- a line for each row, with the row's set and value
abbrev pub hold_lines : List RowView → List Ids → List ℕ → List LineView
hold_lines (row ∷ rows) (s ∷ sets) (v ∷ values) = HoldLine row.id s v ∷ hold_lines rows sets values
hold_lines [] sets values = []
hold_lines (row ∷ rows) [] values = []
hold_lines (row ∷ rows) (s ∷ sets) [] = []

-- the id of the row of this number
abbrev pub id_at : List RowView → ℕ → List ℕ
id_at rows k = option_map_or (λ row. row.id) (slice_get rows k) []

-- a line for each member, with its row's id
abbrev pub short_lines : List RowView → List ℕ → List LineView
short_lines rows members = map (λ k. ShortLine (id_at rows k)) members

-- the lines of a certificate, in their order
abbrev pub lines_of : Certificate → List LineView
lines_of (Plan rows sets prices total weights) =
    HeaderLine weights ∷ (map RowLine rows ++ (hold_lines rows sets prices.values ++ (map PriceLine prices.of_cpu ++ (TotalLine weights total ∷ EndLine ∷ []))))
lines_of (Short rows members weights) = HeaderLine weights ∷ (map RowLine rows ++ (short_lines rows members ++ EndLine ∷ []))

-- no two rows have one id
abbrev pub HaveOwnIds : List RowView → Type 0
HaveOwnIds rows = AllPairs (λ r s. r.id ≢ s.id) rows

-- what a text can say of a plan: a set and a value for each row
pub record HasPlanText (rows : List RowView) (sets : List Ids) (values : List ℕ) : Type 0 where
  pub sets_len : length sets ≡ length rows
  pub values_len : length values ≡ length rows
  pub apart : HaveOwnIds rows

-- what a text can say of a shortage: one row or more, each after the one before
pub record HasShortText (rows : List RowView) (members : List ℕ) : Type 0 where
  pub some : 0 < length members
  pub rising : IsStrictlyIncreasing members
  pub there : All (λ k. k < length rows) members
  pub apart : HaveOwnIds rows

-- the same of a certificate
abbrev pub CanBeText : Certificate → Type 0
CanBeText (Plan rows sets prices total weights) = HasPlanText rows sets prices.values
CanBeText (Short rows members weights) = HasShortText rows members

-- these lines, as text, are those of the certificate
pub record AreLines (ls : List (List ℕ)) (c : Certificate) : Type 0 where
  pub can : CanBeText c
  pub spelled : AllZip Spells ls (lines_of c)

-- the text is the certificate's lines, each with a line feed at its end, the last one too
abbrev pub IsText : List ℕ → Certificate → Type 0
IsText text c = (ls : List (List ℕ)) × (parts 10 text ≡ ls ++ [] ∷ []) × AreLines ls c

-- no text stands for two certificates
abbrev pub OneCertificate : Type 0
OneCertificate = (text : List ℕ) (c d : Certificate) → IsText text c → IsText text d → c ≡ d
