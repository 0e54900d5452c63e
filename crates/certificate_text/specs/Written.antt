-- The text that a certificate is written as: the one of those that stand for it whose lists are canonical.
use Rattle.std.specs.Prelude.{◌≢◌, ℕ, ◌<◌, ◌^◌, List, ◌++◌, All, codes, decimal}
use Rattle.std.specs.List.{flat_map}
use Rattle.std.specs.FinSet as set
use Rattle.cpu_set.specs.Members.{InRange}
use Rattle.cpu_list.specs.CanonicalList.{list_text}
use Rattle.certificate.specs.RowView.{RowView}
use Rattle.certificate.specs.Packed.{distance_of, moves_of}
use Rattle.certificate.specs.declared.weights.Weights.{Weights}
use Rattle.certificate.specs.declared.weights.Weights.TheVariants.{Plain, WithMoves}
use Rattle.certificate.specs.declared.rows.Offer.{Offer}
use Rattle.certificate.specs.declared.price_lists.Price.{Price}
use Rattle.certificate.specs.declared.certificates.Certificate.{Certificate}
use Rattle.certificate.specs.declared.certificates.Certificate.TheVariants.{Plan, Short}
use Rattle.certificate_text.specs.CertificateText.{CanBeText, IsText, lines_of}
use Rattle.certificate_text.specs.IdWord.{IsId}
use Rattle.certificate_text.specs.Line.{LineView, HeaderLine, RowLine, HoldLine, PriceLine, TotalLine, ShortLine, EndLine, header_text}

-- an offer behind a space: WEIGHT:LIST
abbrev pub offer_text : Offer → List ℕ
offer_text offer = (codes " " ++ (decimal offer.weight ++ codes ":")) ++ list_text offer.cpus

-- a total: in two numbers where weights count moves
abbrev pub total_text : Weights → ℕ → List ℕ
total_text Plain total = decimal total
total_text WithMoves total = decimal (distance_of total) ++ (codes " moves " ++ decimal (moves_of total))

-- a line with its line feed
abbrev pub line_text : LineView → List ℕ
line_text (HeaderLine weights) = header_text weights ++ codes "\n"
line_text (RowLine row) = (codes "row " ++ (row.id ++ (codes " " ++ decimal row.demand))) ++ (flat_map offer_text row.offers ++ codes "\n")
line_text (HoldLine id cpus value) = (codes "hold " ++ (id ++ codes " ")) ++ (list_text cpus ++ (codes " " ++ (decimal value ++ codes "\n")))
line_text (PriceLine price) = (codes "price " ++ (decimal price.amount ++ codes " ")) ++ (list_text price.cpus ++ codes "\n")
line_text (TotalLine weights total) = codes "total " ++ (total_text weights total ++ codes "\n")
line_text (ShortLine id) = codes "short " ++ (id ++ codes "\n")
line_text EndLine = codes "end\n"

-- the text that a certificate is written as: its lines, one after another
abbrev pub text_of : Certificate → List ℕ
text_of c = flat_map line_text (lines_of c)

-- the row can be written: its id is one, and each of its offers has a CPU
pub record CanWriteRow (row : RowView) : Type 0 where
  pub id_is : IsId row.id
  pub offers_some : All (λ o. o.cpus ≢ set.empty) row.offers

-- the certificate can be written: a text can say it, with words for all ids and sets
abbrev pub CanWrite : Certificate → Type 0
CanWrite (Plan rows sets prices total weights) =
    CanBeText (Plan rows sets prices total weights) × All CanWriteRow rows × All (λ s. s ≢ set.empty) sets × All (λ p. p.cpus ≢ set.empty) prices.of_cpu
CanWrite (Short rows members weights) = CanBeText (Short rows members weights) × All CanWriteRow rows

-- numbers and sets that the types hold
pub record IsOfferHeld (offer : Offer) : Type 0 where
  pub weight : offer.weight < 2 ^ 32
  pub cpus : InRange offer.cpus

pub record IsRowHeld (row : RowView) : Type 0 where
  pub demand : row.demand < 2 ^ 32
  pub offers : All IsOfferHeld row.offers

pub record IsPriceHeld (price : Price) : Type 0 where
  pub amount : price.amount < 2 ^ 64
  pub cpus : InRange price.cpus

-- a certificate's numbers and sets are such as the types hold
abbrev pub IsHeld : Certificate → Type 0
IsHeld (Plan rows sets prices total weights) =
    All IsRowHeld rows × All InRange sets × All (λ v. v < 2 ^ 64) prices.values × All IsPriceHeld prices.of_cpu × (total < 2 ^ 64)
IsHeld (Short rows members weights) = All IsRowHeld rows

-- what is written stands for its certificate
abbrev pub WrittenReadsAgain : Type 0
WrittenReadsAgain = (c : Certificate) → CanWrite c → IsHeld c → IsText (text_of c) c

-- what a text stands for can be written
abbrev pub ReadCanBeWritten : Type 0
ReadCanBeWritten = (text : List ℕ) (c : Certificate) → IsText text c → CanWrite c
