-- The lines of a certificate's text, and how each is spelled.
use Rattle.std.specs.Prelude.{◌≡◌, ℕ, ◌^◌, List, [], ◌∷◌, codes}
use Rattle.std.specs.List.{AllZip}
use Rattle.cpu_set.specs.Ids.{Ids}
use Rattle.certificate.specs.RowView.{RowView}
use Rattle.certificate.specs.Packed.{packed}
use Rattle.certificate.specs.declared.weights.Weights.{Weights}
use Rattle.certificate.specs.declared.weights.Weights.TheVariants.{Plain, WithMoves}
use Rattle.certificate.specs.declared.rows.Offer.{Offer}
use Rattle.certificate.specs.declared.price_lists.Price.{Price}
use Rattle.certificate_text.specs.IdWord.{IsId}
use Rattle.certificate_text.specs.ListWord.{IsListWord}
use Rattle.certificate_text.specs.NumberWord.{IsNumber}
use Rattle.certificate_text.specs.Parts.{parts}

-- what a line says; the first and the total tell what weights count
pub data LineView : Type 0 where
  HeaderLine : (weights : Weights) → LineView
  RowLine : (row : RowView) → LineView
  HoldLine : (id : List ℕ) (cpus : Ids) (value : ℕ) → LineView
  PriceLine : (price : Price) → LineView
  TotalLine : (weights : Weights) (total : ℕ) → LineView
  ShortLine : (id : List ℕ) → LineView
  EndLine : LineView

-- what stands between the spaces: two spaces in a row, or one at either end, leave an empty word
abbrev pub words : List ℕ → List (List ℕ)
words line = parts 32 line

-- WEIGHT:LIST
pub record IsOfferWord (word : List ℕ) (offer : Offer) : Type 0 where
  pub before : List ℕ
  pub after : List ℕ
  pub parts_are : parts 58 word ≡ before ∷ after ∷ []
  pub weight_is : IsNumber (2 ^ 32) before offer.weight
  pub cpus_are : IsListWord after offer.cpus

-- ID DEMAND, and offers
pub record AreRowWords (ws : List (List ℕ)) (row : RowView) : Type 0 where
  pub asked : List ℕ
  pub more : List (List ℕ)
  pub words_are : ws ≡ row.id ∷ asked ∷ more
  pub id_is : IsId row.id
  pub demand_is : IsNumber (2 ^ 32) asked row.demand
  pub offers_are : AllZip IsOfferWord more row.offers

-- ID LIST VALUE
pub record AreHoldWords (ws : List (List ℕ)) (id : List ℕ) (cpus : Ids) (value : ℕ) : Type 0 where
  pub list : List ℕ
  pub number : List ℕ
  pub words_are : ws ≡ id ∷ list ∷ number ∷ []
  pub cpus_are : IsListWord list cpus
  pub value_is : IsNumber (2 ^ 64) number value

-- AMOUNT LIST
pub record ArePriceWords (ws : List (List ℕ)) (price : Price) : Type 0 where
  pub number : List ℕ
  pub list : List ℕ
  pub words_are : ws ≡ number ∷ list ∷ []
  pub amount_is : IsNumber (2 ^ 64) number price.amount
  pub cpus_are : IsListWord list price.cpus

-- TOTAL
pub record AreTotalWords (ws : List (List ℕ)) (total : ℕ) : Type 0 where
  pub number : List ℕ
  pub words_are : ws ≡ number ∷ []
  pub total_is : IsNumber (2 ^ 64) number total

-- how a total of version 2 is spelled: DISTANCE moves MOVES, which together are the total
pub record AreMovesWords (ws : List (List ℕ)) (total : ℕ) : Type 0 where
  pub first : List ℕ
  pub second : List ℕ
  pub distance : ℕ
  pub moves : ℕ
  pub words_are : ws ≡ first ∷ codes "moves" ∷ second ∷ []
  pub distance_is : IsNumber (2 ^ 48) first distance
  pub moves_is : IsNumber (2 ^ 16) second moves
  pub total_is : total ≡ packed distance moves

-- how the total of either version is spelled
abbrev pub SayTotal : Weights → List (List ℕ) → ℕ → Type 0
SayTotal Plain ws total = AreTotalWords ws total
SayTotal WithMoves ws total = AreMovesWords ws total

-- the first line: the version is 2 if weights count moves
abbrev pub header_text : Weights → List ℕ
header_text Plain = codes "numarun-certificate 1"
header_text WithMoves = codes "numarun-certificate 2"

-- the words that follow a line's first
abbrev pub AreWordsAfter : List ℕ → List ℕ → (List (List ℕ) → Type 0) → Type 0
AreWordsAfter line first Are = (ws : List (List ℕ)) × (words line ≡ first ∷ ws) × Are ws

-- the line is spelled so
abbrev pub Spells : List ℕ → LineView → Type 0
Spells line (HeaderLine weights) = line ≡ header_text weights
Spells line (RowLine row) = AreWordsAfter line (codes "row") (λ ws. AreRowWords ws row)
Spells line (HoldLine id cpus value) = AreWordsAfter line (codes "hold") (λ ws. AreHoldWords ws id cpus value)
Spells line (PriceLine price) = AreWordsAfter line (codes "price") (λ ws. ArePriceWords ws price)
Spells line (TotalLine weights total) = AreWordsAfter line (codes "total") (λ ws. SayTotal weights ws total)
Spells line (ShortLine id) = AreWordsAfter line (codes "short") (λ ws. ws ≡ id ∷ [])
Spells line EndLine = line ≡ codes "end"
