-- What a text stands for can be written.
use Rattle.std.proofs.Common.{◌≡◌, ◌≢◌, ℕ, zero, suc, List, [], ◌∷◌, ◌++◌, map, length, arith}
use Rattle.std.specs.Prelude.{All}
use Rattle.std.specs.List.{AllZip}
use Rattle.std.specs.FinSet as set
use Rattle.cpu_set.specs.Ids.{Ids}
use Rattle.certificate.specs.RowView.{RowView}
use Rattle.certificate.specs.declared.rows.Offer.{Offer}
use Rattle.certificate.specs.declared.price_lists.Price.{Price}
use Rattle.certificate.specs.declared.certificates.Certificate.TheVariants.{Plan, Short}
use Rattle.certificate_text.specs.CertificateText.{hold_lines}
use Rattle.certificate_text.specs.Line.{LineView, HeaderLine, RowLine, HoldLine, PriceLine, TotalLine, ShortLine, EndLine, IsOfferWord, Spells}
use Rattle.certificate_text.specs.Written.{CanWriteRow, ReadCanBeWritten}

-- there is a word for each set of the line, and for its id where it is a row's
abbrev HasWords : LineView → Type 0
HasWords (HeaderLine weights) = Unit {0}
HasWords (RowLine row) = CanWriteRow row
HasWords (HoldLine id cpus value) = cpus ≢ set.empty
HasWords (PriceLine price) = price.cpus ≢ set.empty
HasWords (TotalLine weights total) = Unit {0}
HasWords (ShortLine id) = Unit {0}
HasWords EndLine = Unit {0}

offers_some : (ws : List (List ℕ)) (offers : List Offer) → AllZip IsOfferWord ws offers → All (λ (o : Offer). o.cpus ≢ set.empty) offers
offers_some [] [] h k d lt = absurd (omega arith)
offers_some [] (o ∷ offers) h k d lt = absurd h
offers_some (w ∷ ws) [] h k d lt = absurd h
offers_some (w ∷ ws) (o ∷ offers) h zero d lt = h.0.cpus_are.some
offers_some (w ∷ ws) (o ∷ offers) h (suc k) d lt = offers_some ws offers h.1 k d (omega arith)

has_words : (line : List ℕ) (l : LineView) → Spells line l → HasWords l
has_words line (HeaderLine weights) h = tt
has_words line (RowLine row) h = record { id_is = h.2.id_is; offers_some = offers_some h.2.more row.offers h.2.offers_are }
has_words line (HoldLine id cpus value) h = h.2.cpus_are.some
has_words line (PriceLine price) h = h.2.cpus_are.some
has_words line (TotalLine weights total) h = tt
has_words line (ShortLine id) h = tt
has_words line EndLine h = tt

abbrev AllHaveWords : List LineView → Type 0
AllHaveWords [] = Unit {0}
AllHaveWords (l ∷ ls) = HasWords l × AllHaveWords ls

all_have : (texts : List (List ℕ)) (ls : List LineView) → AllZip Spells texts ls → AllHaveWords ls
all_have [] [] h = tt
all_have [] (l ∷ ls) h = absurd h
all_have (t ∷ texts) [] h = absurd h
all_have (t ∷ texts) (l ∷ ls) h = (has_words t l h.0, all_have texts ls h.1)

front_has : (ls more : List LineView) → AllHaveWords (ls ++ more) → AllHaveWords ls
front_has [] more h = tt
front_has (l ∷ ls) more h = (h.0, front_has ls more h.1)

rest_has : (ls more : List LineView) → AllHaveWords (ls ++ more) → AllHaveWords more
rest_has [] more h = h
rest_has (l ∷ ls) more h = rest_has ls more h.1

rows_have : (rows : List RowView) → AllHaveWords (map RowLine rows) → All CanWriteRow rows
rows_have [] h k d lt = absurd (omega arith)
rows_have (row ∷ rows) h zero d lt = h.0
rows_have (row ∷ rows) h (suc k) d lt = rows_have rows h.1 k d (omega arith)

sets_have :
    (rows : List RowView) (sets : List Ids) (values : List ℕ) → length sets ≡ length rows → length values ≡ length rows
    → AllHaveWords (hold_lines rows sets values) → All (λ s. s ≢ set.empty) sets
sets_have rows [] values same each h k d lt = absurd (omega arith)
sets_have [] (s ∷ sets) values same each h k d lt = absurd (omega arith)
sets_have (row ∷ rows) (s ∷ sets) [] same each h k d lt = absurd (omega arith)
sets_have (row ∷ rows) (s ∷ sets) (v ∷ values) same each h zero d lt = h.0
sets_have (row ∷ rows) (s ∷ sets) (v ∷ values) same each h (suc k) d lt =
    sets_have rows sets values (omega arith) (omega arith) h.1 k d (omega arith)

prices_have : (prices : List Price) → AllHaveWords (map PriceLine prices) → All (λ (p : Price). p.cpus ≢ set.empty) prices
prices_have [] h k d lt = absurd (omega arith)
prices_have (p ∷ prices) h zero d lt = h.0
prices_have (p ∷ prices) h (suc k) d lt = prices_have prices h.1 k d (omega arith)

pub read_can_be_written : ReadCanBeWritten
read_can_be_written text (Plan rows sets prices total weights) h =
    let lines = (all_have h.0 _ h.2.spelled).1 in
    let holds = rest_has (map RowLine rows) _ lines in
    let priced = rest_has (hold_lines rows sets prices.values) _ holds in (
      h.2.can,
      rows_have rows (front_has (map RowLine rows) _ lines),
      sets_have rows sets prices.values h.2.can.sets_len h.2.can.values_len (front_has (hold_lines rows sets prices.values) _ holds),
      prices_have prices.of_cpu (front_has (map PriceLine prices.of_cpu) _ priced),
    )
read_can_be_written text (Short rows members weights) h =
    (h.2.can, rows_have rows (front_has (map RowLine rows) _ (all_have h.0 _ h.2.spelled).1))
