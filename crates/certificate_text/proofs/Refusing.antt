-- Which lines are spelled by no words.
use Rattle.std.proofs.Common.{◌≡◌, ℕ, List, [], ◌∷◌, true, false, sym, ap, ◌∙◌, arith}
use Rattle.std.specs.Str.{bytes_eq}
use Rattle.std.proofs.lemmas.Bool.{false≢true}
use Rattle.std.proofs.lemmas.Slice.Eq.{bytes_eq-Decides}
use Rattle.std.specs.Prelude.{codes}
use Rattle.cpu_set.specs.Ids.{Ids}
use Rattle.certificate.specs.RowView.{RowView}
use Rattle.certificate.specs.declared.price_lists.Price.{Price}
use Rattle.certificate.specs.declared.weights.Weights.{Weights}
use Rattle.certificate.specs.declared.weights.Weights.TheVariants.{Plain, WithMoves}
use Rattle.certificate_text.specs.Line.{LineView, HeaderLine, RowLine, HoldLine, PriceLine, TotalLine, ShortLine, EndLine, words, AreRowWords, AreHoldWords, ArePriceWords, SayTotal, Spells, header_text}
use Rattle.certificate_text.proofs.SpelledOnce.{first_byte, kind, begins}

-- a line whose first word is that of one kind is spelled by no line of that kind, and so by none
pub no_row : (line : List ℕ) (ws : List (List ℕ)) → words line ≡ codes "row" ∷ ws → ((row : RowView) → AreRowWords ws row → ⊥) → (l : LineView) → Spells line l → ⊥
unfolding first_byte kind
no_row line ws e none (RowLine row) s =
    let same : codes "row" ∷ ws ≡ codes "row" ∷ s.0 = sym e ∙ s.1 in
    let rest : s.0 ≡ ws = cc in
    none row (rw rest at s.2)
no_row line ws e none l s =
    let a = begins line l s in
    let b = ap first_byte e in
    absurd (omega (arith, a, b))

pub no_hold : (line : List ℕ) (ws : List (List ℕ)) → words line ≡ codes "hold" ∷ ws
    → ((id : List ℕ) (cpus : Ids) (value : ℕ) → AreHoldWords ws id cpus value → ⊥) → (l : LineView) → Spells line l → ⊥
unfolding first_byte kind
no_hold line ws e none (HoldLine id cpus value) s =
    let same : codes "hold" ∷ ws ≡ codes "hold" ∷ s.0 = sym e ∙ s.1 in
    let rest : s.0 ≡ ws = cc in
    none id cpus value (rw rest at s.2)
no_hold line ws e none l s =
    let a = begins line l s in
    let b = ap first_byte e in
    absurd (omega (arith, a, b))

pub no_price : (line : List ℕ) (ws : List (List ℕ)) → words line ≡ codes "price" ∷ ws → ((price : Price) → ArePriceWords ws price → ⊥) → (l : LineView) → Spells line l → ⊥
unfolding first_byte kind
no_price line ws e none (PriceLine price) s =
    let same : codes "price" ∷ ws ≡ codes "price" ∷ s.0 = sym e ∙ s.1 in
    let rest : s.0 ≡ ws = cc in
    none price (rw rest at s.2)
no_price line ws e none l s =
    let a = begins line l s in
    let b = ap first_byte e in
    absurd (omega (arith, a, b))

pub no_total : (line : List ℕ) (ws : List (List ℕ)) → words line ≡ codes "total" ∷ ws → ((weights : Weights) (total : ℕ) → SayTotal weights ws total → ⊥) → (l : LineView) → Spells line l → ⊥
unfolding first_byte kind
no_total line ws e none (TotalLine weights total) s =
    let same : codes "total" ∷ ws ≡ codes "total" ∷ s.0 = sym e ∙ s.1 in
    let rest : s.0 ≡ ws = cc in
    none weights total (rw rest at s.2)
no_total line ws e none l s =
    let a = begins line l s in
    let b = ap first_byte e in
    absurd (omega (arith, a, b))

pub no_short : (line : List ℕ) (ws : List (List ℕ)) → words line ≡ codes "short" ∷ ws → ((id : List ℕ) → ws ≡ id ∷ [] → ⊥) → (l : LineView) → Spells line l → ⊥
unfolding first_byte kind
no_short line ws e none (ShortLine id) s =
    let same : codes "short" ∷ ws ≡ codes "short" ∷ s.0 = sym e ∙ s.1 in
    let rest : s.0 ≡ ws = cc in
    none id (rw rest at s.2)
no_short line ws e none l s =
    let a = begins line l s in
    let b = ap first_byte e in
    absurd (omega (arith, a, b))

-- the line is neither a header nor the last line
pub record IsInside (line : List ℕ) : Type 0 where
  pub no_header : (weights : Weights) → line ≡ header_text weights → ⊥
  pub no_end : line ≡ codes "end" → ⊥

pub no_headers : (line : List ℕ) → (line ≡ codes "numarun-certificate 1" → ⊥) → (line ≡ codes "numarun-certificate 2" → ⊥)
    → (weights : Weights) → line ≡ header_text weights → ⊥
no_headers line one two Plain = one
no_headers line one two WithMoves = two

-- no word behind which others stand
pub record IsOther (first : List ℕ) : Type 0 where
  pub row : first ≡ codes "row" → ⊥
  pub hold : first ≡ codes "hold" → ⊥
  pub price : first ≡ codes "price" → ⊥
  pub total : first ≡ codes "total" → ⊥
  pub short : first ≡ codes "short" → ⊥

first_is : (line first other : List ℕ) (ws vs : List (List ℕ)) → words line ≡ first ∷ ws → words line ≡ other ∷ vs → first ≡ other
first_is line first other ws vs e f = let same : first ∷ ws ≡ other ∷ vs = sym e ∙ f in cc

-- a line with another first word is spelled by none
pub no_kind : (line first : List ℕ) (ws : List (List ℕ)) → IsInside line → words line ≡ first ∷ ws → IsOther first → (l : LineView) → Spells line l → ⊥
no_kind line first ws i e o (HeaderLine weights) s = i.no_header weights s
no_kind line first ws i e o EndLine s = i.no_end s
no_kind line first ws i e o (RowLine row) s = o.row (first_is line first (codes "row") ws s.0 e s.1)
no_kind line first ws i e o (HoldLine id cpus value) s = o.hold (first_is line first (codes "hold") ws s.0 e s.1)
no_kind line first ws i e o (PriceLine price) s = o.price (first_is line first (codes "price") ws s.0 e s.1)
no_kind line first ws i e o (TotalLine weights total) s = o.total (first_is line first (codes "total") ws s.0 e s.1)
no_kind line first ws i e o (ShortLine id) s = o.short (first_is line first (codes "short") ws s.0 e s.1)

none_behind : (line other : List ℕ) (vs : List (List ℕ)) → words line ≡ line ∷ [] → words line ≡ other ∷ vs → vs ≡ []
none_behind line other vs e f = let same : line ∷ [] ≡ other ∷ vs = sym e ∙ f in cc

-- and so is one word alone
pub no_word : (line : List ℕ) → IsInside line → words line ≡ line ∷ [] → (l : LineView) → Spells line l → ⊥
no_word line i e (HeaderLine weights) s = i.no_header weights s
no_word line i e EndLine s = i.no_end s
no_word line i e (RowLine row) s =
    let none = none_behind line (codes "row") s.0 e s.1 in
    absurd (let words_are = s.2.words_are in cc)
no_word line i e (HoldLine id cpus value) s =
    let none = none_behind line (codes "hold") s.0 e s.1 in
    absurd (let words_are = s.2.words_are in cc)
no_word line i e (PriceLine price) s =
    let none = none_behind line (codes "price") s.0 e s.1 in
    absurd (let words_are = s.2.words_are in cc)
no_word line i e (TotalLine Plain total) s =
    let none = none_behind line (codes "total") s.0 e s.1 in
    absurd (let words_are = s.2.words_are in cc)
no_word line i e (TotalLine WithMoves total) s =
    let none = none_behind line (codes "total") s.0 e s.1 in
    absurd (let words_are = s.2.words_are in cc)
no_word line i e (ShortLine id) s =
    let none = none_behind line (codes "short") s.0 e s.1 in
    absurd (let words_are = s.2 in cc)

pub same_word : (kind slice word : List ℕ) → true ≡ bytes_eq kind slice → slice ≡ word → kind ≡ word
same_word kind slice word e same = let d = bytes_eq-Decides kind slice in d.0 (sym e) ∙ same

pub other_word : (kind slice word : List ℕ) → false ≡ bytes_eq kind slice → slice ≡ word → kind ≡ word → ⊥
other_word kind slice word e same k = let d = bytes_eq-Decides kind slice in false≢true (e ∙ d.1 (k ∙ sym same))
