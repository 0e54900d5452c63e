-- The text of a certificate in its sections.
use Rattle.std.proofs.Common.{◌≡◌, ℕ, suc, ◌+◌, ◌<◌, List, [], ◌∷◌, ◌++◌, length, drop, drop-cons, get_or, map, refl, sym, ap, ◌∙◌, arith, append-nil, append_assoc}
use Rattle.std.specs.List.{flat_map}
use Rattle.std.proofs.lemmas.Grind.{flat_map-append}
use Rattle.std.proofs.lemmas.Option.{slice_get_read}
use Rattle.cpu_set.specs.Ids.{Ids}
use Rattle.certificate.specs.RowView.{RowView}
use Rattle.certificate.specs.PricesView.{PricesView}
use Rattle.certificate.specs.declared.certificates.Certificate.TheVariants.{Plan, Short}
use Rattle.certificate.specs.declared.weights.Weights.{Weights}
use Rattle.certificate_text.specs.CertificateText.{hold_lines, id_at, short_lines}
use Rattle.certificate_text.specs.Line.{HeaderLine, RowLine, HoldLine, PriceLine, TotalLine, ShortLine, EndLine}
use Rattle.certificate_text.specs.Written.{line_text, text_of}
use Rattle.certificate_text.proofs.Pieces.{flat_map-map}

-- the hold lines from one row on begin with that row's
pub hold_next : (rows : List RowView) (sets : List Ids) (values : List ℕ) (k : ℕ) (row : RowView) (s : Ids) (v : ℕ) → k < length rows → k < length sets → k < length values
    → row ≡ get_or rows k row → s ≡ get_or sets k s → v ≡ get_or values k v
    → flat_map line_text (hold_lines (drop k rows) (drop k sets) (drop k values))
    ≡ line_text (HoldLine row.id s v) ++ flat_map line_text (hold_lines (drop (k + 1) rows) (drop (k + 1) sets) (drop (k + 1) values))
hold_next rows sets values k row s v a b d e f h =
    let next : suc k ≡ k + 1 = omega arith in
    let r : drop k rows ≡ row ∷ drop (k + 1) rows = drop-cons rows k row a ∙ ap (λ x. x ∷ drop (suc k) rows) (sym e) ∙ ap (λ n. row ∷ drop n rows) next in
    let t : drop k sets ≡ s ∷ drop (k + 1) sets = drop-cons sets k s b ∙ ap (λ x. x ∷ drop (suc k) sets) (sym f) ∙ ap (λ n. s ∷ drop n sets) next in
    let u : drop k values ≡ v ∷ drop (k + 1) values = drop-cons values k v d ∙ ap (λ x. x ∷ drop (suc k) values) (sym h) ∙ ap (λ n. v ∷ drop n values) next in
    rw (r, t, u) refl

-- the text of a plan is its sections'
pub text_of-plan : (rows : List RowView) (sets : List Ids) (prices : PricesView) (total : ℕ) (weights : Weights)
    → text_of (Plan rows sets prices total weights)
    ≡ (line_text (HeaderLine weights) ++ flat_map (λ row. line_text (RowLine row)) rows)
    ++ (flat_map line_text (hold_lines rows sets prices.values) ++ (flat_map (λ price. line_text (PriceLine price)) prices.of_cpu ++ (line_text (TotalLine weights total) ++ line_text EndLine)))
text_of-plan rows sets prices total weights =
    let end = TotalLine weights total ∷ EndLine ∷ [] in
    let last : flat_map line_text end ≡ line_text (TotalLine weights total) ++ line_text EndLine = ap (λ x. line_text (TotalLine weights total) ++ x) (append-nil (line_text EndLine)) in
    let priced : flat_map line_text (map PriceLine prices.of_cpu ++ end) ≡ flat_map (λ price. line_text (PriceLine price)) prices.of_cpu ++ (line_text (TotalLine weights total) ++ line_text EndLine) =
    flat_map-append line_text (map PriceLine prices.of_cpu) end ∙ ap (λ x. x ++ flat_map line_text end) (flat_map-map line_text PriceLine prices.of_cpu)
    ∙ ap (λ x. flat_map (λ price. line_text (PriceLine price)) prices.of_cpu ++ x) last in
    let held = hold_lines rows sets prices.values ++ (map PriceLine prices.of_cpu ++ end) in
    let holds = flat_map-append line_text (hold_lines rows sets prices.values) (map PriceLine prices.of_cpu ++ end) ∙ ap (λ x. flat_map line_text (hold_lines rows sets prices.values) ++ x) priced in
    let body = flat_map-append line_text (map RowLine rows) held ∙ ap (λ x. x ++ flat_map line_text held) (flat_map-map line_text RowLine rows)
    ∙ ap (λ x. flat_map (λ row. line_text (RowLine row)) rows ++ x) holds in
    ap (λ x. line_text (HeaderLine weights) ++ x) body ∙ sym (append_assoc (line_text (HeaderLine weights)) (flat_map (λ row. line_text (RowLine row)) rows) _)

-- and so is that of a shortage
pub text_of-shortage : (rows : List RowView) (members : List ℕ) (weights : Weights)
    → text_of (Short rows members weights)
    ≡ (line_text (HeaderLine weights) ++ flat_map (λ row. line_text (RowLine row)) rows) ++ (flat_map (λ k. line_text (ShortLine (id_at rows k))) members ++ line_text EndLine)
text_of-shortage rows members weights =
    let shorts = flat_map-append line_text (short_lines rows members) (EndLine ∷ []) ∙ ap (λ x. flat_map line_text (short_lines rows members) ++ x) (append-nil (line_text EndLine))
    ∙ ap (λ x. x ++ line_text EndLine) (flat_map-map line_text (λ k. ShortLine (id_at rows k)) members) in
    let body = flat_map-append line_text (map RowLine rows) (short_lines rows members ++ EndLine ∷ [])
    ∙ ap (λ x. x ++ flat_map line_text (short_lines rows members ++ EndLine ∷ [])) (flat_map-map line_text RowLine rows)
    ∙ ap (λ x. flat_map (λ row. line_text (RowLine row)) rows ++ x) shorts in
    ap (λ x. line_text (HeaderLine weights) ++ x) body ∙ sym (append_assoc (line_text (HeaderLine weights)) (flat_map (λ row. line_text (RowLine row)) rows) _)

-- an element that was read has the id of its place
pub id_is : (rows : List RowView) (k : ℕ) (row : RowView) → k < length rows → row ≡ get_or rows k row → row.id ≡ id_at rows k
id_is rows k row lt e = let found = slice_get_read rows (length rows) k row refl lt e in rw found refl
