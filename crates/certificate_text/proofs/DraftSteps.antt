-- What a draft holds is what its lines say.
use Rattle.std.proofs.Common.{◌≡◌, ℕ, zero, suc, ◌+◌, ◌<◌, ◌≤◌, ◌⊎◌, inl, inr, Bool, true, false, not, ◌&&◌, ◌++◌, cond, List, [], ◌∷◌, map, length, drop, length-drop, Option, Some, None, refl, sym, ap, ◌∙◌, subst, arith, length-append}
use Rattle.std.specs.Prelude.{◌==◌, slice_get}
use Rattle.std.specs.List.{All, AllPairs}
use Rattle.std.proofs.lemmas.Bool.{false≢true, and_parts, not-true}
use Rattle.std.proofs.lemmas.Bool.Decides.{nat_tests}
use Rattle.std.proofs.lemmas.Slice.Eq.{bytes_eq-Decides}
use Rattle.std.specs.Str.{bytes_eq}
use Rattle.std.proofs.lemmas.List.Quantifiers.{all_pairs_push}
use Rattle.std.proofs.lemmas.Option.{cond_some, same_Some, slice_get_within, none-some}
use Rattle.std.proofs.lemmas.List.{map-append, append-nil, append_assoc}
use Rattle.std.proofs.lemmas.List.Elements.{All-push}
use Rattle.cpu_set.specs.Ids.{Ids}
use Rattle.certificate.specs.RowView.{RowView}
use Rattle.certificate.specs.declared.price_lists.Price.{Price}
use Rattle.certificate.specs.declared.weights.Weights.{Weights}
use Rattle.certificate.specs.declared.weights.Weights.TheVariants.{Plain, WithMoves}
use Rattle.certificate_text.specs.declared.stage.Stage.{Stage}
use Rattle.certificate_text.specs.declared.stage.Stage.TheVariants.{Start, Body, Totalled, Planned, Named, Shown}
use Rattle.certificate_text.specs.IdWord.{IsId}
use Rattle.certificate_text.specs.Line.{LineView, HeaderLine, RowLine, HoldLine, PriceLine, TotalLine, ShortLine, EndLine, Spells}
use Rattle.certificate_text.specs.CertificateText.{hold_lines, id_at, short_lines}
use Rattle.certificate_text.specs.DraftView.{DraftView, are_same, has_id, is_id_of, has_no_plan, is_held, number_in, number_of, with_member, next_in_body, next_at, next}
use Rattle.certificate_text.proofs.RowIds.{IsNew, Differ, new_from_has_id, differ_more}

-- the header, and the lines of the body, as far as they have been read
abbrev pub body_lines : Weights → List RowView → List Ids → List ℕ → List Price → List LineView
body_lines weights rows sets values prices = HeaderLine weights ∷ (map RowLine rows ++ (hold_lines rows sets values ++ map PriceLine prices))

abbrev pub lines_at : Stage → DraftView → List LineView
lines_at Start d = []
lines_at Body d = body_lines d.weights d.rows d.sets d.values d.prices
lines_at Totalled d = body_lines d.weights d.rows d.sets d.values d.prices ++ TotalLine d.weights d.total ∷ []
lines_at Planned d = body_lines d.weights d.rows d.sets d.values d.prices ++ (TotalLine d.weights d.total ∷ EndLine ∷ [])
lines_at Named d = HeaderLine d.weights ∷ (map RowLine d.rows ++ short_lines d.rows d.members)
lines_at Shown d = HeaderLine d.weights ∷ (map RowLine d.rows ++ (short_lines d.rows d.members ++ EndLine ∷ []))

-- sets and values go together, for the first rows; prices come after all of them
pub record IsOrdered (rows : List RowView) (sets : List Ids) (values : List ℕ) (prices : List Price) : Type 0 where
  pub values_len : length values ≡ length sets
  pub within : length sets ≤ length rows
  pub prices_last : (prices ≡ []) ⊎ (length sets ≡ length rows)
  pub apart : AllPairs Differ rows
  pub ids : All (λ r. IsId r.id) rows

pub record IsNothing (rows : List RowView) (sets : List Ids) (values : List ℕ) (prices : List Price) : Type 0 where
  pub no_rows : rows ≡ []
  pub no_sets : sets ≡ []
  pub no_values : values ≡ []
  pub no_prices : prices ≡ []

-- no member has been named
pub record IsUnnamed (members : List ℕ) (from : ℕ) : Type 0 where
  pub no_members : members ≡ []
  pub from_first : from ≡ 0

-- members rise, and are rows before the one from which on the next is sought
pub record IsNamed (rows : List RowView) (members : List ℕ) (from : ℕ) : Type 0 where
  pub rising : AllPairs (λ j k. j < k) members
  pub below : All (λ k. k < from) members
  pub within : from ≤ length rows
  pub apart : AllPairs Differ rows
  pub some : 0 < length members

abbrev pub IsRightAt : Stage → DraftView → Type 0
IsRightAt Start d = IsNothing d.rows d.sets d.values d.prices × IsUnnamed d.members d.from
IsRightAt Body d = IsOrdered d.rows d.sets d.values d.prices × IsUnnamed d.members d.from
IsRightAt Totalled d = IsOrdered d.rows d.sets d.values d.prices × (length d.sets ≡ length d.rows)
IsRightAt Planned d = IsOrdered d.rows d.sets d.values d.prices × (length d.sets ≡ length d.rows)
IsRightAt Named d = IsNamed d.rows d.members d.from
IsRightAt Shown d = IsNamed d.rows d.members d.from

no_holds : (rows : List RowView) (values : List ℕ) → hold_lines rows [] values ≡ []
no_holds [] values = refl
no_holds (r ∷ rows) values = refl

holds_more : (rows : List RowView) (sets : List Ids) (values : List ℕ) (row : RowView) (s : Ids) (v : ℕ)
    → slice_get rows (length sets) ≡ Some row → length values ≡ length sets
    → hold_lines rows (sets ++ s ∷ []) (values ++ v ∷ []) ≡ hold_lines rows sets values ++ HoldLine row.id s v ∷ []
holds_more [] [] values row s v g e = absurd (grind arith)
holds_more [] (t ∷ sets) values row s v g e = absurd (grind arith)
holds_more (r ∷ rows) [] [] row s v g e =
    let same : r ≡ row = same_Some r row g in
    let none : hold_lines rows [] [] ≡ [] = no_holds rows [] in
    rw (same, none) refl
holds_more (r ∷ rows) [] (w ∷ values) row s v g e = absurd (omega arith)
holds_more (r ∷ rows) (t ∷ sets) [] row s v g e = absurd (omega arith)
holds_more (r ∷ rows) (t ∷ sets) (w ∷ values) row s v g e = ap (λ ls. HoldLine r.id t w ∷ ls) (holds_more rows sets values row s v g (omega arith))

rows_apart : (a x : List LineView) → (a ++ x) ++ ([] ++ []) ≡ (a ++ ([] ++ [])) ++ x
rows_apart a x = append-nil (a ++ x) ∙ sym (ap (λ l. l ++ x) (append-nil a))

holds_apart : (a h x : List LineView) → a ++ ((h ++ x) ++ []) ≡ (a ++ (h ++ [])) ++ x
holds_apart a h x = ap (λ l. a ++ l) (append-nil (h ++ x)) ∙ sym (append_assoc a h x) ∙ sym (ap (λ l. (a ++ l) ++ x) (append-nil h))

prices_apart : (a h p x : List LineView) → a ++ (h ++ (p ++ x)) ≡ (a ++ (h ++ p)) ++ x
prices_apart a h p x = ap (λ l. a ++ l) (sym (append_assoc h p x)) ∙ sym (append_assoc a (h ++ p) x)

pub rows_line : (weights : Weights) (rows : List RowView) (sets : List Ids) (values : List ℕ) (prices : List Price) (row : RowView) → sets ≡ [] → prices ≡ []
    → body_lines weights (rows ++ row ∷ []) sets values prices ≡ body_lines weights rows sets values prices ++ RowLine row ∷ []
rows_line weights rows sets values prices row e f =
    let none : hold_lines rows [] values ≡ [] = no_holds rows values in
    let none' : hold_lines (rows ++ row ∷ []) [] values ≡ [] = no_holds (rows ++ row ∷ []) values in
    let whole : map RowLine (rows ++ row ∷ []) ++ (hold_lines (rows ++ row ∷ []) sets values ++ map PriceLine prices)
    ≡ (map RowLine rows ++ (hold_lines rows sets values ++ map PriceLine prices)) ++ RowLine row ∷ [] =
    rw (e, f, none, none', map-append RowLine rows (row ∷ [])) (rows_apart (map RowLine rows) (RowLine row ∷ [])) in
    ap (λ ls. HeaderLine weights ∷ ls) whole

pub holds_line : (weights : Weights) (rows : List RowView) (sets : List Ids) (values : List ℕ) (prices : List Price) (row : RowView) (s : Ids) (v : ℕ)
    → slice_get rows (length sets) ≡ Some row → length values ≡ length sets → prices ≡ []
    → body_lines weights rows (sets ++ s ∷ []) (values ++ v ∷ []) prices ≡ body_lines weights rows sets values prices ++ HoldLine row.id s v ∷ []
holds_line weights rows sets values prices row s v g e f =
    let whole : map RowLine rows ++ (hold_lines rows (sets ++ s ∷ []) (values ++ v ∷ []) ++ map PriceLine prices)
    ≡ (map RowLine rows ++ (hold_lines rows sets values ++ map PriceLine prices)) ++ HoldLine row.id s v ∷ [] =
    rw (f, holds_more rows sets values row s v g e) (holds_apart (map RowLine rows) (hold_lines rows sets values) (HoldLine row.id s v ∷ [])) in
    ap (λ ls. HeaderLine weights ∷ ls) whole

pub prices_line : (weights : Weights) (rows : List RowView) (sets : List Ids) (values : List ℕ) (prices : List Price) (p : Price)
    → body_lines weights rows sets values (prices ++ p ∷ []) ≡ body_lines weights rows sets values prices ++ PriceLine p ∷ []
prices_line weights rows sets values prices p =
    let whole : map RowLine rows ++ (hold_lines rows sets values ++ map PriceLine (prices ++ p ∷ []))
    ≡ (map RowLine rows ++ (hold_lines rows sets values ++ map PriceLine prices)) ++ PriceLine p ∷ [] =
    rw (map-append PriceLine prices (p ∷ [])) (prices_apart (map RowLine rows) (hold_lines rows sets values) (map PriceLine prices) (PriceLine p ∷ [])) in
    ap (λ ls. HeaderLine weights ∷ ls) whole

no_length : {A : Type 0} (xs : List A) → (length xs == 0) ≡ true → xs ≡ []
no_length [] h = refl
no_length (x ∷ xs) h = absurd (grind (arith, nat_tests))

ordered_row : (rows : List RowView) (sets : List Ids) (values : List ℕ) (prices : List Price) (row : RowView)
    → IsOrdered rows sets values prices → prices ≡ [] → IsNew row.id rows → IsId row.id → IsOrdered (rows ++ row ∷ []) sets values prices
ordered_row rows sets values prices row o none new id =
    let within : length sets ≤ length rows = o.within in
    let longer : length sets ≤ length (rows ++ row ∷ []) = simp length-append (omega arith) in
    record {
      values_len = o.values_len;
      within = longer;
      prices_last = inl none;
      apart = differ_more rows row o.apart new;
      ids = All-push (λ r. IsId r.id) rows row o.ids id;
    }

-- before the last row has its set there are no prices
no_prices_yet : (rows : List RowView) (sets : List Ids) (values : List ℕ) (prices : List Price) (row : RowView)
    → IsOrdered rows sets values prices → slice_get rows (length sets) ≡ Some row → prices ≡ []
no_prices_yet rows sets values prices row o g = by_case o.prices_last where
  by_case : (prices ≡ []) ⊎ (length sets ≡ length rows) → prices ≡ []
  by_case (inl none) = none
  by_case (inr all) = let lt = slice_get_within rows (length sets) row g in absurd (omega arith)

pub ordered_hold : (rows : List RowView) (sets : List Ids) (values : List ℕ) (prices : List Price) (row : RowView) (s : Ids) (v : ℕ)
    → IsOrdered rows sets values prices → slice_get rows (length sets) ≡ Some row → IsOrdered rows (sets ++ s ∷ []) (values ++ v ∷ []) prices
ordered_hold rows sets values prices row s v o g =
    let lt : length sets < length rows = slice_get_within rows (length sets) row g in
    let both : length values ≡ length sets = o.values_len in
    let values_len : length (values ++ v ∷ []) ≡ length (sets ++ s ∷ []) = simp length-append (omega arith) in
    let within : length (sets ++ s ∷ []) ≤ length rows = simp length-append (omega arith) in
    record {
      values_len = values_len;
      within = within;
      prices_last = inl (no_prices_yet rows sets values prices row o g);
      apart = o.apart;
      ids = o.ids;
    }

ordered_price : (rows : List RowView) (sets : List Ids) (values : List ℕ) (prices more : List Price)
    → IsOrdered rows sets values prices → length sets ≡ length rows → IsOrdered rows sets values more
ordered_price rows sets values prices more o all =
    record { values_len = o.values_len; within = o.within; prices_last = inr all; apart = o.apart; ids = o.ids }

is_id_of_true : (id : List ℕ) (o : Option RowView) → is_id_of id o ≡ true → (row : RowView) × (o ≡ Some row) × (id ≡ row.id)
is_id_of_true id None h = absurd (false≢true h)
is_id_of_true id (Some row) h = let dec = bytes_eq-Decides id row.id in (row, refl, dec.0 h)

held : (d : DraftView) → is_held d ≡ true → length d.sets ≡ length d.rows
held d h = grind (arith, nat_tests)

-- a right draft, and the lines that it holds: those of the draft before, and one more
pub record Stepped (stage : Stage) (d : DraftView) (l : LineView) (now : Stage) (e : DraftView) : Type 0 where
  pub right : IsRightAt now e
  pub lines : lines_at now e ≡ lines_at stage d ++ l ∷ []

-- the number that was found is that of a row of this id
number_is : (id : List ℕ) (n : ℕ) (rows : List RowView) (k : ℕ) → number_in id n rows ≡ Some k
    → (i : ℕ) × (k ≡ n + i) × (i < length rows) × (id ≡ id_at rows i)
number_is id n [] k h = absurd (none-some k h)
number_is id n (row ∷ rows) k h = at (bytes_eq id row.id) refl h (λ g. number_is id (n + 1) rows k g) where
  at : (b : Bool) → bytes_eq id row.id ≡ b → cond b (Some n) (number_in id (n + 1) rows) ≡ Some k
      → (number_in id (n + 1) rows ≡ Some k → (i : ℕ) × (k ≡ n + 1 + i) × (i < length rows) × (id ≡ id_at rows i))
      → (i : ℕ) × (k ≡ n + i) × (i < length (row ∷ rows)) × (id ≡ id_at (row ∷ rows) i)
  at true e g more =
      let dec = bytes_eq-Decides id row.id in
      let same : n ≡ k = same_Some n k g in
      (0, omega arith, omega arith, dec.0 e)
  at false e g more =
      let p = more g in
      let place : k ≡ n + 1 + p.0 = p.1 in
      let lt : p.0 < length rows = p.2 in
      (suc p.0, omega arith, omega arith, p.3)

id_at-drop : (rows : List RowView) (n i place : ℕ) → place ≡ n + i → id_at (drop n rows) i ≡ id_at rows place
id_at-drop rows zero i place e = ap (id_at rows) (omega arith)
id_at-drop [] (suc n) i zero e = absurd (omega arith)
id_at-drop [] (suc n) zero (suc place) e = refl
id_at-drop [] (suc n) (suc i) (suc place) e = refl
id_at-drop (row ∷ rows) (suc n) i zero e = absurd (omega arith)
id_at-drop (row ∷ rows) (suc n) i (suc place) e = id_at-drop rows n i place (omega arith)

pub record IsNext (rows : List RowView) (from k : ℕ) (id : List ℕ) : Type 0 where
  pub after : from ≤ k
  pub within : k < length rows
  pub id_is : id ≡ id_at rows k

next_is : (d : DraftView) (id : List ℕ) (k : ℕ) → number_of id d ≡ Some k → IsNext d.rows d.from k id
unfolding number_of
next_is d id k h =
    let p = number_is id d.from (drop d.from d.rows) k h in
    let place : k ≡ d.from + p.0 = p.1 in
    let lt : p.0 < length (drop d.from d.rows) = p.2 in
    let below : k < length d.rows = omega (arith, place, lt, length-drop d.from d.rows) in
    record { after = omega arith; within = below; id_is = p.3 ∙ id_at-drop d.rows d.from p.0 k place }

named_more : (rows : List RowView) (members : List ℕ) (from k : ℕ) (id : List ℕ) → AllPairs (λ i j. i < j) members → All (λ j. j < from) members
    → AllPairs Differ rows → IsNext rows from k id → IsNamed rows (members ++ k ∷ []) (k + 1)
named_more rows members from k id rising below apart n =
    let after : from ≤ k = n.after in
    let within : k < length rows = n.within in
    record {
      rising = all_pairs_push (λ i j. i < j) members k rising (λ j d lt. let b = below j d lt in omega (arith, b));
      below = All-push (λ j. j < k + 1) members k (λ j d lt. let b = below j d lt in omega (arith, b)) (omega arith);
      within = omega arith;
      apart = apart;
      some = simp length-append (omega arith);
    }

shorts_more : (rows : List RowView) (members : List ℕ) (k : ℕ) (id : List ℕ) → id ≡ id_at rows k
    → short_lines rows (members ++ k ∷ []) ≡ short_lines rows members ++ ShortLine id ∷ []
shorts_more rows members k id e = map-append (λ j. ShortLine (id_at rows j)) members (k ∷ []) ∙ ap (λ x. short_lines rows members ++ ShortLine x ∷ []) (sym e)

-- the first member
first_line : (weights : Weights) (rows : List RowView) (sets : List Ids) (values : List ℕ) (prices : List Price) (members : List ℕ) (k : ℕ) (id : List ℕ) → sets ≡ [] → prices ≡ [] → members ≡ []
    → id ≡ id_at rows k
    → HeaderLine weights ∷ (map RowLine rows ++ short_lines rows (members ++ k ∷ [])) ≡ body_lines weights rows sets values prices ++ ShortLine id ∷ []
first_line weights rows sets values prices members k id e f g h =
    let none : hold_lines rows [] values ≡ [] = no_holds rows values in
    let whole : map RowLine rows ++ short_lines rows (members ++ k ∷ []) ≡ (map RowLine rows ++ (hold_lines rows sets values ++ map PriceLine prices)) ++ ShortLine id ∷ [] =
    rw (e, f, g, none, h) (ap (λ l. l ++ ShortLine (id_at rows k) ∷ []) (sym (append-nil (map RowLine rows)))) in
    ap (λ ls. HeaderLine weights ∷ ls) whole

cond_is : {A : Type 0} (b : Bool) (o : Option A) (e : A) → cond b o None ≡ Some e → (b ≡ true) × (o ≡ Some e)
cond_is true o e h = (refl, h)
cond_is false o e h = absurd (none-some e h)

-- the draft with one member more
pub record IsMember (d : DraftView) (id : List ℕ) (e : DraftView) : Type 0 where
  pub k : ℕ
  pub number_is : number_of id d ≡ Some k
  pub draft_is : record d { stage = Named; members = d.members ++ k ∷ []; from = k + 1 } ≡ e

member_is : (d : DraftView) (id : List ℕ) (e : DraftView) → with_member d (number_of id d) ≡ Some e → IsMember d id e
member_is d id e h = at (number_of id d) refl h where
  at : (o : Option ℕ) → number_of id d ≡ o → with_member d o ≡ Some e → IsMember d id e
  at None n g = absurd (none-some e g)
  at (Some k) n g = record { k = k; number_is = n; draft_is = same_Some (record d { stage = Named; members = d.members ++ k ∷ []; from = k + 1 }) e g }

same_from : (a b : Weights) → are_same a b ≡ true → a ≡ b
same_from Plain Plain same = refl
same_from WithMoves WithMoves same = refl
same_from Plain WithMoves same = absurd (false≢true same)
same_from WithMoves Plain same = absurd (false≢true same)

body_step : (d : DraftView) (l : LineView) (line : List ℕ) (e : DraftView) → IsOrdered d.rows d.sets d.values d.prices → IsUnnamed d.members d.from → d.stage ≡ Body → Spells line l
    → next_in_body d l ≡ Some e → Stepped Body d l e.stage e
body_step d (HeaderLine weights) line e o u b s h = absurd (grind arith)
body_step d EndLine line e o u b s h = absurd (grind arith)
body_step d (ShortLine id) line e o u b s h =
    let p = cond_is (has_no_plan d) (with_member d (number_of id d)) e h in
    let none = and_parts (length d.sets == 0) (length d.prices == 0) p.0 in
    let m = member_is d id e p.1 in
    let n = next_is d id m.k m.number_is in
    let f : DraftView = record d { stage = Named; members = d.members ++ m.k ∷ []; from = m.k + 1 } in
    let done : Stepped Body d (ShortLine id) Named f = record {
      right = named_more d.rows d.members d.from m.k id (rw u.no_members (λ i j x lt long. absurd (omega arith))) (rw u.no_members (λ j x lt. absurd (omega arith))) o.apart n;
      lines = first_line d.weights d.rows d.sets d.values d.prices d.members m.k id (no_length d.sets none.0) (no_length d.prices none.1) u.no_members n.id_is;
    } in
    subst (λ (g : DraftView). Stepped Body d (ShortLine id) g.stage g) m.draft_is done
body_step d (RowLine row) line e o u b s h =
    let f : DraftView = record d { rows = d.rows ++ row ∷ [] } in
    let p = cond_some (has_no_plan d && not (has_id row.id d.rows)) f e h in
    let tests = and_parts (has_no_plan d) (not (has_id row.id d.rows)) p.0 in
    let only = and_parts (length d.sets == 0) (length d.prices == 0) tests.0 in
    let no_sets : d.sets ≡ [] = no_length d.sets only.0 in
    let no_prices : d.prices ≡ [] = no_length d.prices only.1 in
    let new = new_from_has_id row.id d.rows (not-true (has_id row.id d.rows) tests.1) in
    let done : Stepped Body d (RowLine row) Body f = record {
      right = (ordered_row d.rows d.sets d.values d.prices row o no_prices new s.2.id_is, u);
      lines = rows_line d.weights d.rows d.sets d.values d.prices row no_sets no_prices;
    } in
    let at : Stepped Body d (RowLine row) f.stage f = subst (λ (stage : Stage). Stepped Body d (RowLine row) stage f) (sym b) done in
    subst (λ (g : DraftView). Stepped Body d (RowLine row) g.stage g) p.1 at
body_step d (HoldLine id cpus value) line e o u b s h =
    let f : DraftView = record d { sets = d.sets ++ cpus ∷ []; values = d.values ++ value ∷ [] } in
    let p = cond_some (is_id_of id (slice_get d.rows (length d.sets))) f e h in
    let at_row = is_id_of_true id (slice_get d.rows (length d.sets)) p.0 in
    let row : RowView = at_row.0 in
    let none = no_prices_yet d.rows d.sets d.values d.prices row o at_row.1 in
    let done : Stepped Body d (HoldLine id cpus value) Body f = record {
      right = (ordered_hold d.rows d.sets d.values d.prices row cpus value o at_row.1, u);
      lines = rw at_row.2 (holds_line d.weights d.rows d.sets d.values d.prices row cpus value at_row.1 o.values_len none);
    } in
    let at : Stepped Body d (HoldLine id cpus value) f.stage f = subst (λ (stage : Stage). Stepped Body d (HoldLine id cpus value) stage f) (sym b) done in
    subst (λ (g : DraftView). Stepped Body d (HoldLine id cpus value) g.stage g) p.1 at
body_step d (PriceLine price) line e o u b s h =
    let f : DraftView = record d { prices = d.prices ++ price ∷ [] } in
    let p = cond_some (is_held d) f e h in
    let all = held d p.0 in
    let done : Stepped Body d (PriceLine price) Body f = record {
      right = (ordered_price d.rows d.sets d.values d.prices (d.prices ++ price ∷ []) o all, u);
      lines = prices_line d.weights d.rows d.sets d.values d.prices price;
    } in
    let at : Stepped Body d (PriceLine price) f.stage f = subst (λ (stage : Stage). Stepped Body d (PriceLine price) stage f) (sym b) done in
    subst (λ (g : DraftView). Stepped Body d (PriceLine price) g.stage g) p.1 at
body_step d (TotalLine weights total) line e o u b s h =
    let f : DraftView = record d { stage = Totalled; total = total } in
    let p = cond_some (is_held d && are_same weights d.weights) f e h in
    let tests = and_parts (is_held d) (are_same weights d.weights) p.0 in
    let all = held d tests.0 in
    let same : weights ≡ d.weights = same_from weights d.weights tests.1 in
    let done : Stepped Body d (TotalLine weights total) Totalled f = record {
      right = (o, all);
      lines = ap (λ k. body_lines d.weights d.rows d.sets d.values d.prices ++ TotalLine k total ∷ []) (sym same);
    } in
    subst (λ (g : DraftView). Stepped Body d (TotalLine weights total) g.stage g) p.1 done

pub nothing_ordered : (rows : List RowView) (sets : List Ids) (values : List ℕ) (prices : List Price) → IsNothing rows sets values prices → IsOrdered rows sets values prices
nothing_ordered rows sets values prices n = rw (n.no_rows, n.no_sets, n.no_values, n.no_prices) (record {
  values_len = refl;
  within = omega arith;
  prices_last = inl refl;
  apart = λ i j d lt long. absurd (omega arith);
  ids = λ k d lt. absurd (omega arith);
})

nothing_line : (weights : Weights) (rows : List RowView) (sets : List Ids) (values : List ℕ) (prices : List Price) → IsNothing rows sets values prices
    → body_lines weights rows sets values prices ≡ [] ++ HeaderLine weights ∷ []
nothing_line weights rows sets values prices n = rw (n.no_rows, n.no_prices) refl

step_at : (stage : Stage) (d : DraftView) (l : LineView) (line : List ℕ) (e : DraftView) → d.stage ≡ stage → IsRightAt stage d → Spells line l
    → next_at stage d l ≡ Some e → Stepped stage d l e.stage e
step_at Start d (HeaderLine weights) line e b r s h =
    let f : DraftView = record d { stage = Body; weights = weights } in
    let same : f ≡ e = same_Some f e h in
    let done : Stepped Start d (HeaderLine weights) Body f =
    record { right = (nothing_ordered d.rows d.sets d.values d.prices r.0, r.1); lines = nothing_line weights d.rows d.sets d.values d.prices r.0 } in
    subst (λ (g : DraftView). Stepped Start d (HeaderLine weights) g.stage g) same done
step_at Body d l line e b r s h = body_step d l line e r.0 r.1 b s h
step_at Totalled d EndLine line e b r s h =
    let f : DraftView = record d { stage = Planned } in
    let same : f ≡ e = same_Some f e h in
    let body = body_lines d.weights d.rows d.sets d.values d.prices in
    let done : Stepped Totalled d EndLine Planned f = record { right = r; lines = sym (append_assoc body (TotalLine d.weights d.total ∷ []) (EndLine ∷ [])) } in
    subst (λ (g : DraftView). Stepped Totalled d EndLine g.stage g) same done
step_at Named d (ShortLine id) line e b r s h =
    let m = member_is d id e h in
    let n = next_is d id m.k m.number_is in
    let f : DraftView = record d { stage = Named; members = d.members ++ m.k ∷ []; from = m.k + 1 } in
    let more = ap (λ l. map RowLine d.rows ++ l) (shorts_more d.rows d.members m.k id n.id_is) ∙ sym (append_assoc (map RowLine d.rows) (short_lines d.rows d.members) (ShortLine id ∷ [])) in
    let done : Stepped Named d (ShortLine id) Named f = record {
      right = named_more d.rows d.members d.from m.k id r.rising r.below r.apart n;
      lines = ap (λ ls. HeaderLine d.weights ∷ ls) more;
    } in
    subst (λ (g : DraftView). Stepped Named d (ShortLine id) g.stage g) m.draft_is done
step_at Named d EndLine line e b r s h =
    let f : DraftView = record d { stage = Shown } in
    let same : f ≡ e = same_Some f e h in
    let more = sym (append_assoc (map RowLine d.rows) (short_lines d.rows d.members) (EndLine ∷ [])) in
    let done : Stepped Named d EndLine Shown f = record { right = r; lines = ap (λ ls. HeaderLine d.weights ∷ ls) more } in
    subst (λ (g : DraftView). Stepped Named d EndLine g.stage g) same done
step_at Start d l line e b r s h = absurd (grind arith)
step_at Totalled d l line e b r s h = absurd (grind arith)
step_at Planned d l line e b r s h = absurd (grind arith)
step_at Named d l line e b r s h = absurd (grind arith)
step_at Shown d l line e b r s h = absurd (grind arith)

pub step : (d : DraftView) (l : LineView) (line : List ℕ) (e : DraftView) → IsRightAt d.stage d → Spells line l → next d l ≡ Some e → Stepped d.stage d l e.stage e
step d l line e r s h = step_at d.stage d l line e refl r s h
