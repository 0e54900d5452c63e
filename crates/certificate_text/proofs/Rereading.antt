-- What is written is a text of its certificate.
use Rattle.std.proofs.Common.{◌≡◌, ◌≢◌, ℕ, zero, suc, ◌<◌, ◌^◌, Bool, true, false, ◌||◌, List, [], ◌∷◌, ◌++◌, map, length, refl, sym, ap, ◌∙◌, arith, append-nil, append_assoc}
use Rattle.std.specs.Prelude.{codes, decimal, All, ◌==◌}
use Rattle.std.specs.Char.{is_ascii_digit}
use Rattle.std.specs.List.{AllZip, flat_map, list_all}
use Rattle.std.specs.FinSet as set
use Rattle.std.proofs.lemmas.Bool.{false≢true, and_parts}
use Rattle.std.proofs.lemmas.Bool.Decides.{nat_tests}
use Rattle.std.proofs.lemmas.Fmt.{digits_decimal}
use Rattle.std.proofs.lemmas.List.Splits.{slice_split_at, slice_split_none}
use Rattle.cpu_set.specs.Ids.{Ids}
use Rattle.cpu_set.specs.Members.{InRange}
use Rattle.cpu_set.specs.declared.TheConstants.{CPU_LIMIT}
use Rattle.cpu_list.specs.CanonicalList.{list_text}
use Rattle.cpu_list.specs.CanonicalLaws.{TextIsCanonical, CanonicalReadsAgain, TextLacks}
use Rattle.certificate.specs.RowView.{RowView}
use Rattle.certificate.specs.Packed.{distance_of, moves_of}
use Rattle.certificate.specs.PackedLemmas.{packed-parts}
use Rattle.certificate.specs.declared.weights.Weights.{Weights}
use Rattle.certificate.specs.declared.weights.Weights.TheVariants.{Plain, WithMoves}
use Rattle.certificate.specs.declared.rows.Offer.{Offer}
use Rattle.certificate.specs.declared.price_lists.Price.{Price}
use Rattle.certificate.specs.declared.certificates.Certificate.{Certificate}
use Rattle.certificate.specs.declared.certificates.Certificate.TheVariants.{Plan, Short}
use Rattle.certificate_text.specs.CertificateText.{CanBeText, hold_lines, id_at, short_lines, lines_of}
use Rattle.certificate_text.specs.IdWord.{is_id_letter, IsId}
use Rattle.certificate_text.specs.ListWord.{IsListWord}
use Rattle.certificate_text.specs.NumberWord.{IsNumber}
use Rattle.certificate_text.specs.Line.{LineView, HeaderLine, RowLine, HoldLine, PriceLine, TotalLine, ShortLine, EndLine, IsOfferWord, Spells, header_text, words}
use Rattle.certificate_text.specs.Parts.{parts}
use Rattle.certificate_text.specs.Written.{offer_text, total_text, line_text, CanWriteRow, CanWrite, IsOfferHeld, IsRowHeld, IsPriceHeld, IsHeld, WrittenReadsAgain}
use Rattle.certificate_text.proofs.Decimals.{own}

-- the byte stands nowhere in the word
abbrev pub Lacks : ℕ → List ℕ → Type 0
Lacks other [] = Unit {0}
Lacks other (b ∷ word) = ((b == other) ≡ false) × Lacks other word

lacks_both : (other : ℕ) (v w : List ℕ) → Lacks other v → Lacks other w → Lacks other (v ++ w)
lacks_both other [] w h k = k
lacks_both other (b ∷ v) w h k = (h.0, lacks_both other v w h.1 k)

lacks_all : (other : ℕ) (word : List ℕ) → Lacks other word → All (λ b. (b == other) ≡ false) word
lacks_all other [] h k d lt = absurd (omega arith)
lacks_all other (b ∷ word) h zero d lt = h.0
lacks_all other (b ∷ word) h (suc k) d lt = lacks_all other word h.1 k d (omega arith)

all_lacks : (other : ℕ) (word : List ℕ) → All (λ b. (b == other) ≡ false) word → Lacks other word
all_lacks other [] h = tt
all_lacks other (b ∷ word) h = (h 0 b (omega arith), all_lacks other word (λ k d lt. h (suc k) d (omega arith)))

-- a word of bytes that pass a test lacks a byte that doesn't
passing_lacks : (p : ℕ → Bool) (other : ℕ) (word : List ℕ) → p other ≡ false → list_all p word ≡ true → Lacks other word
passing_lacks p other [] miss h = tt
passing_lacks p other (b ∷ word) miss h =
    let both = and_parts (p b) (list_all p word) h in
    (differs (b == other) refl both.0, passing_lacks p other word miss both.1)
  where
    same_number : (m n : ℕ) → (m == n) ≡ true → m ≡ n
    same_number m n e = grind (arith, nat_tests)

    differs : (t : Bool) → (b == other) ≡ t → p b ≡ true → (b == other) ≡ false
    differs false e hit = e
    differs true e hit = absurd (false≢true (sym miss ∙ ap p (sym (same_number b other e)) ∙ hit))

id_lacks : (id : List ℕ) (other : ℕ) → is_id_letter other ≡ false → IsId id → Lacks other id
id_lacks id other miss h = passing_lacks is_id_letter other id miss h.bytes

number_lacks : (n other : ℕ) → is_ascii_digit other ≡ false → n < 2 ^ 64 → Lacks other (decimal n)
number_lacks n other miss h = passing_lacks is_ascii_digit other (decimal n) miss (digits_decimal own n h)

-- cutting at a byte that the word before it lacks
cut_at : (other : ℕ) (word rest : List ℕ) → Lacks other word → parts other (word ++ other ∷ rest) ≡ word ∷ parts other rest
cut_at other word rest h = slice_split_at (λ b. b == other) word other rest (lacks_all other word h) (same other) where
  same : (n : ℕ) → (n == n) ≡ true
  same n = grind (arith, nat_tests)

uncut : (other : ℕ) (word : List ℕ) → Lacks other word → parts other word ≡ word ∷ []
uncut other word h = slice_split_none (λ b. b == other) word (lacks_all other word h)

number_word : (limit n : ℕ) → n < limit → IsNumber limit (decimal n) n
number_word limit n h = record { digits = refl; fits = h }

module _ (canonical : TextIsCanonical) (again : CanonicalReadsAgain) (lacks : TextLacks) where
  list_word : (s : Ids) → InRange s → s ≢ set.empty → IsListWord (list_text s) s
  list_word s range some =
      let r = again s (list_text s) CPU_LIMIT (omega arith) range (canonical s range) in
      record { is_list = r.is_list; names = r.members; some = some }

  list_lacks : (s : Ids) (other : ℕ) → (is_ascii_digit other || ((other == 45) || (other == 44))) ≡ false → Lacks other (list_text s)
  list_lacks s other miss = all_lacks other (list_text s) (lacks s other miss)

  -- an offer behind its space
  abbrev offer_word : Offer → List ℕ
  offer_word o = (decimal o.weight ++ 58 ∷ []) ++ list_text o.cpus

  weight_fits : (n : ℕ) → n < 2 ^ 32 → n < 2 ^ 64
  weight_fits n h = omega (arith, h)

  offer_lacks : (o : Offer) (other : ℕ) → is_ascii_digit other ≡ false → (58 == other) ≡ false → (is_ascii_digit other || ((other == 45) || (other == 44))) ≡ false
      → IsOfferHeld o → Lacks other (offer_word o)
  offer_lacks o other miss colon list h =
      lacks_both other (decimal o.weight ++ 58 ∷ []) (list_text o.cpus) (lacks_both other (decimal o.weight) (58 ∷ []) (number_lacks o.weight other miss (weight_fits o.weight h.weight)) (colon, tt))
      (list_lacks o.cpus other list)

  offer_is : (o : Offer) → IsOfferHeld o → o.cpus ≢ set.empty → IsOfferWord (offer_word o) o
  offer_is o h some = record {
    before = decimal o.weight;
    after = list_text o.cpus;
    parts_are =
        ap (parts 58) (append_assoc (decimal o.weight) (58 ∷ []) (list_text o.cpus))
        ∙ cut_at 58 (decimal o.weight) (list_text o.cpus) (number_lacks o.weight 58 refl (weight_fits o.weight h.weight))
        ∙ ap (λ ws. decimal o.weight ∷ ws) (uncut 58 (list_text o.cpus) (list_lacks o.cpus 58 refl));
    weight_is = number_word (2 ^ 32) o.weight h.weight;
    cpus_are = list_word o.cpus h.cpus some;
  }

  abbrev CanSayOffers : List Offer → Type 0
  CanSayOffers [] = Unit {0}
  CanSayOffers (o ∷ os) = (IsOfferHeld o × (o.cpus ≢ set.empty)) × CanSayOffers os

  -- a word, and the offers behind it
  offers_words : (word : List ℕ) (os : List Offer) → Lacks 32 word → CanSayOffers os → words (word ++ flat_map offer_text os) ≡ word ∷ map offer_word os
  offers_words word [] h k = ap words (append-nil word) ∙ uncut 32 word h
  offers_words word (o ∷ os) h k =
      cut_at 32 word (offer_word o ++ flat_map offer_text os) h
      ∙ ap (λ ws. word ∷ ws) (offers_words (offer_word o) os (offer_lacks o 32 refl refl refl k.0.0) k.1)

  offers_spell : (os : List Offer) → CanSayOffers os → AllZip IsOfferWord (map offer_word os) os
  offers_spell [] k = tt
  offers_spell (o ∷ os) k = (offer_is o k.0.0 k.0.1, offers_spell os k.1)

  offers_lack : (os : List Offer) → CanSayOffers os → Lacks 10 (flat_map offer_text os)
  offers_lack [] k = tt
  offers_lack (o ∷ os) k = lacks_both 10 (offer_text o) (flat_map offer_text os) (refl, offer_lacks o 10 refl refl refl k.0.0) (offers_lack os k.1)

  can_say_offers : (os : List Offer) → All IsOfferHeld os → All (λ o. o.cpus ≢ set.empty) os → CanSayOffers os
  can_say_offers [] h k = tt
  can_say_offers (o ∷ os) h k = ((h 0 o (omega arith), k 0 o (omega arith)), can_say_offers os (λ i d lt. h (suc i) d (omega arith)) (λ i d lt. k (suc i) d (omega arith)))

  -- a line without its line feed
  bare : LineView → List ℕ
  bare (HeaderLine weights) = header_text weights
  bare (RowLine row) = codes "row " ++ (row.id ++ 32 ∷ (decimal row.demand ++ flat_map offer_text row.offers))
  bare (HoldLine id cpus value) = codes "hold " ++ (id ++ 32 ∷ (list_text cpus ++ 32 ∷ decimal value))
  bare (PriceLine price) = codes "price " ++ (decimal price.amount ++ 32 ∷ list_text price.cpus)
  bare (TotalLine weights total) = codes "total " ++ total_text weights total
  bare (ShortLine id) = codes "short " ++ id
  bare EndLine = codes "end"

  -- what a line has to be for that
  abbrev CanSay : LineView → Type 0
  CanSay (HeaderLine weights) = Unit {0}
  CanSay (RowLine row) = IsId row.id × (row.demand < 2 ^ 32) × CanSayOffers row.offers
  CanSay (HoldLine id cpus value) = IsId id × InRange cpus × (cpus ≢ set.empty) × (value < 2 ^ 64)
  CanSay (PriceLine price) = IsPriceHeld price × (price.cpus ≢ set.empty)
  CanSay (TotalLine weights total) = total < 2 ^ 64
  CanSay (ShortLine id) = IsId id
  CanSay EndLine = Unit {0}

  -- a total that fits 64 bits has parts that fit 48 and 16
  parts_fit : (total : ℕ) → total < 2 ^ 64 → (distance_of total < 2 ^ 48) × (moves_of total < 2 ^ 16)
  parts_fit total h = (omega (arith, h), omega arith)

  total_lacks : (weights : Weights) (total : ℕ) → total < 2 ^ 64 → Lacks 10 (total_text weights total)
  total_lacks Plain total h = number_lacks total 10 refl h
  total_lacks WithMoves total h =
      let two = parts_fit total h in
      lacks_both 10 (decimal (distance_of total)) (codes " moves " ++ decimal (moves_of total)) (number_lacks (distance_of total) 10 refl (omega (arith, two.0)))
      (lacks_both 10 (codes " moves ") (decimal (moves_of total)) (refl, (refl, (refl, (refl, (refl, (refl, (refl, tt))))))) (number_lacks (moves_of total) 10 refl (omega (arith, two.1))))

  spells_bare : (l : LineView) → CanSay l → Spells (bare l) l
  unfolding bare
  spells_bare (HeaderLine weights) h = refl
  spells_bare EndLine h = refl
  spells_bare (TotalLine WithMoves total) h =
      let two = parts_fit total h in (
        decimal (distance_of total) ∷ codes "moves" ∷ decimal (moves_of total) ∷ [],
        ap (λ ws. codes "total" ∷ ws) (cut_at 32 (decimal (distance_of total)) (codes "moves " ++ decimal (moves_of total)) (number_lacks (distance_of total) 32 refl (omega (arith, two.0)))
            ∙ ap (λ ws. decimal (distance_of total) ∷ codes "moves" ∷ ws) (uncut 32 (decimal (moves_of total)) (number_lacks (moves_of total) 32 refl (omega (arith, two.1))))),
        record {
          first = decimal (distance_of total);
          second = decimal (moves_of total);
          distance = distance_of total;
          moves = moves_of total;
          words_are = refl;
          distance_is = number_word (2 ^ 48) (distance_of total) two.0;
          moves_is = number_word (2 ^ 16) (moves_of total) two.1;
          total_is = sym (packed-parts total);
        },
      )
  spells_bare (TotalLine Plain total) h =
      (decimal total ∷ [], ap (λ ws. codes "total" ∷ ws) (uncut 32 (decimal total) (number_lacks total 32 refl h)), record { number = decimal total; words_are = refl; total_is = number_word (2 ^ 64) total h })
  spells_bare (ShortLine id) h = (id ∷ [], ap (λ ws. codes "short" ∷ ws) (uncut 32 id (id_lacks id 32 refl h)), refl)
  spells_bare (PriceLine price) h = (
    decimal price.amount ∷ list_text price.cpus ∷ [],
    ap (λ ws. codes "price" ∷ ws) (cut_at 32 (decimal price.amount) (list_text price.cpus) (number_lacks price.amount 32 refl h.0.amount)
        ∙ ap (λ ws. decimal price.amount ∷ ws) (uncut 32 (list_text price.cpus) (list_lacks price.cpus 32 refl))),
    record {
      number = decimal price.amount;
      list = list_text price.cpus;
      words_are = refl;
      amount_is = number_word (2 ^ 64) price.amount h.0.amount;
      cpus_are = list_word price.cpus h.0.cpus h.1;
    },
  )
  spells_bare (HoldLine id cpus value) h = (
    id ∷ list_text cpus ∷ decimal value ∷ [],
    ap (λ ws. codes "hold" ∷ ws) (cut_at 32 id (list_text cpus ++ 32 ∷ decimal value) (id_lacks id 32 refl h.0)
        ∙ ap (λ ws. id ∷ ws) (cut_at 32 (list_text cpus) (decimal value) (list_lacks cpus 32 refl) ∙ ap (λ ws. list_text cpus ∷ ws) (uncut 32 (decimal value) (number_lacks value 32 refl h.3)))),
    record {
      list = list_text cpus;
      number = decimal value;
      words_are = refl;
      cpus_are = list_word cpus h.1 h.2;
      value_is = number_word (2 ^ 64) value h.3;
    },
  )
  spells_bare (RowLine row) h = (
    row.id ∷ decimal row.demand ∷ map offer_word row.offers,
    ap (λ ws. codes "row" ∷ ws) (cut_at 32 row.id (decimal row.demand ++ flat_map offer_text row.offers) (id_lacks row.id 32 refl h.0)
        ∙ ap (λ ws. row.id ∷ ws) (offers_words (decimal row.demand) row.offers (number_lacks row.demand 32 refl (weight_fits row.demand h.1)) h.2)),
    record {
      asked = decimal row.demand;
      more = map offer_word row.offers;
      words_are = refl;
      id_is = h.0;
      demand_is = number_word (2 ^ 32) row.demand h.1;
      offers_are = offers_spell row.offers h.2;
    },
  )

  not_feed : ℕ → Bool
  not_feed b = is_id_letter b || (b == 32)

  word_lacks : (word : List ℕ) → list_all not_feed word ≡ true → Lacks 10 word
  unfolding not_feed
  word_lacks word h = passing_lacks not_feed 10 word refl h

  bare_lacks : (l : LineView) → CanSay l → Lacks 10 (bare l)
  unfolding bare not_feed
  bare_lacks (HeaderLine Plain) h = word_lacks (codes "numarun-certificate 1") refl
  bare_lacks (HeaderLine WithMoves) h = word_lacks (codes "numarun-certificate 2") refl
  bare_lacks EndLine h = word_lacks (codes "end") refl
  bare_lacks (TotalLine weights total) h = lacks_both 10 (codes "total ") (total_text weights total) (word_lacks (codes "total ") refl) (total_lacks weights total h)
  bare_lacks (ShortLine id) h = lacks_both 10 (codes "short ") id (word_lacks (codes "short ") refl) (id_lacks id 10 refl h)
  bare_lacks (PriceLine price) h =
      lacks_both 10 (codes "price ") (decimal price.amount ++ 32 ∷ list_text price.cpus) (word_lacks (codes "price ") refl)
      (lacks_both 10 (decimal price.amount) (32 ∷ list_text price.cpus) (number_lacks price.amount 10 refl h.0.amount) (refl, list_lacks price.cpus 10 refl))
  bare_lacks (HoldLine id cpus value) h =
      lacks_both 10 (codes "hold ") (id ++ 32 ∷ (list_text cpus ++ 32 ∷ decimal value)) (word_lacks (codes "hold ") refl)
      (lacks_both 10 id (32 ∷ (list_text cpus ++ 32 ∷ decimal value)) (id_lacks id 10 refl h.0)
      (refl, lacks_both 10 (list_text cpus) (32 ∷ decimal value) (list_lacks cpus 10 refl) (refl, number_lacks value 10 refl h.3)))
  bare_lacks (RowLine row) h =
      lacks_both 10 (codes "row ") (row.id ++ 32 ∷ (decimal row.demand ++ flat_map offer_text row.offers)) (word_lacks (codes "row ") refl)
      (lacks_both 10 row.id (32 ∷ (decimal row.demand ++ flat_map offer_text row.offers)) (id_lacks row.id 10 refl h.0)
      (refl, lacks_both 10 (decimal row.demand) (flat_map offer_text row.offers) (number_lacks row.demand 10 refl (weight_fits row.demand h.1)) (offers_lack row.offers h.2)))

  -- the line is that with the feed
  line_is : (l : LineView) (rest : List ℕ) → line_text l ++ rest ≡ bare l ++ 10 ∷ rest
  unfolding bare
  line_is (HeaderLine weights) rest = append_assoc (header_text weights) (10 ∷ []) rest
  line_is EndLine rest = refl
  line_is (TotalLine weights total) rest = ap (λ x. codes "total " ++ x) (append_assoc (total_text weights total) (10 ∷ []) rest)
  line_is (ShortLine id) rest = ap (λ x. codes "short " ++ x) (append_assoc id (10 ∷ []) rest)
  line_is (PriceLine price) rest =
      ap (λ x. codes "price " ++ x) (ends (decimal price.amount) (list_text price.cpus) rest)
    where
      ends : (a b rest : List ℕ) → ((a ++ 32 ∷ []) ++ (b ++ 10 ∷ [])) ++ rest ≡ (a ++ 32 ∷ b) ++ 10 ∷ rest
      ends a b rest = ap (λ x. x ++ rest) (append_assoc a (32 ∷ []) (b ++ 10 ∷ [])) ∙ ap (λ x. x ++ rest) (sym (append_assoc a (32 ∷ b) (10 ∷ []))) ∙ append_assoc (a ++ 32 ∷ b) (10 ∷ []) rest
  line_is (HoldLine id cpus value) rest =
      ap (λ x. codes "hold " ++ x) (ends id (list_text cpus) (decimal value) rest)
    where
      ends : (a b d rest : List ℕ) → ((a ++ 32 ∷ []) ++ (b ++ 32 ∷ (d ++ 10 ∷ []))) ++ rest ≡ (a ++ 32 ∷ (b ++ 32 ∷ d)) ++ 10 ∷ rest
      ends a b d rest =
          ap (λ x. x ++ rest) (append_assoc a (32 ∷ []) (b ++ 32 ∷ (d ++ 10 ∷ [])))
          ∙ ap (λ x. (a ++ 32 ∷ x) ++ rest) (sym (append_assoc b (32 ∷ d) (10 ∷ [])))
          ∙ ap (λ x. x ++ rest) (sym (append_assoc a (32 ∷ (b ++ 32 ∷ d)) (10 ∷ [])))
          ∙ append_assoc (a ++ 32 ∷ (b ++ 32 ∷ d)) (10 ∷ []) rest
  line_is (RowLine row) rest =
      ap (λ x. codes "row " ++ x) (ends row.id (decimal row.demand) (flat_map offer_text row.offers) rest)
    where
      ends : (a b d rest : List ℕ) → ((a ++ 32 ∷ b) ++ (d ++ 10 ∷ [])) ++ rest ≡ (a ++ 32 ∷ (b ++ d)) ++ 10 ∷ rest
      ends a b d rest =
          ap (λ x. x ++ rest) (sym (append_assoc (a ++ 32 ∷ b) d (10 ∷ [])) ∙ ap (λ x. x ++ 10 ∷ []) (append_assoc a (32 ∷ b) d))
          ∙ append_assoc (a ++ 32 ∷ (b ++ d)) (10 ∷ []) rest

  abbrev CanSayAll : List LineView → Type 0
  CanSayAll [] = Unit {0}
  CanSayAll (l ∷ ls) = CanSay l × CanSayAll ls

  say_both : (ls ms : List LineView) → CanSayAll ls → CanSayAll ms → CanSayAll (ls ++ ms)
  say_both [] ms h k = k
  say_both (l ∷ ls) ms h k = (h.0, say_both ls ms h.1 k)

  text_parts : (ls : List LineView) → CanSayAll ls → parts 10 (flat_map line_text ls) ≡ map bare ls ++ [] ∷ []
  text_parts [] h = refl
  text_parts (l ∷ ls) h =
      ap (parts 10) (line_is l (flat_map line_text ls)) ∙ cut_at 10 (bare l) (flat_map line_text ls) (bare_lacks l h.0) ∙ ap (λ x. bare l ∷ x) (text_parts ls h.1)

  text_spells : (ls : List LineView) → CanSayAll ls → AllZip Spells (map bare ls) ls
  text_spells [] h = tt
  text_spells (l ∷ ls) h = (spells_bare l h.0, text_spells ls h.1)

  say_rows : (rows : List RowView) → All CanWriteRow rows → All IsRowHeld rows → CanSayAll (map RowLine rows)
  say_rows [] h k = tt
  say_rows (row ∷ rows) h k =
      let can = h 0 row (omega arith) in
      let held = k 0 row (omega arith) in
      ((can.id_is, held.demand, can_say_offers row.offers held.offers can.offers_some), say_rows rows (λ i d lt. h (suc i) d (omega arith)) (λ i d lt. k (suc i) d (omega arith)))

  say_holds : (rows : List RowView) (sets : List Ids) (values : List ℕ) → All CanWriteRow rows → All InRange sets → All (λ s. s ≢ set.empty) sets → All (λ v. v < 2 ^ 64) values
      → CanSayAll (hold_lines rows sets values)
  say_holds [] sets values h r s v = tt
  say_holds (row ∷ rows) [] values h r s v = tt
  say_holds (row ∷ rows) (x ∷ sets) [] h r s v = tt
  say_holds (row ∷ rows) (x ∷ sets) (y ∷ values) h r s v = (
    ((h 0 row (omega arith)).id_is, r 0 x (omega arith), s 0 x (omega arith), v 0 y (omega arith)),
    say_holds rows sets values (λ i d lt. h (suc i) d (omega arith)) (λ i d lt. r (suc i) d (omega arith)) (λ i d lt. s (suc i) d (omega arith)) (λ i d lt. v (suc i) d (omega arith)),
  )

  say_prices : (ps : List Price) → All (λ p. p.cpus ≢ set.empty) ps → All IsPriceHeld ps → CanSayAll (map PriceLine ps)
  say_prices [] h k = tt
  say_prices (p ∷ ps) h k = ((k 0 p (omega arith), h 0 p (omega arith)), say_prices ps (λ i d lt. h (suc i) d (omega arith)) (λ i d lt. k (suc i) d (omega arith)))

  id_there : (rows : List RowView) (k : ℕ) → k < length rows → All CanWriteRow rows → IsId (id_at rows k)
  id_there [] k lt h = absurd (omega arith)
  id_there (row ∷ rows) zero lt h = (h 0 row (omega arith)).id_is
  id_there (row ∷ rows) (suc k) lt h = id_there rows k (omega arith) (λ i d l. h (suc i) d (omega arith))

  say_shorts : (rows : List RowView) (ks : List ℕ) → All CanWriteRow rows → All (λ k. k < length rows) ks → CanSayAll (short_lines rows ks)
  say_shorts rows [] h b = tt
  say_shorts rows (k ∷ ks) h b = (id_there rows k (b 0 k (omega arith)) h, say_shorts rows ks h (λ i d lt. b (suc i) d (omega arith)))

  say_lines : (c : Certificate) → CanWrite c → IsHeld c → CanSayAll (lines_of c)
  say_lines (Plan rows sets prices total weights) w h =
      let end : CanSayAll (TotalLine weights total ∷ EndLine ∷ []) = (h.4, (tt, tt)) in
      let priced = say_both (map PriceLine prices.of_cpu) (TotalLine weights total ∷ EndLine ∷ []) (say_prices prices.of_cpu w.3 h.3) end in
      let held = say_both (hold_lines rows sets prices.values) (map PriceLine prices.of_cpu ++ (TotalLine weights total ∷ EndLine ∷ [])) (say_holds rows sets prices.values w.1 h.1 w.2 h.2) priced in
      (tt, say_both (map RowLine rows) (hold_lines rows sets prices.values ++ (map PriceLine prices.of_cpu ++ (TotalLine weights total ∷ EndLine ∷ []))) (say_rows rows w.1 h.0) held)
  say_lines (Short rows members weights) w h =
      let end : CanSayAll (EndLine ∷ []) = (tt, tt) in
      let shorts = say_both (short_lines rows members) (EndLine ∷ []) (say_shorts rows members w.1 w.0.there) end in
      (tt, say_both (map RowLine rows) (short_lines rows members ++ EndLine ∷ []) (say_rows rows w.1 h) shorts)

  can_be : (c : Certificate) → CanWrite c → CanBeText c
  can_be (Plan rows sets prices total weights) w = w.0
  can_be (Short rows members weights) w = w.0

  pub written_reads_again : WrittenReadsAgain
  written_reads_again c w h =
      let say = say_lines c w h in
      (map bare (lines_of c), text_parts (lines_of c) say, record { can = can_be c w; spelled = text_spells (lines_of c) say })
