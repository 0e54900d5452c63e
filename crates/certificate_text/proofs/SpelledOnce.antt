-- A line's spelling determines the line.
use Rattle.std.proofs.Common.{◌≡◌, ℕ, ◌<◌, ◌≤◌, ◌^◌, get_or, List, [], ◌∷◌, refl, sym, ap, ◌∙◌, arith}
use Rattle.std.specs.Prelude.{codes}
use Rattle.std.specs.List.{AllZip}
use Rattle.std.specs.Cmp.{nat_cmp_total}
use Rattle.std.specs.FinSet as set
use Rattle.std.proofs.lemmas.Fmt.{decimal_injective}
use Rattle.std.specs.FinSet.{nat_cmp-IsAntisymmetric}
use Rattle.cpu_set.specs.Ids.{Ids}
use Rattle.certificate.specs.RowView.{RowView}
use Rattle.certificate.specs.declared.rows.Offer.{Offer}
use Rattle.certificate.specs.declared.price_lists.Price.{Price}
use Rattle.certificate.specs.declared.weights.Weights.{Weights}
use Rattle.certificate.specs.declared.weights.Weights.TheVariants.{Plain, WithMoves}
use Rattle.certificate_text.specs.NumberWord.{IsNumber}
use Rattle.certificate_text.specs.ListWord.{IsListWord}
use Rattle.certificate_text.specs.Line.{LineView, HeaderLine, RowLine, HoldLine, PriceLine, TotalLine, ShortLine, EndLine, words, IsOfferWord, AreRowWords, AreHoldWords, ArePriceWords, AreTotalWords, AreMovesWords, SayTotal, Spells}

pub number_once : {limit : ℕ} {word : List ℕ} {m n : ℕ} → limit ≤ 2 ^ 64 → IsNumber limit word m → IsNumber limit word n → m ≡ n
number_once {limit} {word} {m} {n} low p q =
    let a : m < limit = p.fits in
    let b : n < limit = q.fits in
    decimal_injective m n (omega arith) (omega arith) (sym p.digits ∙ q.digits)

pub list_once : {word : List ℕ} {s t : Ids} → IsListWord word s → IsListWord word t → s ≡ t
list_once {word} {s} {t} p q = set.same_set nat_cmp_total nat_cmp-IsAntisymmetric s t (λ n. p.names n ∙ sym (q.names n))

pub offer_once : (word : List ℕ) (o p : Offer) → IsOfferWord word o → IsOfferWord word p → o ≡ p
offer_once word o p a b =
    let same : a.before ∷ a.after ∷ [] ≡ b.before ∷ b.after ∷ [] = sym a.parts_are ∙ b.parts_are in
    let before : a.before ≡ b.before = cc in
    let after : a.after ≡ b.after = cc in
    let weight : o.weight ≡ p.weight = number_once (omega arith) a.weight_is (rw (← before) at b.weight_is) in
    let cpus : o.cpus ≡ p.cpus = list_once a.cpus_are (rw (← after) at b.cpus_are) in
    λ i. record { weight = weight i; cpus = cpus i }

pub offers_once : (ws : List (List ℕ)) (os ps : List Offer) → AllZip IsOfferWord ws os → AllZip IsOfferWord ws ps → os ≡ ps
offers_once [] [] [] a b = refl
offers_once (w ∷ ws) (o ∷ os) (p ∷ ps) a b =
    let first = offer_once w o p a.0 b.0 in
    let rest = offers_once ws os ps a.1 b.1 in
    cc
offers_once [] [] (p ∷ ps) a b = absurd b
offers_once [] (o ∷ os) ps a b = absurd a
offers_once (w ∷ ws) [] ps a b = absurd a
offers_once (w ∷ ws) (o ∷ os) [] a b = absurd b

pub row_once : (ws : List (List ℕ)) (r s : RowView) → AreRowWords ws r → AreRowWords ws s → r ≡ s
row_once ws r s a b =
    let same : r.id ∷ a.asked ∷ a.more ≡ s.id ∷ b.asked ∷ b.more = sym a.words_are ∙ b.words_are in
    let id : r.id ≡ s.id = cc in
    let asked : a.asked ≡ b.asked = cc in
    let more : a.more ≡ b.more = cc in
    let demand : r.demand ≡ s.demand = number_once (omega arith) a.demand_is (rw (← asked) at b.demand_is) in
    let offers : r.offers ≡ s.offers = offers_once a.more r.offers s.offers a.offers_are (rw (← more) at b.offers_are) in
    λ i. record { id = id i; demand = demand i; offers = offers i }

pub price_once : (ws : List (List ℕ)) (p q : Price) → ArePriceWords ws p → ArePriceWords ws q → p ≡ q
price_once ws p q a b =
    let same : a.number ∷ a.list ∷ [] ≡ b.number ∷ b.list ∷ [] = sym a.words_are ∙ b.words_are in
    let number : a.number ≡ b.number = cc in
    let list : a.list ≡ b.list = cc in
    let amount : p.amount ≡ q.amount = number_once (omega arith) a.amount_is (rw (← number) at b.amount_is) in
    let cpus : p.cpus ≡ q.cpus = list_once a.cpus_are (rw (← list) at b.cpus_are) in
    λ i. record { amount = amount i; cpus = cpus i }

pub total_once : (ws : List (List ℕ)) (m n : ℕ) → AreTotalWords ws m → AreTotalWords ws n → m ≡ n
total_once ws m n a b =
    let same : a.number ∷ [] ≡ b.number ∷ [] = sym a.words_are ∙ b.words_are in
    let number : a.number ≡ b.number = cc in
    number_once (omega arith) a.total_is (rw (← number) at b.total_is)

pub moves_once : (ws : List (List ℕ)) (m n : ℕ) → AreMovesWords ws m → AreMovesWords ws n → m ≡ n
moves_once ws m n a b =
    let same : a.first ∷ codes "moves" ∷ a.second ∷ [] ≡ b.first ∷ codes "moves" ∷ b.second ∷ [] = sym a.words_are ∙ b.words_are in
    let first : a.first ≡ b.first = cc in
    let second : a.second ≡ b.second = cc in
    let distance : a.distance ≡ b.distance = number_once (omega arith) a.distance_is (rw (← first) at b.distance_is) in
    let moves : a.moves ≡ b.moves = number_once (omega arith) a.moves_is (rw (← second) at b.moves_is) in
    omega (arith, a.total_is, b.total_is, distance, moves)

-- no words are both one and three
one_or_three : (ws : List (List ℕ)) (m n : ℕ) → AreTotalWords ws m → AreMovesWords ws n → ⊥
one_or_three ws m n a b =
    let same : a.number ∷ [] ≡ b.first ∷ codes "moves" ∷ b.second ∷ [] = sym a.words_are ∙ b.words_are in
    cc

pub said_once : (ws : List (List ℕ)) (a b : Weights) (m n : ℕ) → SayTotal a ws m → SayTotal b ws n → TotalLine a m ≡ TotalLine b n
said_once ws Plain Plain m n p q = ap (TotalLine Plain) (total_once ws m n p q)
said_once ws WithMoves WithMoves m n p q = ap (TotalLine WithMoves) (moves_once ws m n p q)
said_once ws Plain WithMoves m n p q = absurd (one_or_three ws m n p q)
said_once ws WithMoves Plain m n p q = absurd (one_or_three ws n m q p)

pub hold_once : (ws : List (List ℕ)) (id jd : List ℕ) (s t : Ids) (m n : ℕ) → AreHoldWords ws id s m → AreHoldWords ws jd t n
    → HoldLine id s m ≡ HoldLine jd t n
hold_once ws id jd s t m n a b =
    let same : id ∷ a.list ∷ a.number ∷ [] ≡ jd ∷ b.list ∷ b.number ∷ [] = sym a.words_are ∙ b.words_are in
    let ids : id ≡ jd = cc in
    let list : a.list ≡ b.list = cc in
    let number : a.number ≡ b.number = cc in
    let value : m ≡ n = number_once (omega arith) a.value_is (rw (← number) at b.value_is) in
    let cpus : s ≡ t = list_once a.cpus_are (rw (← list) at b.cpus_are) in
    cc

-- the first byte of the first word
unfoldable pub first_byte : List (List ℕ) → ℕ
first_byte [] = 0
first_byte ([] ∷ ws) = 0
first_byte ((b ∷ bs) ∷ ws) = b

-- the byte with which the lines of one kind begin
unfoldable pub kind : LineView → ℕ
kind (HeaderLine weights) = 110
kind (RowLine row) = 114
kind (HoldLine id cpus value) = 104
kind (PriceLine price) = 112
kind (TotalLine weights total) = 116
kind (ShortLine id) = 115
kind EndLine = 101

pub begins : (line : List ℕ) (l : LineView) → Spells line l → first_byte (words line) ≡ kind l
unfolding first_byte kind
begins line (HeaderLine Plain) p = ap (λ x. first_byte (words x)) p
begins line (HeaderLine WithMoves) p = ap (λ x. first_byte (words x)) p
begins line (RowLine row) p = ap first_byte p.1
begins line (HoldLine id cpus value) p = ap first_byte p.1
begins line (PriceLine price) p = ap first_byte p.1
begins line (TotalLine weights total) p = ap first_byte p.1
begins line (ShortLine id) p = ap first_byte p.1
begins line EndLine p = ap (λ x. first_byte (words x)) p

pub spelled_once : (line : List ℕ) (l m : LineView) → Spells line l → Spells line m → l ≡ m
unfolding kind
spelled_once line (HeaderLine Plain) (HeaderLine Plain) p q = refl
spelled_once line (HeaderLine WithMoves) (HeaderLine WithMoves) p q = refl
spelled_once line (HeaderLine Plain) (HeaderLine WithMoves) p q = absurd (omega (arith, ap (λ x. get_or x 20 0) (sym p ∙ q)))
spelled_once line (HeaderLine WithMoves) (HeaderLine Plain) p q = absurd (omega (arith, ap (λ x. get_or x 20 0) (sym p ∙ q)))
spelled_once line EndLine EndLine p q = refl
spelled_once line (RowLine r) (RowLine s) p q =
    let same : codes "row" ∷ p.0 ≡ codes "row" ∷ q.0 = sym p.1 ∙ q.1 in
    let ws : p.0 ≡ q.0 = cc in
    ap RowLine (row_once p.0 r s p.2 (rw (← ws) at q.2))
spelled_once line (HoldLine id s m) (HoldLine jd t n) p q =
    let same : codes "hold" ∷ p.0 ≡ codes "hold" ∷ q.0 = sym p.1 ∙ q.1 in
    let ws : p.0 ≡ q.0 = cc in
    hold_once p.0 id jd s t m n p.2 (rw (← ws) at q.2)
spelled_once line (PriceLine r) (PriceLine s) p q =
    let same : codes "price" ∷ p.0 ≡ codes "price" ∷ q.0 = sym p.1 ∙ q.1 in
    let ws : p.0 ≡ q.0 = cc in
    ap PriceLine (price_once p.0 r s p.2 (rw (← ws) at q.2))
spelled_once line (TotalLine a m) (TotalLine b n) p q =
    let same : codes "total" ∷ p.0 ≡ codes "total" ∷ q.0 = sym p.1 ∙ q.1 in
    let ws : p.0 ≡ q.0 = cc in
    said_once p.0 a b m n p.2 (rw (← ws) at q.2)
spelled_once line (ShortLine id) (ShortLine jd) p q =
    let same : codes "short" ∷ p.0 ≡ codes "short" ∷ q.0 = sym p.1 ∙ q.1 in
    let ws : p.0 ≡ q.0 = cc in
    let ids : id ∷ [] ≡ jd ∷ [] = sym p.2 ∙ ws ∙ q.2 in
    let id_is : id ≡ jd = cc in
    ap ShortLine id_is
spelled_once line l m p q =
    let a = begins line l p in
    let b = begins line m q in
    absurd (omega (arith, a, b))
