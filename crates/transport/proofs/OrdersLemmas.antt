-- A row's offers in rising weight, and sorted arcs of which none is opened.
use Rattle.std.proofs.Common.{◌≡◌, ℕ, Vec, Global, zero, suc, ◌+◌, ◌<◌, ◌≤◌, Bool, true, false, cond, List, [], ◌∷◌, ◌++◌, map, length, get_or, Some, None, option_map, slice_get, nat_lt, refl, sym, ap, ◌∙◌, subst, inl, inr, arith}
use Rattle.std.specs.Prelude.{find, All, AllPairs, Contains}
use Rattle.std.specs.List.Sorted.{IsPermutation, IsNonDecreasingBy}
use Rattle.std.specs.FinSet as set
use Rattle.std.proofs.lemmas.Bool.{cases_lt, cases_Bool, ltb-true, lt-ltb}
use Rattle.std.proofs.lemmas.List.{get_or_default, get_or-map, length-map, get_or_past, get_or_push, get_or_append_left, length_push}
use Rattle.std.proofs.lemmas.Option.{slice_get-get_or, get_or_from_slice_get, slice_get_within}
use Rattle.std.proofs.lemmas.List.Elements.{All-push, Contains-push, Contains-append_left}
use Rattle.std.proofs.lemmas.List.FromFn.{get_or-map-range_with_len, length-map-range_with_len}
use Rattle.std.proofs.lemmas.List.Sorted.{All-permutation, Contains-permutation}
use Rattle.cpu_set.specs.Ids.{IsDisjoint}
use Rattle.certificate.specs.Weight.{weight_in}
use Rattle.certificate.specs.RowView.{RowView}
use Rattle.certificate.specs.AreWithin.{AreRowsWithin}
use Rattle.certificate.specs.declared.rows.Offer.{Offer}
use Rattle.certificate.specs.RisingOffers.{AreRising}
use Rattle.twins.specs.Kinds.{offers_of, kind_at, AreKinds}
use Rattle.transport.specs.Weights.{class_weight, AreSortedArcs, AreNewSortedArcs}
use Rattle.transport.specs.declared.instance.Instance.{Instance}
use Rattle.certificate.specs.declared.limits.TheConstants.{MAX_WEIGHT}
use Rattle.transport.specs.Numbers.{number}
use Rattle.transport.specs.Searches.{weight_limit}
use Rattle.transport.specs.SortedArcs.{weight_of, IsToCome, IsNewSortedArcs, AreArcs, IsSortedArcs}
use Rattle.transport.specs.Orders.{weighted_at, weighted_in, offered, IsWeighted, AreWeighted, AreAllWeighted, IsOrder}
use Rattle.transport.specs.declared.arcs.WeightedOffer.{WeightedOffer}
use Rattle.transport.specs.declared.arcs.OfferOrder.TheVariants.{AsOffered, ByWeight}
use Rattle.transport.specs.declared.arcs.SortedArcs.{SortedArcs}
use Rattle.transport.proofs.Blocks.{no_blocks}

-- one offer more
pub weighted_more : (offers : List Offer) (weighted : List WeightedOffer) (k : ℕ) (x : Offer) → slice_get offers k ≡ Some x → AreAllWeighted offers weighted k → AreAllWeighted offers (weighted ++ record { weight = x.weight; offer = k } ∷ []) (k + 1)
weighted_more offers weighted k x is h = record {
  its = All-push (IsWeighted offers) weighted b h.its (record { offer = x; its = is; weight = refl });
  all = λ o y lt its. elim (cases_lt o k) [
    | inl before ↦ Contains-append_left weighted (b ∷ []) _ (h.all o y before its)
    | inr after ↦ last o y (omega (arith, lt, after)) its
  ];
}
  where
    b : WeightedOffer
    b = record { weight = x.weight; offer = k }

    last : (o : ℕ) (y : Offer) → o ≡ k → slice_get offers o ≡ Some y → Contains (weighted ++ b ∷ []) (record { weight = y.weight; offer = o })
    last o y e its =
        let same : y ≡ x = (let both : Some y ≡ Some x = sym its ∙ ap (slice_get offers) e ∙ is in cc) in
        subst (λ (w : Offer). Contains (weighted ++ b ∷ []) (record { weight = w.weight; offer = o })) (sym same)
        (subst (λ n. Contains (weighted ++ b ∷ []) (record { weight = x.weight; offer = n })) (sym e) (Contains-push weighted b))

pub weighted_sorted : (offers : List Offer) (weighted sorted : List WeightedOffer) (n : ℕ) → AreAllWeighted offers weighted n → IsPermutation weighted sorted → AreAllWeighted offers sorted n
weighted_sorted offers weighted sorted n h p = record {
  its = All-permutation (IsWeighted offers) weighted sorted p h.its;
  all = λ o x lt is. Contains-permutation weighted sorted _ p (h.all o x lt is);
}

pub weighted_rise : (offers : List Offer) (weighted : List WeightedOffer) (n : ℕ) → AreAllWeighted offers weighted n → IsNonDecreasingBy (λ (b : WeightedOffer). b.weight) weighted → AreWeighted offers weighted
weighted_rise offers weighted n h up = record {
  rising = λ i j le lt. up i j _ le lt;
  its = λ i lt. h.its i _ lt;
}

-- offers that rise are in order as they stand
pub order_as_offered : (offers : List Offer) → AreRising offers → IsOrder offers AsOffered
order_as_offered offers up = record {
  weighted = record {
    rising = λ i j le lt. rw (at i (omega (arith, le, lt, long)), at j (omega (arith, lt, long))) (weights i j le (omega (arith, lt, long)));
    its = λ i lt. rw (at i (omega (arith, lt, long))) (its i (omega (arith, lt, long)));
  };
  all = record {
    its = λ i d lt. rw (get_or-map-range_with_len weighted_offer 0 (length offers) i i d (omega (arith, lt, long)) (omega arith)) (its i (omega (arith, lt, long)));
    all = λ o x lt is. (
      o,
      omega (arith, lt, long),
      get_or-map-range_with_len weighted_offer 0 (length offers) o o _ lt (omega arith)
          ∙ ap (λ (y : Offer). record { weight = y.weight; offer = o }) (get_or_from_slice_get offers o x none is),
    );
  };
  long = long;
}
  where
    none : Offer
    none = record { weight = 0; cpus = set.empty }

    weighted_offer : ℕ → WeightedOffer
    weighted_offer i = record { weight = (get_or offers i none).weight; offer = i }

    long : length (offered offers) ≡ length offers
    long = length-map-range_with_len weighted_offer 0 (length offers)

    at : (i : ℕ) → i < length offers → weighted_at (offered offers) i ≡ weighted_offer i
    at i lt = get_or-map-range_with_len weighted_offer 0 (length offers) i i _ lt (omega arith)

    its : (i : ℕ) → i < length offers → IsWeighted offers (weighted_offer i)
    its i lt = record { offer = get_or offers i none; its = slice_get-get_or offers i none lt; weight = refl }

    weights : (i j : ℕ) → i ≤ j → j < length offers → (get_or offers i none).weight ≤ (get_or offers j none).weight
    weights i j le lt = elim (cases_lt i j) [
      | inl before ↦ omega (arith, up i j none before lt)
      | inr after ↦ (let e : i ≡ j = omega (arith, le, after) in omega (arith, ap (λ n. (get_or offers n none).weight) e))
    ]

pub weighted_as_offered : (offers : List Offer) (i : ℕ) (o : Offer) → i < length offers → o ≡ get_or offers i o → record { weight = o.weight; offer = i } ≡ weighted_at (offered offers) i
weighted_as_offered offers i o lt is =
    ap (λ (x : Offer). record { weight = x.weight; offer = i }) (is ∙ get_or_default offers i o none lt)
    ∙ sym (get_or-map-range_with_len (λ n. record { weight = (get_or offers n none).weight; offer = n }) 0 (length offers) i i _ lt (omega arith))
  where
    none : Offer
    none = record { weight = 0; cpus = set.empty }

-- and all of them sorted by weight are
pub order_by_weight : (offers : List Offer) (weighted : Vec WeightedOffer Global) → AreAllWeighted offers weighted.items (length offers) → length weighted.items ≡ length offers → IsNonDecreasingBy (λ (b : WeightedOffer). b.weight) weighted.items → IsOrder offers (ByWeight weighted)
order_by_weight offers weighted all long up = record { weighted = weighted_rise offers weighted.items (length offers) all up; all = all; long = long }

-- where no CPU is in two offers, each offer that has a CPU gives its weight
first_has : (offers : List Offer) (c i : ℕ) (x : Offer) → AllPairs (λ (o p : Offer). IsDisjoint o.cpus p.cpus) offers → slice_get offers i ≡ Some x → set.contains x.cpus c ≡ true
    → weight_in offers c ≡ Some x.weight
first_has [] c i x apart is has = absurd (omega (arith, slice_get_within [] i x is))
first_has (o ∷ offers) c zero x apart is has =
    let same : o ≡ x = (let both : Some o ≡ Some x = is in cc) in
    let here : set.contains o.cpus c ≡ true = ap (λ (y : Offer). set.contains y.cpus c) same ∙ has in
    rw here (ap (λ (y : Offer). Some y.weight) same)
first_has (o ∷ offers) c (suc i) x apart is has = elim (cases_Bool (set.contains o.cpus c)) [
  | inl here ↦ absurd (apart 0 (suc i) x (omega arith) (omega (arith, slice_get_within offers i x is)) c here there)
  | inr off ↦ rw off (first_has offers c i x later is has)
]
  where
    there : set.contains (get_or offers i x).cpus c ≡ true
    there = ap (λ (y : Offer). set.contains y.cpus c) (get_or_from_slice_get offers i x x is) ∙ has

    later : AllPairs (λ (o p : Offer). IsDisjoint o.cpus p.cpus) offers
    later a b d lt within = apart (suc a) (suc b) d (omega (arith, lt)) (omega (arith, within))

-- and there is an offer for each weight
record IsOfferAt (offers : List Offer) (c w : ℕ) : Type 0 where
  index : ℕ
  offer : Offer
  its : slice_get offers index ≡ Some offer
  has : set.contains offer.cpus c ≡ true
  weighs : offer.weight ≡ w

offer_of : (offers : List Offer) (c w : ℕ) → weight_in offers c ≡ Some w → IsOfferAt offers c w
offer_of [] c w e = let no : None ≡ Some w = e in cc
offer_of (o ∷ offers) c w e = go (set.contains o.cpus c) refl e (offer_of offers c w)
  where
    go : (b : Bool) → set.contains o.cpus c ≡ b → option_map (λ (o : Offer). o.weight) (cond b (Some o) (find (λ (o : Offer). set.contains o.cpus c) offers)) ≡ Some w
        → (weight_in offers c ≡ Some w → IsOfferAt offers c w) → IsOfferAt (o ∷ offers) c w
    go true on e later = record { index = 0; offer = o; its = refl; has = on; weighs = (let same : Some o.weight ≡ Some w = e in cc) }
    go false off e later = let a = later e in record { index = suc a.index; offer = a.offer; its = a.its; has = a.has; weighs = a.weighs }

-- a class has a weight only where it is one of the classes
pub in_classes : (offers : List Offer) (firsts : List ℕ) (g w : ℕ) → weight_of offers firsts g ≡ Some w → g < length firsts
in_classes offers firsts g w e = elim (cases_Bool (nat_lt g (length firsts))) [
  | inl on ↦ ltb-true g (length firsts) on
  | inr off ↦ (let no : None ≡ Some w = sym (ap (λ b. cond b (weight_in offers (number firsts g)) None) off) ∙ e in cc)
]

pub in_offers : (offers : List Offer) (firsts : List ℕ) (g : ℕ) → g < length firsts → weight_of offers firsts g ≡ weight_in offers (number firsts g)
in_offers offers firsts g lt = ap (λ b. cond b (weight_in offers (number firsts g)) None) (lt-ltb g (length firsts) lt)

-- a weight is within its limit, and a row's
past_rows : (rows : List RowView) (firsts : List ℕ) (k g w : ℕ) → length rows ≤ k → class_weight rows firsts k g ≡ Some w → ⊥
past_rows rows firsts k g w past e =
    let none : offers_of rows k ≡ [] = get_or_past (map (λ (r : RowView). r.offers) rows) k [] (omega (arith, length-map rows (λ (r : RowView). r.offers), past)) in
    let lt = in_classes (offers_of rows k) firsts g w e in
    let no : None ≡ Some w = ap (λ os. weight_in os (number firsts g)) (sym none) ∙ sym (in_offers (offers_of rows k) firsts g lt) ∙ e in
    cc

pub in_rows : (rows : List RowView) (firsts : List ℕ) (k g w : ℕ) → class_weight rows firsts k g ≡ Some w → k < length rows
in_rows rows firsts k g w e = elim (cases_lt k (length rows)) [
  | inl lt ↦ lt
  | inr past ↦ absurd (past_rows rows firsts k g w past e)
]

pub weight_low : (rows : List RowView) (firsts : List ℕ) (k g w : ℕ) → AreRowsWithin rows → class_weight rows firsts k g ≡ Some w → w < weight_limit
weight_low rows firsts k g w fit e =
    let lt = in_rows rows firsts k g w e in
    let o = offer_of (offers_of rows k) (number firsts g) w (sym (in_offers (offers_of rows k) firsts g (in_classes (offers_of rows k) firsts g w e)) ∙ e) in
    let here = get_or_from_slice_get (offers_of rows k) o.index o.offer o.offer o.its in
    let low = weights k lt o.index o.offer (slice_get_within (offers_of rows k) o.index o.offer o.its) in
    let same : (get_or (offers_of rows k) o.index o.offer).weight ≡ o.offer.weight = ap (λ (x : Offer). x.weight) here in
    omega (arith, low, same, o.weighs)
  where
    none : RowView
    none = record { id = []; demand = 0; offers = [] }

    weights : (k : ℕ) → k < length rows → All (λ (o : Offer). o.weight ≤ MAX_WEIGHT) (offers_of rows k)
    weights k lt = subst (All (λ (o : Offer). o.weight ≤ MAX_WEIGHT)) (sym (get_or-map (λ (r : RowView). r.offers) rows k none [] lt)) (fit.each k none lt).weights

pub new_sorted : (offers : List Offer) (firsts residual : List ℕ) (l : SortedArcs) → AllPairs (λ (o p : Offer). IsDisjoint o.cpus p.cpus) offers → length firsts ≤ length residual → IsNewSortedArcs offers l → IsSortedArcs (weight_of offers firsts) offers firsts residual l
new_sorted offers firsts residual l apart long h = record {
  order = h.order;
  opened_in = omega (arith, h.opened);
  arcs = rw (h.opened, h.arcs) none;
  blocks = rw (h.blocks, h.blocked) (no_blocks firsts l.arcs.items);
  blocked_in = omega (arith, h.blocked);
  cursor_in = omega (arith, h.cursor);
  full = λ i lt. absurd (omega (arith, lt, h.cursor));
  hits = λ o g w has. in_offers offers firsts g has.in_range ∙ first_has offers (number firsts g) o has.offer apart has.its has.has ∙ ap Some has.weight;
  classes = λ g w e. in_classes offers firsts g w e;
  firsts_in = long;
}
  where
    to_come : (g w : ℕ) → weight_of offers firsts g ≡ Some w → IsToCome offers firsts (weighted_in offers l.order) 0 g w
    to_come g w e =
        let lt = in_classes offers firsts g w e in
        let o = offer_of offers (number firsts g) w (sym (in_offers offers firsts g lt) ∙ e) in
        let c = h.order.all.all o.index o.offer (slice_get_within offers o.index o.offer o.its) o.its in
        let b : weighted_at (weighted_in offers l.order) c.0 ≡ record { weight = o.offer.weight; offer = o.index } = get_or_default (weighted_in offers l.order) c.0 _ _ c.1 ∙ c.2 in
        record {
          index = c.0;
          from = omega arith;
          within = c.1;
          has = record {
            offer = o.offer;
            its = ap (λ (x : WeightedOffer). slice_get offers x.offer) b ∙ o.its;
            in_range = lt;
            has = o.has;
            weight = o.weighs;
          };
        }

    none : AreArcs (weight_of offers firsts) offers firsts (weighted_in offers l.order) 0 []
    none = record {
      sound = λ i lt. absurd (omega arith);
      rising = λ i j le lt. absurd (omega arith);
      low = λ i j lt from within. absurd (omega arith);
      all = λ g w e. inr (to_come g w e);
    }

-- one row's sorted arcs more
pub all_sorted_more : (rows : List RowView) (kinds : List ℕ) (arcs_by_kind : List SortedArcs) (k : ℕ) (l : SortedArcs) → AreNewSortedArcs rows kinds arcs_by_kind k
    → (kind_at kinds k ≡ k → IsNewSortedArcs (offers_of rows k) l) → AreNewSortedArcs rows kinds (arcs_by_kind ++ l ∷ []) (k + 1)
all_sorted_more rows kinds arcs_by_kind k l h own = record {
  long = omega (arith, length_push arcs_by_kind l, h.long);
  each = λ j m is. elim (cases_lt j (length arcs_by_kind)) [
    | inl before ↦ h.each j m (slice_get-get_or arcs_by_kind j m before ∙ ap Some (sym (get_or_append_left arcs_by_kind (l ∷ []) m j before) ∙ get_or_from_slice_get (arcs_by_kind ++ l ∷ []) j m m is))
    | inr after ↦ last j m is (omega (arith, after, slice_get_within (arcs_by_kind ++ l ∷ []) j m is, length_push arcs_by_kind l))
  ];
}
  where
    last : (j : ℕ) (m : SortedArcs) → slice_get (arcs_by_kind ++ l ∷ []) j ≡ Some m → length arcs_by_kind ≡ j → kind_at kinds j ≡ j → IsNewSortedArcs (offers_of rows j) m
    last j m is e first =
        let same : l ≡ m = sym (get_or_push arcs_by_kind l m j e) ∙ get_or_from_slice_get (arcs_by_kind ++ l ∷ []) j m m is in
        let index : k ≡ j = sym h.long ∙ e in
        subst (IsNewSortedArcs (offers_of rows j)) same (subst (λ x. kind_at kinds x ≡ x → IsNewSortedArcs (offers_of rows x) l) index own first)

pub all_sorted_new : (t : Instance) (residual : List ℕ) (arcs_by_kind : List SortedArcs) → AreRowsWithin t.rows.now → AreKinds t.rows.now (length t.rows.now) t.kinds.now → length t.firsts ≤ length residual
    → AreNewSortedArcs t.rows.now t.kinds.now arcs_by_kind (length t.rows.now) → AreSortedArcs t residual arcs_by_kind
all_sorted_new t residual arcs_by_kind fit kinds long h = record {
  long = h.long;
  kinds = kinds;
  each = λ k l is first. new_sorted (offers_of t.rows.now k) t.firsts residual l (apart k (omega (arith, slice_get_within arcs_by_kind k l is, h.long))) long (h.each k l is first);
}
  where
    none : RowView
    none = record { id = []; demand = 0; offers = [] }

    apart : (k : ℕ) → k < length t.rows.now → AllPairs (λ (o p : Offer). IsDisjoint o.cpus p.cpus) (offers_of t.rows.now k)
    apart k lt = subst (AllPairs (λ (o p : Offer). IsDisjoint o.cpus p.cpus)) (sym (get_or-map (λ (r : RowView). r.offers) t.rows.now k none [] lt)) (fit.each k none lt).apart
