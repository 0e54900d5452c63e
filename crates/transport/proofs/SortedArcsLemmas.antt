-- A row's arcs, as offers are opened and the cursor moves.
use Rattle.std.proofs.Common.{◌≡◌, ℕ, ◌+◌, ◌<◌, ◌≤◌, true, List, [], ◌∷◌, ◌++◌, length, get_or, Option, Some, None, MatchOption, IfSome, slice_get, ◌⊎◌, refl, sym, ap, ◌∙◌, subst, inl, inr, arith}
use Rattle.std.specs.FinSet as set
use Rattle.std.proofs.lemmas.List.{length_push, get_or_push, get_or_append_left, get_or_read}
use Rattle.std.proofs.lemmas.Option.{slice_get_within, slice_get_read}
use Rattle.std.proofs.lemmas.Bool.{cases_eq, cases_lt, both_ways}
use Rattle.certificate.specs.declared.rows.Offer.{Offer}
use Rattle.cpu_set.specs.Ids.{Ids, NoneFrom, IsFirstFrom}
use Rattle.transport.specs.Numbers.{number, IsIn}
use Rattle.transport.specs.Blocks.{AreBlocks}
use Rattle.transport.specs.Scans.{arc_at, IsPast}
use Rattle.transport.specs.SortedArcs.{IsArc, HasOffer, IsToCome, AreArcs, IsSortedArcs, IsScanned, IsFreeArc, IsFoundFreeEnd, IsOpening, CanOpen}
use Rattle.transport.specs.Walks.{IsAhead}
use Rattle.transport.specs.Orders.{weighted_at, weighted_in, AreWeighted}
use Rattle.transport.specs.declared.arcs.WeightedOffer.{WeightedOffer}
use Rattle.transport.specs.declared.arcs.Arc.{Arc}
use Rattle.transport.specs.declared.arcs.SortedArcs.{SortedArcs}
use Rattle.transport.proofs.Blocks.{blocks_kept}
use Rattle.transport.proofs.Labelling.{past_rise}

-- where the cursor stops at an arc, each class is before it or no lighter
pub scanned_at : (ws : ℕ → Option ℕ) (offers : List Offer) (firsts residual : List ℕ) (l : SortedArcs) (limit : Option ℕ) → IsSortedArcs ws offers firsts residual l → l.cursor < length l.arcs.items
    → IsPast limit (arc_at l.arcs.items l.cursor).weight → IsScanned ws l limit
scanned_at ws offers firsts residual l limit h lt past g w its = elim (h.arcs.all g w its) [
  | inl a ↦ elim (cases_lt a.index l.cursor) [
    | inl before ↦ inl (record { index = a.index; within = before; class = a.class; weight = a.weight })
    | inr after ↦ inr (past_rise limit _ w (omega (arith, h.arcs.rising l.cursor a.index after a.within, a.weight)) past)
  ]
  | inr b ↦ inr (past_rise limit _ w (heavier b) past)
]
  where
    heavier : IsToCome offers firsts (weighted_in offers l.order) l.opened g w → (arc_at l.arcs.items l.cursor).weight ≤ w
    heavier b =
        let weighted_offer = h.order.weighted.its b.index b.within in
        let same : weighted_offer.offer ≡ b.has.offer = (let both : Some weighted_offer.offer ≡ Some b.has.offer = sym weighted_offer.its ∙ b.has.its in cc) in
        omega (arith, h.arcs.low l.cursor b.index lt b.from b.within, weighted_offer.weight, ap (λ (o : Offer). o.weight) same, b.has.weight)

-- where it has come past all arcs, and the next offer is past the limit, or there is none
pub scanned_end : (ws : ℕ → Option ℕ) (offers : List Offer) (firsts residual : List ℕ) (l : SortedArcs) (limit : Option ℕ) → IsSortedArcs ws offers firsts residual l → length l.arcs.items ≤ l.cursor
    → (l.opened < length offers → IsPast limit (weighted_at (weighted_in offers l.order) l.opened).weight) → IsScanned ws l limit
scanned_end ws offers firsts residual l limit h done past g w its = elim (h.arcs.all g w its) [
  | inl a ↦ inl (record { index = a.index; within = omega (arith, a.within, done); class = a.class; weight = a.weight })
  | inr b ↦ inr (past_rise limit _ w (heavier b) (past (omega (arith, b.from, b.within, h.order.long))))
]
  where
    heavier : IsToCome offers firsts (weighted_in offers l.order) l.opened g w → (weighted_at (weighted_in offers l.order) l.opened).weight ≤ w
    heavier b =
        let weighted_offer = h.order.weighted.its b.index b.within in
        let same : weighted_offer.offer ≡ b.has.offer = (let both : Some weighted_offer.offer ≡ Some b.has.offer = sym weighted_offer.its ∙ b.has.its in cc) in
        omega (arith, h.order.weighted.rising l.opened b.index b.from b.within, weighted_offer.weight, ap (λ (o : Offer). o.weight) same, b.has.weight)

-- the same arcs, and the cursor at the same place
pub scanned_same : (ws : ℕ → Option ℕ) (l new : SortedArcs) (limit : Option ℕ) → new.arcs ≡ l.arcs → new.cursor ≡ l.cursor → IsScanned ws l limit → IsScanned ws new limit
scanned_same ws l new limit arcs cursor h = rw (arcs, cursor) h

-- a class with a free CPU at the cursor
pub found_at : (ws : ℕ → Option ℕ) (offers : List Offer) (firsts residual : List ℕ) (l : SortedArcs) (limit : Option ℕ) (arc : Arc) → IsSortedArcs ws offers firsts residual l → l.cursor < length l.arcs.items
    → arc ≡ arc_at l.arcs.items l.cursor → 0 < number residual arc.class → (IsPast limit arc.weight → ⊥) → IsFreeArc ws residual limit l arc
found_at ws offers firsts residual l limit arc h lt is some below_limit = record {
  weighs = rw is (h.arcs.sound l.cursor lt);
  some_free = some;
  below_limit = below_limit;
  scanned = scanned_at ws offers firsts residual l (Some arc.weight) h lt (rw is (omega arith));
}

-- a member from some number on is no lower than the next one of a walk
pub ahead : (s : Ids) (from c : ℕ) (next : Option ℕ) → MatchOption next (NoneFrom s from) (λ n. IsFirstFrom s from n) → from ≤ c → set.contains s c ≡ true → IsAhead next c
ahead s from c None none le on = both_ways _ (none c le) on
ahead s from c (Some n) first le on = elim (cases_lt c n) [
  | inl below ↦ absurd (both_ways _ (first.least c le below) on)
  | inr at ↦ at
]

pub next_member : (s : Ids) (from : ℕ) (next : Option ℕ) → MatchOption next (NoneFrom s from) (λ n. IsFirstFrom s from n) → IfSome next (λ n. set.contains s n ≡ true)
next_member s from None none = tt
next_member s from (Some n) first = first.member

-- the first CPUs of the offer's classes
abbrev pub HasAll : List ℕ → Ids → Ids → Type 0
HasAll firsts cpus there = (g : ℕ) → g < length firsts → set.contains cpus (number firsts g) ≡ true → set.contains there (number firsts g) ≡ true

has_offer : (offers : List Offer) (firsts : List ℕ) (o g w : ℕ) (offer : Offer) → slice_get offers o ≡ Some offer → HasOffer offers firsts o g w → set.contains offer.cpus (number firsts g) ≡ true
has_offer offers firsts o g w offer its d =
    let same : d.offer ≡ offer = (let both : Some d.offer ≡ Some offer = sym d.its ∙ its in cc) in
    subst (λ (x : Offer). set.contains x.cpus (number firsts g) ≡ true) same d.has

-- opening an offer
pub arcs_start : (ws : ℕ → Option ℕ) (offers : List Offer) (firsts : List ℕ) (weighted : List WeightedOffer) (opened : ℕ) (offer : Offer) (weight : ℕ) (arcs : List Arc) (there : Ids) (next : Option ℕ)
    → CanOpen ws offers firsts weighted opened offer weight arcs → HasAll firsts offer.cpus there → MatchOption next (NoneFrom there 0) (λ n. IsFirstFrom there 0 n)
    → IsOpening ws offers firsts weighted opened arcs arcs next
arcs_start ws offers firsts weighted opened offer weight arcs there next can all first = record {
  sound = can.arcs_are.sound;
  rising = can.arcs_are.rising;
  low = can.arcs_are.low;
  all = λ g w its. elim (can.arcs_are.all g w its) [ inl a ↦ inl a | inr b ↦ inr (later g w b) ];
  longer = omega arith;
  kept = λ i lt. refl;
}
  where
    later : (g w : ℕ) → IsToCome offers firsts weighted opened g w → IsToCome offers firsts weighted (opened + 1) g w ⊎ (IsAhead next (number firsts g) × HasOffer offers firsts (weighted_at weighted opened).offer g w)
    later g w b = elim (cases_eq b.index opened) [
      | inl e ↦ (let d : HasOffer offers firsts (weighted_at weighted opened).offer g w = subst (λ x. HasOffer offers firsts (weighted_at weighted x).offer g w) e b.has in
          inr (ahead there 0 (number firsts g) next first (omega arith) (all g d.in_range (has_offer offers firsts _ g w offer can.its d)), d))
      | inr ne ↦ inl (record { index = b.index; from = omega (arith, b.from, ne); within = b.within; has = b.has })
    ]

module _ (ws : ℕ → Option ℕ) (offers : List Offer) (firsts : List ℕ) (weighted : List WeightedOffer) (opened : ℕ) (old arcs : List Arc) (g : ℕ) (offer : Offer)
    (bs : AreWeighted offers weighted) (in_weighted : opened < length weighted) (lt : g < length firsts) (its : slice_get offers (weighted_at weighted opened).offer ≡ Some offer)
    (now next : Option ℕ) (h : IsOpening ws offers firsts weighted opened old arcs now) where
  weight_is : offer.weight ≡ (weighted_at weighted opened).weight
  weight_is =
      let b = bs.its opened in_weighted in
      let same : b.offer ≡ offer = (let both : Some b.offer ≡ Some offer = sym b.its ∙ its in cc) in
      ap (λ (o : Offer). o.weight) (sym same) ∙ b.weight

  module _ (hits : (o j w : ℕ) → HasOffer offers firsts o j w → ws j ≡ Some w) (on : set.contains offer.cpus (number firsts g) ≡ true)
      (step : (j w : ℕ) → IsAhead now (number firsts j) → HasOffer offers firsts (weighted_at weighted opened).offer j w → (j ≡ g) ⊎ IsAhead next (number firsts j)) where
    abbrev pub arc : Arc
    arc = record { weight = (weighted_at weighted opened).weight; class = g }

    abbrev pub more : List Arc
    more = arcs ++ arc ∷ []

    before : (i : ℕ) → i < length arcs → arc_at more i ≡ arc_at arcs i
    before i h = get_or_append_left arcs (arc ∷ []) _ i h

    last : (i : ℕ) → i ≡ length arcs → arc_at more i ≡ arc
    last i e = get_or_push arcs arc _ i (sym e)

    long : length more ≡ length arcs + 1
    long = length_push arcs arc

    sound_more : (i : ℕ) → i < length more → ws (arc_at more i).class ≡ Some (arc_at more i).weight
    sound_more i within = elim (cases_lt i (length arcs)) [
      | inl b ↦ rw (before i b) (h.sound i b)
      | inr a ↦ rw (last i (omega (arith, a, within, long)))
          (hits (weighted_at weighted opened).offer g _ (record { offer = offer; its = its; in_range = lt; has = on; weight = weight_is }))
    ]

    rising_more : (i j : ℕ) → i ≤ j → j < length more → (arc_at more i).weight ≤ (arc_at more j).weight
    rising_more i j le within = elim (cases_lt j (length arcs)) [
      | inl b ↦ rw (before i (omega arith), before j b) (h.rising i j le b)
      | inr a ↦ elim (cases_lt i (length arcs)) [
        | inl c ↦ rw (before i c, last j (omega (arith, a, within, long))) (h.low i opened c (omega arith) in_weighted)
        | inr d ↦ rw (last i (omega (arith, d, le, within, long)), last j (omega (arith, a, within, long))) (omega arith)
      ]
    ]

    low_more : (i j : ℕ) → i < length more → opened ≤ j → j < length weighted → (arc_at more i).weight ≤ (weighted_at weighted j).weight
    low_more i j within from to = elim (cases_lt i (length arcs)) [
      | inl b ↦ rw (before i b) (h.low i j b from to)
      | inr a ↦ rw (last i (omega (arith, a, within, long))) (bs.rising opened j from to)
    ]

    arc_more : (j w : ℕ) → IsArc arcs (length arcs) j w → IsArc more (length more) j w
    arc_more j w a = record {
      index = a.index;
      within = omega (arith, a.within, long);
      class = rw (before a.index a.within) a.class;
      weight = rw (before a.index a.within) a.weight;
    }

    own : (w : ℕ) → HasOffer offers firsts (weighted_at weighted opened).offer g w → IsArc more (length more) g w
    own w d =
        let same : d.offer ≡ offer = (let both : Some d.offer ≡ Some offer = sym d.its ∙ its in cc) in
        record {
          index = length arcs;
          within = omega (arith, long);
          class = ap (λ (x : Arc). x.class) (last (length arcs) refl);
          weight = ap (λ (x : Arc). x.weight) (last (length arcs) refl) ∙ sym weight_is ∙ ap (λ (o : Offer). o.weight) (sym same) ∙ d.weight;
        }

    all_more : (j w : ℕ) → ws j ≡ Some w
        → IsArc more (length more) j w ⊎ (IsToCome offers firsts weighted (opened + 1) j w ⊎ (IsAhead next (number firsts j) × HasOffer offers firsts (weighted_at weighted opened).offer j w))
    all_more j w weighs = elim (h.all j w weighs) [
      | inl a ↦ inl (arc_more j w a)
      | inr b ↦ elim b [
        | inl c ↦ inr (inl c)
        | inr d ↦ elim (step j w d.0 d.1) [
          | inl e ↦ inl (subst (λ x. IsArc more (length more) x w) (sym e) (own w (subst (λ x. HasOffer offers firsts (weighted_at weighted opened).offer x w) e d.1)))
          | inr on ↦ inr (inr (on, d.1))
        ]
      ]
    ]

    pub opening_hit : IsOpening ws offers firsts weighted opened old more next
    opening_hit = record {
      sound = sound_more;
      rising = rising_more;
      low = low_more;
      all = all_more;
      longer = omega (arith, h.longer, long);
      kept = λ i early. before i (omega (arith, early, h.longer)) ∙ h.kept i early;
    }

-- all classes of the offer were scanned
pub opening_all : (ws : ℕ → Option ℕ) (offers : List Offer) (firsts : List ℕ) (weighted : List WeightedOffer) (opened : ℕ) (old arcs : List Arc) → IsOpening ws offers firsts weighted opened old arcs None
    → AreArcs ws offers firsts weighted (opened + 1) arcs
opening_all ws offers firsts weighted opened old arcs h = record {
  sound = h.sound;
  rising = h.rising;
  low = λ i j lt from to. h.low i j lt (omega arith) to;
  all = λ g w its. elim (h.all g w its) [ inl a ↦ inl a | inr b ↦ elim b [ inl c ↦ inr c | inr d ↦ absurd d.0 ] ];
}

-- what is left of sorted arcs as an offer is opened
pub can_open : (ws : ℕ → Option ℕ) (offers : List Offer) (firsts residual : List ℕ) (l : SortedArcs) (offer : Offer) (weight : ℕ) → IsSortedArcs ws offers firsts residual l → l.opened < length offers
    → slice_get offers (weighted_at (weighted_in offers l.order) l.opened).offer ≡ Some offer → weight ≡ (weighted_at (weighted_in offers l.order) l.opened).weight → CanOpen ws offers firsts (weighted_in offers l.order) l.opened offer weight l.arcs.items
can_open ws offers firsts residual l offer weight h more its weighs = record { weighted_are = h.order.weighted; in_weighted = omega (arith, more, h.order.long); its = its; weighs = weighs; arcs_are = h.arcs; hits = h.hits }

pub sorted_opened : (ws : ℕ → Option ℕ) (offers : List Offer) (firsts residual : List ℕ) (l new : SortedArcs) → IsSortedArcs ws offers firsts residual l → l.opened < length offers
    → IsOpening ws offers firsts (weighted_in offers l.order) l.opened l.arcs.items new.arcs.items None → new.blocks ≡ l.blocks → new.blocked ≡ l.blocked → new.order ≡ l.order → new.opened ≡ l.opened + 1 → new.cursor ≡ l.cursor → IsSortedArcs ws offers firsts residual new
sorted_opened ws offers firsts residual l new h more o blocks blocked order opened cursor = record {
  order = rw order h.order;
  opened_in = rw opened (omega (arith, more));
  arcs = rw (order, opened) (opening_all ws offers firsts (weighted_in offers l.order) l.opened l.arcs.items new.arcs.items o);
  blocks = rw (blocks, blocked) (blocks_kept firsts l.arcs.items new.arcs.items l.blocked l.blocks.items (λ i lt. o.kept i (omega (arith, lt, h.blocked_in, h.cursor_in))) h.blocks);
  blocked_in = omega (arith, h.blocked_in, blocked, cursor);
  cursor_in = rw cursor (omega (arith, h.cursor_in, o.longer));
  full = λ i lt. full i (omega (arith, lt, cursor));
  hits = h.hits;
  classes = h.classes;
  firsts_in = h.firsts_in;
}
  where
    full : (i : ℕ) → i < l.cursor → number residual (arc_at new.arcs.items i).class ≡ 0
    full i lt = rw (o.kept i (omega (arith, lt, h.cursor_in))) (h.full i lt)

pub sorted_moved : (ws : ℕ → Option ℕ) (offers : List Offer) (firsts residual : List ℕ) (l new : SortedArcs) → IsSortedArcs ws offers firsts residual l → new.order ≡ l.order → new.opened ≡ l.opened → new.arcs ≡ l.arcs → AreBlocks firsts l.arcs.items new.blocked new.blocks.items → new.blocked ≤ new.cursor
    → new.cursor ≤ length l.arcs.items → ((i : ℕ) → i < new.cursor → number residual (arc_at l.arcs.items i).class ≡ 0) → IsSortedArcs ws offers firsts residual new
sorted_moved ws offers firsts residual l new h order opened arcs blocks blocked cursor full = record {
  order = rw order h.order;
  opened_in = rw opened h.opened_in;
  arcs = rw (order, opened, arcs) h.arcs;
  blocks = rw arcs blocks;
  blocked_in = blocked;
  cursor_in = rw arcs cursor;
  full = rw arcs full;
  hits = h.hits;
  classes = h.classes;
  firsts_in = h.firsts_in;
}

-- a class of the offer more, and the next one
pub arcs_more : (ws : ℕ → Option ℕ) (offers : List Offer) (firsts : List ℕ) (weighted : List WeightedOffer) (opened : ℕ) (offer : Offer) (weight : ℕ) (old arcs new : List Arc) (there : Ids) (cpu g : ℕ) (next : Option ℕ)
    → CanOpen ws offers firsts weighted opened offer weight old → HasAll firsts offer.cpus there → set.contains offer.cpus cpu ≡ true
    → IsIn firsts cpu → ((j : ℕ) → j < length firsts → number firsts j ≡ cpu → g ≡ j)
    → MatchOption next (NoneFrom there (cpu + 1)) (λ n. IsFirstFrom there (cpu + 1) n) → new ≡ arcs ++ (record { weight = weight; class = g }) ∷ []
    → IsOpening ws offers firsts weighted opened old arcs (Some cpu) → IsOpening ws offers firsts weighted opened old new next
arcs_more ws offers firsts weighted opened offer weight old arcs new there cpu g next can all on among own first is h =
    let same : g ≡ among.index = own among.index among.within among.is in
    let lt : g < length firsts = omega (arith, same, among.within) in
    let here : number firsts g ≡ cpu = ap (λ j. number firsts j) same ∙ among.is in
    let P = λ (xs : List Arc). IsOpening ws offers firsts weighted opened old xs next in
    subst P (sym (is ∙ ap (λ w. arcs ++ (record { weight = w; class = g }) ∷ []) can.weighs))
    (opening_hit ws offers firsts weighted opened old arcs g offer can.weighted_are can.in_weighted lt can.its (Some cpu) next h can.hits (subst (λ c. set.contains offer.cpus c ≡ true) (sym here) on) step)
  where
    step : (j w : ℕ) → cpu ≤ number firsts j → HasOffer offers firsts (weighted_at weighted opened).offer j w → (j ≡ g) ⊎ IsAhead next (number firsts j)
    step j w le d = elim (cases_eq (number firsts j) cpu) [
      | inl e ↦ inl (sym (own j d.in_range e))
      | inr ne ↦ inr (ahead there (cpu + 1) (number firsts j) next first (omega (arith, le, ne)) (all j d.in_range (has_offer offers firsts _ j w offer can.its d)))
    ]

pub weighted_within : (offers : List Offer) (weighted : List WeightedOffer) (i : ℕ) (b : WeightedOffer) → AreWeighted offers weighted → i < length weighted → b ≡ weighted_at weighted i → b.offer < length offers
weighted_within offers weighted i b h lt is = let x = h.its i lt in rw is (slice_get_within offers _ x.offer x.its)

-- an offer that was read, at its weighted_offer
pub offer_read : (offers : List Offer) (weighted : List WeightedOffer) (i : ℕ) (b : WeightedOffer) (o : Offer) → b ≡ weighted_at weighted i → b.offer < length offers → o ≡ get_or offers b.offer o → slice_get offers (weighted_at weighted i).offer ≡ Some o
offer_read offers weighted i b o is in_offers read = rw (← is) (slice_get_read offers (length offers) b.offer o refl in_offers read)

pub arc_here : (arcs : List Arc) (i : ℕ) (a : Arc) → i < length arcs → a ≡ get_or arcs i a → a ≡ arc_at arcs i
arc_here arcs i a lt is = get_or_read arcs i a lt is _

-- what is found at an arc with a free CPU or at the limit
pub found_cases : (ws : ℕ → Option ℕ) (offers : List Offer) (firsts residual : List ℕ) (l : SortedArcs) (limit : Option ℕ) (arc : Arc) (result : Option Arc) → IsSortedArcs ws offers firsts residual l → l.cursor < length l.arcs.items
    → arc ≡ arc_at l.arcs.items l.cursor → IsPast limit (arc_at l.arcs.items l.cursor).weight ⊎ (0 < number residual (arc_at l.arcs.items l.cursor).class)
    → MatchOption result (IsPast limit arc.weight) (λ a. (a ≡ arc) × (IsPast limit arc.weight → ⊥)) → IsFoundFreeEnd ws residual limit l result
found_cases ws offers firsts residual l limit arc None h lt is stop past = scanned_at ws offers firsts residual l limit h lt (rw (← is) past)
found_cases ws offers firsts residual l limit arc (Some a) h lt is stop found = elim stop [
  | inl past ↦ absurd (found.1 (rw is past))
  | inr some ↦ found_at ws offers firsts residual l limit a h lt (found.0 ∙ is) (rw (found.0 ∙ is) some) (rw found.0 found.1)
]

-- the cursor moves past full classes
pub sorted_skipped : (ws : ℕ → Option ℕ) (offers : List Offer) (firsts residual : List ℕ) (l : SortedArcs) (xs : List Arc) (r : ℕ) → IsSortedArcs ws offers firsts residual l → xs ≡ l.arcs.items → r ≤ length xs → l.cursor ≤ r
    → ((i : ℕ) → i < r → number residual (arc_at xs i).class ≡ 0) → IsSortedArcs ws offers firsts residual (record { order = l.order; opened = l.opened; arcs = l.arcs; blocks = l.blocks; blocked = l.blocked; cursor = r; looks = l.looks; joined = l.joined })
sorted_skipped ws offers firsts residual l xs r h e le forward full =
    sorted_moved ws offers firsts residual l _ h refl refl refl h.blocks (omega (arith, h.blocked_in, forward)) (omega (arith, ap length e, le)) (subst (λ ys. (i : ℕ) → i < r → number residual (arc_at ys i).class ≡ 0) e full)

pub stop_at : (residual : List ℕ) (limit : Option ℕ) (xs ys : List Arc) (r : ℕ) → xs ≡ ys → r < length ys → (r < length xs → IsPast limit (arc_at xs r).weight ⊎ (0 < number residual (arc_at xs r).class))
    → IsPast limit (arc_at ys r).weight ⊎ (0 < number residual (arc_at ys r).class)
stop_at residual limit xs ys r e lt stop = subst (λ zs. IsPast limit (arc_at zs r).weight ⊎ (0 < number residual (arc_at zs r).class)) e (stop (omega (arith, ap length e, lt)))
