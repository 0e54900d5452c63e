-- A row's offers in rising weight, and the classes of those that are opened.
use Rattle.std.specs.Prelude.{◌≡◌, ℕ, ◌+◌, ◌<◌, ◌≤◌, true, Option, Some, None, List, [], ◌⊎◌, length, slice_get, nat_lt, cond}
use Rattle.std.specs.FinSet as set
use Rattle.certificate.specs.Weight.{weight_in}
use Rattle.certificate.specs.declared.rows.Offer.{Offer}
use Rattle.transport.specs.Numbers.{number}
use Rattle.transport.specs.Scans.{arc_at, IsPast}
use Rattle.transport.specs.Blocks.{AreBlocks}
use Rattle.transport.specs.Walks.{IsAhead}
use Rattle.transport.specs.Orders.{weighted_at, weighted_in, AreWeighted, IsOrder}
use Rattle.transport.specs.declared.arcs.WeightedOffer.{WeightedOffer}
use Rattle.transport.specs.declared.arcs.Arc.{Arc}
use Rattle.transport.specs.declared.arcs.SortedArcs.{SortedArcs}

-- the weight of a class in a row, which is its first CPU's
abbrev pub weight_of : List Offer → List ℕ → ℕ → Option ℕ
weight_of offers firsts g = cond (nat_lt g (length firsts)) (weight_in offers (number firsts g)) None

-- one of the first arcs has that class, at that weight
pub record IsArc (arcs : List Arc) (upto g w : ℕ) : Type 0 where
  pub index : ℕ
  pub within : index < upto
  pub class : (arc_at arcs index).class ≡ g
  pub weight : (arc_at arcs index).weight ≡ w

-- an offer is of that weight and has the class's first CPU
pub record HasOffer (offers : List Offer) (firsts : List ℕ) (o g w : ℕ) : Type 0 where
  pub offer : Offer
  pub its : slice_get offers o ≡ Some offer
  pub in_range : g < length firsts
  pub has : set.contains offer.cpus (number firsts g) ≡ true
  pub weight : offer.weight ≡ w

-- such an offer is not opened yet
pub record IsToCome (offers : List Offer) (firsts : List ℕ) (weighted : List WeightedOffer) (opened g w : ℕ) : Type 0 where
  pub index : ℕ
  pub from : opened ≤ index
  pub within : index < length weighted
  pub has : HasOffer offers firsts (weighted_at weighted index).offer g w

-- no offer is opened
pub record IsNewSortedArcs (offers : List Offer) (l : SortedArcs) : Type 0 where
  pub order : IsOrder offers l.order
  pub opened : l.opened ≡ 0
  pub arcs : l.arcs.items ≡ []
  pub blocks : l.blocks.items ≡ []
  pub blocked : l.blocked ≡ 0
  pub cursor : l.cursor ≡ 0

-- the classes of the opened offers are arcs, by rising weight
pub record AreArcs (ws : ℕ → Option ℕ) (offers : List Offer) (firsts : List ℕ) (weighted : List WeightedOffer) (opened : ℕ) (arcs : List Arc) : Type 0 where
  pub sound : (i : ℕ) → i < length arcs → ws (arc_at arcs i).class ≡ Some (arc_at arcs i).weight
  pub rising : (i j : ℕ) → i ≤ j → j < length arcs → (arc_at arcs i).weight ≤ (arc_at arcs j).weight
  pub low : (i j : ℕ) → i < length arcs → opened ≤ j → j < length weighted → (arc_at arcs i).weight ≤ (weighted_at weighted j).weight
  pub all : (g w : ℕ) → ws g ≡ Some w → IsArc arcs (length arcs) g w ⊎ IsToCome offers firsts weighted opened g w

-- what sorted arcs keep: those before the cursor are of full classes, and only such are in blocks
pub record IsSortedArcs (ws : ℕ → Option ℕ) (offers : List Offer) (firsts residual : List ℕ) (l : SortedArcs) : Type 0 where
  pub order : IsOrder offers l.order
  pub opened_in : l.opened ≤ length offers
  pub arcs : AreArcs ws offers firsts (weighted_in offers l.order) l.opened l.arcs.items
  pub blocks : AreBlocks firsts l.arcs.items l.blocked l.blocks.items
  pub blocked_in : l.blocked ≤ l.cursor
  pub cursor_in : l.cursor ≤ length l.arcs.items
  pub full : (i : ℕ) → i < l.cursor → number residual (arc_at l.arcs.items i).class ≡ 0
  pub hits : (o g w : ℕ) → HasOffer offers firsts o g w → ws g ≡ Some w
  pub classes : (g w : ℕ) → ws g ≡ Some w → g < length firsts
  pub firsts_in : length firsts ≤ length residual

-- each class of the row is one of the arcs before the cursor, or lies past the limit
abbrev pub IsScanned : (ℕ → Option ℕ) → SortedArcs → Option ℕ → Type 0
IsScanned ws l limit = (g w : ℕ) → ws g ≡ Some w → IsArc l.arcs.items l.cursor g w ⊎ IsPast limit w

-- a class with a free CPU whose weight is below the limit
pub record IsFreeArc (ws : ℕ → Option ℕ) (residual : List ℕ) (limit : Option ℕ) (l : SortedArcs) (arc : Arc) : Type 0 where
  pub weighs : ws arc.class ≡ Some arc.weight
  pub some_free : 0 < number residual arc.class
  pub below_limit : IsPast limit arc.weight → ⊥
  pub scanned : IsScanned ws l (Some arc.weight)

abbrev pub IsFoundFreeEnd : (ℕ → Option ℕ) → List ℕ → Option ℕ → SortedArcs → Option Arc → Type 0
IsFoundFreeEnd ws residual limit l None = IsScanned ws l limit
IsFoundFreeEnd ws residual limit l (Some arc) = IsFreeArc ws residual limit l arc

-- the classes of an offer, of those first CPUs from the next one on still to come, beside the arcs so far
pub record IsOpening (ws : ℕ → Option ℕ) (offers : List Offer) (firsts : List ℕ) (weighted : List WeightedOffer) (opened : ℕ) (old arcs : List Arc) (next : Option ℕ) : Type 0 where
  pub sound : (i : ℕ) → i < length arcs → ws (arc_at arcs i).class ≡ Some (arc_at arcs i).weight
  pub rising : (i j : ℕ) → i ≤ j → j < length arcs → (arc_at arcs i).weight ≤ (arc_at arcs j).weight
  pub low : (i j : ℕ) → i < length arcs → opened ≤ j → j < length weighted → (arc_at arcs i).weight ≤ (weighted_at weighted j).weight
  pub all : (g w : ℕ) → ws g ≡ Some w
      → IsArc arcs (length arcs) g w ⊎ (IsToCome offers firsts weighted (opened + 1) g w ⊎ (IsAhead next (number firsts g) × HasOffer offers firsts (weighted_at weighted opened).offer g w))
  pub longer : length old ≤ length arcs
  pub kept : (i : ℕ) → i < length old → arc_at arcs i ≡ arc_at old i

-- an offer to open, at its weight
pub record CanOpen (ws : ℕ → Option ℕ) (offers : List Offer) (firsts : List ℕ) (weighted : List WeightedOffer) (opened : ℕ) (offer : Offer) (weight : ℕ) (arcs : List Arc) : Type 0 where
  pub weighted_are : AreWeighted offers weighted
  pub in_weighted : opened < length weighted
  pub its : slice_get offers (weighted_at weighted opened).offer ≡ Some offer
  pub weighs : weight ≡ (weighted_at weighted opened).weight
  pub arcs_are : AreArcs ws offers firsts weighted opened arcs
  pub hits : (o g w : ℕ) → HasOffer offers firsts o g w → ws g ≡ Some w
