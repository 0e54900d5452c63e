-- Who stands in a ring, as a table of marks tells it. The mark 0 tells nothing of one, the mark 1 that it stands in a ring, and any
-- other that it stands in none.
use Rattle.std.specs.Prelude.{◌≡◌, ℕ, ◌<◌, true, false, ◌==◌, List, length, get_or, slice_index}
use Rattle.cpu_set.specs.Ids.{Ids}
use Rattle.kernel_model.specs.KernelState.{KernelState}
use Rattle.apply_plan.specs.declared.entry.Entry.{Entry}
use Rattle.apply_plan.specs.Rings.{in_ring}
use Rattle.apply_plan.specs.NextTables.{leads_place, ring_at}

-- each mark tells whether one stands in a ring
pub record TellRings (nexts marks : List ℕ) : Type 0 where
  pub room : length marks ≡ length nexts
  pub tells : (p : ℕ) → p < length nexts → (slice_index marks p == 1) ≡ ring_at nexts p

-- each mark tells whether the entry there stands in a ring
pub record AreRings (k : KernelState) (reserved : Ids) (entries : List Entry) (marks : List ℕ) : Type 0 where
  pub room : length marks ≡ length entries
  pub tells : (i : ℕ) (e : Entry) → i < length entries → e ≡ get_or entries i e → (slice_index marks i == 1) ≡ in_ring k reserved entries e

-- one mark was written, and no other
pub record IsPut (old new : List ℕ) (place mark : ℕ) : Type 0 where
  pub room : length new ≡ length old
  pub here : slice_index new place ≡ mark
  pub others : (q : ℕ) → (q == place) ≡ false → slice_index new q ≡ slice_index old q

-- who had a mark has one
abbrev pub AreKept : List ℕ → List ℕ → Type 0
AreKept old new = (p : ℕ) → (slice_index old p == 0) ≡ false → (slice_index new p == 0) ≡ false

-- whom one of a ring waits for is marked so too
abbrev pub IsClosed : List ℕ → List ℕ → Type 0
IsClosed nexts marks = (p : ℕ) → (slice_index marks p == 1) ≡ true → (slice_index marks (slice_index nexts p) == 1) ≡ true

-- of those that have a mark it tells whether they stand in a ring
pub record AreMarked (nexts marks : List ℕ) : Type 0 where
  pub room : length marks ≡ length nexts
  pub closed : IsClosed nexts marks
  pub tells : (p : ℕ) → p < length nexts → (slice_index marks p == 0) ≡ false → (slice_index marks p == 1) ≡ ring_at nexts p

-- the same, but for those of the walk with this number: if one of them stands in a ring, so does the one where the walk is now, and
-- that one leads to it
pub record IsFollowed (nexts marks : List ℕ) (number at : ℕ) : Type 0 where
  pub room : length marks ≡ length nexts
  pub closed : IsClosed nexts marks
  pub tells : (p : ℕ) → p < length nexts → (slice_index marks p == 0) ≡ false → (slice_index marks p == number) ≡ false
      → (slice_index marks p == 1) ≡ ring_at nexts p
  pub leads : (p : ℕ) → p < length nexts → (slice_index marks p == number) ≡ true → ring_at nexts p ≡ true
      → (ring_at nexts at ≡ true) × (leads_place nexts p (length nexts) at ≡ true)

-- those of one ring were marked so, and nobody else was marked anew
pub record IsRingMarked (nexts old new : List ℕ) (place : ℕ) : Type 0 where
  pub room : length new ≡ length nexts
  pub closed : IsClosed nexts new
  pub here : (slice_index new place == 1) ≡ true
  pub others : (q : ℕ) → (slice_index new q == 1) ≡ false → slice_index new q ≡ slice_index old q
  pub rings : (q : ℕ) → (slice_index new q == 1) ≡ true → (slice_index old q == 1) ≡ false → ring_at nexts q ≡ true
