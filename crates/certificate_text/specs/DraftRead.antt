-- What the code's draft holds.
use Rattle.std.specs.Prelude.{◌≡◌, ℕ, ◌≤◌, Bool, List, length}
use Rattle.std.specs.Borrow.{Bor}
use Rattle.std.specs.BTreeSet.{BTreeSet, contains_by}
use Rattle.std.specs.Cmp.Lexicographic.{slice_cmp}
use Rattle.std.specs.Ordering.{nat_cmp}
use Rattle.certificate_text.specs.declared.draft.Draft.TheInside.{Inside}
use Rattle.certificate_text.specs.DraftView.{DraftView, has_id}
use Rattle.certificate_text.specs.Held.{sets_of, values_of}

-- its lists without where they lie in memory, and without the kept ids
abbrev pub draft_view : Inside → DraftView
draft_view d = record {
  stage = d.stage;
  rows = d.rows.items;
  sets = sets_of d.held;
  values = values_of d.held;
  prices = d.prices;
  members = d.members.items;
  from = d.from;
  total = d.total;
  weights = d.weights;
}

-- whether these slices of the text are those of an id
abbrev pub keeps_id : BTreeSet (Bor (List ℕ)) → List ℕ → Bool
keeps_id ids id = contains_by (λ k. slice_cmp nat_cmp id k.now) ids

-- the kept ids are those of the rows, and the members are rows
pub record IsKept (d : Inside) : Type 0 where
  pub ids : (id : List ℕ) → keeps_id d.ids id ≡ has_id id d.rows.items
  pub within : d.from ≤ length d.rows.items
