-- Who waits for whom, as a table of places tells it.
use Rattle.std.specs.Prelude.{◌≡◌, ℕ, zero, suc, ◌<◌, Bool, false, ◌&&◌, ◌||◌, ◌==◌, nat_lt, List, length, get_or, slice_get, slice_index}
use Rattle.cpu_set.specs.Ids.{Ids}
use Rattle.kernel_model.specs.KernelState.{KernelState}
use Rattle.apply_plan.specs.declared.entry.Entry.{Entry}
use Rattle.apply_plan.specs.Rings.{next}

-- for each entry the place of the one that it waits for, or one past the end where it waits for none
pub record AreNexts (k : KernelState) (reserved : Ids) (entries : List Entry) (nexts : List ℕ) : Type 0 where
  pub room : length nexts ≡ length entries
  pub tells : (i : ℕ) (e : Entry) → i < length entries → e ≡ get_or entries i e → next k reserved entries e ≡ slice_get entries (slice_index nexts i)

-- from this place on, each waits for the next, and within so many of them one is at the place that is looked for
abbrev pub leads_place : List ℕ → ℕ → ℕ → ℕ → Bool
leads_place nexts place zero at = false
leads_place nexts place (suc n) at = nat_lt at (length nexts) && ((at == place) || leads_place nexts place n (slice_index nexts at))

-- who is at this place stands in a ring
abbrev pub ring_at : List ℕ → ℕ → Bool
ring_at nexts place = leads_place nexts place (length nexts) (slice_index nexts place)

-- somebody at the first places stands in a ring
abbrev pub any_ring : List ℕ → ℕ → Bool
any_ring nexts zero = false
any_ring nexts (suc n) = ring_at nexts n || any_ring nexts n
