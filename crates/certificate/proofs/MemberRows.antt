-- The rows that members name, one after another.
use Rattle.std.proofs.Common.{◌≡◌, ℕ, ◌+◌, ◌<◌, ◌≤◌, ◌||◌, Bool, true, false, is_some, List, [], ◌∷◌, ◌++◌, filter, length, take, get_or, slice_get, refl, sym, ap, arith}
use Rattle.std.specs.List.{list_all}
use Rattle.std.specs.FinSet as set
use Rattle.std.proofs.lemmas.Option.{slice_get_read}
use Rattle.std.proofs.lemmas.List.{take_more}
use Rattle.std.proofs.lemmas.List.Elements.{filter_map-append}
use Rattle.std.proofs.lemmas.List.Folds.{list_any-append}
use Rattle.std.proofs.lemmas.List.Sums.{sum_by-append}
use Rattle.cpu_set.specs.Ids.{Ids}
use Rattle.cpu_set.specs.Members.{cpus}
use Rattle.cpu_set.specs.PointwiseLaws.{contains-union}
use Rattle.certificate.specs.RowView.{RowView}
use Rattle.certificate.specs.Weight.{weight}
use Rattle.certificate.specs.IsShortage.{chosen, asked, is_offered, offered}
use Rattle.certificate.specs.Limits.{row_fits}
use Rattle.certificate.specs.declared.limits.TheConstants.{MAX_DEMAND}
use Rattle.certificate.proofs.CostSums.{demand_small}
use Rattle.certificate.specs.OfferLaws.{passes_at}

module _ (rows : List RowView) (members : List ℕ) (i : ℕ) (row : RowView) where
  -- the row is that of the member at this place
  abbrev pub IsRowAt : Type 0
  IsRowAt = (i < length members) × (get_or members i 0 < length rows) × (row ≡ get_or rows (get_or members i 0) row)

  -- one member more
  pub chosen_more : IsRowAt → chosen rows (take (i + 1) members) ≡ chosen rows (take i members) ++ row ∷ []
  chosen_more at =
      rw (
        take_more members i 0 at.0,
        filter_map-append (slice_get rows) (take i members) (get_or members i 0 ∷ []),
        slice_get_read rows (length rows) (get_or members i 0) row refl at.1 at.2,
      )
      refl

  pub asked_more : IsRowAt → asked (chosen rows (take (i + 1) members)) ≡ asked (chosen rows (take i members)) + row.demand
  asked_more at =
      rw (chosen_more at) (omega (arith, sum_by-append (λ (r : RowView). r.demand) (chosen rows (take i members)) (row ∷ [])))

  or_last : (a b : Bool) → (a || (b || false)) ≡ (a || b)
  or_last true b = refl
  or_last false true = refl
  or_last false false = refl

  pub offered_more :
      (seen more : Ids) → IsRowAt → ((c : ℕ) → set.contains seen c ≡ is_offered (chosen rows (take i members)) c)
      → ((c : ℕ) → set.contains more c ≡ is_some (weight row c))
      → (c : ℕ) → set.contains (set.union seen more) c ≡ is_offered (chosen rows (take (i + 1) members)) c
  offered_more seen more at same its c =
      rw (contains-union seen more c, same c, its c, chosen_more at, list_any-append (λ (r : RowView). is_some (weight r c)) (chosen rows (take i members)) (row ∷ []))
      (sym (or_last (is_offered (chosen rows (take i members)) c) (is_some (weight row c))))

  pub row_small : IsRowAt → list_all row_fits rows ≡ true → row.demand ≤ MAX_DEMAND
  row_small at fit = demand_small row (passes_at row_fits rows (get_or members i 0) row fit at.1 at.2)

-- how many are offered, by a set that has them
pub offered_count : (rows : List RowView) (s : Ids) → ((c : ℕ) → set.contains s c ≡ is_offered rows c) → filter (set.contains s) cpus ≡ offered rows
offered_count rows s same = ap (λ test. filter test cpus) (λ i c. same c i)
