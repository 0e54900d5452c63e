-- What has been read of a certificate, and what a line adds to it.
use Rattle.std.specs.Prelude.{◌≡◌, ℕ, zero, suc, ◌+◌, Bool, true, false, not, ◌&&◌, ◌==◌, if◌then◌else◌, List, [], ◌∷◌, ◌++◌, length, drop, slice_get, Option, Some, None, refl}
use Rattle.std.specs.Coded.{Coded, code_by, coded×, coded_list, coded_ℕ}
use Rattle.std.specs.List.{list_any}
use Rattle.std.specs.Str.{bytes_eq}
use Rattle.cpu_set.specs.Ids.{Ids}
use Rattle.certificate.specs.RowView.{RowView, rows_code}
use Rattle.certificate.specs.PricesView.{price_list_code}
use Rattle.certificate.specs.SetsCode.{sets_code}
use Rattle.certificate.specs.WeightsCode.{weights_code}
use Rattle.certificate.specs.declared.price_lists.Price.{Price}
use Rattle.certificate.specs.declared.weights.Weights.{Weights}
use Rattle.certificate.specs.declared.weights.Weights.TheVariants.{Plain, WithMoves}
use Rattle.certificate_text.specs.declared.stage.Stage.{Stage}
use Rattle.certificate_text.specs.declared.stage.Stage.TheVariants.{Start, Body, Totalled, Planned, Named, Shown}
use Rattle.certificate_text.specs.Line.{LineView, HeaderLine, RowLine, HoldLine, PriceLine, TotalLine, ShortLine, EndLine}

-- how far the text has been read, and what it said; the total counts once it has been read, and what weights count once the
-- first line has
pub record DraftView : Type 0 where
  pub stage : Stage
  pub rows : List RowView
  pub sets : List Ids
  pub values : List ℕ
  pub prices : List Price
  -- the members of a shortage, and the first row after them
  pub members : List ℕ
  pub from : ℕ
  pub total : ℕ
  pub weights : Weights

-- a stage is stored as its place
abbrev pub stage_place : Stage → ℕ
stage_place Start = 0
stage_place Body = 1
stage_place Totalled = 2
stage_place Planned = 3
stage_place Named = 4
stage_place Shown = 5

abbrev pub stage_at : ℕ → Stage
stage_at zero = Start
stage_at (suc zero) = Body
stage_at (suc (suc zero)) = Totalled
stage_at (suc (suc (suc zero))) = Planned
stage_at (suc (suc (suc (suc zero)))) = Named
stage_at (suc (suc (suc (suc (suc n))))) = Shown

pub stage_at-place : (s : Stage) → stage_at (stage_place s) ≡ s
stage_at-place Start = refl
stage_at-place Body = refl
stage_at-place Totalled = refl
stage_at-place Planned = refl
stage_at-place Named = refl
stage_at-place Shown = refl

abbrev pub stage_code : Coded Stage
stage_code = code_by ℕ coded_ℕ stage_place stage_at stage_at-place

-- and a draft as the tuple of its fields
abbrev pub draft_code : Coded DraftView
draft_code =
    code_by
    (Stage × (List RowView × (List Ids × (List ℕ × (List Price × (List ℕ × (ℕ × (ℕ × Weights))))))))
    (coded× stage_code (coded× rows_code (coded× sets_code (coded× (coded_list coded_ℕ) (coded× price_list_code (coded× (coded_list coded_ℕ) (coded× coded_ℕ (coded× coded_ℕ weights_code))))))))
    (λ d. (d.stage, (d.rows, (d.sets, (d.values, (d.prices, (d.members, (d.from, (d.total, d.weights)))))))))
    (λ p. record { stage = p.0; rows = p.1.0; sets = p.1.1.0; values = p.1.1.1.0; prices = p.1.1.1.1.0; members = p.1.1.1.1.1.0; from = p.1.1.1.1.1.1.0; total = p.1.1.1.1.1.1.1.0; weights = p.1.1.1.1.1.1.1.1 })
    (λ _. refl)

-- a row of this id is there
abbrev pub has_id : List ℕ → List RowView → Bool
has_id id rows = list_any (λ r. bytes_eq id r.id) rows

-- the id is this row's
abbrev pub is_id_of : List ℕ → Option RowView → Bool
is_id_of id None = false
is_id_of id (Some row) = bytes_eq id row.id

-- no set and no price has been read
abbrev pub has_no_plan : DraftView → Bool
has_no_plan d = (length d.sets == 0) && (length d.prices == 0)

-- a row of this id can follow
abbrev pub takes_row_at : Stage → List ℕ → DraftView → Bool
takes_row_at Body id d = has_no_plan d && not (has_id id d.rows)
takes_row_at _ id d = false

abbrev pub takes_row : List ℕ → DraftView → Bool
takes_row id d = takes_row_at d.stage id d

-- each row has its set and value
abbrev pub is_held : DraftView → Bool
is_held d = length d.sets == length d.rows

-- the number of the first of some rows that has this id, where the first of them has the number n
abbrev pub number_in : List ℕ → ℕ → List RowView → Option ℕ
number_in id n [] = None
number_in id n (row ∷ rows) = if bytes_eq id row.id then Some n else number_in id (n + 1) rows

-- the number of the row with this id, among those after the members
unfoldable pub number_of : List ℕ → DraftView → Option ℕ
number_of id d = number_in id d.from (drop d.from d.rows)

-- a member can follow
abbrev pub takes_members_at : Stage → DraftView → Bool
takes_members_at Body d = has_no_plan d
takes_members_at Named d = true
takes_members_at _ d = false

abbrev pub takes_members : DraftView → Bool
takes_members d = takes_members_at d.stage d

-- the draft with the row of this number as a member
abbrev pub with_member : DraftView → Option ℕ → Option DraftView
with_member d None = None
with_member d (Some k) = Some (record d { stage = Named; members = d.members ++ k ∷ []; from = k + 1 })

-- both count the same
abbrev pub are_same : Weights → Weights → Bool
are_same Plain Plain = true
are_same WithMoves WithMoves = true
are_same _ _ = false

-- the draft with a line of its body
abbrev pub next_in_body : DraftView → LineView → Option DraftView
next_in_body d (RowLine row) =
    if has_no_plan d && not (has_id row.id d.rows) then Some (record d { rows = d.rows ++ row ∷ [] }) else None
next_in_body d (HoldLine id cpus value) =
    if is_id_of id (slice_get d.rows (length d.sets)) then Some (record d { sets = d.sets ++ cpus ∷ []; values = d.values ++ value ∷ [] }) else None
next_in_body d (PriceLine price) = if is_held d then Some (record d { prices = d.prices ++ price ∷ [] }) else None
next_in_body d (TotalLine weights total) = if is_held d && are_same weights d.weights then Some (record d { stage = Totalled; total = total }) else None
next_in_body d (ShortLine id) = if has_no_plan d then with_member d (number_of id d) else None
next_in_body d (HeaderLine weights) = None
next_in_body d EndLine = None

-- the same, by how far the text has been read
abbrev pub next_at : Stage → DraftView → LineView → Option DraftView
next_at Start d (HeaderLine weights) = Some (record d { stage = Body; weights = weights })
next_at Body d l = next_in_body d l
next_at Totalled d EndLine = Some (record d { stage = Planned })
next_at Named d (ShortLine id) = with_member d (number_of id d)
next_at Named d EndLine = Some (record d { stage = Shown })
next_at Start d l = None
next_at Totalled d l = None
next_at Planned d l = None
next_at Named d l = None
next_at Shown d l = None

-- the draft with one more line, where that line can follow
abbrev pub next : DraftView → LineView → Option DraftView
next d l = next_at d.stage d l

-- nothing has been read
abbrev pub empty_draft : DraftView
empty_draft = record { stage = Start; rows = []; sets = []; values = []; prices = []; members = []; from = 0; total = 0; weights = Plain }
