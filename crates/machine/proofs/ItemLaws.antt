-- The items of an array, as the JSON value has them and as the code goes over them.
use Rattle.std.proofs.Common.{◌≡◌, ℕ, ◌<◌, ◌≤◌, inl, inr, true, arith, List, [], ◌∷◌, map, length, get_or, refl, sym, ap, ◌∙◌}
use Rattle.std.proofs.lemmas.List.{get_or-map, length-map}
use Rattle.std.proofs.lemmas.List.Folds.{list_all-map, list_all_at}
use Rattle.std.proofs.lemmas.Bool.{cases_Bool, false≢true}
use Rattle.std.specs.List.{list_all}
use Rattle.serde_json.specs.Data.{Data, null}
use Rattle.serde_json.specs.View.{view, items_view}
use Rattle.serde_json.specs.declared.value.Value.{Value}
use Rattle.machine.specs.declared.field.Field.{Field}
use Rattle.machine.specs.KindFaults.{AreLists}
use Rattle.machine.specs.Listed.{is_list}
use Rattle.machine.specs.Members.{item_list}

pub item_list-items_view : (vs : List Value) → item_list (items_view vs) ≡ map view vs
item_list-items_view [] = refl
item_list-items_view (v ∷ vs) = ap (λ ds. view v ∷ ds) (item_list-items_view vs)

-- as many as the code goes over
pub ruleset item_counts = (length-map)

pub ruleset item_lists = (item_list-items_view)

-- a test of the values is that of the items
pub ruleset item_tests = (list_all-map)

-- the value of an item is that item's value
pub item_view : (vs : List Value) (i : ℕ) (v : Value) → i < length vs → v ≡ get_or vs i v → view v ≡ get_or (map view vs) i null
item_view vs i v lt is = ap view is ∙ sym (get_or-map view vs i v null lt)

-- a place among the items, and the end of them, are those of their values
pub item_within : (vs : List Value) (i : ℕ) → i < length vs → i < length (map view vs)
item_within vs i lt = simp length-map lt

pub item_last : (vs : List Value) (i : ℕ) → length vs ≤ i → i ≤ length vs → i ≡ length (map view vs)
item_last vs i past within = simp length-map (omega arith)

-- where each item is a list, each value is
pub all_lists : (field : Field) (ds : List Data) → list_all is_list ds ≡ true → AreLists field ds
all_lists field ds all i lt =
    elim (cases_Bool (is_list (get_or ds i null))) [
      | inl yes_ ↦ rw yes_ refl
      | inr no_ ↦ absurd (false≢true (sym (list_all_at is_list ds i null lt no_) ∙ all))
    ]

pub all_listed_items : (field : Field) (vs : List Value) → list_all (λ v. is_list (view v)) vs ≡ true → AreLists field (map view vs)
all_listed_items field vs all = all_lists field (map view vs) (list_all-map is_list view vs ∙ all)
