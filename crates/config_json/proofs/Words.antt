-- The items of an array, as the JSON value has them and as the code goes over them.
use Rattle.std.proofs.Common.{◌≡◌, ◌&&◌, ◌==◌, ℕ, suc, true, not, List, [], ◌∷◌, is_some, length, refl, ap, arith}
use Rattle.std.proofs.lemmas.Bool.Decides.{nat_tests}
use Rattle.std.specs.List.{list_all}
use Rattle.serde_json.specs.declared.value.Value.{Value}
use Rattle.serde_json.specs.Find.{as_str}
use Rattle.serde_json.specs.View.{view, items_view}
use Rattle.config_json.specs.IsRunnable.{all_texts, are_words}

-- each value is a text exactly where the chain over them says so
all_texts-items_view : (vs : List Value) → all_texts (items_view vs) ≡ list_all (λ v. is_some (as_str (view v))) vs
all_texts-items_view [] = refl
all_texts-items_view (v ∷ vs) = ap (λ rest. is_some (as_str (view v)) && rest) (all_texts-items_view vs)

-- a list with a first item is not empty
is_some_list : (n : ℕ) → not (suc n == 0) ≡ true
is_some_list n = grind (arith, nat_tests)

-- likewise that there is one
pub are_words-items_view :
    (vs : List Value) → are_words (items_view vs) ≡ (not (length vs == 0) && list_all (λ v. is_some (as_str (view v))) vs)
are_words-items_view [] = refl
are_words-items_view (v ∷ vs) = rw (is_some_list (length vs)) (all_texts-items_view (v ∷ vs))

pub ruleset word_tests = (are_words-items_view)
