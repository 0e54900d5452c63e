-- Each row is evaluated: what is kept of sets that are written out, and whether two are the same, is computed from their lists.
use Rattle.std.proofs.Common.{◌≡◌, ℕ, ◌==◌, ◌&&◌, if◌then◌else◌, List, [], ◌∷◌, ◌++◌, filter, refl}
use Rattle.std.specs.List.{list_all}
use Rattle.std.specs.FinSet as set
use Rattle.cpu_set.specs.Ids.{is_same}
use Rattle.cpu_set.specs.ListedSetLemmas.{is_in, count_once, intersection-listed, union-listed, is_subset-listed, len-listed}
use Rattle.apply_plan.specs.Kept.{kept}
use Rattle.apply_plan.proofs.laws.worked.Goals as goal

kept-listed : (reserved target held : List ℕ) → kept (set.from_list reserved) (set.from_list target) (set.from_list held)
    ≡ (if count_once (filter (is_in (target ++ reserved)) held) == 0 then set.from_list reserved else set.from_list (filter (is_in (target ++ reserved)) held))
kept-listed reserved target held =
    rw (union-listed target reserved, intersection-listed held (target ++ reserved)) (rw (len-listed (filter (is_in (target ++ reserved)) held)) refl)

same-listed : (one other : List ℕ) → is_same (set.from_list one) (set.from_list other) ≡ (list_all (is_in other) one && list_all (is_in one) other)
same-listed one other = rw (is_subset-listed one other, is_subset-listed other one) refl

pub returns-clause-keeps_part : goal.returns-clause-keeps_part
returns-clause-keeps_part c = simp (kept-listed (0 ∷ []) (1 ∷ 2 ∷ []) (2 ∷ 3 ∷ []), kept-listed (0 ∷ []) (3 ∷ []) (1 ∷ []), same-listed (2 ∷ []) (2 ∷ 3 ∷ []), same-listed (2 ∷ 3 ∷ []) (1 ∷ 2 ∷ []), same-listed (0 ∷ []) (1 ∷ []), same-listed (1 ∷ []) (3 ∷ [])) refl

pub returns-clause-keeps_none : goal.returns-clause-keeps_none
returns-clause-keeps_none c = simp (kept-listed (0 ∷ []) (1 ∷ 2 ∷ []) (3 ∷ []), kept-listed (0 ∷ []) (3 ∷ []) (1 ∷ []), same-listed (0 ∷ []) (3 ∷ []), same-listed (3 ∷ []) (1 ∷ 2 ∷ []), same-listed (0 ∷ []) (1 ∷ []), same-listed (1 ∷ []) (3 ∷ [])) refl

pub returns-clause-each_gives_back : goal.returns-clause-each_gives_back
returns-clause-each_gives_back c = simp (kept-listed (0 ∷ []) (1 ∷ 2 ∷ []) (2 ∷ []), kept-listed (0 ∷ []) (3 ∷ []) (1 ∷ []), same-listed (2 ∷ []) (2 ∷ []), same-listed (2 ∷ []) (1 ∷ 2 ∷ []), same-listed (0 ∷ []) (1 ∷ []), same-listed (1 ∷ []) (3 ∷ [])) refl

pub returns-clause-first_takes : goal.returns-clause-first_takes
returns-clause-first_takes c = simp (kept-listed (0 ∷ []) (1 ∷ 2 ∷ []) (2 ∷ []), kept-listed (0 ∷ []) (3 ∷ []) (0 ∷ []), same-listed (2 ∷ []) (2 ∷ []), same-listed (2 ∷ []) (1 ∷ 2 ∷ []), same-listed (0 ∷ []) (0 ∷ []), same-listed (0 ∷ []) (3 ∷ [])) refl

pub returns-clause-second_takes : goal.returns-clause-second_takes
returns-clause-second_takes c = simp (kept-listed (0 ∷ []) (1 ∷ 2 ∷ []) (1 ∷ 2 ∷ []), kept-listed (0 ∷ []) (3 ∷ []) (0 ∷ []), same-listed (1 ∷ 2 ∷ []) (1 ∷ 2 ∷ []), same-listed (0 ∷ []) (0 ∷ []), same-listed (0 ∷ []) (3 ∷ [])) refl

pub returns-clause-done : goal.returns-clause-done
returns-clause-done c = simp (kept-listed (0 ∷ []) (1 ∷ 2 ∷ []) (1 ∷ 2 ∷ []), kept-listed (0 ∷ []) (3 ∷ []) (3 ∷ []), same-listed (1 ∷ 2 ∷ []) (1 ∷ 2 ∷ []), same-listed (3 ∷ []) (3 ∷ [])) refl

pub returns-clause-ended : goal.returns-clause-ended
returns-clause-ended c = simp (kept-listed (0 ∷ []) (3 ∷ []) (1 ∷ []), same-listed (0 ∷ []) (1 ∷ []), same-listed (1 ∷ []) (3 ∷ [])) refl
