-- What is granted of a set that is written out is computed from its list.
use Rattle.std.proofs.Common.{◌≡◌, ℕ, ◌==◌, if◌then◌else◌, List, [], ◌∷◌, filter, refl, ap, ◌∙◌}
use Rattle.std.specs.FinSet as set
use Rattle.cpu_set.specs.ListedSetLemmas.{is_in, count_once, intersection-listed, len-listed}
use Rattle.cpuset_tree.specs.Effective.{granted}
use Rattle.cpuset_tree.proofs.laws.worked.Goals as goal

granted-listed : (requested above : List ℕ) → granted (set.from_list requested) (set.from_list above)
    ≡ (if count_once (filter (is_in above) requested) == 0 then set.from_list above else set.from_list (filter (is_in above) requested))
granted-listed requested above = rw (intersection-listed requested above) (rw (len-listed (filter (is_in above) requested)) refl)

-- the group of all containers requests nothing, so it has all that is online
below_all : (requested above : List ℕ) → granted (set.from_list requested) (granted (set.from_list []) (set.from_list above))
    ≡ (if count_once (filter (is_in above) requested) == 0 then set.from_list above else set.from_list (filter (is_in above) requested))
below_all requested above = ap (granted (set.from_list requested)) (granted-listed [] above) ∙ granted-listed requested above

pub returns-clause-online_part : goal.returns-clause-online_part
returns-clause-online_part c = below_all (2 ∷ 3 ∷ 6 ∷ []) (0 ∷ 1 ∷ 2 ∷ 3 ∷ [])

pub returns-clause-none_online : goal.returns-clause-none_online
returns-clause-none_online c = below_all (6 ∷ []) (0 ∷ 1 ∷ 2 ∷ 3 ∷ [])

pub returns-clause-goes_offline : goal.returns-clause-goes_offline
returns-clause-goes_offline c = below_all (2 ∷ 3 ∷ 6 ∷ []) (0 ∷ 3 ∷ [])

pub returns-clause-nodes : goal.returns-clause-nodes
returns-clause-nodes c = below_all [] (0 ∷ 1 ∷ [])
