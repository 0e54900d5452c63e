-- Each row is evaluated: sets that are written out are computed from their lists.
use Rattle.std.proofs.Common.{◌≡◌, ℕ, ◌&&◌, not, List, filter, refl, sym, ◌∙◌}
use Rattle.std.specs.FinSet as set
use Rattle.cpu_set.specs.Ids.{Ids}
use Rattle.cpu_set.specs.ListedSetLemmas.{is_in, contains-listed, is_in-filter, intersection-listed, union-listed, is_subset-listed, len-listed}
use Rattle.cpu_set.specs.PointwiseLaws.{same_members, contains-difference}
use Rattle.apply_plan.specs.SetMemberLaws.{union_none, none_union}
use Rattle.apply_plan.proofs.laws.worked_directly.Goals as goal

abbrev listed : List ℕ → Ids
listed ks = set.from_list ks

difference-listed : (ks js : List ℕ) → set.difference (listed ks) (listed js) ≡ listed (filter (λ q. not (is_in js q)) ks)
difference-listed ks js = same_members _ _ (λ q.
    contains-difference (listed ks) (listed js) q ∙ (λ i. contains-listed ks i q && not (contains-listed js i q))
    ∙ sym (is_in-filter (λ q. not (is_in js q)) ks q) ∙ (λ i. sym (contains-listed (filter (λ q. not (is_in js q)) ks)) i q))

pub returns-clause-in_ring : goal.returns-clause-in_ring
returns-clause-in_ring c = simp (union_none, none_union, intersection-listed, union-listed, difference-listed, is_subset-listed, len-listed) refl

pub returns-clause-asked : goal.returns-clause-asked
returns-clause-asked c = simp (union_none, none_union, intersection-listed, union-listed, difference-listed, is_subset-listed, len-listed) refl

pub returns-clause-places : goal.returns-clause-places
returns-clause-places c = simp (union_none, none_union, intersection-listed, union-listed, difference-listed, is_subset-listed, len-listed) refl

pub returns-clause-way : goal.returns-clause-way
returns-clause-way c = simp (union_none, none_union, intersection-listed, union-listed, difference-listed, is_subset-listed, len-listed) refl

pub returns-clause-steps_aside : goal.returns-clause-steps_aside
returns-clause-steps_aside c = simp (union_none, none_union, intersection-listed, union-listed, difference-listed, is_subset-listed, len-listed) refl

pub returns-clause-second_takes : goal.returns-clause-second_takes
returns-clause-second_takes c = simp (union_none, none_union, intersection-listed, union-listed, difference-listed, is_subset-listed, len-listed) refl

pub returns-clause-first_takes : goal.returns-clause-first_takes
returns-clause-first_takes c = simp (union_none, none_union, intersection-listed, union-listed, difference-listed, is_subset-listed, len-listed) refl

pub returns-clause-done : goal.returns-clause-done
returns-clause-done c = simp (union_none, none_union, intersection-listed, union-listed, difference-listed, is_subset-listed, len-listed) refl

pub returns-clause-squeezed : goal.returns-clause-squeezed
returns-clause-squeezed c = simp (union_none, none_union, intersection-listed, union-listed, difference-listed, is_subset-listed, len-listed) refl

pub returns-clause-half_a_core : goal.returns-clause-half_a_core
returns-clause-half_a_core c = simp (union_none, none_union, intersection-listed, union-listed, difference-listed, is_subset-listed, len-listed) refl

pub returns-clause-full : goal.returns-clause-full
returns-clause-full c = simp (union_none, none_union, intersection-listed, union-listed, difference-listed, is_subset-listed, len-listed) refl

pub returns-clause-keeps_one : goal.returns-clause-keeps_one
returns-clause-keeps_one c = simp (union_none, none_union, intersection-listed, union-listed, difference-listed, is_subset-listed, len-listed) refl

pub returns-clause-shared_first : goal.returns-clause-shared_first
returns-clause-shared_first c = simp (union_none, none_union, intersection-listed, union-listed, difference-listed, is_subset-listed, len-listed) refl

pub returns-clause-ended : goal.returns-clause-ended
returns-clause-ended c = simp (union_none, none_union, intersection-listed, union-listed, difference-listed, is_subset-listed, len-listed) refl

pub returns-clause-rival : goal.returns-clause-rival
returns-clause-rival c = refl

pub returns-clause-not_free : goal.returns-clause-not_free
returns-clause-not_free c = simp (union_none, none_union, intersection-listed, union-listed, difference-listed, is_subset-listed, len-listed) refl

pub returns-clause-asks : goal.returns-clause-asks
returns-clause-asks c = simp (union_none, none_union, intersection-listed, union-listed, difference-listed, is_subset-listed, len-listed) refl

pub returns-clause-blocks : goal.returns-clause-blocks
returns-clause-blocks c = simp (union_none, none_union, intersection-listed, union-listed, difference-listed, is_subset-listed, len-listed) refl
