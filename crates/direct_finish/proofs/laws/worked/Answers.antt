-- Each row is evaluated: sets that are written out are computed from their lists.
use Rattle.std.proofs.Common.{◌≡◌, ℕ, ◌&&◌, not, Bool, List, [], ◌∷◌, filter, refl, sym, ◌∙◌, inl}
use Rattle.std.specs.FinSet as set
use Rattle.cpu_set.specs.Ids.{Ids}
use Rattle.cpu_set.specs.ListedSetLemmas.{is_in, contains-listed, is_in-filter, intersection-listed, union-listed, is_subset-listed, len-listed}
use Rattle.cpu_set.specs.PointwiseLaws.{same_members, contains-difference}
use Rattle.cpuset_tree.specs.Groups.{same_group}
use Rattle.cpuset_tree.specs.Worked.{web, batch}
use Rattle.apply_plan.specs.declared.Entry.{Entry}
use Rattle.apply_plan.specs.SetMemberLaws.{union_none, none_union}
use Rattle.apply_plan.specs.DirectWorked.{first_of_two, second_of_two}
use Rattle.apply_plan.specs.Worked.{write}
use Rattle.direct_finish.proofs.laws.worked.Goals as goal

abbrev listed : List ℕ → Ids
listed ks = set.from_list ks

difference-listed : (ks js : List ℕ) → set.difference (listed ks) (listed js) ≡ listed (filter (λ q. not (is_in js q)) ks)
difference-listed ks js = same_members _ _ (λ q.
    contains-difference (listed ks) (listed js) q ∙ (λ i. contains-listed ks i q && not (contains-listed js i q))
    ∙ sym (is_in-filter (λ q. not (is_in js q)) ks q) ∙ (λ i. sym (contains-listed (filter (λ q. not (is_in js q)) ks)) i q))

abbrev is_web : Entry → Bool
is_web e = same_group e.group web

abbrev is_batch : Entry → Bool
is_batch e = same_group e.group batch

pub returns-clause-two_new : goal.returns-clause-two_new
returns-clause-two_new c = record {
  writes = write web (1 ∷ []) ∷ write batch (2 ∷ []) ∷ [];
  follow = (
    inl (record {
      test = is_web;
      e = first_of_two (1 ∷ []);
      found = refl;
      is = refl;
      may = simp (union_none, none_union, intersection-listed, union-listed, difference-listed, is_subset-listed, len-listed) refl;
    }),
    (
      inl (record {
        test = is_batch;
        e = second_of_two (2 ∷ []);
        found = refl;
        is = refl;
        may = simp (union_none, none_union, intersection-listed, union-listed, difference-listed, is_subset-listed, len-listed) refl;
      }),
      tt,
    ),
  );
  ends = (refl, simp (union_none, none_union, intersection-listed, union-listed, difference-listed, is_subset-listed, len-listed) refl);
}

pub returns-clause-none_free : goal.returns-clause-none_free
returns-clause-none_free c = simp (union_none, none_union, intersection-listed, union-listed, difference-listed, is_subset-listed, len-listed) refl

pub returns-clause-one_step : goal.returns-clause-one_step
returns-clause-one_step c = simp (union_none, none_union, intersection-listed, union-listed, difference-listed, is_subset-listed, len-listed) refl
