-- Which sets are within which.
use Rattle.std.proofs.Common.{◌≡◌, Bool, true, false, ◌↔◌, not, refl, sym, ap, ◌∙◌}
use Rattle.std.proofs.lemmas.Bool.{true≢false, false≢true, false_from_ne_true, and_parts}
use Rattle.std.specs.FinSet as set
use Rattle.faults.specs.TestLaws.{left_over}
use Rattle.cpu_set.specs.Ids.{Ids, is_empty}
use Rattle.cpu_set.specs.PointwiseLaws.{contains-difference, is_subset-contains, contains-is_subset}
use Rattle.cpu_set.specs.SetLaws.{is_empty-some, is_empty-empty}

-- what is within a set is within each set round that
pub is_subset-trans : (r s t : Ids) → set.is_subset r s ≡ true → set.is_subset s t ≡ true → set.is_subset r t ≡ true
is_subset-trans r s t inner outer =
    contains-is_subset r t (λ q member. is_subset-contains s t outer q (is_subset-contains r s inner q member))

-- what is left of a set is within it
pub is_subset-difference : (s t : Ids) → set.is_subset (set.difference s t) s ≡ true
is_subset-difference s t =
    contains-is_subset (set.difference s t) s (λ q left. (and_parts _ _ (sym (contains-difference s t q) ∙ left)).0)

-- what is taken away from a set without r leaves r
pub is_subset-left :
    (r s t : Ids) → set.is_subset r s ≡ true → set.is_subset t (set.difference s r) ≡ true
    → set.is_subset r (set.difference s t) ≡ true
is_subset-left r s t within taken =
    contains-is_subset r (set.difference s t) (λ q in_r. contains-difference s t q
    ∙ left_over _ _ (is_subset-contains r s within q in_r) (false_from_ne_true _ (λ in_t.
    let outside = and_parts _ _ (sym (contains-difference s r q) ∙ is_subset-contains t (set.difference s r) taken q in_t) in
    true≢false (sym outside.1 ∙ ap not in_r))))

-- a test that says whether a set is empty is the one of the definitions
pub is_empty-as : (s : Ids) (e : Bool) → ((e ≡ true) ↔ (s ≡ set.empty)) → is_empty s ≡ e
is_empty-as s true says = is_empty-empty s (says.0 refl)
is_empty-as s false says = is_empty-some s (λ none. false≢true (says.1 none))
