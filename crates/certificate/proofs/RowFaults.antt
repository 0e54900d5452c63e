-- The faults of rows and their sets, place by place.
use Rattle.std.proofs.Common.{◌≡◌, ℕ, ◌<◌, not, ◌&&◌, Option, option_map, is_some, List, length, take, get_or, refl, ap, ◌∙◌, slice_index_or}
use Rattle.std.specs.FinSet as set
use Rattle.std.proofs.lemmas.Option.{slice_get_read}
use Rattle.std.proofs.lemmas.List.{get_or_default}
use Rattle.cpu_set.specs.Ids.{Ids}
use Rattle.cpu_set.specs.Least.{least_that}
use Rattle.cpu_set.specs.LeastLaws.{IsFirstOf, least-first}
use Rattle.cpu_set.specs.PointwiseLaws.{contains-intersection, contains-difference}
use Rattle.certificate.specs.RowView.{RowView}
use Rattle.certificate.specs.Weight.{weight}
use Rattle.certificate.specs.PlanFault.{is_not_allowed, at_both, is_held, twice_fault}
use Rattle.certificate.specs.declared.fault.CheckFault.{CheckFault}
use Rattle.certificate.specs.declared.fault.CheckFault.TheVariants.{HeldTwice}

-- what is said of the two elements at a place
pub at_both_read :
    {A B : Type 0} (f : A → B → Option CheckFault) (xs : List A) (ys : List B) (k : ℕ) (x : A) (y : B)
    → k < length xs → k < length ys → x ≡ get_or xs k x → y ≡ get_or ys k y → at_both f xs ys k ≡ f x y
at_both_read f xs ys k x y in_xs in_ys x_is y_is =
    rw (slice_get_read xs (length xs) k x refl in_xs x_is, slice_get_read ys (length ys) k y refl in_ys y_is) refl

-- the least CPU of a set that is not allowed, by what is left without the allowed ones
pub not_allowed_is :
    (row : RowView) (s allowed : Ids) (first : Option ℕ)
    → ((c : ℕ) → set.contains allowed c ≡ is_some (weight row c))
    → IsFirstOf (set.difference s allowed) first → least_that (is_not_allowed row s) ≡ first
not_allowed_is row s allowed first same is =
    least-first (set.difference s allowed) (is_not_allowed row s) first
    (λ c is_cpu. contains-difference s allowed c ∙ ap (λ b. set.contains s c && not b) (same c)) is

-- the least CPU of a set that an earlier one has, by what meets the earlier ones
pub twice_is :
    (sets : List Ids) (k : ℕ) (own held : Ids) (first : Option ℕ) → k < length sets → own ≡ get_or sets k own
    → ((c : ℕ) → set.contains held c ≡ is_held (take k sets) c)
    → IsFirstOf (set.intersection own held) first → twice_fault sets k ≡ option_map HeldTwice first
twice_is sets k own held first lt is same is_first =
    ap (option_map HeldTwice) (least-first (set.intersection own held) _ first (λ c is_cpu. each c) is_first)
  where
    own_is : own ≡ slice_index_or sets k set.empty
    own_is = is ∙ get_or_default sets k own set.empty lt

    each : (c : ℕ) → set.contains (set.intersection own held) c ≡ (set.contains (slice_index_or sets k set.empty) c && is_held (take k sets) c)
    each c =
        contains-intersection own held c ∙ ap (λ b. set.contains own c && b) (same c)
        ∙ ap (λ s. set.contains s c && is_held (take k sets) c) own_is
