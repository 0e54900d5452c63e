-- What classes of twins weigh, and how twins are dealt by classes.
use Rattle.std.proofs.Common.{◌≡◌, ℕ, suc, ◌<◌, Bool, true, false, ◌||◌, Option, Some, None, MatchOption, List, [], ◌∷◌, length, get_or, slice_get, refl, sym, ap, ◌∙◌, inl, inr}
use Rattle.std.specs.Prelude.{option_and_then}
use Rattle.std.specs.FinSet as set
use Rattle.std.proofs.lemmas.Bool.{cases_lt, true≢false, false≢true}
use Rattle.std.proofs.lemmas.Option.{slice_get-get_or, slice_get_past}
use Rattle.cpu_set.specs.Ids.{Ids}
use Rattle.cpu_set.specs.Least.{least_that}
use Rattle.cpu_set.specs.LeastLaws.{NonePasses, IsLeastThat, least-passes}
use Rattle.certificate.specs.RowView.{RowView}
use Rattle.certificate.specs.Weight.{weight}
use Rattle.certificate.specs.IsDealt.{AreTwins, Holds}
use Rattle.certificate.specs.PlanFault.{is_held}
use Rattle.twins.specs.IsGrouping.{class_at}
use Rattle.twins.specs.ClassWeight.{weight_at, MembersWeighTheSame}
use Rattle.twins.specs.IsDeal.{DealOfTwinsIsDealt}
use Rattle.twins.proofs.Sets.{there}

-- twins have the same weight in each row
pub twins_weigh : (rows : List RowView) (a b k : ℕ) → AreTwins rows a b → weight_at rows k a ≡ weight_at rows k b
twins_weigh rows a b k twins =
    elim (cases_lt k (length rows)) [
      | inl lt ↦ by_row (slice_get rows k) refl lt
      | inr past ↦
          ap (option_and_then (λ (row : RowView). weight row a)) (slice_get_past rows k past)
          ∙ sym (ap (option_and_then (λ (row : RowView). weight row b)) (slice_get_past rows k past))
    ]
  where
    by_row : (found : Option RowView) → slice_get rows k ≡ found → k < length rows → weight_at rows k a ≡ weight_at rows k b
    by_row None e lt = ap (option_and_then (λ (row : RowView). weight row a)) e ∙ sym (ap (option_and_then (λ (row : RowView). weight row b)) e)
    by_row (Some row) e lt =
        let is : slice_get rows k ≡ Some (get_or rows k row) = slice_get-get_or rows k row lt in
        ap (option_and_then (λ (r : RowView). weight r a)) is ∙ twins k row lt ∙ sym (ap (option_and_then (λ (r : RowView). weight r b)) is)

-- the weight of a class is that of each of its CPUs
pub members_weigh : MembersWeighTheSame
members_weigh rows classes grouping k g cpu holds =
    by_first (least_that (set.contains (class_at classes g))) refl (least-passes (set.contains (class_at classes g)))
  where
    by_first :
        (first : Option ℕ) → least_that (set.contains (class_at classes g)) ≡ first
        → MatchOption first (NonePasses (set.contains (class_at classes g))) (IsLeastThat (set.contains (class_at classes g)))
        → option_and_then (weight_at rows k) first ≡ weight_at rows k cpu
    by_first None e none =
        absurd (true≢false (sym holds ∙ none cpu (grouping.in_range g set.empty (there classes g cpu holds) cpu holds)))
    by_first (Some n) e least = twins_weigh rows n cpu k (grouping.alike g n cpu least.passes holds)

-- a CPU that is in one of the classes is in the class of some place
pub held_at : (classes : List Ids) (cpu : ℕ) → is_held classes cpu ≡ true → (g : ℕ) × Holds classes g cpu
held_at [] cpu held = absurd (false≢true held)
held_at (s ∷ classes) cpu held = by_cases (set.contains s cpu) refl held (held_at classes cpu)
  where
    by_cases :
        (b : Bool) → set.contains s cpu ≡ b → (b || is_held classes cpu) ≡ true → (is_held classes cpu ≡ true → (g : ℕ) × Holds classes g cpu)
        → (g : ℕ) × Holds (s ∷ classes) g cpu
    by_cases true here held rest = (0, here)
    by_cases false not_here held rest =
        let later = rest held in
        (suc later.0, later.1)

-- CPUs of classes of twins are dealt as twins ought to be
pub deal_is_dealt : DealOfTwinsIsDealt
deal_is_dealt rows classes holdings sets grouping deal a b k lt twins holds =
    let class = held_at classes b (deal.only k b holds) in
    deal.rising class.0 a b k lt (grouping.together class.0 b a class.1 (λ j d within. sym (twins j d within))) class.1 holds
