-- The sets of offers that are at hand, each of one weight.
use Rattle.certificate.specs.declared.rows.Offer.{Offer}
use Rattle.certificate.specs.Weight.{weight_in}
use Rattle.cpu_set.specs.Ids.{Ids}
use Rattle.std.proofs.Common.{List, None, Option, Some, [], ap, arith, get_or, inl, inr, length, refl, subst, suc, sym, true, zero, ℕ, ◌++◌, ◌+◌, ◌-◌, ◌<◌, ◌≤◌, ◌∙◌, ◌∷◌, ◌≡◌}
use Rattle.std.proofs.Math.Seq.{get_or-append_right, get_or-append_seam}
use Rattle.std.proofs.lemmas.Bool.{cases_eq, cases_lt}
use Rattle.std.proofs.lemmas.List.{get_or_append_left, get_or-take, length-append, length-take}
use Rattle.std.proofs.lemmas.List.Elements.{All-append}
use Rattle.std.specs.FinSet as set
use Rattle.std.specs.Prelude.{All}
use Rattle.twins.proofs.Weights.{same_says}
use Rattle.twins.specs.AreSpans.{AreSpans, IsAddedAt, IsMade, IsOfWeight, MayBeAdded}
use Rattle.twins.specs.declared.spans.Spans.{Spans}

one : {A : Type 0} (P : A → Type 0) (x : A) → P x → All P (x ∷ [])
one P x p zero d lt = p
one P x p (suc k) d lt = absurd (omega (arith, lt))

-- what is at hand stays where a set is added
pub at_hand_more : (offers : List Offer) (at : ℕ) (before after : List Ids) (place : Option ℕ) → MayBeAdded offers at before after place
    → All (IsOfWeight offers) before → All (IsOfWeight offers) after
at_hand_more offers at before after None same all = subst (All (IsOfWeight offers)) (sym same) all
at_hand_more offers at before after (Some place) a all =
    let d : Offer = record { weight = 0; cpus = set.empty } in
    subst (All (IsOfWeight offers)) (sym a.added)
    (All-append (IsOfWeight offers) before (a.cpus ∷ []) all
    (one (IsOfWeight offers) a.cpus (record { weight = (get_or offers at d).weight; members = a.members d })))

still_made : (offers : List Offer) (before : List Ids) (s : Ids) (k place : ℕ) → IsMade offers before k place → IsMade offers (before ++ s ∷ []) k place
still_made offers before s k place m = record {
  there = omega (arith, length-append before (s ∷ []), m.there);
  members = λ d q. ap (λ t. set.contains t q) (get_or_append_left before (s ∷ []) set.empty place m.there) ∙ m.members d q;
}

last_made : (offers : List Offer) (before after : List Ids) (at place : ℕ) → IsAddedAt offers at before after place → IsMade offers after at place
last_made offers before after at place a =
    let long : length after ≡ length before + 1 = ap length a.added ∙ length-append before (a.cpus ∷ []) in
    record {
      there = omega (arith, long, a.last);
      members = λ d q.
          ap (λ l. set.contains (get_or l place set.empty) q) a.added
          ∙ ap (λ n. set.contains (get_or (before ++ a.cpus ∷ []) n set.empty) q) a.last
          ∙ ap (λ t. set.contains t q) (get_or-append_seam before a.cpus [] set.empty) ∙ a.members d q;
    }

made_before : (offers : List Offer) (at : ℕ) (before after : List Ids) (added : Option ℕ) → MayBeAdded offers at before after added
    → (k place : ℕ) → IsMade offers before k place → IsMade offers after k place
made_before offers at before after None same k place m = subst (λ l. IsMade offers l k place) (sym same) m
made_before offers at before after (Some p) a k place m =
    subst (λ l. IsMade offers l k place) (sym a.added) (still_made offers before a.cpus k place m)

made_now : (offers : List Offer) (at : ℕ) (before after : List Ids) (added : Option ℕ) → MayBeAdded offers at before after added
    → (place : ℕ) → added ≡ Some place → IsMade offers after at place
made_now offers at before after None same place e = absurd cc
made_now offers at before after (Some p) a place e =
    let is : p ≡ place = cc in
    subst (IsMade offers after at) is (last_made offers before after at p a)

none_behind : (place : ℕ) → None ≡ Some place → ⊥
none_behind place e = absurd cc

-- the set at each place that is noted is made, where one offer more is noted
pub made_more :
    (offers : List Offer) (at : ℕ) (before after : List Ids) (places : List (Option ℕ)) (added : Option ℕ)
    → length places ≡ at → MayBeAdded offers at before after added
    → ((k place : ℕ) → get_or places k None ≡ Some place → IsMade offers before k place)
    → (k place : ℕ) → get_or (places ++ added ∷ []) k None ≡ Some place → IsMade offers after k place
made_more offers at before after places added count is made k place noted =
    elim (cases_lt k (length places)) [
      | inl lt ↦ made_before offers at before after added is k place (made k place (sym (get_or_append_left places (added ∷ []) None k lt) ∙ noted))
      | inr le ↦ elim (cases_eq k (length places)) [
        | inl e ↦ subst (λ n. IsMade offers after n place) (sym count ∙ sym e)
            (made_now offers at before after added is place
            (sym (get_or-append_seam places added [] None) ∙ ap (λ n. get_or (places ++ added ∷ []) n None) (sym e) ∙ noted))
        | inr ne ↦ absurd (none_behind place (sym (behind places added k le ne) ∙ noted))
      ]
    ]
  where
    behind_one : (added : Option ℕ) (n : ℕ) → 0 < n → get_or (added ∷ []) n None ≡ None
    behind_one added zero lt = absurd (omega (arith, lt))
    behind_one added (suc n) lt = refl

    behind : (places : List (Option ℕ)) (added : Option ℕ) (k : ℕ) → length places ≤ k → (k ≡ length places → ⊥) → get_or (places ++ added ∷ []) k None ≡ None
    behind places added k le ne = get_or-append_right places (added ∷ []) k None le ∙ behind_one added (k - length places) (omega (arith, le, ne))

-- a set at hand has the CPUs of one weight
pub of_weight : (offers : List Offer) (spans : Spans) (place : ℕ) → AreSpans offers spans → place < spans.at_hand → IsOfWeight offers (get_or spans.sets.items place set.empty)
of_weight offers spans place are lt =
    subst (IsOfWeight offers) (get_or-take spans.at_hand spans.sets.items place set.empty lt)
    (are.at_hand place set.empty (rw length-take (omega (arith, lt, are.within))))

-- all its CPUs have the weight
pub weighs : (offers : List Offer) (s : Ids) (w : IsOfWeight offers s) (cpu : ℕ) → set.contains s cpu ≡ true → weight_in offers cpu ≡ Some w.weight
weighs offers s w cpu has = sym (same_says (Some w.weight) (weight_in offers cpu) (sym (w.members cpu) ∙ has))
