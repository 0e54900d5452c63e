-- What CPUs weigh in a scaled row.
use Rattle.std.proofs.Common.{◌≡◌, ℕ, zero, suc, Bool, true, false, cond, not, ◌&&◌, nat_lt, Option, Some, None, option_map, List, [], ◌∷◌, ◌++◌, filter, refl, sym, ap, ◌∙◌, arith}
use Rattle.std.specs.Prelude.{find}
use Rattle.std.specs.List.{flat_map}
use Rattle.std.specs.FinSet as set
use Rattle.std.proofs.lemmas.Bool.{true≢false}
use Rattle.std.proofs.lemmas.Bool.Decides.{nat_tests}
use Rattle.std.proofs.lemmas.List.Concat.{flat_map-cons}
use Rattle.cpu_set.specs.Ids.{Ids}
use Rattle.cpu_set.specs.PointwiseLaws.{contains-empty, contains-intersection, contains-difference}
use Rattle.certificate.specs.declared.Offer.{Offer}
use Rattle.certificate.specs.Packed.{packed, distance_of, moves_of}
use Rattle.certificate.specs.PackedLemmas.{distance_of-packed, moves_of-packed}
use Rattle.certificate.specs.Weight.{weight_in, weight}
use Rattle.certificate.specs.ScaledLaws.{weight_with}
use Rattle.rows.specs.Offers.{has_some}
use Rattle.rows.specs.Scaled.{held_part, moved, parted, ScaledRowsWeigh, DistancesStay, MovesAreUnheld}

-- a set with a CPU is not empty
has_one : (s : Ids) (c : ℕ) → set.contains s c ≡ true → nat_lt 0 (set.len s) ≡ true
has_one s c there = by_len (set.len s) refl
  where
    by_len : (k : ℕ) → set.len s ≡ k → nat_lt 0 (set.len s) ≡ true
    by_len zero e = absurd (true≢false (sym there ∙ ap (λ t. set.contains t c) (set.empty_of_len s e) ∙ contains-empty c))
    by_len (suc k) e = grind (arith, nat_tests)

-- the weight of a CPU among two offers, those without CPUs left out, and what comes after them
first_of_two : (x y : Offer) (rest : List Offer) (c : ℕ) (a b p q : Bool) → has_some x ≡ a → has_some y ≡ b → set.contains x.cpus c ≡ p → set.contains y.cpus c ≡ q
    → (p ≡ true → a ≡ true) → (q ≡ true → b ≡ true)
    → weight_in (filter has_some (x ∷ y ∷ []) ++ rest) c ≡ cond p (Some x.weight) (cond q (Some y.weight) (weight_in rest c))
first_of_two x y rest c true true true q e f g h s t = rw (e, f, g) refl
first_of_two x y rest c true true false true e f g h s t = rw (e, f, g, h) refl
first_of_two x y rest c true true false false e f g h s t = rw (e, f, g, h) refl
first_of_two x y rest c true false true q e f g h s t = rw (e, f, g) refl
first_of_two x y rest c true false false true e f g h s t = absurd (true≢false (sym (t refl)))
first_of_two x y rest c true false false false e f g h s t = rw (e, f, g) refl
first_of_two x y rest c false b true q e f g h s t = absurd (true≢false (sym (s refl)))
first_of_two x y rest c false true false true e f g h s t = rw (e, f, h) refl
first_of_two x y rest c false true false false e f g h s t = rw (e, f, h) refl
first_of_two x y rest c false false false true e f g h s t = absurd (true≢false (sym (t refl)))
first_of_two x y rest c false false false false e f g h s t = rw (e, f) refl

module _ (held : Ids) (c : ℕ) where
  abbrev more : ℕ → ℕ
  more w = packed w (cond (set.contains held c) 0 1)

  one_offer : (o : Offer) (rest : List Offer) → weight_in (parted held o ++ rest) c ≡ cond (set.contains o.cpus c) (Some (more o.weight)) (weight_in rest c)
  one_offer o rest =
      first_of_two (held_part held o) (moved held o) rest c _ _ _ _ refl refl refl refl (has_one _ c) (has_one _ c)
      ∙ rw (contains-intersection o.cpus held c, contains-difference o.cpus held c) (by_cases (set.contains o.cpus c) (set.contains held c))
    where
      by_cases : (a b : Bool)
          → cond (a && b) (Some (packed o.weight 0)) (cond (a && not b) (Some (packed o.weight 1)) (weight_in rest c))
          ≡ cond a (Some (packed o.weight (cond b 0 1))) (weight_in rest c)
      by_cases false b = refl
      by_cases true true = refl
      by_cases true false = refl

  offers_weigh : (offers : List Offer) → weight_in (flat_map (parted held) offers) c ≡ option_map more (weight_in offers c)
  offers_weigh [] = refl
  offers_weigh (o ∷ offers) =
      ap (λ l. weight_in l c) (flat_map-cons (parted held) o offers)
      ∙ one_offer o (flat_map (parted held) offers)
      ∙ by_cases (set.contains o.cpus c) (offers_weigh offers)
    where
      by_cases : (b : Bool) → weight_in (flat_map (parted held) offers) c ≡ option_map more (weight_in offers c)
          → cond b (Some (more o.weight)) (weight_in (flat_map (parted held) offers) c)
          ≡ option_map more (option_map (λ (p : Offer). p.weight) (cond b (Some o) (find (λ (p : Offer). set.contains p.cpus c) offers)))
      by_cases true rest = refl
      by_cases false rest = rest

pub scaled_rows_weigh : ScaledRowsWeigh
scaled_rows_weigh held row c = offers_weigh held c row.offers

pub distances_stay : DistancesStay
distances_stay held row c =
    weight_with distance_of (flat_map (parted held) row.offers) c
    ∙ ap (option_map distance_of) (scaled_rows_weigh held row c)
    ∙ by_weight (weight row c) (set.contains held c)
  where
    by_weight : (a : Option ℕ) (b : Bool) → option_map distance_of (option_map (λ w. packed w (cond b 0 1)) a) ≡ a
    by_weight None b = refl
    by_weight (Some w) true = ap Some (distance_of-packed w 0 (omega arith))
    by_weight (Some w) false = ap Some (distance_of-packed w 1 (omega arith))

pub moves_are_unheld : MovesAreUnheld
moves_are_unheld held row c =
    weight_with moves_of (flat_map (parted held) row.offers) c
    ∙ ap (option_map moves_of) (scaled_rows_weigh held row c)
    ∙ by_weight (weight row c) (set.contains held c)
  where
    by_weight : (a : Option ℕ) (b : Bool) → option_map moves_of (option_map (λ w. packed w (cond b 0 1)) a) ≡ option_map (λ _. cond b 0 1) a
    by_weight None b = refl
    by_weight (Some w) true = ap Some (moves_of-packed w 0 (omega arith))
    by_weight (Some w) false = ap Some (moves_of-packed w 1 (omega arith))

-- an offer without CPUs is left out
pub none_pushed : (w : ℕ) (s : Ids) → s ≡ set.empty → filter has_some (record { weight = w; cpus = s } ∷ []) ≡ []
none_pushed w s none = ap (λ t. filter has_some (record { weight = w; cpus = t } ∷ [])) none ∙ ap (λ n. cond (nat_lt 0 n) (record { weight = w; cpus = set.empty } ∷ []) []) (set.len-empty _)

-- and one with some is not
pub some_pushed : (w : ℕ) (s : Ids) → (s ≡ set.empty → ⊥) → filter has_some (record { weight = w; cpus = s } ∷ []) ≡ record { weight = w; cpus = s } ∷ []
some_pushed w s some = ap (λ b. cond b (record { weight = w; cpus = s } ∷ []) []) (by_len (set.len s) refl)
  where
    by_len : (k : ℕ) → set.len s ≡ k → nat_lt 0 (set.len s) ≡ true
    by_len zero e = absurd (some (set.empty_of_len s e))
    by_len (suc k) e = grind (arith, nat_tests)
