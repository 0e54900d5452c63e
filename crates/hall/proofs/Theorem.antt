-- Rows have a plan, or some of them are a shortage.
use Rattle.std.proofs.Common.{◌≡◌, ℕ, suc, ◌+◌, ◌<◌, Bool, true, Some, List, [], ◌∷◌, length, get_or, map, slice_get, refl, sym, ap, ◌∙◌, subst, inl, inr, arith}
use Rattle.std.specs.Prelude.{All}
use Rattle.std.specs.List.{range_with_len, cons_option}
use Rattle.std.specs.List.Sorted.{IsStrictlyIncreasing}
use Rattle.std.proofs.lemmas.List.FromFn.{length-range_with_len, get_or-range_with_len}
use Rattle.cpu_set.specs.declared.TheConstants.{CPU_LIMIT}
use Rattle.certificate.specs.RowView.{RowView}
use Rattle.certificate.specs.IsPlan.{IsPlan}
use Rattle.certificate.specs.IsShortage.{chosen}
use Rattle.hall.specs.Asking.{demand_at, may_have}
use Rattle.hall.specs.HallsTheorem.{HasPlan, HallsTheorem}
use Rattle.hall.proofs.Serving.{Served, served_or_short}
use Rattle.hall.proofs.Plans.{set_of, plan_of_served}
use Rattle.hall.proofs.Shortages.{marked_from, shortage_of_marks}

range_rises : (a n : ℕ) → IsStrictlyIncreasing (range_with_len a n)
range_rises a n k lt =
    let long = length-range_with_len a n in
    let here : get_or (range_with_len a n) k 0 ≡ a + k = get_or-range_with_len a n k 0 (omega (arith, long)) in
    let next : get_or (range_with_len a n) (k + 1) 0 ≡ a + (k + 1) = get_or-range_with_len a n (k + 1) 0 (omega (arith, long)) in
    omega (arith, here, next)

-- the rows of all numbers are all rows
all_chosen : (rows more : List RowView) (a : ℕ) → ((i : ℕ) → slice_get rows (a + i) ≡ slice_get more i) → chosen rows (range_with_len a (length more)) ≡ more
all_chosen rows [] a same = refl
all_chosen rows (row ∷ more) a same =
    let plus : a + 0 ≡ a = omega arith in
    let first : slice_get rows a ≡ Some row = ap (slice_get rows) (sym plus) ∙ same 0 in
    let rest = all_chosen rows more (a + 1) (λ i. let e : a + 1 + i ≡ a + suc i = omega arith in ap (slice_get rows) e ∙ same (suc i)) in
    ap (λ found. cons_option found (chosen rows (range_with_len (a + 1) (length more)))) first ∙ ap (λ rs. row ∷ rs) rest

abbrev everyone : ℕ → Bool
everyone k = true

pub halls_theorem : HallsTheorem
halls_theorem rows = elim (served_or_short CPU_LIMIT (length rows) (may_have rows) (demand_at rows) everyone) [
  | inl served ↦ inl (plan served)
  | inr found ↦ inr (marked_from rows found.0 0 (length rows), shortage_of_marks rows found.0 found.2)
]
  where
    plus : (i : ℕ) → 0 + i ≡ i
    plus i = omega arith

    plan : Served CPU_LIMIT (length rows) (may_have rows) (demand_at rows) everyone → HasPlan rows
    plan served =
        let ks : List ℕ = range_with_len 0 (length rows) in
        let below : All (λ k. k < length rows) (range_with_len 0 (length rows)) = λ k d lt.
        let long = length-range_with_len 0 (length rows) in
        let at = get_or-range_with_len 0 (length rows) k d (omega (arith, long, lt)) in
        omega (arith, at, long, lt) in
        let made : IsPlan (chosen rows (range_with_len 0 (length rows))) (map (set_of served.0) (range_with_len 0 (length rows))) =
        plan_of_served rows everyone served.0 served.1 (range_with_len 0 (length rows)) (range_rises 0 (length rows)) below (λ k d lt. refl) in
        (map (set_of served.0) (range_with_len 0 (length rows)), subst (λ (rs : List RowView). IsPlan rs (map (set_of served.0) (range_with_len 0 (length rows)))) (all_chosen rows rows 0 (λ i. ap (slice_get rows) (plus i))) made)
