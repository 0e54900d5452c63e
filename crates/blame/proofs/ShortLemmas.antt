-- A shortage of a problem of some of the rows is one of the rows.
use Rattle.std.proofs.Common.{◌≡◌, ℕ, suc, ◌+◌, ◌<◌, ◌≤◌, ◌||◌, Bool, List, [], ◌∷◌, length, get_or, filter, map, refl, sym, ap, ◌∙◌, arith}
use Rattle.std.specs.Prelude.{All, Contains}
use Rattle.std.specs.List.Sorted.{IsStrictlyIncreasing}
use Rattle.std.proofs.lemmas.List.{get_or-map, length-map}
use Rattle.std.proofs.lemmas.List.Elements.{All-map, Contains-get_or}
use Rattle.std.proofs.lemmas.List.Kept.{AllPairs-from_increasing}
use Rattle.cpu_set.specs.Members.{cpus}
use Rattle.certificate.specs.RowView.{RowView}
use Rattle.certificate.specs.IsShortage.{chosen, asked, is_offered, offered, IsShortage}
use Rattle.hall.specs.Asking.{demand_at, may_have}
use Rattle.hall.specs.AskingLaws.{asked_one, offered_one}
use Rattle.blame.specs.Parts.{number_at, IsPart, IsShortageOf}
use Rattle.blame.proofs.PartLemmas.{asked_less}

module _ (rows : List RowView) (numbers : List ℕ) (root demand : ℕ) (part : List RowView) (its : IsPart rows numbers root demand part) (less : demand ≤ demand_at rows root) where
  abbrev named : List ℕ → List ℕ
  named places = map (number_at numbers) places

  tail : (p : ℕ) (ps : List ℕ) → All (λ i. i < length numbers) (p ∷ ps) → All (λ i. i < length numbers) ps
  tail p ps all i d lt = all (suc i) d (omega (arith, lt))

  asks_less : (ps : List ℕ) → All (λ i. i < length numbers) ps → asked (chosen part ps) ≤ asked (chosen rows (named ps))
  asks_less [] all = omega arith
  asks_less (p ∷ ps) all =
      let here : p < length numbers = all 0 p (omega arith) in
      omega (
        arith,
        asked_one part p ps,
        asked_one rows (number_at numbers p) (named ps),
        asks_less ps (tail p ps all),
        its.asks p here,
        asked_less rows root demand (number_at numbers p) less,
      )

  offers_same : (ps : List ℕ) (c : ℕ) → All (λ i. i < length numbers) ps → is_offered (chosen part ps) c ≡ is_offered (chosen rows (named ps)) c
  offers_same [] c all = refl
  offers_same (p ∷ ps) c all =
      offered_one part p ps c
      ∙ ap (λ b. b || is_offered (chosen part ps) c) (its.may p c (all 0 p (omega arith)))
      ∙ ap (λ b. may_have rows (number_at numbers p) c || b) (offers_same ps c (tail p ps all))
      ∙ sym (offered_one rows (number_at numbers p) (named ps) c)

  pub short_of_part :
      (places : List ℕ) → IsStrictlyIncreasing numbers → All (λ k. k < length rows) numbers → IsShortage part places
      → IsShortageOf rows numbers (named places)
  short_of_part places rising there shortage = record {
    shortage = record {
      rising = named_rise;
      there = All-map (λ k. k < length rows) (number_at numbers) places (λ i d lt. there (get_or places i d) 0 (below i d lt));
      short = omega (arith, shortage.short, asks_less places below, ap length same);
    };
    within = All-map (Contains numbers) (number_at numbers) places (λ i d lt. Contains-get_or numbers (get_or places i d) 0 (below i d lt));
  }
    where
      below : All (λ i. i < length numbers) places
      below i d lt = let h = shortage.there i d lt in omega (arith, h, its.long)

      same : offered (chosen part places) ≡ offered (chosen rows (named places))
      same = ap (λ (test : ℕ → Bool). filter test cpus) (λ i c. offers_same places c below i)

      named_rise : IsStrictlyIncreasing (named places)
      named_rise k lt =
          let long = length-map places (number_at numbers) in
          let here = get_or-map (number_at numbers) places k 0 0 (omega (arith, long, lt)) in
          let next = get_or-map (number_at numbers) places (k + 1) 0 0 (omega (arith, long, lt)) in
          let rise = AllPairs-from_increasing numbers rising (get_or places k 0) (get_or places (k + 1) 0) 0 (shortage.rising k (omega (arith, long, lt)))
          (below (k + 1) 0 (omega (arith, long, lt))) in
          omega (arith, here, next, rise)
