-- What comes of a problem can be written.
use Rattle.std.proofs.Common.{◌≡◌, ℕ, suc, ◌<◌, Bool, true, false, List, [], ◌∷◌, length, refl, ap, ◌∙◌, cond, arith}
use Rattle.std.specs.Prelude.{◌≢◌, ◌==◌, All}
use Rattle.std.specs.List.{AllZip}
use Rattle.std.proofs.lemmas.List.Elements.{All-cons}
use Rattle.std.specs.FinSet as set
use Rattle.std.specs.Ordering.{nat_cmp}
use Rattle.cpu_set.specs.Ids.{Ids}
use Rattle.cpu_set.specs.Members.{InRange}
use Rattle.certificate.specs.RowView.{RowView}
use Rattle.certificate.specs.IsPlan.{Meets}
use Rattle.certificate.specs.IsShortage.{chosen, asked, offered}
use Rattle.certificate.specs.AreWithin.{IsRowWithin, LimitsMean}
use Rattle.certificate.specs.declared.price_lists.Price.{Price}
use Rattle.certificate.specs.declared.weights.Weights.{Weights}
use Rattle.certificate_text.specs.ProblemText.{AreWritable}
use Rattle.certificate_text.specs.Written.{CanWrite, IsHeld}
use Rattle.solution.specs.Decides.{AreAllNeeded, Decides, IsTotalHeld, answered}
use Rattle.transport.specs.Solved.{IsAnswerOf}
use Rattle.transport.specs.declared.solver.Answer.{Answer}
use Rattle.transport.specs.declared.solver.Answer.TheVariants as answer
use Rattle.twins.specs.IsPriced.{class_prices}

some_members : (rows : List RowView) (members : List ℕ) → length (offered (chosen rows members)) < asked (chosen rows members) → 0 < length members
some_members rows [] short = absurd (omega (arith, short))
some_members rows (k ∷ members) short = omega arith

not_empty : (s : Ids) → 0 < set.len s → s ≢ set.empty
not_empty s some is = absurd (let none : set.len s ≡ 0 = ap set.len is ∙ set.len-empty nat_cmp in omega (arith, some, none))

-- a row asks for one CPU at least, so no set of a plan is empty; and each is of CPU numbers
sets_some : (rows : List RowView) (sets : List Ids) → All IsRowWithin rows → AllZip Meets rows sets → All (λ s. s ≢ set.empty) sets × All InRange sets
sets_some [] [] within met = (λ i d lt. absurd (omega arith), λ i d lt. absurd (omega arith))
sets_some [] (s ∷ sets) within met = absurd met
sets_some (row ∷ rows) [] within met = absurd met
sets_some (row ∷ rows) (s ∷ sets) within met =
    let asks = (within 0 row (omega arith)).some in
    let rest = sets_some rows sets (λ i d lt. within (suc i) d (omega arith)) met.1 in (
      All-cons (λ (t : Ids). t ≢ set.empty) s sets (not_empty s (omega (arith, asks, met.0.size))) rest.0,
      All-cons InRange s sets met.0.in_range rest.1,
    )

-- prices of classes are of CPU numbers
prices_in : (classes : List Ids) (amounts : List ℕ) → All InRange classes → All (λ (p : Price). InRange p.cpus) (class_prices classes amounts)
prices_in [] amounts h = λ i d lt. absurd (omega arith)
prices_in (s ∷ classes) [] h = λ i d lt. absurd (omega arith)
prices_in (s ∷ classes) (p ∷ amounts) h = at (p == 0) (prices_in classes amounts (λ i d lt. h (suc i) d (omega arith))) where
  at : (b : Bool) → All (λ (q : Price). InRange q.cpus) (class_prices classes amounts)
      → All (λ (q : Price). InRange q.cpus) (cond b (class_prices classes amounts) (record { amount = p; cpus = s } ∷ class_prices classes amounts))
  at true rest = rest
  at false rest = All-cons (λ (q : Price). InRange q.cpus) (record { amount = p; cpus = s }) (class_prices classes amounts) (h 0 s (omega arith)) rest

module _ (rows : List RowView) (weights : Weights) (means : LimitsMean) (writable : AreWritable rows) where
  -- what proves itself and has no price of no CPU can be written
  pub can_write : (a : Answer) → IsAnswerOf rows a → CanWrite (answered rows weights a)
  can_write (answer.Plan sets prices total turns) is =
      let within = (means rows sets prices).0 is.right.limits in (
        record { sets_len = within.same_sets; values_len = within.same_values; apart = writable.apart },
        writable.can,
        (sets_some rows sets within.rows_are.each is.right.plan.met).0,
        λ i d lt. not_empty _ (is.priced.1 i d lt).1,
      )
  can_write (answer.Short members turns) is = (
    record { some = some_members rows members.items is.right.short; rising = is.right.rising; there = is.right.there; apart = writable.apart },
    writable.can,
  )

  -- and its numbers and sets are such as their types hold
  pub held : (a : Answer) → IsAnswerOf rows a → IsTotalHeld (answered rows weights a) → IsHeld (answered rows weights a)
  held (answer.Plan sets prices total turns) is fits =
      let within = (means rows sets prices).0 is.right.limits in
      let its : All (λ (p : Price). InRange p.cpus) prices.of_cpu = rw is.priced.0.its (prices_in is.priced.0.classes is.priced.0.amounts is.priced.0.grouping.in_range) in (
        writable.held,
        (sets_some rows sets within.rows_are.each is.right.plan.met).1,
        λ i d lt. (let v = within.values i d lt in omega (arith, v)),
        λ i d lt. (let amount = within.amounts i d lt in record { amount = omega (arith, amount); cpus = its i d lt }),
        fits,
      )
  held (answer.Short members turns) is fits = writable.held

-- what the solver answers decides the problem
pub decides : (rows : List RowView) (weights : Weights) (a : Answer) → IsAnswerOf rows a → AreAllNeeded rows a → Decides rows weights (answered rows weights a)
decides rows weights (answer.Plan sets prices total turns) is needed =
    (refl, refl, record { least = is.decided; proved = is.right; dealt = is.dealt; by_class = is.priced.0; some = is.priced.1 })
decides rows weights (answer.Short members turns) is needed = (refl, refl, record { shortage = is.right; none = is.decided; needed = needed })
