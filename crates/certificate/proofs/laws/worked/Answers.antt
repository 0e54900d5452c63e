-- Each row is evaluated: what is asked of a set that is written out is computed from its list, over all CPUs one test at a time.
use Rattle.std.proofs.Common.{◌≡◌, true, [], ◌∷◌, length, None, Some, refl, ◌∙◌}
use Rattle.std.specs.FinSet as set
use Rattle.faults.specs.First.{first_below}
use Rattle.cpu_set.specs.Members.{cpus}
use Rattle.cpu_set.specs.Least.{least_that}
use Rattle.cpu_set.specs.ListedSetLemmas.{contains-listed, intersection-listed, len-listed}
use Rattle.certificate.specs.Cost.{cost}
use Rattle.certificate.specs.Price.{all_prices}
use Rattle.certificate.specs.IsShortage.{chosen, offered}
use Rattle.certificate.specs.Limits.{is_disjoint, offers_fit, row_fits, prices_fit, rows_fit, is_within_limits, is_shortage_within_limits}
use Rattle.certificate.specs.PlanFault.{is_not_allowed, row_fault, rows_fault, apart_fault, is_too_high, values_fault, plan_fault}
use Rattle.certificate.specs.ShortageFault.{shortage_fault}
use Rattle.certificate.specs.Worked.{row_a, row_b, two_rows, held, priced, three_rows, row_with_moves}
use Rattle.certificate.specs.declared.fault.CheckFault.TheVariants.{HeldTwice}
use Rattle.certificate.proofs.ListedOffers.{least_not_allowed, least_too_high, offered_by_two}
use Rattle.certificate.proofs.laws.worked.Goals as goal

one_apart : is_disjoint (set.from_list (1 ∷ [])) (set.from_list (2 ∷ [])) ≡ true
one_apart = rw (intersection-listed (1 ∷ []) (2 ∷ [])) (rw (len-listed []) refl)

-- the plan of least cost
allowed-a : least_that (is_not_allowed row_a (set.from_list (2 ∷ []))) ≡ None
allowed-a = least_not_allowed ((10, 1 ∷ []) ∷ (11, 2 ∷ []) ∷ []) (2 ∷ []) ∙ (unfold cpus in refl)

allowed-b : least_that (is_not_allowed row_b (set.from_list (1 ∷ []))) ≡ None
allowed-b = least_not_allowed ((12, 1 ∷ []) ∷ (50, 2 ∷ []) ∷ []) (1 ∷ []) ∙ (unfold cpus in refl)

rows_met : rows_fault two_rows (held (2 ∷ []) (1 ∷ [])) ≡ None
unfolding first_below row_fault rows_fault
rows_met = rw (len-listed (2 ∷ []), len-listed (1 ∷ []), allowed-a, allowed-b) refl

none_twice : apart_fault (held (2 ∷ []) (1 ∷ [])) ≡ None
unfolding first_below apart_fault
none_twice = rw (contains-listed (1 ∷ []), contains-listed (2 ∷ [])) (unfold cpus in refl)

low-a : least_that (is_too_high (priced 11 13).of_cpu row_a 11) ≡ None
low-a = least_too_high ((1, 1 ∷ []) ∷ []) ((10, 1 ∷ []) ∷ (11, 2 ∷ []) ∷ []) 11 ∙ (unfold cpus in refl)

low-b : least_that (is_too_high (priced 11 13).of_cpu row_b 13) ≡ None
low-b = least_too_high ((1, 1 ∷ []) ∷ []) ((12, 1 ∷ []) ∷ (50, 2 ∷ []) ∷ []) 13 ∙ (unfold cpus in refl)

lower-b : least_that (is_too_high (priced 11 13).of_cpu row_b 12) ≡ None
lower-b = least_too_high ((1, 1 ∷ []) ∷ []) ((12, 1 ∷ []) ∷ (50, 2 ∷ []) ∷ []) 12 ∙ (unfold cpus in refl)

high-b : least_that (is_too_high (priced 11 13).of_cpu row_b 14) ≡ Some 1
high-b = least_too_high ((1, 1 ∷ []) ∷ []) ((12, 1 ∷ []) ∷ (50, 2 ∷ []) ∷ []) 14 ∙ (unfold cpus in refl)

costs_23 : cost two_rows (held (2 ∷ []) (1 ∷ [])) ≡ 23
costs_23 = rw (contains-listed (1 ∷ []), contains-listed (2 ∷ [])) (unfold cpus in refl)

priced_1 : all_prices (priced 11 13).of_cpu ≡ 1
priced_1 = rw (contains-listed (1 ∷ [])) (unfold cpus in refl)

no_fault : plan_fault two_rows (held (2 ∷ []) (1 ∷ [])) (priced 11 13) ≡ None
unfolding first_below offers_fit row_fits prices_fit rows_fit is_within_limits values_fault plan_fault
no_fault = rw (one_apart, rows_met, none_twice, low-a, low-b, costs_23, priced_1) refl

pub returns-clause-costs : goal.returns-clause-costs
returns-clause-costs c = costs_23

pub returns-clause-costs_more : goal.returns-clause-costs_more
returns-clause-costs_more c = rw (contains-listed (1 ∷ []), contains-listed (2 ∷ [])) (unfold cpus in refl)

pub returns-clause-yes : goal.returns-clause-yes
returns-clause-yes c = rw (no_fault, costs_23) refl

pub returns-clause-other_total : goal.returns-clause-other_total
returns-clause-other_total c = rw (no_fault, costs_23) refl

pub returns-clause-wrong_count : goal.returns-clause-wrong_count
unfolding first_below offers_fit row_fits prices_fit rows_fit is_within_limits row_fault rows_fault plan_fault
returns-clause-wrong_count c = rw (one_apart, len-listed (1 ∷ 2 ∷ [])) refl

refused-a : least_that (is_not_allowed row_a (set.from_list (3 ∷ []))) ≡ Some 3
refused-a = least_not_allowed ((10, 1 ∷ []) ∷ (11, 2 ∷ []) ∷ []) (3 ∷ []) ∙ (unfold cpus in refl)

pub returns-clause-not_allowed : goal.returns-clause-not_allowed
unfolding first_below offers_fit row_fits prices_fit rows_fit is_within_limits row_fault rows_fault plan_fault
returns-clause-not_allowed c = rw (one_apart, len-listed (3 ∷ []), refused-a) refl

also_allowed-a : least_that (is_not_allowed row_a (set.from_list (1 ∷ []))) ≡ None
also_allowed-a = least_not_allowed ((10, 1 ∷ []) ∷ (11, 2 ∷ []) ∷ []) (1 ∷ []) ∙ (unfold cpus in refl)

one_twice : apart_fault (held (1 ∷ []) (1 ∷ [])) ≡ Some (HeldTwice 1)
unfolding first_below apart_fault
one_twice = rw (contains-listed (1 ∷ [])) (unfold cpus in refl)

pub returns-clause-held_twice : goal.returns-clause-held_twice
unfolding first_below offers_fit row_fits prices_fit rows_fit is_within_limits row_fault rows_fault plan_fault
returns-clause-held_twice c = rw (one_apart, len-listed (1 ∷ []), also_allowed-a, allowed-b, one_twice) refl

pub returns-clause-too_high : goal.returns-clause-too_high
unfolding first_below offers_fit row_fits prices_fit rows_fit is_within_limits values_fault plan_fault
returns-clause-too_high c = rw (one_apart, rows_met, none_twice, low-a, high-b) refl

pub returns-clause-gap : goal.returns-clause-gap
unfolding first_below offers_fit row_fits prices_fit rows_fit is_within_limits values_fault plan_fault
returns-clause-gap c = rw (one_apart, rows_met, none_twice, low-a, lower-b, costs_23, priced_1) refl

-- a shortage
two_offered : length (offered (chosen three_rows (0 ∷ 1 ∷ []))) ≡ 2
two_offered = offered_by_two ((10, 1 ∷ 2 ∷ []) ∷ []) ((10, 1 ∷ 2 ∷ []) ∷ []) ∙ (unfold cpus in refl)

four_offered : length (offered (chosen three_rows (0 ∷ 2 ∷ []))) ≡ 4
four_offered = offered_by_two ((10, 1 ∷ 2 ∷ []) ∷ []) ((10, 4 ∷ 5 ∷ []) ∷ []) ∙ (unfold cpus in refl)

pub returns-clause-short : goal.returns-clause-short
unfolding offers_fit row_fits rows_fit is_shortage_within_limits shortage_fault
returns-clause-short c = rw two_offered refl

pub returns-clause-not_short : goal.returns-clause-not_short
unfolding offers_fit row_fits rows_fit is_shortage_within_limits shortage_fault
returns-clause-not_short c = rw four_offered refl

-- weights that count moves
pairs_apart : is_disjoint (set.from_list (4 ∷ 5 ∷ [])) (set.from_list (2 ∷ 3 ∷ [])) ≡ true
pairs_apart = rw (intersection-listed (4 ∷ 5 ∷ []) (2 ∷ 3 ∷ [])) (rw (len-listed []) refl)

allowed-moves : least_that (is_not_allowed row_with_moves (set.from_list (4 ∷ 5 ∷ []))) ≡ None
allowed-moves = least_not_allowed ((655360, 4 ∷ 5 ∷ []) ∷ (655361, 2 ∷ 3 ∷ []) ∷ []) (4 ∷ 5 ∷ []) ∙ (unfold cpus in refl)

alone : apart_fault (set.from_list (4 ∷ 5 ∷ []) ∷ []) ≡ None
unfolding first_below apart_fault
alone = rw (contains-listed (4 ∷ 5 ∷ [])) (unfold cpus in refl)

low-moves : least_that (is_too_high [] row_with_moves 655360) ≡ None
low-moves = least_too_high [] ((655360, 4 ∷ 5 ∷ []) ∷ (655361, 2 ∷ 3 ∷ []) ∷ []) 655360 ∙ (unfold cpus in refl)

costs_20 : cost (row_with_moves ∷ []) (set.from_list (4 ∷ 5 ∷ []) ∷ []) ≡ 1310720
costs_20 = rw (contains-listed (4 ∷ 5 ∷ []), contains-listed (2 ∷ 3 ∷ [])) (unfold cpus in refl)

no_price : all_prices [] ≡ 0
unfolding cpus
no_price = refl

pub returns-clause-yes_with_moves : goal.returns-clause-yes_with_moves
unfolding first_below offers_fit row_fits prices_fit rows_fit is_within_limits row_fault rows_fault values_fault plan_fault
returns-clause-yes_with_moves c = rw (pairs_apart, len-listed (4 ∷ 5 ∷ []), allowed-moves, alone, low-moves, costs_20, no_price) refl
