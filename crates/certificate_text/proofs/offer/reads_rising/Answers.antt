use Rattle.std.proofs.Common.{rules, ◌≡◌, ◌≢◌, ◌∙◌, ℕ, List, [], ◌∷◌, false, filter, refl, sym, ap}
use Rattle.std.specs.FinSet as set
use Rattle.cpu_set.specs.Ids.{Ids}
use Rattle.cpu_set.specs.Members.{cpus}
use Rattle.cpu_set.specs.PointwiseLaws.{contains-empty}
use Rattle.cpu_set.specs.Ranges.{ranges_of}
use Rattle.cpu_set.specs.declared.TheConstants.{CPU_LIMIT}
use Rattle.tagged_sets.specs.Tagged.{IsOfSet, ranges_of_set, set_of_ranges}
use Rattle.tagged_sets.specs.RangeSetLaws.{in_of_set}
use Rattle.cpu_list.specs.RisingList.{IsRisingList}
use Rattle.certificate_text.specs.ListWord.{IsListWord}
use Rattle.certificate_text.proofs.offer.reads_rising.Goals as goal

of_set : {text : List ℕ} {ranges : List (ℕ × ℕ)} → IsRisingList CPU_LIMIT text ranges → IsOfSet ranges
unfolding ranges_of_set set_of_ranges
of_set rising = rising.whole

none_kept : (s : Ids) (ns : List ℕ) → ((q : ℕ) → set.contains s q ≡ false) → filter (set.contains s) ns ≡ []
none_kept s [] none = refl
none_kept s (n ∷ ns) none = rw (none n) (none_kept s ns none)

no_ranges : (s : Ids) → ((q : ℕ) → set.contains s q ≡ false) → ranges_of_set s ≡ []
unfolding ranges_of_set
no_ranges s none = ap ranges_of (none_kept s cpus none)

spelled : {text : List ℕ} {ranges : List (ℕ × ℕ)} → IsRisingList CPU_LIMIT text ranges → ranges ≢ [] → IsListWord text (set_of_ranges ranges)
spelled {text} {ranges} rising some = record {
  is_list = rising.list;
  names = λ n. in_of_set ranges (of_set rising) n ∙ rising.names n;
  some = λ e. some (sym (of_set rising) ∙ no_ranges (set_of_ranges ranges) (λ q. ap (λ (s : Ids). set.contains s q) e ∙ contains-empty q));
}

pub returns-then-is_rising-clause-of_set : goal.returns-then-is_rising-clause-of_set
returns-then-is_rising-clause-of_set c = λ _. of_set (c.in-Ok.ensures c.if-is_rising.true)

pub returns-then-is_rising-clause-names : goal.returns-then-is_rising-clause-names
returns-then-is_rising-clause-names c = λ some. spelled (c.in-Ok.ensures c.if-is_rising.true) (λ e. search rules)
