-- An index of first CPUs, CPU by CPU.
use Rattle.std.proofs.Common.{◌≡◌, ℕ, ◌+◌, ◌<◌, List, length, set, sym, ap, ◌∙◌, inl, inr, arith}
use Rattle.std.specs.Prelude.{◌||◌, ◌==◌}
use Rattle.std.specs.FinSet as finset
use Rattle.std.proofs.lemmas.List.{length-set, get_or-set_same, get_or-set_other}
use Rattle.std.proofs.lemmas.Bool.{cases_eq, eq-eqb, ne_eqb, or_right, both_ways}
use Rattle.cpu_set.specs.Ids.{Ids}
use Rattle.cpu_set.specs.Members.{IsCpu}
use Rattle.cpu_set.specs.PointwiseLaws.{contains-empty, contains-insert}
use Rattle.cpu_set.specs.declared.TheConstants.{CPU_LIMIT}
use Rattle.transport.specs.Numbers.{number, IsEachOnce}
use Rattle.transport.specs.Representatives.{IsIndex}

pub index_none : (cpus : List ℕ) (s : Ids) (class_of : List ℕ) → length class_of ≡ CPU_LIMIT → ((g : ℕ) → IsCpu (number cpus g)) → s ≡ finset.empty → IsIndex cpus s class_of 0
index_none cpus s class_of long in_range empty = record {
  long = long;
  in_range = in_range;
  first = λ c has. absurd (both_ways _ (rw empty (contains-empty c)) has);
  all = λ g lt. absurd (omega (arith, lt));
  class = λ g lt. absurd (omega (arith, lt));
}

pub index_more : (cpus : List ℕ) (s : Ids) (class_of : List ℕ) (g cpu : ℕ) → IsIndex cpus s class_of g → IsEachOnce cpus → g < length cpus → cpu ≡ number cpus g
    → IsIndex cpus (finset.insert s cpu) (set class_of cpu g) (g + 1)
index_more cpus s class_of g cpu h once lt is = record {
  long = length-set class_of cpu g ∙ h.long;
  in_range = h.in_range;
  first = λ c has. elim (cases_eq c cpu) [
    | inl e ↦ record { index = g; within = lt; is = sym is ∙ sym e }
    | inr ne ↦ h.first c (sym (contains-insert s cpu c ∙ ap (λ b. b || finset.contains s c) (ne_eqb c cpu ne)) ∙ has)
  ];
  all = λ j below. elim (cases_eq j g) [
    | inl e ↦ contains-insert s cpu (number cpus j) ∙ ap (λ b. b || finset.contains s (number cpus j)) (eq-eqb (number cpus j) cpu (ap (λ i. number cpus i) e ∙ sym is))
    | inr ne ↦ contains-insert s cpu (number cpus j) ∙ or_right (number cpus j == cpu) _ (h.all j (omega (arith, below, ne)))
  ];
  class = λ j below. elim (cases_eq j g) [
    | inl e ↦ ap (λ c. number (set class_of cpu g) c) (ap (λ i. number cpus i) e ∙ sym is) ∙ get_or-set_same class_of cpu g 0 in_class_of ∙ sym e
    | inr ne ↦ get_or-set_other class_of cpu (number cpus j) g 0 (λ same. ne (once j g (omega (arith, below, lt)) lt (same ∙ is))) ∙ h.class j (omega (arith, below, ne))
  ];
}
  where
    in_class_of : cpu < length class_of
    in_class_of = omega (arith, is, h.in_range g, h.long)
