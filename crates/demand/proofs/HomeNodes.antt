-- Home nodes are nodes of the machine, and there is one.
use Rattle.std.proofs.Common.{◌≡◌, ◌≢◌, ℕ, ◌≤◌, true, nat_lt, sym, ap, ◌∙◌, arith}
use Rattle.std.proofs.lemmas.Bool.{false≢true, ltb-true}
use Rattle.std.proofs.lemmas.Bool.Decides.{nat_tests}
use Rattle.std.specs.FinSet as set
use Rattle.cpu_set.specs.Ids.{Ids}
use Rattle.cpu_set.specs.PointwiseLaws.{contains-empty}
use Rattle.machine.specs.Layout.{Layout, node_count}
use Rattle.machine.specs.Weight.{AreHomes}
use Rattle.machine.specs.IsSound.{IsSound}
use Rattle.cpu_set.specs.SetLaws.{is_empty-empty, is_empty-some}

first_node : (count : ℕ) → 1 ≤ count → nat_lt 0 count ≡ true
first_node count some = grind (arith, nat_tests)

-- the numbers below a count are not none
pub nodes_some : (s : Ids) (count : ℕ) → ((n : ℕ) → set.contains s n ≡ nat_lt n count) → 1 ≤ count → s ≢ set.empty
nodes_some s count each some e =
    false≢true (sym (contains-empty 0) ∙ ap (λ t. set.contains t 0) (sym e) ∙ each 0 ∙ first_node count some)

-- named nodes are homes where there is one
pub named_homes :
    (m : Layout) (s nodes : Ids) → (s ≡ set.empty → ⊥) → ((n : ℕ) → set.contains nodes n ≡ nat_lt n (node_count m))
    → ((n : ℕ) → set.contains s n ≡ true → set.contains nodes n ≡ true) → AreHomes m s
named_homes m s nodes some each known = record {
  some = some;
  nodes = λ h has. ltb-true h (node_count m) (sym (each h) ∙ known h has);
}

-- all nodes are homes
pub all_homes : (m : Layout) (nodes : Ids) → IsSound m → ((n : ℕ) → set.contains nodes n ≡ nat_lt n (node_count m)) → AreHomes m nodes
all_homes m nodes sound each =
    named_homes m nodes nodes (nodes_some nodes (node_count m) each sound.some) each (λ n has. has)

pub ruleset home_nodes = (is_empty-empty, is_empty-some, named_homes, all_homes)
