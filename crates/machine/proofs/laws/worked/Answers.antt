-- Each set by its members, which are then evaluated.
use Rattle.std.proofs.Common.{◌≡◌, ℕ, Bool, false, ◌&&◌, not, [], ◌∷◌, filter, ap, min, map}
use Rattle.std.specs.Prelude.{◌==◌, find, fold, option_map}
use Rattle.std.specs.Ordering.{nat_cmp}
use Rattle.std.specs.FinSet as set
use Rattle.std.specs.FinSet.{contains-from_list_nat}
use Rattle.faults.specs.First.{when, first_below}
use Rattle.cpu_set.specs.Members.{cpus}
use Rattle.machine.specs.CoresFault.{core_fault, first_core_fault, left_fault}
use Rattle.machine.specs.Layout.{distance}
use Rattle.machine.specs.NodesFault.{twice_fault}
use Rattle.machine.specs.Weight.{weight}
use Rattle.machine.specs.Worked.{ids, two_nodes, two_sockets}
use Rattle.machine.specs.declared.fault.MachineFault.TheVariants.{BadCore, CpuTwice, NoCore}
use Rattle.machine.proofs.PlaceLaws.{is_core-empty, is_core-outside}
use Rattle.machine.proofs.SmallSets.{contains-two, contains-three, has_cores, has_whole, len-one, node_0, node_1, node_is}
use Rattle.machine.proofs.laws.worked.Goals as goal

pub returns-clause-cores : goal.returns-clause-cores
unfolding cpus
returns-clause-cores c i = filter (λ q. has_cores (1 ∷ 2 ∷ 5 ∷ 7 ∷ []) q i) cpus

pub returns-clause-whole : goal.returns-clause-whole
unfolding cpus
returns-clause-whole c i = filter (λ q. has_whole (1 ∷ 2 ∷ 5 ∷ 7 ∷ []) q i) cpus

pub returns-clause-near : goal.returns-clause-near
unfolding cpus weight
returns-clause-near c i = fold min 255 (map (distance two_sockets (node_is 1 i)) (filter (λ q. contains-from_list_nat (0 ∷ []) q i) cpus))

pub returns-clause-far : goal.returns-clause-far
unfolding cpus weight
returns-clause-far c i = fold min 255 (map (distance two_sockets (node_is 6 i)) (filter (λ q. contains-from_list_nat (0 ∷ []) q i) cpus))

pub returns-clause-nearest : goal.returns-clause-nearest
unfolding cpus weight
returns-clause-nearest c i = fold min 255 (map (distance two_sockets (node_is 6 i)) (filter (λ q. contains-from_list_nat (0 ∷ 1 ∷ []) q i) cpus))

pub returns-clause-twice : goal.returns-clause-twice
unfolding cpus twice_fault
returns-clause-twice c i =
    option_map CpuTwice (find (λ q. contains-from_list_nat (3 ∷ 4 ∷ 7 ∷ []) q i && contains-from_list_nat (0 ∷ 3 ∷ 4 ∷ []) q i) cpus)

pub returns-clause-no_cpu : goal.returns-clause-no_cpu
unfolding first_below first_core_fault core_fault
returns-clause-no_cpu c = ap (λ b. first_below 1 (λ k. when (not b) (BadCore k))) (is_core-empty two_nodes (ids (0 ∷ 4 ∷ [])) _ _ set.empty (ap (λ n. n == 0) (set.len-empty nat_cmp)))

other_size : (n : ℕ) (b : Bool) → n ≡ 1 → ((n == 2) && b) ≡ false
other_size n b is = ap (λ k. (k == 2) && b) is

pub returns-clause-other_count : goal.returns-clause-other_count
unfolding core_fault
returns-clause-other_count c = ap (λ b. when (not b) (BadCore 1)) (is_core-outside two_nodes (ids (0 ∷ 4 ∷ [])) 2 (ids (1 ∷ 5 ∷ [])) (ids (1 ∷ [])) (other_size _ _ (len-one 1)))

pub returns-clause-no_core : goal.returns-clause-no_core
unfolding cpus left_fault
returns-clause-no_core c i =
    option_map NoCore (find (λ q. contains-two node_0 node_1 q i && not (contains-three (0 ∷ 4 ∷ []) (1 ∷ 5 ∷ []) (2 ∷ 6 ∷ []) q i)) cpus)
