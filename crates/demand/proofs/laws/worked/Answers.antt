-- Each row is evaluated.
use Rattle.std.proofs.Common.{◌≡◌, ℕ, true, false, ◌&&◌, ◌||◌, nat_lt, nat_le, nat_eq, [], ◌∷◌, codes, Some, None, refl, lit≤, lit<, arith}
use Rattle.std.proofs.lemmas.Bool.Decides.{nat_tests}
use Rattle.std.specs.FinSet as set
use Rattle.cpu_set.specs.Ids.{is_empty}
use Rattle.cpu_set.specs.Members.{cpus}
use Rattle.cpu_set.specs.ListedSetLemmas.{len-listed}
use Rattle.cpu_list.specs.ListText.{item_of, number_of, range_of}
use Rattle.machine.specs.Nodes.{nodes_of}
use Rattle.demand.specs.Named.{named}
use Rattle.demand.specs.DemandFaultOf.{cpus_fault, mems_fault, quota_fault, allowed_fault}
use Rattle.demand.specs.Allowed.{allowed_by, allowed_of}
use Rattle.demand.specs.Homes.{homes_of}
use Rattle.demand.specs.Worked.{two_nodes, with_cpus}
use Rattle.demand.specs.declared.fault.DemandFault.TheVariants.{NoSuchNode, NothingAllowed}
use Rattle.demand.proofs.ListedCpus.{those-listed, named-listed, least_other-listed, present-listed, allowed_1_2, whole_1_2, allowed_none, whole_none}
use Rattle.demand.proofs.laws.worked.Goals as goal

pub returns-clause-rounded_up : goal.returns-clause-rounded_up
returns-clause-rounded_up c = record { whole = (2, refl); enough = lit≤ tt; no_more = lit< tt }

pub returns-clause-whole_cores : goal.returns-clause-whole_cores
returns-clause-whole_cores c = record { whole = (2, refl); enough = lit≤ tt; no_more = lit< tt }

pub returns-clause-largest : goal.returns-clause-largest
unfolding quota_fault
returns-clause-largest c = refl

pub returns-clause-too_large : goal.returns-clause-too_large
unfolding quota_fault
returns-clause-too_large c = refl

none_named : is_empty (named None) ≡ true
unfolding named
none_named = rw (len-listed []) refl

nodes_named : named (Some (codes "1")) ≡ set.from_list (1 ∷ [])
unfolding item_of number_of range_of
nodes_named = named-listed (codes "1") (1 ∷ []) same
  where
    same : (q : ℕ) → (nat_lt q 4096 && ((nat_le 1 q && nat_le q 1) || false)) ≡ (nat_eq 1 q || false)
    same q = grind (arith, nat_tests)

all_nodes : nodes_of two_nodes ≡ set.from_list (0 ∷ 1 ∷ [])
all_nodes = those-listed (λ _. true) 2 (0 ∷ 1 ∷ []) same
  where
    same : (q : ℕ) → (nat_lt q 2 && true) ≡ (nat_eq 0 q || (nat_eq 1 q || false))
    same q = grind (arith, nat_tests)

pub returns-clause-homes : goal.returns-clause-homes
returns-clause-homes c = rw nodes_named (rw (len-listed (1 ∷ [])) refl)

pub returns-clause-all_homes : goal.returns-clause-all_homes
returns-clause-all_homes c = rw (none_named, all_nodes) refl

pub returns-clause-bad_cpus : goal.returns-clause-bad_cpus
unfolding item_of number_of range_of cpus_fault
returns-clause-bad_cpus c = refl

named_2_9 : named (Some (codes "2,9")) ≡ set.from_list (2 ∷ 9 ∷ [])
unfolding item_of number_of range_of
named_2_9 = named-listed (codes "2,9") (2 ∷ 9 ∷ []) same
  where
    same : (q : ℕ) → (nat_lt q 4096 && ((nat_le 2 q && nat_le q 2) || ((nat_le 9 q && nat_le q 9) || false))) ≡ (nat_eq 2 q || (nat_eq 9 q || false))
    same q = grind (arith, nat_tests)

pub returns-clause-no_such_cpu : goal.returns-clause-no_such_cpu
unfolding item_of number_of range_of cpus_fault
returns-clause-no_such_cpu c = rw (named_2_9, present-listed, least_other-listed (2 ∷ 9 ∷ []) (0 ∷ 1 ∷ 2 ∷ 3 ∷ [])) (unfold cpus in refl)

named_none : named None ≡ set.from_list []
unfolding named
named_none = refl

cpus_right : cpus_fault two_nodes None ≡ None
unfolding cpus_fault
cpus_right = rw (named_none, present-listed, least_other-listed [] (0 ∷ 1 ∷ 2 ∷ 3 ∷ [])) (unfold cpus in refl)

mems_right : mems_fault two_nodes None ≡ None
unfolding mems_fault
mems_right = rw (named_none, all_nodes, least_other-listed [] (0 ∷ 1 ∷ [])) (unfold cpus in refl)

named_0_2 : named (Some (codes "0,2")) ≡ set.from_list (0 ∷ 2 ∷ [])
unfolding item_of number_of range_of
named_0_2 = named-listed (codes "0,2") (0 ∷ 2 ∷ []) same
  where
    same : (q : ℕ) → (nat_lt q 4096 && ((nat_le 0 q && nat_le q 0) || ((nat_le 2 q && nat_le q 2) || false))) ≡ (nat_eq 0 q || (nat_eq 2 q || false))
    same q = grind (arith, nat_tests)

no_such_node : mems_fault two_nodes (Some (codes "0,2")) ≡ Some (NoSuchNode 2)
unfolding item_of number_of range_of mems_fault
no_such_node = rw (named_0_2, all_nodes, least_other-listed (0 ∷ 2 ∷ []) (0 ∷ 1 ∷ [])) (unfold cpus in refl)

pub returns-clause-no_such_node : goal.returns-clause-no_such_node
returns-clause-no_such_node c = rw (cpus_right, no_such_node) refl

homes_are : homes_of two_nodes None ≡ set.from_list (0 ∷ 1 ∷ [])
homes_are = rw (none_named, all_nodes) refl

named_0-2 : named (Some (codes "0-2")) ≡ set.from_list (0 ∷ 1 ∷ 2 ∷ [])
unfolding item_of number_of range_of
named_0-2 = named-listed (codes "0-2") (0 ∷ 1 ∷ 2 ∷ []) same
  where
    same : (q : ℕ) → (nat_lt q 4096 && ((nat_le 0 q && nat_le q 2) || false)) ≡ (nat_eq 0 q || (nat_eq 1 q || (nat_eq 2 q || false)))
    same q = grind (arith, nat_tests)

pub returns-clause-allowed : goal.returns-clause-allowed
unfolding allowed_by
returns-clause-allowed c = rw (named_0-2, homes_are, allowed_1_2) whole_1_2

named_0 : named (Some (codes "0")) ≡ set.from_list (0 ∷ [])
unfolding item_of number_of range_of
named_0 = named-listed (codes "0") (0 ∷ []) same
  where
    same : (q : ℕ) → (nat_lt q 4096 && ((nat_le 0 q && nat_le q 0) || false)) ≡ (nat_eq 0 q || false)
    same q = grind (arith, nat_tests)

cpus_right_0 : cpus_fault two_nodes (Some (codes "0")) ≡ None
unfolding item_of number_of range_of cpus_fault
cpus_right_0 = rw (named_0, present-listed, least_other-listed (0 ∷ []) (0 ∷ 1 ∷ 2 ∷ 3 ∷ [])) (unfold cpus in refl)

no_quota : quota_fault 1 None None ≡ None
unfolding quota_fault
no_quota = refl

allowed_0 : allowed_of two_nodes (with_cpus (codes "0")) ≡ set.from_list []
unfolding allowed_by
allowed_0 = rw (named_0, homes_are, allowed_none) whole_none

none_allowed : allowed_fault two_nodes (with_cpus (codes "0")) ≡ Some NothingAllowed
unfolding allowed_fault
none_allowed = rw (allowed_0, named_0, len-listed (0 ∷ []), len-listed []) refl

pub returns-clause-nothing_allowed : goal.returns-clause-nothing_allowed
returns-clause-nothing_allowed c = rw (cpus_right_0, mems_right, no_quota, none_allowed) refl
