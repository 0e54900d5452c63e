-- CPUs are of one node just where the same node is written at each of them.
use Rattle.std.proofs.Common.{◌≡◌, ℕ, Bool, true, false, not, ◌&&◌, List, get_or, refl, sym, ap, ◌∙◌, eq-eqb}
use Rattle.std.specs.Prelude.{◌↔◌, IsTrue, Some, unwrap_or}
use Rattle.std.specs.List.{list_any}
use Rattle.std.proofs.lemmas.Bool.{false≢true, and_parts}
use Rattle.std.proofs.lemmas.List.{get_or_default}
use Rattle.std.proofs.lemmas.List.Folds.{Any-from_list_any, list_any_at}
use Rattle.std.specs.FinSet as set
use Rattle.std.specs.Ordering.{nat_cmp}
use Rattle.cpu_set.specs.Ids.{Ids, is_empty, NoneFrom, IsFirstFrom}
use Rattle.cpu_set.specs.LeastLaws.{least-first}
use Rattle.cpu_set.specs.Members.{IsCpu}
use Rattle.cpu_set.specs.PointwiseLaws.{contains-empty, is_subset-contains, contains-is_subset}
use Rattle.cpu_set.specs.SetLaws.{empty_of_none, is_empty-some}
use Rattle.machine.proofs.CoreLaws.{left_and, one_of_two}
use Rattle.cpu_set.specs.Least.{least_of}
use Rattle.machine.specs.CoresFault.{is_within, is_core}
use Rattle.machine.specs.Index.{ArePlaces}
use Rattle.machine.specs.Present.{union_of}
use Rattle.machine.specs.NodeLaws.{found_in}

of_one :
    (nodes : List Ids) (places : List ℕ) (core : Ids) (least : ℕ) → ArePlaces nodes places → set.is_subset core (union_of nodes) ≡ true
    → set.contains core least ≡ true → ((c : ℕ) → set.contains core c ≡ true → get_or places c 0 ≡ get_or places least 0)
    → list_any (λ node. set.is_subset core node) nodes ≡ true
of_one nodes places core least are within has each =
    let at = found_in nodes least (is_subset-contains core _ within least has) in
    let here : get_or places least 0 ≡ at.0 = are.placed least at.0 at.1 at.2 in
    list_any_at (λ node. set.is_subset core node) nodes at.0 set.empty at.1
    (contains-is_subset core _ (λ c in_core.
    let other = found_in nodes c (is_subset-contains core _ within c in_core) in
    let same : other.0 ≡ at.0 = sym (are.placed c other.0 other.1 other.2) ∙ each c in_core ∙ here in
    ap (λ i. set.contains (get_or nodes i set.empty) c) (sym same) ∙ other.2))

one_place :
    (nodes : List Ids) (places : List ℕ) (core : Ids) (least : ℕ) → ArePlaces nodes places → set.contains core least ≡ true
    → list_any (λ node. set.is_subset core node) nodes ≡ true
    → (c : ℕ) → set.contains core c ≡ true → get_or places c 0 ≡ get_or places least 0
one_place nodes places core least are has of_node c in_core =
    let found = Any-from_list_any (λ node. set.is_subset core node) nodes of_node in
    let same : get_or nodes found.0 set.empty ≡ found.1 = get_or_default nodes found.0 set.empty found.1 found.2 ∙ found.3 in
    let at : (q : ℕ) → set.contains core q ≡ true → get_or places q 0 ≡ found.0 =
    λ q in_it. are.placed q found.0 found.2 (ap (λ s. set.contains s q) same ∙ is_subset-contains core found.1 found.4 q in_it) in
    at c in_core ∙ sym (at least has)

pub one_node_test :
    (nodes : List Ids) (places : List ℕ) (core : Ids) (least : ℕ) (b : Bool) → ArePlaces nodes places → set.is_subset core (union_of nodes) ≡ true
    → set.contains core least ≡ true
    → (IsTrue b ↔ ((c : ℕ) → set.contains core c ≡ true → get_or places c 0 ≡ get_or places least 0))
    → list_any (λ node. set.is_subset core node) nodes ≡ b
one_node_test nodes places core least true are within has says = of_one nodes places core least are within has (says.0 refl)
one_node_test nodes places core least false are within has says = by_any (list_any (λ node. set.is_subset core node) nodes) refl
  where
    by_any : (b : Bool) → list_any (λ node. set.is_subset core node) nodes ≡ b → b ≡ false
    by_any true is = absurd (false≢true (says.1 (one_place nodes places core least are has is)))
    by_any false is = refl

-- ---- the test of a core, part by part

and_false : (a b : Bool) → b ≡ false → (a && b) ≡ false
and_false true b e = e
and_false false b e = refl

pub is_core-empty : (nodes : List Ids) (reserved : Ids) (size : ℕ) (left core : Ids) → is_empty core ≡ true → is_core nodes reserved size left core ≡ false
is_core-empty nodes reserved size left core none = rw none refl

false_and : (a b c : Bool) → b ≡ false → (a && b && c) ≡ false
false_and true b c e = rw e refl
false_and false b c e = refl

pub is_core-outside : (nodes : List Ids) (reserved : Ids) (size : ℕ) (left core : Ids) → is_within reserved size left core ≡ false → is_core nodes reserved size left core ≡ false
is_core-outside nodes reserved size left core outside = false_and (not (is_empty core)) (is_within reserved size left core) _ outside

pub is_core-two_nodes :
    (nodes : List Ids) (reserved : Ids) (size : ℕ) (left core : Ids) → list_any (λ node. set.is_subset core node) nodes ≡ false → is_core nodes reserved size left core ≡ false
is_core-two_nodes nodes reserved size left core two = and_false (not (is_empty core) && is_within reserved size left core) _ two

pub is_core-all :
    (nodes : List Ids) (reserved : Ids) (size : ℕ) (left core : Ids) → is_empty core ≡ false → is_within reserved size left core ≡ true
    → list_any (λ node. set.is_subset core node) nodes ≡ true → is_core nodes reserved size left core ≡ true
is_core-all nodes reserved size left core some within one = rw (some, within, one) refl

pub is_core-none : (nodes : List Ids) (reserved : Ids) (size : ℕ) (left core : Ids) → NoneFrom core 0 → is_core nodes reserved size left core ≡ false
is_core-none nodes reserved size left core none =
    is_core-empty nodes reserved size left core (ap is_empty (empty_of_none core none) ∙ eq-eqb _ _ (set.len-empty nat_cmp))

some_empty : (core : Ids) (c : ℕ) → set.contains core c ≡ true → is_empty core ≡ false
some_empty core c has = is_empty-some core (λ none. false≢true (sym (contains-empty c) ∙ ap (λ s. set.contains s c) (sym none) ∙ has))

-- the CPUs of a core are within all that are left
is_within-left : (reserved : Ids) (size : ℕ) (left core all : Ids) → is_within reserved size left core ≡ true → set.is_subset left all ≡ true → set.is_subset core all ≡ true
is_within-left reserved size left core all within left_within =
    let sides = left_and left reserved core (one_of_two _ _ (and_parts _ _ within).1) in
    contains-is_subset core all (λ c has. is_subset-contains left all left_within c (sides.0 c has))

pub is_core-apart :
    (nodes : List Ids) (reserved : Ids) (size : ℕ) (left core : Ids) (places : List ℕ) (least : ℕ) (b : Bool)
    → ArePlaces nodes places → set.is_subset left (union_of nodes) ≡ true → is_within reserved size left core ≡ true → set.contains core least ≡ true
    → (IsTrue b ↔ ((c : ℕ) → set.contains core c ≡ true → get_or places c 0 ≡ get_or places least 0)) → is_core nodes reserved size left core ≡ b
is_core-apart nodes reserved size left core places least b are left_within within has says =
    let one = one_node_test nodes places core least b are (is_within-left reserved size left core _ within left_within) has says in
    rw (some_empty core least has, within, one) refl

-- the first CPU of a core is its least
pub first_is_least : (core : Ids) (n : ℕ) → IsFirstFrom core 0 n → IsCpu n → n ≡ least_of core
first_is_least core n first is_cpu = ap (λ o. unwrap_or o 0) (sym (least-first core (set.contains core) (Some n) (λ k _. refl) (first, is_cpu)))
