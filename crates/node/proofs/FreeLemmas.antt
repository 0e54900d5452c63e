-- The CPUs that a new container may request.
use Rattle.std.proofs.Common.{◌≡◌, ◌≢◌, ℕ, Bool, true, false, not, ◌&&◌, ◌||◌, List, [], ◌∷◌, refl, sym, ap, ◌∙◌, subst, arith}
use Rattle.std.proofs.lemmas.Bool.{false≢true, ne_eqb, or_right}
use Rattle.std.specs.Prelude.{Option, Some, None, is_some, MatchOption, Result, Err}
use Rattle.std.specs.List.{AllByRecursion, list_any}
use Rattle.std.specs.FinSet as set
use Rattle.cpu_set.specs.Ids.{Ids, NoneFrom, IsFirstFrom}
use Rattle.cpu_set.specs.PointwiseLaws.{contains-empty, contains-union, contains-intersection, contains-difference, is_subset-contains}
use Rattle.cpuset_tree.specs.Groups.{has_group}
use Rattle.kernel_model.specs.KernelState.{KernelState}
use Rattle.machine.specs.Present.{present}
use Rattle.faults.specs.declared.OrMemory.{OrMemory}
use Rattle.faults.specs.declared.OrMemory.TheVariants.{Fault}
use Rattle.node.specs.declared.fault.NodeFault.{NodeFault}
use Rattle.node.specs.declared.fault.NodeFault.TheVariants.{NotFree}
use Rattle.node.specs.NodeState.{ContainerState, NodeState}
use Rattle.node.specs.Rows.{requested_by}
use Rattle.node.specs.Status.{is_live}
use Rattle.node.specs.Owners.{is_pinned, owners_of}
use Rattle.node.specs.IsNode.{IsNode}
use Rattle.node.specs.Refusals.{IsTakenFrom}
use Rattle.node.specs.Calls.{Places, Creates}
use Rattle.node.specs.MayRequest.{keeps, is_free_cpu, AreFreeCpus, MayRequest, IsLeastTaken}
use Rattle.node.proofs.LaunchLemmas.{IsClear, MayHold}
use Rattle.std.proofs.Math.Bool.{and-false, or_assoc, or-false}
use Rattle.faults.specs.TestLaws.{without, without_parts}

all_true : (a b c : Bool) → a ≡ true → b ≡ true → c ≡ true → (a && (b && c)) ≡ true
all_true true true true p q r = refl
all_true true true false p q r = r
all_true true false c p q r = q
all_true false b c p q r = p

first_of_two : (a b : Bool) → a ≡ true → (a || b) ≡ true
first_of_two true b e = refl
first_of_two false b e = absurd (false≢true e)

-- a CPU that may be requested and is kept is reserved
kept_is_reserved : (present reserved kept : Bool) → (present && (reserved || not kept)) ≡ true → kept ≡ true → reserved ≡ true
kept_is_reserved true true kept free is = refl
kept_is_reserved true false true free is = free
kept_is_reserved true false false free is = is
kept_is_reserved false reserved kept free is = absurd (false≢true free)

-- what one container keeps
module _ (k : KernelState) (pinned : Bool) (cpu : ℕ) (e : List ℕ × ContainerState) where
  pub keeps_dead : is_live k e.1 ≡ false → keeps k pinned cpu e ≡ false
  keeps_dead dead = ap (λ b. b && ((is_pinned e.1.demand.kind || pinned) && set.contains (requested_by k e) cpu)) dead

  pub keeps_shared : is_pinned e.1.demand.kind ≡ false → pinned ≡ false → keeps k pinned cpu e ≡ false
  keeps_shared shared also =
      ap (λ b. is_live k e.1 && ((b || pinned) && set.contains (requested_by k e) cpu)) shared
      ∙ ap (λ b. is_live k e.1 && (b && set.contains (requested_by k e) cpu)) also
      ∙ and-false (is_live k e.1)

  pub keeps_unrequested : set.contains (requested_by k e) cpu ≡ false → keeps k pinned cpu e ≡ false
  keeps_unrequested none =
      ap (λ b. is_live k e.1 && ((is_pinned e.1.demand.kind || pinned) && b)) none
      ∙ ap (λ b. is_live k e.1 && b) (and-false (is_pinned e.1.demand.kind || pinned))
      ∙ and-false (is_live k e.1)

second_false : (a b : Bool) → a ≡ true → (a && b) ≡ false → b ≡ false
second_false true b p none = none
second_false false b p none = absurd (false≢true p)

-- of two sets that have no CPU in common, the second has none of the first
pub none_common : (found : Option ℕ) (asked other : Ids) → is_some found ≡ false
    → MatchOption found (NoneFrom (set.intersection asked other) 0) (λ n. IsFirstFrom (set.intersection asked other) 0 n)
    → (cpu : ℕ) → set.contains asked cpu ≡ true → set.contains other cpu ≡ false
none_common None asked other none first cpu there =
    second_false (set.contains asked cpu) (set.contains other cpu) there (sym (contains-intersection asked other cpu) ∙ first cpu (omega arith))
none_common (Some n) asked other none first cpu there = absurd (false≢true (sym none))

-- of the CPUs that are asked for: what is kept so far, and what those that are left keep, is what all keep
pub record KeptSoFar (k : KernelState) (pinned : Bool) (asked : Ids) (all left : List (List ℕ × ContainerState)) (kept : Ids) : Type 0 where
  pub whole : (cpu : ℕ) → set.contains asked cpu ≡ true → (set.contains kept cpu || list_any (keeps k pinned cpu) left) ≡ list_any (keeps k pinned cpu) all
  pub placed : AllByRecursion (λ e. has_group k.tree e.1.group ≡ true) left

module _ (k : KernelState) (pinned : Bool) (asked : Ids) (all : List (List ℕ × ContainerState)) where
  pub kept_first : (kept : Ids) → kept ≡ set.empty → AllByRecursion (λ e. has_group k.tree e.1.group ≡ true) all → KeptSoFar k pinned asked all all kept
  kept_first kept none placed = record {
    whole = λ cpu there.
        ap (λ s. set.contains s cpu || list_any (keeps k pinned cpu) all) none ∙ ap (λ b. b || list_any (keeps k pinned cpu) all) (contains-empty cpu);
    placed = placed;
  }

  pub kept_next : (e : List ℕ × ContainerState) (left : List (List ℕ × ContainerState)) (kept own new : Ids) → KeptSoFar k pinned asked all (e ∷ left) kept
      → ((cpu : ℕ) → set.contains own cpu ≡ keeps k pinned cpu e) → new ≡ set.union kept own → KeptSoFar k pinned asked all left new
  kept_next e left kept own new so_far its is = record {
    whole = λ cpu there.
        ap (λ s. set.contains s cpu || list_any (keeps k pinned cpu) left) is
        ∙ ap (λ b. b || list_any (keeps k pinned cpu) left) (contains-union kept own cpu)
        ∙ ap (λ b. (set.contains kept cpu || b) || list_any (keeps k pinned cpu) left) (its cpu)
        ∙ or_assoc (set.contains kept cpu) (keeps k pinned cpu e) (list_any (keeps k pinned cpu) left)
        ∙ so_far.whole cpu there;
    placed = so_far.placed.1;
  }

  -- one that keeps none of those that are asked for is passed over
  pub kept_passed : (e : List ℕ × ContainerState) (left : List (List ℕ × ContainerState)) (kept : Ids) → KeptSoFar k pinned asked all (e ∷ left) kept
      → ((cpu : ℕ) → set.contains asked cpu ≡ true → keeps k pinned cpu e ≡ false) → KeptSoFar k pinned asked all left kept
  kept_passed e left kept so_far none = record {
    whole = λ cpu there. ap (λ b. set.contains kept cpu || (b || list_any (keeps k pinned cpu) left)) (sym (none cpu there)) ∙ so_far.whole cpu there;
    placed = so_far.placed.1;
  }

  pub kept_last : (left : List (List ℕ × ContainerState)) (kept : Ids) → KeptSoFar k pinned asked all left kept → left ≡ [] → (cpu : ℕ) → set.contains asked cpu ≡ true
      → set.contains kept cpu ≡ list_any (keeps k pinned cpu) all
  kept_last left kept so_far none cpu there =
      sym (or-false (set.contains kept cpu)) ∙ ap (λ (xs : List (List ℕ × ContainerState)). set.contains kept cpu || list_any (keeps k pinned cpu) xs) (sym none) ∙ so_far.whole cpu there

module _ (n : NodeState) (h : IsNode n) (pinned : Bool) (cpus : Ids) (may : MayRequest n pinned cpus) where
  kept_reserved : (cpu : ℕ) → set.contains cpus cpu ≡ true → list_any (keeps n.kernel pinned cpu) n.containers ≡ true → set.contains n.kernel.reserved cpu ≡ true
  kept_reserved cpu there kept =
      ap (λ s. set.contains s cpu) h.machine.reserved
      ∙ kept_is_reserved (set.contains (present n.machine) cpu) (set.contains n.machine.reserved cpu) (list_any (keeps n.kernel pinned cpu) n.containers) (may.free cpu there) kept

  clear_in : (xs : List (List ℕ × ContainerState))
      → ((cpu : ℕ) → list_any (keeps n.kernel pinned cpu) xs ≡ true → list_any (keeps n.kernel pinned cpu) n.containers ≡ true)
      → AllByRecursion (IsClear n.kernel pinned cpus) (owners_of xs)
  clear_in [] within = tt
  clear_in (x ∷ xs) within = (
    λ live one cpu has there. kept_reserved cpu there
        (within cpu (first_of_two (keeps n.kernel pinned cpu x) (list_any (keeps n.kernel pinned cpu) xs) (all_true _ _ _ live one has))),
    clear_in xs (λ cpu kept. within cpu (or_right (keeps n.kernel pinned cpu x) (list_any (keeps n.kernel pinned cpu) xs) kept)),
  )

  -- what a new container may request may be held beside the others
  pub may_hold : MayHold n.kernel (owners_of n.containers) pinned cpus
  may_hold = record {
    some = ne_eqb (set.len cpus) 0 (λ none. may.some (set.empty_of_len cpus none));
    clear = clear_in n.containers (λ cpu kept. kept);
  }

by_tests : (asked reserved present kept : Bool) → (reserved ≡ true → present ≡ true)
    → ((asked && not reserved) && not (present && not kept)) ≡ (asked && not (present && (reserved || not kept)))
by_tests false reserved present kept within = refl
by_tests true true true kept within = refl
by_tests true true false kept within = absurd (false≢true (within refl))
by_tests true false present kept within = refl

-- what is asked of a CPU that is not among those does not count
where_asked : (asked present kept told : Bool) → (asked ≡ true → kept ≡ told) → (asked && not (present && not kept)) ≡ (asked && not (present && not told))
where_asked true present kept told same = ap (λ b. not (present && not b)) (same refl)
where_asked false present kept told same = refl

both_true : (a b : Bool) → a ≡ true → b ≡ true → (a && b) ≡ true
both_true true b p q = q
both_true false b p q = p

-- a reserved CPU may always be requested
reserved_free : (n : NodeState) (pinned : Bool) → set.is_subset n.machine.reserved (present n.machine) ≡ true → (cpu : ℕ) → set.contains n.machine.reserved cpu ≡ true
    → is_free_cpu n pinned cpu ≡ true
reserved_free n pinned within cpu reserved =
    both_true _ _ (is_subset-contains n.machine.reserved (present n.machine) within cpu reserved)
    (first_of_two (set.contains n.machine.reserved cpu) (not (list_any (keeps n.kernel pinned cpu) n.containers)) reserved)

-- so that `create` never finds one taken
pub never_taken : (old : NodeState) (id bundle config : List ℕ) (r : Result ℕ (OrMemory NodeFault)) (new : NodeState)
    → set.is_subset old.machine.reserved (present old.machine) ≡ true → Creates old id bundle config r new → (cpu : ℕ) → r ≢ Err (Fault (NotFree cpu))
never_taken old id bundle config r new within made cpu is =
    let cause : IsTakenFrom old.machine.reserved old id config cpu × (new ≡ old) = subst (λ (x : Result ℕ (OrMemory NodeFault)). Creates old id bundle config x new) is made in
    let taken = cause.0.taken in
    absurd (false≢true (sym taken.taken ∙ reserved_free old (is_pinned cause.0.asked.kind) within cpu taken.there))

-- those that are asked for and may not be requested, as they are worked out
module _ (n : NodeState) (pinned : Bool) (cpus kept : Ids) (within : set.is_subset n.machine.reserved (present n.machine) ≡ true) where
  abbrev others : Ids
  others = set.difference cpus n.machine.reserved

  abbrev free : Ids
  free = set.difference (present n.machine) kept

  reserved_present : (cpu : ℕ) → set.contains n.machine.reserved cpu ≡ true → set.contains (present n.machine) cpu ≡ true
  reserved_present = is_subset-contains n.machine.reserved (present n.machine) within

  -- where all are reserved, all may be requested
  pub all_reserved : others ≡ set.empty → AreFreeCpus n pinned cpus
  all_reserved none cpu there =
      let out : (set.contains cpus cpu && not (set.contains n.machine.reserved cpu)) ≡ false =
      sym (contains-difference cpus n.machine.reserved cpu) ∙ ap (λ s. set.contains s cpu) none ∙ contains-empty cpu in
      let reserved : set.contains n.machine.reserved cpu ≡ true = without _ _ out there in
      reserved_free n pinned within cpu reserved

  module _ (kept_is : (cpu : ℕ) → set.contains others cpu ≡ true → set.contains kept cpu ≡ list_any (keeps n.kernel pinned cpu) n.containers) where
    taken : (cpu : ℕ) → set.contains (set.difference others free) cpu ≡ (set.contains cpus cpu && not (is_free_cpu n pinned cpu))
    taken cpu =
        contains-difference others free cpu
        ∙ ap (λ b. set.contains others cpu && not b) (contains-difference (present n.machine) kept cpu)
        ∙ where_asked (set.contains others cpu) (set.contains (present n.machine) cpu) (set.contains kept cpu) (list_any (keeps n.kernel pinned cpu) n.containers) (kept_is cpu)
        ∙ ap (λ b. b && not (set.contains (present n.machine) cpu && not (list_any (keeps n.kernel pinned cpu) n.containers))) (contains-difference cpus n.machine.reserved cpu)
        ∙ by_tests (set.contains cpus cpu) (set.contains n.machine.reserved cpu) (set.contains (present n.machine) cpu)
        (list_any (keeps n.kernel pinned cpu) n.containers) (reserved_present cpu)

    pub none_taken : NoneFrom (set.difference others free) 0 → AreFreeCpus n pinned cpus
    none_taken none cpu there = without _ _ (sym (taken cpu) ∙ none cpu (omega arith)) there

    pub least_taken : (cpu : ℕ) → IsFirstFrom (set.difference others free) 0 cpu → IsLeastTaken n pinned cpus cpu
    least_taken cpu first =
        let its = without_parts _ _ (sym (taken cpu) ∙ first.member) in
        record {
          there = its.0;
          taken = its.1;
          least = λ lower below there. without _ _ (sym (taken lower) ∙ first.least lower (omega arith) below) there;
        }

-- the same as the code has it, of the node as it is within
module _ (n now : NodeState) (is : n ≡ now) (pinned : Bool) (cpus reserved : Ids) (reserve : reserved ≡ n.machine.reserved)
    (within : set.is_subset reserved (present n.machine) ≡ true) (beside : Ids) (beside_is : beside ≡ set.difference cpus reserved) where
  within_present : set.is_subset n.machine.reserved (present n.machine) ≡ true
  within_present = subst (λ r. set.is_subset r (present n.machine) ≡ true) reserve within

  beside_others : beside ≡ set.difference cpus n.machine.reserved
  beside_others = beside_is ∙ ap (set.difference cpus) reserve

  pub none_taken_by : beside ≡ set.empty → AreFreeCpus now pinned cpus
  none_taken_by none =
      subst (λ (m : NodeState). AreFreeCpus m pinned cpus) is (all_reserved n pinned cpus set.empty within_present (sym beside_others ∙ none))

  module _ (kept : Ids) (kept_is : (cpu : ℕ) → set.contains beside cpu ≡ true → set.contains kept cpu ≡ list_any (keeps n.kernel pinned cpu) n.containers) (all : Ids) (all_is : all ≡ present n.machine)
      (free_cpus : Ids) (free_is : free_cpus ≡ set.difference all kept) (left : Ids) (left_is : left ≡ set.difference beside free_cpus) where
    kept_of_others : (cpu : ℕ) → set.contains (set.difference cpus n.machine.reserved) cpu ≡ true → set.contains kept cpu ≡ list_any (keeps n.kernel pinned cpu) n.containers
    kept_of_others cpu there = kept_is cpu (ap (λ s. set.contains s cpu) beside_others ∙ there)

    left_taken : left ≡ set.difference (set.difference cpus n.machine.reserved) (set.difference (present n.machine) kept)
    left_taken =
        left_is ∙ ap (λ s. set.difference s free_cpus) beside_others
        ∙ ap (set.difference (set.difference cpus n.machine.reserved)) (free_is ∙ ap (λ s. set.difference s kept) all_is)

    pub first_taken_by : (first : Option ℕ) → MatchOption first (NoneFrom left 0) (λ cpu. IsFirstFrom left 0 cpu)
        → MatchOption first (AreFreeCpus now pinned cpus) (λ cpu. IsLeastTaken now pinned cpus cpu)
    first_taken_by None none =
        subst (λ (m : NodeState). AreFreeCpus m pinned cpus) is
        (none_taken n pinned cpus kept within_present kept_of_others (subst (λ s. NoneFrom s 0) left_taken none))
    first_taken_by (Some cpu) first =
        subst (λ (m : NodeState). IsLeastTaken m pinned cpus cpu) is
        (least_taken n pinned cpus kept within_present kept_of_others cpu (subst (λ s. IsFirstFrom s 0 cpu) left_taken first))

-- `create`, as the code makes it
module _ (n now : NodeState) (is : n ≡ now) (id bundle config : List ℕ) (r : Result ℕ (OrMemory NodeFault)) (new : NodeState) (reserved : Ids)
    (reserve : reserved ≡ n.machine.reserved) (placed : Places reserved now id bundle config r new) where
  pub creates_by : Creates now id bundle config r new
  creates_by = subst (λ (c : Ids). Places c now id bundle config r new) (reserve ∙ ap (λ (m : NodeState). m.machine.reserved) is) placed

  pub never_by : set.is_subset reserved (present n.machine) ≡ true → (cpu : ℕ) → r ≢ Err (Fault (NotFree cpu))
  never_by within =
      let there : set.is_subset n.machine.reserved (present n.machine) ≡ true = subst (λ c. set.is_subset c (present n.machine) ≡ true) reserve within in
      never_taken now id bundle config r new (subst (λ (m : NodeState). set.is_subset m.machine.reserved (present m.machine) ≡ true) is there) creates_by
