-- The sets that the live pinned containers could have, as plans of cores of rows that are theirs, and what they cost in these.
use Rattle.std.proofs.Common.{◌≡◌, ℕ, suc, ◌*◌, ◌/◌, ◌<◌, ◌≤◌, true, false, Bool, cond, List, [], ◌∷◌, Some, None, is_some, refl, sym, ap, ◌∙◌, sum_by, arith}
use Rattle.std.proofs.Math.Nat.{mul-div_cancel}
use Rattle.std.proofs.lemmas.Bool.{cond-true, and_from, and_parts}
use Rattle.std.proofs.lemmas.List.Elements.{All-from_recursion, recursion_from_All, filter_passes}
use Rattle.std.proofs.lemmas.List.Kept.{AllPairs-cons}
use Rattle.std.proofs.lemmas.List.Sums.{sum_by-cons}
use Rattle.std.specs.Prelude.{map, unwrap_or, zip, AllPairs}
use Rattle.std.specs.List.{AllByRecursion, AllZip}
use Rattle.std.specs.FinSet as set
use Rattle.cpu_set.specs.Ids.{Ids, IsDisjoint}
use Rattle.cpu_set.specs.Members.{InRange, cpus, members}
use Rattle.cpu_set.specs.PointwiseLaws.{contains-intersection, is_subset-contains, contains-is_subset}
use Rattle.kernel_model.specs.KernelState.{KernelState}
use Rattle.machine.specs.Cores.{cores_in, cpus_of_cores, IsWhole}
use Rattle.machine.specs.CoreCountLaws.{cores_are_alike, cores_in_range, len-whole_in}
use Rattle.machine.specs.CoreSumLaws.{cores_weigh_alike, cores_are_near}
use Rattle.machine.specs.Layout.{Layout}
use Rattle.machine.specs.Present.{present, IsPresent}
use Rattle.machine.specs.Weight.{weight as distance_home}
use Rattle.machine.specs.WholeLaws.{AreLowest, whole_in-whole, cores_in-within, cores_in-lowest, cores_in-rise, cores_in-cpus_of_cores, cpus_of_cores-cores_in, cpus_of_cores-IsWhole, cpus_of_cores-apart, cpus_of_cores-within}
use Rattle.certificate.specs.RowView.{RowView}
use Rattle.certificate.specs.Weight.{weight}
use Rattle.certificate.specs.IsPlan.{Meets, IsPlan}
use Rattle.certificate.specs.Cost.{row_cost, cost}
use Rattle.rows.specs.RowOf.{available}
use Rattle.apply_plan.specs.Holders.{Pairwise}
use Rattle.node.specs.NodeState.{ContainerState, NodeState}
use Rattle.node.specs.IsNode.{IsMachine, IsNode}
use Rattle.node.specs.Rows.{as_cores, as_cpus}
use Rattle.node.specs.Best.{AreOwn, asking, wanted_by, CouldHave, distance, total_distance}
use Rattle.node.specs.Asking.{is_open}
use Rattle.node.proofs.ListLemmas.{all_of, pairs_map, pairs_of_map}

abbrev pub Container : Type 0
Container = List ℕ × ContainerState

-- a row asks for the cores that make as many CPUs as a container asks for; each core that the container may have weighs so much
-- in it, and no other has a weight
pub record IsWeighed (k : KernelState) (m : Layout) (f : Container → ℕ → ℕ) (row : RowView) (e : Container) : Type 0 where
  pub demand : wanted_by e.1.demand.kind ≡ row.demand * m.threads
  pub weights : (core : ℕ) → weight row core ≡ cond (is_open k m core e) (Some (f e core)) None

some_where : {A : Type 0} (b : Bool) (x : A) → is_some (cond b (Some x) None) ≡ b
some_where true x = refl
some_where false x = refl

-- sums of summands that are the same
pub same_sum : (f g : ℕ → ℕ) (xs : List ℕ) → AllByRecursion (λ x. f x ≡ g x) xs → sum_by f xs ≡ sum_by g xs
same_sum f g [] h = refl
same_sum f g (x ∷ xs) h = omega (arith, sum_by-cons f x xs, sum_by-cons g x xs, h.0, same_sum f g xs h.1)

-- what some is of one and of another number is the same
pub times_cancel : (a b t : ℕ) → 1 ≤ t → a * t ≡ b * t → a ≡ b
times_cancel a b t some same =
    let positive : 0 < t = omega (arith, some) in
    sym (mul-div_cancel a positive) ∙ ap (λ n. n / t) same ∙ mul-div_cancel b positive

-- what holds of each two of a list, one after the other
pub pairs_by_recursion : {X : Type 0} (R : X → X → Type 0) (xs : List X) → AllPairs R xs → Pairwise R xs
pairs_by_recursion R [] h = tt
pairs_by_recursion R (x ∷ xs) h = (
  recursion_from_All (R x) xs (λ k d within. h 0 (suc k) d (omega arith) (omega arith)),
  pairs_by_recursion R xs (λ i j d lt within. h (suc i) (suc j) d (omega arith) (omega arith)),
)

pairs_from_recursion : {X : Type 0} (R : X → X → Type 0) (xs : List X) → Pairwise R xs → AllPairs R xs
pairs_from_recursion R [] h = λ i j d lt within. absurd (omega arith)
pairs_from_recursion R (x ∷ xs) h = AllPairs-cons R x xs (All-from_recursion (R x) xs h.0) (pairs_from_recursion R xs h.1)

apart_mapped : (f : Ids → Ids) → ((s t : Ids) → IsDisjoint s t → IsDisjoint (f s) (f t)) → (sets : List Ids) → AllPairs IsDisjoint sets
    → AllPairs IsDisjoint (map f sets)
apart_mapped f stays sets apart =
    pairs_from_recursion IsDisjoint (map f sets)
    (pairs_of_map f IsDisjoint sets
    (pairs_map (λ s. Unit {0}) IsDisjoint (λ s t. IsDisjoint (f s) (f t)) (λ s t _ _ d. stays s t d) sets (all_of (λ s. Unit {0}) (λ s. tt) sets)
    (pairs_by_recursion IsDisjoint sets apart)))

-- ---- whole sets and their cores

module _ (m : Layout) (h : IsMachine m) where
  abbrev IsThere : Ids → Type 0
  IsThere s = (c : ℕ) → set.contains s c ≡ true → IsPresent m c

  within_present : (s : Ids) → IsThere s → set.is_subset s (present m) ≡ true
  within_present s there = contains-is_subset s (present m) there

  pub there_in_range : (s : Ids) → IsThere s → InRange s
  there_in_range s there c has = h.in_range c (there c has)

  core_within : (s : Ids) (c : ℕ) → set.contains (cores_in m s) c ≡ true → set.contains s c ≡ true
  core_within s c has = is_subset-contains (cores_in m s) s (cores_in-within m s) c has

  cores_apart : (s t : Ids) → IsDisjoint s t → IsDisjoint (cores_in m s) (cores_in m t)
  cores_apart s t apart c in_s in_t = apart c (core_within s c in_s) (core_within t c in_t)

  -- the CPUs of the cores of a whole set are the set
  pub back_to_cpus : (s : Ids) → IsThere s → IsWhole m s → cpus_of_cores m (cores_in m s) ≡ s
  back_to_cpus s there whole = cpus_of_cores-cores_in m s h.sound.cores (there_in_range s there) ∙ whole_in-whole m s h.sound.cores whole

  pub whole_counted : (s : Ids) → IsThere s → IsWhole m s → set.len s ≡ set.len (cores_in m s) * m.threads
  whole_counted s there whole =
      ap set.len (sym (whole_in-whole m s h.sound.cores whole)) ∙ len-whole_in m s h.sound.cores h.in_range (within_present s there)

  -- the distance of a whole set is that of its cores, for each CPU that a core has
  pub whole_far : (e : Container) (s : Ids) → IsThere s → IsWhole m s
      → distance m e s ≡ sum_by (distance_home m e.1.demand.homes) (members (cores_in m s)) * m.threads
  whole_far e s there whole =
      ap (distance m e) (sym (back_to_cpus s there whole))
      ∙ cores_weigh_alike m (cores_in m s) (distance_home m e.1.demand.homes) h.sound.cores h.in_range (cores_in-lowest m s (within_present s there))
      (λ c is. cores_are_near m e.1.demand.homes c h.sound is)

  cpus_in_range : (plan : List Ids) → AllByRecursion InRange (as_cpus m plan)
  cpus_in_range [] = tt
  cpus_in_range (s ∷ plan) = (cores_in_range m s, cpus_in_range plan)

-- ---- rows that are theirs

-- what a function of the containers and cores sums up to over a plan
abbrev pub summed : (Container → ℕ → ℕ) → List Container → List Ids → ℕ
summed f es plan = sum_by (λ p. sum_by (f p.0) (members p.1)) (zip es plan)

module _ (k : KernelState) (m : Layout) (f : Container → ℕ → ℕ) where
  pub offers : (row : RowView) (e : Container) → IsWeighed k m f row e → (core : ℕ) → is_some (weight row core) ≡ is_open k m core e
  offers row e of core = ap is_some (of.weights core) ∙ some_where (is_open k m core e) (f e core)

  -- what a set costs in a row is the sum of what its cores weigh for the container
  weighs : (row : RowView) (e : Container) → IsWeighed k m f row e → (core : ℕ) → is_some (weight row core) ≡ true → unwrap_or (weight row core) 0 ≡ f e core
  weighs row e of core some =
      ap (λ o. unwrap_or o 0) (of.weights core ∙ cond-true (is_open k m core e) (Some (f e core)) None (sym (offers row e of core) ∙ some))

  costs_as_summed : (row : RowView) (e : Container) (s : Ids) → IsWeighed k m f row e → Meets row s → row_cost row s ≡ sum_by (f e) (members s)
  costs_as_summed row e s of meets =
      same_sum (λ core. unwrap_or (weight row core) 0) (f e) (members s)
      (recursion_from_All (λ core. unwrap_or (weight row core) 0 ≡ f e core) (members s)
      (λ i d within. weighs row e of _ (meets.allowed _ (filter_passes (set.contains s) cpus i d within))))

  all_as_summed : (rows : List RowView) (es : List Container) (plan : List Ids) → AllZip (IsWeighed k m f) rows es → AllZip Meets rows plan
      → cost rows plan ≡ summed f es plan
  all_as_summed [] [] plan of meets = refl
  all_as_summed [] (e ∷ es) plan of meets = absurd of
  all_as_summed (row ∷ rows) [] plan of meets = absurd of
  all_as_summed (row ∷ rows) (e ∷ es) [] of meets = absurd meets
  all_as_summed (row ∷ rows) (e ∷ es) (s ∷ plan) of meets =
      omega (
        arith,
        sum_by-cons (λ p. row_cost p.0 p.1) (row, s) (zip rows plan),
        sum_by-cons (λ p. sum_by (f p.0) (members p.1)) (e, s) (zip es plan),
        costs_as_summed row e s of.0 meets.0,
        all_as_summed rows es plan of.1 meets.1,
      )

-- ---- sets that the containers could have, and plans of rows that are theirs

module _ (k : KernelState) (m : Layout) (h : IsMachine m) (online : (c : ℕ) → set.contains k.tree.online c ≡ true → IsPresent m c) where
  abbrev may : Container → Ids
  may e = available k.tree.online e.1.demand

  may_there : (e : Container) (c : ℕ) → set.contains (may e) c ≡ true → IsPresent m c
  may_there e c has = online c (and_parts _ _ (sym (contains-intersection e.1.demand.allowed k.tree.online c) ∙ has)).1

  abbrev Own : Container → Ids → Type 0
  Own e s = AreOwn k m e.1.demand (wanted_by e.1.demand.kind) s

  own_within : (e : Container) (s : Ids) → Own e s → set.is_subset s (may e) ≡ true
  own_within e s own =
      contains-is_subset s (may e) (λ c has.
      contains-intersection e.1.demand.allowed k.tree.online c
      ∙ and_from (set.contains e.1.demand.allowed c) (set.contains k.tree.online c) (own.each c has).0 (own.each c has).1)

  own_there : (e : Container) (s : Ids) → Own e s → (c : ℕ) → set.contains s c ≡ true → IsPresent m c
  own_there e s own c has = online c (own.each c has).1

  -- the distance of sets that they could have is that of their cores, for each CPU that a core has
  pub all_far : (es : List Container) (sets : List Ids) → AllZip Own es sets
      → sum_by (λ p. distance m p.0 p.1) (zip es sets) ≡ summed (λ e. distance_home m e.1.demand.homes) es (as_cores m sets) * m.threads
  all_far [] sets own = omega arith
  all_far (e ∷ es) [] own = absurd own
  all_far (e ∷ es) (s ∷ sets) own =
      rw (
        sum_by-cons (λ (p : Container × Ids). distance m p.0 p.1) (e, s) (zip es sets),
        sum_by-cons (λ (p : Container × Ids). sum_by (distance_home m p.0.1.demand.homes) (members p.1)) (e, cores_in m s) (zip es (as_cores m sets)),
        whole_far m h e s (own_there e s own.0) own.0.whole,
        all_far es sets own.1,
      )
      (omega arith)

  module _ (f : Container → ℕ → ℕ) where
    -- the cores of sets that the containers could have meet their rows
    own_meets : (row : RowView) (e : Container) (s : Ids) → IsWeighed k m f row e → Own e s → Meets row (cores_in m s)
    own_meets row e s of own =
        let there = own_there e s own in
        record {
          in_range = λ c has. there_in_range m h s there c (core_within m h s c has);
          size = times_cancel (set.len (cores_in m s)) row.demand m.threads h.sound.cores.some (sym (whole_counted m h s there own.whole) ∙ own.size ∙ of.demand);
          allowed = λ core has.
              offers k m f row e of core ∙ is_subset-contains (cores_in m s) (cores_in m (may e)) (cores_in-rise m s (may e) (own_within e s own)) core has;
        }

    all_meet : (rows : List RowView) (es : List Container) (sets : List Ids) → AllZip (IsWeighed k m f) rows es → AllZip Own es sets
        → AllZip Meets rows (as_cores m sets)
    all_meet [] [] [] of own = tt
    all_meet [] [] (s ∷ sets) of own = absurd own
    all_meet [] (e ∷ es) sets of own = absurd of
    all_meet (row ∷ rows) [] sets of own = absurd of
    all_meet (row ∷ rows) (e ∷ es) [] of own = absurd own
    all_meet (row ∷ rows) (e ∷ es) (s ∷ sets) of own = (own_meets row e s of.0 own.0, all_meet rows es sets of.1 own.1)

    -- and the other way round
    meets_within : (row : RowView) (e : Container) (cores : Ids) → IsWeighed k m f row e → Meets row cores → set.is_subset cores (cores_in m (may e)) ≡ true
    meets_within row e cores of meets =
        contains-is_subset cores (cores_in m (may e)) (λ core has. sym (offers k m f row e of core) ∙ meets.allowed core has)

    meets_lowest : (row : RowView) (e : Container) (cores : Ids) → IsWeighed k m f row e → Meets row cores → AreLowest m cores
    meets_lowest row e cores of meets core has =
        cores_in-lowest m (may e) (within_present m h (may e) (may_there e)) core
        (is_subset-contains cores (cores_in m (may e)) (meets_within row e cores of meets) core has)

    meets_own : (row : RowView) (e : Container) (cores : Ids) → IsWeighed k m f row e → Meets row cores → Own e (cpus_of_cores m cores)
    meets_own row e cores of meets = record {
      size = cores_are_alike m cores h.sound.cores h.in_range (meets_lowest row e cores of meets) ∙ ap (λ n. n * m.threads) meets.size ∙ sym of.demand;
      each = λ cpu has.
          let within : set.contains (may e) cpu ≡ true =
          is_subset-contains (cpus_of_cores m cores) (may e) (cpus_of_cores-within m cores (may e) h.sound.cores (meets_within row e cores of meets)) cpu has in
          and_parts (set.contains e.1.demand.allowed cpu) (set.contains k.tree.online cpu) (sym (contains-intersection e.1.demand.allowed k.tree.online cpu) ∙ within);
      whole = cpus_of_cores-IsWhole m cores h.in_range;
    }

    all_own : (rows : List RowView) (es : List Container) (plan : List Ids) → AllZip (IsWeighed k m f) rows es → AllZip Meets rows plan
        → AllZip Own es (as_cpus m plan)
    all_own [] [] [] of meets = tt
    all_own [] [] (s ∷ plan) of meets = absurd meets
    all_own [] (e ∷ es) plan of meets = absurd of
    all_own (row ∷ rows) [] plan of meets = absurd of
    all_own (row ∷ rows) (e ∷ es) [] of meets = absurd meets
    all_own (row ∷ rows) (e ∷ es) (s ∷ plan) of meets = (meets_own row e s of.0 meets.0, all_own rows es plan of.1 meets.1)

    -- the cores of the CPUs of a plan are the plan
    back_to_cores : (rows : List RowView) (es : List Container) (plan : List Ids) → AllZip (IsWeighed k m f) rows es → AllZip Meets rows plan
        → as_cores m (as_cpus m plan) ≡ plan
    back_to_cores [] [] [] of meets = refl
    back_to_cores [] [] (s ∷ plan) of meets = absurd meets
    back_to_cores [] (e ∷ es) plan of meets = absurd of
    back_to_cores (row ∷ rows) [] plan of meets = absurd of
    back_to_cores (row ∷ rows) (e ∷ es) [] of meets = absurd meets
    back_to_cores (row ∷ rows) (e ∷ es) (s ∷ plan) of meets =
        ap (λ t. t ∷ as_cores m (as_cpus m plan)) (cores_in-cpus_of_cores m s h.sound.cores h.in_range (meets_lowest row e s of.0 meets.0))
        ∙ ap (λ ts. s ∷ ts) (back_to_cores rows es plan of.1 meets.1)

-- only present CPUs are online
pub online_there : (n : NodeState) → IsNode n → (c : ℕ) → set.contains n.kernel.tree.online c ≡ true → IsPresent n.machine c
online_there n h c has =
    ap (λ s. set.contains s c) (sym h.machine.present)
    ∙ is_subset-contains n.kernel.tree.online n.kernel.present h.holds.kernel.online_present c has

module _ (n : NodeState) (h : IsNode n) (f : Container → ℕ → ℕ) (rows : List RowView) (of : AllZip (IsWeighed n.kernel n.machine f) rows (asking n)) where
  pub could_plan : (sets : List Ids) → CouldHave n sets → IsPlan rows (as_cores n.machine sets)
  could_plan sets c = record {
    met = all_meet n.kernel n.machine h.layout (online_there n h) f rows (asking n) sets of c.own;
    apart = apart_mapped (cores_in n.machine) (cores_apart n.machine h.layout) sets c.apart;
  }

  pub plan_could : (plan : List Ids) → IsPlan rows plan → CouldHave n (as_cpus n.machine plan)
  plan_could plan p = record {
    numbers = cpus_in_range n.machine h.layout plan;
    own = all_own n.kernel n.machine h.layout (online_there n h) f rows (asking n) plan of p.met;
    apart = apart_mapped (cpus_of_cores n.machine) (cpus_of_cores-apart n.machine) plan p.apart;
  }

  pub plan_back : (plan : List Ids) → IsPlan rows plan → as_cores n.machine (as_cpus n.machine plan) ≡ plan
  plan_back plan p = back_to_cores n.kernel n.machine h.layout (online_there n h) f rows (asking n) plan of p.met

  pub cost_is_summed : (plan : List Ids) → IsPlan rows plan → cost rows plan ≡ summed f (asking n) plan
  cost_is_summed plan p = all_as_summed n.kernel n.machine f rows (asking n) plan of p.met

-- the distance of sets that they could have is that of their cores, for each CPU that a core has
pub could_far : (n : NodeState) → IsNode n → (sets : List Ids) → CouldHave n sets
    → total_distance n sets ≡ summed (λ e. distance_home n.machine e.1.demand.homes) (asking n) (as_cores n.machine sets) * n.machine.threads
could_far n h sets c = all_far n.kernel n.machine h.layout (online_there n h) (asking n) sets c.own
