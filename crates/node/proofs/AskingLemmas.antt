-- The rows of the live pinned containers: what holds of each, and whose it is.
use Rattle.std.proofs.Common.{◌≡◌, ◌≢◌, ℕ, zero, suc, ◌+◌, ◌*◌, ◌/◌, ◌<◌, ◌≤◌, Bool, true, false, cond, ◌&&◌, ◌||◌, nat_lt, nat_le, List, [], ◌∷◌, ◌++◌, length, map, Option, Some, None, is_some, option_map, refl, sym, ap, ◌∙◌, subst, sum_by, arith}
use Rattle.std.proofs.Math.Nat.{mul-div_cancel, mul-le-mul_right}
use Rattle.std.proofs.lemmas.Bool.{true≢false, false≢true, and_from, and_parts}
use Rattle.std.proofs.lemmas.Bool.Decides.{nat_tests}
use Rattle.std.proofs.lemmas.List.{append-nil}
use Rattle.std.proofs.lemmas.List.Concat.{flat_map-cons}
use Rattle.std.proofs.lemmas.List.Elements.{All-from_recursion, All-weaker, recursion_from_All, filter_agree, filter_passes}
use Rattle.std.proofs.lemmas.List.Kept.{AllPairs-cons}
use Rattle.std.proofs.lemmas.List.Sums.{sum_by-cons}
use Rattle.std.proofs.lemmas.Option.{none-some, same_Some}
use Rattle.std.proofs.lemmas.Slice.Eq.{bytes_eq-Decides}
use Rattle.std.specs.Prelude.{MatchOption, filter, filter_map, slice_get, String}
use Rattle.std.specs.declared.alloc.Global.{Global}
use Rattle.std.specs.List.{All, AllPairs, AllByRecursion, AllZip, cons_option, flat_map, list_all, list_any}
use Rattle.std.specs.FinSet as set
use Rattle.cpu_set.specs.Ids.{Ids}
use Rattle.cpu_set.specs.Members.{InRange, cpus}
use Rattle.cpu_set.specs.PointwiseLaws.{contains-intersection, contains-is_subset}
use Rattle.cpu_set.specs.SetLaws.{length-members}
use Rattle.cpu_set.specs.declared.TheConstants.{CPU_LIMIT}
use Rattle.cpuset_tree.specs.Groups.{has_group}
use Rattle.kernel_model.specs.KernelState.{KernelState}
use Rattle.machine.specs.Cores.{core_of, cores_in, cpus_of_cores}
use Rattle.machine.specs.CoreCountLaws.{cores_are_alike}
use Rattle.machine.specs.Layout.{Layout}
use Rattle.machine.specs.Present.{present, IsPresent}
use Rattle.machine.specs.Weight.{weight as distance_home}
use Rattle.machine.specs.WholeLaws.{contains-cpus_of_cores, cores_in-lowest, cpus_of_cores-cores_in}
use Rattle.demand.specs.declared.Kind.{Kind}
use Rattle.demand.specs.declared.Kind.TheVariants.{Pinned, Shared}
use Rattle.demand.specs.declared.Demand.{Demand}
use Rattle.demand.specs.FitsMachine.{AsksForCores, FitsMachine}
use Rattle.certificate.specs.declared.Offer.{Offer}
use Rattle.certificate.specs.declared.limits.TheConstants.{MAX_ROWS}
use Rattle.certificate.specs.Packed.{packed}
use Rattle.certificate.specs.SumLaws.{sum_by_times}
use Rattle.certificate.specs.RowView.{RowView}
use Rattle.certificate.specs.Weight.{weight}
use Rattle.certificate.specs.Limits.{row_fits, rows_fit}
use Rattle.certificate.specs.IsShortage.{asked, chosen, is_offered, offered, HasNoPlan}
use Rattle.certificate_text.specs.CertificateText.{HaveOwnIds}
use Rattle.certificate_text.specs.IdWord.{IsId}
use Rattle.certificate_text.specs.Written.{CanWriteRow}
use Rattle.rows.specs.Offers.{has_some}
use Rattle.rows.specs.RowOf.{available, row_of, row_of_kind}
use Rattle.rows.specs.Scaled.{held_part, moved, parted, scaled, ScaledRowsWeigh}
use Rattle.rows.specs.Weighs.{RowsWeigh}
use Rattle.apply_plan.specs.Holders.{Pairwise}
use Rattle.node.specs.declared.TheConstants.{CONTAINER_LIMIT}
use Rattle.node.specs.declared.container.Container.{Container as TheContainer}
use Rattle.node.specs.NodeState.{ContainerState, NodeState}
use Rattle.node.specs.Owners.{is_pinned, owner_of, owners_of}
use Rattle.node.specs.Status.{is_live}
use Rattle.node.specs.IsNode.{HaveOtherIds, IsAsked, IsMachine, IsPlaced, IsNode}
use Rattle.node.specs.Rows.{as_cores, as_cpus, row_of_container, rows_in, rows_of, requested_by, scaled_row_of_container, scaled_rows_in, scaled_rows_of, lacking}
use Rattle.node.specs.Rebalance.{Lacks}
use Rattle.node.specs.Best.{is_asking, asking, wanted_by, CouldHave}
use Rattle.node.specs.Headline.{is_allowed, AreShort, IsShort}
use Rattle.node.specs.Tells.{TellsShortage}
use Rattle.node.specs.Asking.{is_open, IsRowOf, IsScaledRowOf, moving_weight}
use Rattle.node.specs.Viewed.{all_seen}
use Rattle.node.proofs.DistanceLemmas.{Container, IsWeighed, offers, online_there, could_plan, plan_could}
use Rattle.node.proofs.LaunchLemmas.{is_there}
use Rattle.node.proofs.ListLemmas.{all_append, all_map, of_all_map, of_pairs_map}

-- what is given of the elements of a list
module _ {X Y : Type 0} (f : X → Option Y) where
  pub all_given : (P : X → Type 0) (Q : Y → Type 0) → ((x : X) (y : Y) → P x → f x ≡ Some y → Q y) → (xs : List X) → AllByRecursion P xs → AllByRecursion Q (filter_map f xs)
  all_given P Q gives [] all = tt
  all_given P Q gives (x ∷ xs) all = by (f x) refl (all_given P Q gives xs all.1) where
    by : (o : Option Y) → f x ≡ o → AllByRecursion Q (filter_map f xs) → AllByRecursion Q (cons_option o (filter_map f xs))
    by None e rest = rest
    by (Some y) e rest = (gives x y all.0 e, rest)

  pub pairs_given : (R : X → X → Type 0) (S : Y → Y → Type 0) → ((x z : X) (y w : Y) → R x z → f x ≡ Some y → f z ≡ Some w → S y w) → (xs : List X) → Pairwise R xs
      → AllPairs S (filter_map f xs)
  pairs_given R S gives [] pairs = λ i j d lt within. absurd (omega arith)
  pairs_given R S gives (x ∷ xs) pairs = by (f x) refl (pairs_given R S gives xs pairs.1) where
    by : (o : Option Y) → f x ≡ o → AllPairs S (filter_map f xs) → AllPairs S (cons_option o (filter_map f xs))
    by None e rest = rest
    by (Some y) e rest =
        AllPairs-cons S y (filter_map f xs)
        (All-from_recursion (S y) (filter_map f xs) (all_given (R x) (S y) (λ z w r given. gives x z y w r e given) xs pairs.0)) rest

  pub fewer_given : (xs : List X) → length (filter_map f xs) ≤ length xs
  fewer_given [] = omega arith
  fewer_given (x ∷ xs) = by (f x) (fewer_given xs) where
    by : (o : Option Y) → length (filter_map f xs) ≤ length xs → length (cons_option o (filter_map f xs)) ≤ length (x ∷ xs)
    by None rest = omega (arith, rest)
    by (Some y) rest = omega (arith, rest)

  -- where something is given just of those that pass, it is given of each of them in turn
  pub zip_given : (test : X → Bool) (P : X → Type 0) (R : Y → X → Type 0)
      → ((x : X) → P x → MatchOption (f x) (test x ≡ false) (λ y. (test x ≡ true) × R y x)) → (xs : List X) → AllByRecursion P xs
      → AllZip R (filter_map f xs) (filter test xs)
  zip_given test P R gives [] all = tt
  zip_given test P R gives (x ∷ xs) all = by (f x) (test x) (gives x all.0) (zip_given test P R gives xs all.1) where
    by : (o : Option Y) (b : Bool) → MatchOption o (b ≡ false) (λ y. (b ≡ true) × R y x) → AllZip R (filter_map f xs) (filter test xs)
        → AllZip R (cons_option o (filter_map f xs)) (cond b (x ∷ filter test xs) (filter test xs))
    by None false is rest = rest
    by None true is rest = absurd (true≢false is)
    by (Some y) true is rest = (is.1, rest)
    by (Some y) false is rest = absurd (false≢true is.0)

-- two lists of which the elements go together, item by item
module _ {X Y : Type 0} (R : X → Y → Type 0) where
  -- both are there, and go together, or neither is
  abbrev pub AtBoth : Option X → Option Y → Type 0
  AtBoth None None = Unit {0}
  AtBoth None (Some y) = ⊥
  AtBoth (Some x) None = ⊥
  AtBoth (Some x) (Some y) = R x y

  pub zip_at : (xs : List X) (ys : List Y) → AllZip R xs ys → (k : ℕ) → AtBoth (slice_get xs k) (slice_get ys k)
  zip_at [] [] zip k = tt
  zip_at [] (y ∷ ys) zip k = absurd zip
  zip_at (x ∷ xs) [] zip k = absurd zip
  zip_at (x ∷ xs) (y ∷ ys) zip zero = zip.0
  zip_at (x ∷ xs) (y ∷ ys) zip (suc k) = zip_at xs ys zip.1 k

  pub zip_of_map : {Z : Type 0} (g : Z → X) (zs : List Z) (ys : List Y) → AllZip (λ z y. R (g z) y) zs ys → AllZip R (map g zs) ys
  zip_of_map g [] [] zip = tt
  zip_of_map g [] (y ∷ ys) zip = absurd zip
  zip_of_map g (z ∷ zs) [] zip = absurd zip
  zip_of_map g (z ∷ zs) (y ∷ ys) zip = (zip.0, zip_of_map g zs ys zip.1)

  pub zip_chosen : (xs : List X) (ys : List Y) → AllZip R xs ys → (ks : List ℕ) → AllZip R (filter_map (slice_get xs) ks) (filter_map (slice_get ys) ks)
  zip_chosen xs ys zip [] = tt
  zip_chosen xs ys zip (k ∷ ks) = by (slice_get xs k) (slice_get ys k) (zip_at xs ys zip k) (zip_chosen xs ys zip ks) where
    by : (o : Option X) (p : Option Y) → AtBoth o p → AllZip R (filter_map (slice_get xs) ks) (filter_map (slice_get ys) ks)
        → AllZip R (cons_option o (filter_map (slice_get xs) ks)) (cons_option p (filter_map (slice_get ys) ks))
    by None None at rest = rest
    by None (Some y) at rest = absurd at
    by (Some x) None at rest = absurd at
    by (Some x) (Some y) at rest = (at, rest)

  pub zip_length : (xs : List X) (ys : List Y) → AllZip R xs ys → length xs ≡ length ys
  zip_length [] [] zip = refl
  zip_length [] (y ∷ ys) zip = absurd zip
  zip_length (x ∷ xs) [] zip = absurd zip
  zip_length (x ∷ xs) (y ∷ ys) zip = ap suc (zip_length xs ys zip.1)

  pub zip_sum : (f : X → ℕ) (g : Y → ℕ) → ((x : X) (y : Y) → R x y → f x ≡ g y) → (xs : List X) (ys : List Y) → AllZip R xs ys → sum_by f xs ≡ sum_by g ys
  zip_sum f g same [] [] zip = refl
  zip_sum f g same [] (y ∷ ys) zip = absurd zip
  zip_sum f g same (x ∷ xs) [] zip = absurd zip
  zip_sum f g same (x ∷ xs) (y ∷ ys) zip = omega (arith, sum_by-cons f x xs, sum_by-cons g y ys, same x y zip.0, zip_sum f g same xs ys zip.1)

  pub zip_any : (p : X → Bool) (q : Y → Bool) → ((x : X) (y : Y) → R x y → p x ≡ q y) → (xs : List X) (ys : List Y) → AllZip R xs ys → list_any p xs ≡ list_any q ys
  zip_any p q same [] [] zip = refl
  zip_any p q same [] (y ∷ ys) zip = absurd zip
  zip_any p q same (x ∷ xs) [] zip = absurd zip
  zip_any p q same (x ∷ xs) (y ∷ ys) zip = rw (same x y zip.0, zip_any p q same xs ys zip.1) refl

-- each part of an offer has a CPU
some_cpu : (o : Offer) → has_some o ≡ true → o.cpus ≢ set.empty
some_cpu o some none = true≢false (sym some ∙ ap (λ s. nat_lt 0 (set.len s)) none ∙ ap (nat_lt 0) (set.len-empty _))

parts_some : (held : Ids) (offers : List Offer) → AllByRecursion (λ (o : Offer). o.cpus ≢ set.empty) (flat_map (parted held) offers)
parts_some held [] = tt
parts_some held (o ∷ offers) =
    let here : AllByRecursion (λ (o : Offer). o.cpus ≢ set.empty) (parted held o) =
    recursion_from_All (λ (o : Offer). o.cpus ≢ set.empty) (parted held o)
    (All-weaker (λ o. has_some o ≡ true) (λ o. o.cpus ≢ set.empty) some_cpu (parted held o) (filter_passes has_some (held_part held o ∷ moved held o ∷ []))) in
    subst (λ (os : List Offer). AllByRecursion (λ (o : Offer). o.cpus ≢ set.empty) os) (sym (flat_map-cons (parted held) o offers))
    (all_append (λ (o : Offer). o.cpus ≢ set.empty) (parted held o) (flat_map (parted held) offers) here (parts_some held offers))

-- the row of a demand, where there is one
record IsMade (m : Layout) (online : Ids) (id : List ℕ) (d : Demand) (row : RowView) : Type 0 where
  id_is : row.id ≡ id

made : (m : Layout) (online : Ids) (id : List ℕ) (d : Demand) (row : RowView) → row_of m online id d ≡ Some row → IsMade m online id d row
made m online id d row is = by d.kind is where
  by : (kind : Kind) → row_of_kind m online id d kind ≡ Some row → IsMade m online id d row
  by (Pinned count) e = record { id_is = ap (λ (r : RowView). r.id) (sym (same_Some _ _ e)) }
  by Shared e = absurd (none-some row e)

-- it asks for the cores that make as many CPUs as the demand does
cores_asked : (m : Layout) (online : Ids) (id : List ℕ) (d : Demand) (row : RowView) → IsMachine m → FitsMachine m d → row_of m online id d ≡ Some row
    → wanted_by d.kind ≡ row.demand * m.threads
cores_asked m online id d row h fits is = by d.kind fits.cores is where
  by : (kind : Kind) → AsksForCores m.threads kind → row_of_kind m online id d kind ≡ Some row → wanted_by kind ≡ row.demand * m.threads
  by (Pinned count) cores e =
      let some : 1 ≤ m.threads = h.sound.cores.some in
      let positive : 0 < m.threads = omega (arith, some) in
      let whole : count / m.threads ≡ cores.0 = ap (λ n. n / m.threads) cores.1 ∙ mul-div_cancel cores.0 positive in
      cores.1 ∙ ap (λ n. n * m.threads) (sym whole) ∙ ap (λ (r : RowView). r.demand * m.threads) (same_Some _ _ e)
  by Shared cores e = absurd (none-some row e)

-- the cores that a container's group requests as a whole
abbrev pub held_by : KernelState → Layout → Container → Ids
held_by k m e = cores_in m (requested_by k e)

module _ (k : KernelState) (m : Layout) where
  -- a container with a row is live, and the row is that of its demand
  pub row_made : (e : List ℕ × ContainerState) (row : RowView) → row_of_container k m e ≡ Some row → (is_live k e.1 ≡ true) × (row_of m k.tree.online e.0 e.1.demand ≡ Some row)
  row_made e row is = by (is_live k e.1) refl is where
    by : (b : Bool) → is_live k e.1 ≡ b → cond b (row_of m k.tree.online e.0 e.1.demand) None ≡ Some row
        → (is_live k e.1 ≡ true) × (row_of m k.tree.online e.0 e.1.demand ≡ Some row)
    by true live e = (live, e)
    by false live e = absurd (none-some row e)

  of_row : (e : List ℕ × ContainerState) (row : RowView) → row_of_container k m e ≡ Some row → IsMade m k.tree.online e.0 e.1.demand row
  of_row e row is = made m k.tree.online e.0 e.1.demand row (row_made e row is).1

  -- a scaled row is the scaled form of that
  pub record IsParted (e : List ℕ × ContainerState) (row : RowView) : Type 0 where
    pub plain : RowView
    pub there : row_of_container k m e ≡ Some plain
    pub row_is : scaled (held_by k m e) plain ≡ row

  pub of_parts : (e : List ℕ × ContainerState) (row : RowView) → scaled_row_of_container k m e ≡ Some row → IsParted e row
  of_parts e row is = by (row_of_container k m e) refl is where
    by : (o : Option RowView) → row_of_container k m e ≡ o → option_map (scaled (held_by k m e)) o ≡ Some row → IsParted e row
    by (Some plain) same e = record { plain = plain; there = same; row_is = same_Some _ _ e }
    by None same e = absurd (none-some row e)

  id_of : (e : List ℕ × ContainerState) (row : RowView) → scaled_row_of_container k m e ≡ Some row → row.id ≡ e.0
  id_of e row is =
      let p = of_parts e row is in
      ap (λ (r : RowView). r.id) (sym p.row_is) ∙ (of_row e p.plain p.there).id_is

  can_write : (e : List ℕ × ContainerState) (row : RowView) → IsAsked m e → scaled_row_of_container k m e ≡ Some row → CanWriteRow row
  can_write e row a is =
      let p = of_parts e row is in
      record {
        id_is = subst IsId (sym (id_of e row is)) a.id;
        offers_some = subst (λ (r : RowView). All (λ o. o.cpus ≢ set.empty) r.offers) p.row_is
            (All-from_recursion (λ o. o.cpus ≢ set.empty) (scaled (held_by k m e) p.plain).offers (parts_some (held_by k m e) p.plain.offers));
      }

  other_ids : (a b : List ℕ × ContainerState) (r s : RowView) → HaveOtherIds (owner_of a) (owner_of b) → scaled_row_of_container k m a ≡ Some r
      → scaled_row_of_container k m b ≡ Some s → r.id ≢ s.id
  other_ids a b r s other ra sb same =
      true≢false (sym ((bytes_eq-Decides a.0 b.0).1 (sym (id_of a r ra) ∙ same ∙ id_of b s sb)) ∙ other)

  module _ (containers : List (List ℕ × ContainerState)) where
    -- the scaled rows can be written
    pub rows_can : AllByRecursion (IsAsked m) containers → All CanWriteRow (scaled_rows_in k m containers)
    rows_can asked =
        All-from_recursion CanWriteRow (scaled_rows_in k m containers) (all_given (scaled_row_of_container k m) (IsAsked m) CanWriteRow can_write containers asked)

    -- no two have one id
    pub rows_apart : Pairwise HaveOtherIds (owners_of containers) → HaveOwnIds (scaled_rows_in k m containers)
    rows_apart distinct =
        pairs_given (scaled_row_of_container k m) (λ a b. HaveOtherIds (owner_of a) (owner_of b)) (λ r s. r.id ≢ s.id) other_ids containers
        (of_pairs_map owner_of HaveOtherIds containers distinct)

    -- they are not too many
    pub rows_few : length containers ≤ CONTAINER_LIMIT → length (scaled_rows_in k m containers) ≤ MAX_ROWS
    rows_few few = omega (arith, few, fewer_given (scaled_row_of_container k m) containers)

-- rows that fit one by one, and are not too many, fit
pub all_fit : (rows : List RowView) → length rows ≤ MAX_ROWS → list_all row_fits rows ≡ true → rows_fit rows ≡ true
unfolding rows_fit
all_fit rows few each = and_from (nat_le (length rows) MAX_ROWS) (list_all row_fits rows) (grind (arith, nat_tests)) each

-- the rows made so far, and those of the containers that are left
pub record IsSoFar (k : KernelState) (m : Layout) (all left : List (String Global × TheContainer)) (rows : List RowView) : Type 0 where
  pub are : rows ++ scaled_rows_in k m (all_seen left) ≡ scaled_rows_in k m (all_seen all)
  pub placed : AllByRecursion (λ e. has_group k.tree e.1.group ≡ true) (all_seen left)
  pub asked : AllByRecursion (IsAsked m) (all_seen left)
  pub fit : list_all row_fits rows ≡ true

-- what holds of the problem of these containers
pub record IsProblem (k : KernelState) (m : Layout) (containers : List (List ℕ × ContainerState)) (rows : List RowView) : Type 0 where
  pub rows_are : rows ≡ scaled_rows_in k m containers
  pub fit : rows_fit rows ≡ true
  pub can : All CanWriteRow rows
  pub apart : HaveOwnIds rows

pub all_made : (k : KernelState) (m : Layout) (all left : List (String Global × TheContainer)) (rows : List RowView) → AllByRecursion (IsAsked m) (all_seen all)
    → length (all_seen all) ≤ CONTAINER_LIMIT → Pairwise HaveOtherIds (owners_of (all_seen all)) → IsSoFar k m all left rows → left ≡ [] → IsProblem k m (all_seen all) rows
all_made k m all left rows asked few distinct so_far none =
    let rows_are : rows ≡ scaled_rows_in k m (all_seen all) =
    sym (append-nil rows) ∙ ap (λ (es : List (String Global × TheContainer)). rows ++ scaled_rows_in k m (all_seen es)) (sym none) ∙ so_far.are in
    let at_most : length (scaled_rows_in k m (all_seen all)) ≤ MAX_ROWS = rows_few k m (all_seen all) few in
    record {
      rows_are = rows_are;
      fit = all_fit rows (subst (λ (rs : List RowView). length rs ≤ MAX_ROWS) (sym rows_are) at_most) so_far.fit;
      can = subst (λ (rs : List RowView). All CanWriteRow rs) (sym rows_are) (rows_can k m (all_seen all) asked);
      apart = subst HaveOwnIds (sym rows_are) (rows_apart k m (all_seen all) distinct);
    }

-- how far a core is from a container's homes, and 1 where its group does not request all of the core
abbrev pub home : Layout → Container → ℕ → ℕ
home m e core = distance_home m e.1.demand.homes core

abbrev pub unheld : KernelState → Layout → Container → ℕ → ℕ
unheld k m e core = cond (set.contains (held_by k m e) core) 0 1

match_map : {A B : Type 0} (g : A → B) (P : Type 0) (Q : B → Type 0) (o : Option A) → MatchOption o P (λ x. Q (g x)) → MatchOption (option_map g o) P Q
match_map g P Q None h = h
match_map g P Q (Some x) h = h

pub map_where : (g : ℕ → ℕ) (b : Bool) (w : ℕ) → option_map g (cond b (Some w) None) ≡ cond b (Some (g w)) None
map_where g true w = refl
map_where g false w = refl

module _ (k : KernelState) (m : Layout) where
  -- the row of a container's demand fits it, so it fits its row in the same way
  abbrev pub Each : (RowView → Container → Type 0) → Type 0
  Each R = (e : Container) (row : RowView) → FitsMachine m e.1.demand → row_of m k.tree.online e.0 e.1.demand ≡ Some row → R row e

  asking_row : (R : RowView → Container → Type 0) → Each R → (e : Container) → FitsMachine m e.1.demand
      → MatchOption (row_of_container k m e) (is_asking k e ≡ false) (λ row. (is_asking k e ≡ true) × R row e)
  asking_row R each e fits = by (is_live k e.1) e.1.demand.kind refl where
    by : (b : Bool) (kind : Kind) → e.1.demand.kind ≡ kind
        → MatchOption (cond b (row_of_kind m k.tree.online e.0 e.1.demand kind) None) ((b && is_pinned kind) ≡ false) (λ row. ((b && is_pinned kind) ≡ true) × R row e)
    by true (Pinned count) same = (refl, each e _ fits (ap (row_of_kind m k.tree.online e.0 e.1.demand) same))
    by true Shared same = refl
    by false kind same = refl

  -- the rows are those of the live pinned containers, one after another
  pub rows_with_asking : (R : RowView → Container → Type 0) → Each R → (containers : List Container) → AllByRecursion (IsAsked m) containers
      → AllZip R (rows_in k m containers) (filter (is_asking k) containers)
  rows_with_asking R each containers asked =
      zip_given (row_of_container k m) (is_asking k) (IsAsked m) R (λ e a. asking_row R each e a.fits) containers asked

  -- and so are the scaled ones
  pub scaled_with_asking : (R : RowView → Container → Type 0) → Each (λ row e. R (scaled (held_by k m e) row) e) → (containers : List Container)
      → AllByRecursion (IsAsked m) containers → AllZip R (scaled_rows_in k m containers) (filter (is_asking k) containers)
  scaled_with_asking R each containers asked =
      zip_given (scaled_row_of_container k m) (is_asking k) (IsAsked m) R
      (λ e a. match_map (scaled (held_by k m e)) (is_asking k e ≡ false) (λ row. (is_asking k e ≡ true) × R row e) (row_of_container k m e)
      (asking_row (λ row e. R (scaled (held_by k m e) row) e) each e a.fits)) containers asked

  module _ (h : IsMachine m) (weigh : RowsWeigh) where
    pub weighed : Each (IsWeighed k m (home m))
    weighed e row fits is = record {
      demand = cores_asked m k.tree.online e.0 e.1.demand row h fits is;
      weights = weigh m k.tree.online e.0 e.1.demand row fits is;
    }

    is_row_of : Each (IsRowOf k m)
    is_row_of e row fits is =
        let w : IsWeighed k m (home m) row e = weighed e row fits is in
        record {
          row_is = is;
          id = (made m k.tree.online e.0 e.1.demand row is).id_is;
          demand = w.demand;
          offers = offers k m (home m) row e w;
        }

    is_scaled_row_of : ScaledRowsWeigh → Each (λ row e. IsScaledRowOf k m (scaled (held_by k m e) row) e)
    is_scaled_row_of parts e row fits is =
        let w : IsWeighed k m (home m) row e = weighed e row fits is in
        record {
          id = (made m k.tree.online e.0 e.1.demand row is).id_is;
          demand = w.demand;
          weights = λ core.
              parts (held_by k m e) row core ∙ ap (option_map (λ w. packed w (unheld k m e core))) (w.weights core)
              ∙ map_where (λ w. packed w (unheld k m e core)) (is_open k m core e) (home m e core);
        }

module _ (n : NodeState) (h : IsNode n) (weigh : RowsWeigh) where
  pub rows_are_asking : AllZip (IsRowOf n.kernel n.machine) (rows_of n) (asking n)
  rows_are_asking = rows_with_asking n.kernel n.machine (IsRowOf n.kernel n.machine) (is_row_of n.kernel n.machine h.layout weigh) n.containers h.asked

  pub rows_are_weighed : AllZip (IsWeighed n.kernel n.machine (home n.machine)) (rows_of n) (asking n)
  rows_are_weighed =
      rows_with_asking n.kernel n.machine (IsWeighed n.kernel n.machine (home n.machine)) (weighed n.kernel n.machine h.layout weigh) n.containers h.asked

  module _ (parts : ScaledRowsWeigh) where
    pub scaled_are_asking : AllZip (IsScaledRowOf n.kernel n.machine) (scaled_rows_of n) (asking n)
    scaled_are_asking =
        scaled_with_asking n.kernel n.machine (IsScaledRowOf n.kernel n.machine) (is_scaled_row_of n.kernel n.machine h.layout weigh parts) n.containers h.asked

    of_scaled : (row : RowView) (e : Container) → IsScaledRowOf n.kernel n.machine row e → IsWeighed n.kernel n.machine (moving_weight n.kernel n.machine) row e
    of_scaled row e is = record { demand = is.demand; weights = is.weights }

    pub scaled_are_weighed : AllZip (IsWeighed n.kernel n.machine (moving_weight n.kernel n.machine)) (scaled_rows_of n) (asking n)
    scaled_are_weighed =
        scaled_with_asking n.kernel n.machine (IsWeighed n.kernel n.machine (moving_weight n.kernel n.machine))
        (λ e row fits is. of_scaled (scaled (held_by n.kernel n.machine e) row) e (is_scaled_row_of n.kernel n.machine h.layout weigh parts e row fits is)) n.containers h.asked

    -- so are those of some numbers
    pub chosen_are_asking : (ks : List ℕ) → AllZip (IsScaledRowOf n.kernel n.machine) (chosen (scaled_rows_of n) ks) (filter_map (slice_get (asking n)) ks)
    chosen_are_asking ks = zip_chosen (IsScaledRowOf n.kernel n.machine) (scaled_rows_of n) (asking n) scaled_are_asking ks

    -- which ask together for the cores that make what these containers ask for, and offer the cores that one of them may have
    pub asked_by_chosen : (ks : List ℕ) → asked (chosen (scaled_rows_of n) ks) * n.machine.threads ≡ sum_by (λ e. wanted_by e.1.demand.kind) (filter_map (slice_get (asking n)) ks)
    asked_by_chosen ks =
        sym (sum_by_times (λ (row : RowView). row.demand) n.machine.threads (chosen (scaled_rows_of n) ks))
        ∙ zip_sum (IsScaledRowOf n.kernel n.machine) (λ row. row.demand * n.machine.threads) (λ e. wanted_by e.1.demand.kind) (λ row e is. sym is.demand)
        (chosen (scaled_rows_of n) ks) (filter_map (slice_get (asking n)) ks) (chosen_are_asking ks)

    pub offered_by_chosen : (ks : List ℕ) (core : ℕ)
        → is_offered (chosen (scaled_rows_of n) ks) core ≡ list_any (is_open n.kernel n.machine core) (filter_map (slice_get (asking n)) ks)
    offered_by_chosen ks core =
        zip_any (IsScaledRowOf n.kernel n.machine) (λ row. is_some (weight row core)) (is_open n.kernel n.machine core)
        (λ row e is. offers n.kernel n.machine (moving_weight n.kernel n.machine) row e (of_scaled row e is) core)
        (chosen (scaled_rows_of n) ks) (filter_map (slice_get (asking n)) ks) (chosen_are_asking ks)

-- a CPU that a container may have is one of a core that it may have
any_where : {X : Type 0} (b : Bool) (p : X → Bool) (xs : List X) → (b && list_any p xs) ≡ list_any (λ x. b && p x) xs
any_where true p xs = refl
any_where false p [] = refl
any_where false p (x ∷ xs) = any_where false p xs

any_alike : {X : Type 0} (p q : X → Bool) → ((x : X) → p x ≡ q x) → (xs : List X) → list_any p xs ≡ list_any q xs
any_alike p q same [] = refl
any_alike p q same (x ∷ xs) = rw (same x, any_alike p q same xs) refl

module _ (n : NodeState) (h : IsNode n) where
  may_have : (cpu : ℕ) (e : Container)
      → (nat_lt cpu CPU_LIMIT && is_open n.kernel n.machine (core_of n.machine cpu) e) ≡ is_allowed n.kernel n.machine cpu e
  may_have cpu e =
      let s : Ids = available n.kernel.tree.online e.1.demand in
      let there : InRange s = λ c has. h.layout.in_range c (online_there n h c (and_parts (set.contains e.1.demand.allowed c) (set.contains n.kernel.tree.online c) (sym (contains-intersection e.1.demand.allowed n.kernel.tree.online c) ∙ has)).1) in
      sym (contains-cpus_of_cores n.machine (cores_in n.machine s) cpu)
      ∙ ap (λ t. set.contains t cpu) (cpus_of_cores-cores_in n.machine s h.layout.sound.cores there)

  allowed_to_any : (cores : Ids) (es : List Container) → ((core : ℕ) → set.contains cores core ≡ list_any (is_open n.kernel n.machine core) es) → (cpu : ℕ)
      → set.contains (cpus_of_cores n.machine cores) cpu ≡ list_any (is_allowed n.kernel n.machine cpu) es
  allowed_to_any cores es has cpu =
      contains-cpus_of_cores n.machine cores cpu
      ∙ ap (λ b. nat_lt cpu CPU_LIMIT && b) (has (core_of n.machine cpu))
      ∙ any_where (nat_lt cpu CPU_LIMIT) (is_open n.kernel n.machine (core_of n.machine cpu)) es
      ∙ any_alike (λ e. nat_lt cpu CPU_LIMIT && is_open n.kernel n.machine (core_of n.machine cpu) e) (is_allowed n.kernel n.machine cpu) (may_have cpu) es

  -- the lowest CPUs of cores that one of some containers may have are the lowest of their cores
  pub open_lowest : (core : ℕ) (es : List Container) → list_any (is_open n.kernel n.machine core) es ≡ true → IsPresent n.machine core × (core_of n.machine core ≡ core)
  open_lowest core [] none = absurd (false≢true none)
  open_lowest core (e ∷ es) some = by (is_open n.kernel n.machine core e) refl (open_lowest core es) some where
    by : (b : Bool) → is_open n.kernel n.machine core e ≡ b
        → (list_any (is_open n.kernel n.machine core) es ≡ true → IsPresent n.machine core × (core_of n.machine core ≡ core))
        → (b || list_any (is_open n.kernel n.machine core) es) ≡ true → IsPresent n.machine core × (core_of n.machine core ≡ core)
    by true here later some =
        let s : Ids = available n.kernel.tree.online e.1.demand in
        cores_in-lowest n.machine s
        (contains-is_subset s (present n.machine) (λ c has.
        online_there n h c (and_parts (set.contains e.1.demand.allowed c) (set.contains n.kernel.tree.online c) (sym (contains-intersection e.1.demand.allowed n.kernel.tree.online c) ∙ has)).1)) core here
    by false here later some = later some

  open_counted : (cores : Ids) (es : List Container) → ((core : ℕ) → set.contains cores core ≡ list_any (is_open n.kernel n.machine core) es)
      → set.len (cpus_of_cores n.machine cores) ≡ set.len cores * n.machine.threads
  open_counted cores es has =
      cores_are_alike n.machine cores h.layout.sound.cores h.layout.in_range (λ core there. open_lowest core es (sym (has core) ∙ there))

-- the set of what rows offer has as many CPUs as they offer
pub offered_len : (allowed : Ids) (rows : List RowView) → InRange allowed → ((cpu : ℕ) → set.contains allowed cpu ≡ is_offered rows cpu) → set.len allowed ≡ length (offered rows)
offered_len allowed rows in_range has = sym (length-members allowed in_range) ∙ ap length (filter_agree (set.contains allowed) (is_offered rows) has cpus)

-- what is answered of a shortage, beside what its certificate counts
module _ (old : NodeState) (h : IsNode old) (weigh : RowsWeigh) (parts : ScaledRowsWeigh) (wanted : ℕ) (allowed : Ids) (new : NodeState) (l : Lacks old wanted allowed new) where
  abbrev named_rows : List RowView
  named_rows = chosen (scaled_rows_of old) l.members

  abbrev named : List Container
  named = filter_map (slice_get (asking old)) l.members

  open_to_named : (core : ℕ) → set.contains l.need.cores core ≡ list_any (is_open old.kernel old.machine core) named
  open_to_named core = l.need.has core ∙ offered_by_chosen old h weigh parts l.members core

  pub there_counted : set.len allowed ≡ length (offered named_rows) * old.machine.threads
  there_counted =
      ap set.len l.need.is ∙ open_counted old h l.need.cores named open_to_named
      ∙ ap (λ n. n * old.machine.threads) (offered_len l.need.cores named_rows l.need.in_range l.need.has)

  more_wanted : set.len allowed < wanted
  more_wanted =
      let short : length (offered named_rows) < asked named_rows = l.decides.shortage.short in
      let some : 1 ≤ old.machine.threads = h.layout.sound.cores.some in
      let most : (length (offered named_rows) + 1) * old.machine.threads ≤ asked named_rows * old.machine.threads = mul-le-mul_right old.machine.threads (omega (arith, short)) in
      let asks : wanted ≡ asked named_rows * old.machine.threads = l.need.asks in
      let counted : set.len allowed ≡ length (offered named_rows) * old.machine.threads = there_counted in
      omega (arith, most, asks, counted, some)

-- the members of a shortage of the rows are live pinned containers that are short
are_short : (old : NodeState) → IsNode old → RowsWeigh → ScaledRowsWeigh → (wanted : ℕ) (allowed : Ids) (new : NodeState) → (l : Lacks old wanted allowed new)
    → AreShort old l.members wanted allowed
are_short old h weigh parts wanted allowed new l = record {
  rising = l.decides.shortage.rising;
  there = subst (λ count. All (λ k. k < count) l.members)
      (zip_length (IsScaledRowOf old.kernel old.machine) (scaled_rows_of old) (asking old) (scaled_are_asking old h weigh parts)) l.decides.shortage.there;
  asks = l.need.asks ∙ asked_by_chosen old h weigh parts l.members;
  has = λ cpu.
      ap (λ s. set.contains s cpu) l.need.is
      ∙ allowed_to_any old h l.need.cores (filter_map (slice_get (asking old)) l.members) (open_to_named old h weigh parts wanted allowed new l) cpu;
  more = more_wanted old h weigh parts wanted allowed new l;
}

-- a shortage of the rows is one of the live pinned containers, whom the certificate names
pub short_stands : (old : NodeState) → IsNode old → RowsWeigh → ScaledRowsWeigh → (wanted : ℕ) (allowed : Ids) (new : NodeState) → Lacks old wanted allowed new
    → IsShort old wanted allowed new × TellsShortage old wanted allowed new
short_stands old h weigh parts wanted allowed new l =
    let named : new.last ≡ Some (lacking old l.members) = ap (λ (n : NodeState). n.last) l.is in
    let could_not : (sets : List Ids) → CouldHave old sets → ⊥ =
    λ sets could. l.decides.none (as_cores old.machine sets)
    (could_plan old h (moving_weight old.kernel old.machine) (scaled_rows_of old) (scaled_are_weighed old h weigh parts) sets could) in
    let none : HasNoPlan (rows_of old) =
    λ plan is. could_not (as_cpus old.machine plan) (plan_could old h (home old.machine) (rows_of old) (rows_are_weighed old h weigh) plan is) in
    let same : new ≡ record old { last = new.last } = l.is ∙ ap (λ last. record old { last = last }) (sym named) in
    let short : AreShort old l.members wanted allowed = are_short old h weigh parts wanted allowed new l in (
      record { members = l.members; short = short; could_not = could_not; same = same },
      record { members = l.members; short = short; named = named; none = none; needed = l.decides.needed },
    )

-- each container's group is in the tree
pub all_there : (n : NodeState) → IsNode n → AllByRecursion (λ e. has_group n.kernel.tree e.1.group ≡ true) n.containers
all_there n h =
    of_all_map owner_of (λ o. has_group n.kernel.tree o.holder.group ≡ true) n.containers
    (all_map (IsPlaced n.kernel.tree n.parent) (λ o. has_group n.kernel.tree o.holder.group ≡ true)
    (λ o p. is_there n.kernel.tree o.holder.group p.entry p.there) (owners_of n.containers) h.holds.placed)
