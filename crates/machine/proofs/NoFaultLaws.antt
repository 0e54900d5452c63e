-- A JSON value that has its members and says a sound machine has no fault.
use Rattle.std.proofs.Common.{◌≡◌, ℕ, suc, ◌<◌, ◌≤◌, ◌≢◌, Bool, true, false, not, ◌&&◌, List, [], ◌∷◌, length, get_or, map, take, Option, Some, None, refl, sym, ap, ◌∙◌, nat_lt, arith}
use Rattle.std.specs.Prelude.{◌||◌, ◌==◌, AllPairs, is_some, unwrap_or, option_map}
use Rattle.std.specs.List.{list_all, flat_map}
use Rattle.std.proofs.lemmas.Bool.{false≢true, true≢false, false_from_ne_true, eq-eqb, and_from}
use Rattle.std.proofs.lemmas.Bool.Decides.{nat_tests}
use Rattle.std.proofs.lemmas.Grind.{common_steps}
use Rattle.std.proofs.lemmas.List.{get_or-map, get_or-take, length-map, length-take, take-map}
use Rattle.std.proofs.lemmas.List.Folds.{list_any_at}
use Rattle.std.specs.FinSet as set
use Rattle.faults.specs.First.{when}
use Rattle.faults.specs.FirstLaws.{first_below-none}
use Rattle.faults.specs.TestLaws.{never_both}
use Rattle.serde_json.specs.Data.{Data, null}
use Rattle.serde_json.specs.Find.{as_array, as_str}
use Rattle.cpu_set.specs.Ids.{Ids, IsDisjoint}
use Rattle.cpu_set.specs.Least.{least_that}
use Rattle.cpu_set.specs.LeastLaws.{least-none, least-none_says, least-some_says}
use Rattle.cpu_set.specs.Members.{InRange}
use Rattle.cpu_set.specs.PointwiseLaws.{contains-difference, contains-intersection, contains-is_subset}
use Rattle.cpu_set.specs.SetLaws.{empty_of_none, is_empty-some}
use Rattle.cpu_set.specs.ThoseLemmas.{contains-those}
use Rattle.cpu_set.specs.declared.TheConstants.{CPU_LIMIT}
use Rattle.cpu_list.specs.ListText.{names}
use Rattle.slit.specs.AreDistances.{IsEntry}
use Rattle.slit.specs.Table.{Table}
use Rattle.machine.specs.BootFaults.{required_fault, optional_fault, offline_fault}
use Rattle.machine.specs.declared.TheConstants.{NODE_LIMIT, MAX_BYTES}
use Rattle.machine.specs.declared.fault.MachineFault.TheVariants.{CpuTwice, BadCore, NoCore}
use Rattle.machine.specs.declared.field.Field.{Field}
use Rattle.machine.specs.declared.field.Field.TheVariants.{Nodes, Reserved, Offline}
use Rattle.machine.specs.Cores.{core_of}
use Rattle.machine.specs.CoresFault.{lowest_of, size_of, is_core, left_by, core_fault, first_core_fault, left_fault, cores_fault}
use Rattle.machine.specs.Distances.{row_entries, distances_in, AreEntries}
use Rattle.machine.specs.DistancesFault.{entry_fault, distance_row_fault, rows_fault, shape_fault, distances_fault}
use Rattle.machine.specs.HasMembers.{IsSquare, HasDistances, HasMembers, AreSharedOut, HasCores}
use Rattle.machine.specs.IsSound.{IsSound}
use Rattle.machine.specs.KindFaults.{list_fault}
use Rattle.machine.specs.Layout.{Layout}
use Rattle.machine.specs.Listed.{set_of, is_list, cpus_named, listed_in}
use Rattle.machine.specs.MachineOf.{said_by, value_fault, machine_of}
use Rattle.machine.specs.Members.{nodes_member, distances_member, reserved_member, offline_member, cores_member, items_of, items_in}
use Rattle.machine.specs.Nodes.{IsOfNode}
use Rattle.machine.specs.NodesFault.{twice_fault, node_fault, first_node_fault, nodes_fault}
use Rattle.machine.specs.Present.{union_of, present, IsPresent}
use Rattle.machine.specs.SoundIsRead.{SoundIsRead}
use Rattle.machine.proofs.BootLaws.{reserved_fault-none}
use Rattle.machine.proofs.CoreLaws.{AreShared, in_core, core_is}
use Rattle.machine.specs.NodeLaws.{IsPresent-IsOfNode, of_one_node, union_of-has, found_in}
use Rattle.machine.proofs.PlaceLaws.{is_core-all}
use Rattle.machine.proofs.RowSteps.{entry_at}
use Rattle.machine.proofs.SubsetLaws.{is_subset-trans, is_subset-left}

list_fault-none : (field : Field) (d : Data) → is_list d ≡ true → list_fault field d ≡ None
list_fault-none field d is = rw is refl

-- ---- nodes

twice_fault-apart : (earlier cpus : Ids) → IsDisjoint cpus earlier → twice_fault earlier cpus ≡ None
unfolding twice_fault
twice_fault-apart earlier cpus apart =
    ap (option_map CpuTwice) (least-none _ (λ c is_cpu. never_both _ _ (apart c)))

before_k : (sets : List Ids) (i k : ℕ) → i < length (take k sets) → k < length sets → i < k
before_k sets i k within lt = omega (arith, length-take k sets)

later_apart :
    (sets : List Ids) (k : ℕ) → AllPairs IsDisjoint sets → k < length sets → IsDisjoint (get_or sets k set.empty) (union_of (take k sets))
later_apart sets k apart lt n in_k in_earlier =
    let found = found_in (take k sets) n in_earlier in
    let before : found.0 < k = before_k sets found.0 k found.1 lt in
    apart found.0 k set.empty before lt n
    (ap (λ s. set.contains s n) (sym (get_or-take k sets found.0 set.empty before)) ∙ found.2) in_k

node_apart :
    (ds : List Data) (k : ℕ) → AllPairs IsDisjoint (map cpus_named ds) → k < length ds
    → IsDisjoint (cpus_named (get_or ds k null)) (union_of (map cpus_named (take k ds)))
node_apart ds k apart lt n in_k in_earlier =
    later_apart (map cpus_named ds) k apart (simp length-map lt) n
    (ap (λ s. set.contains s n) (get_or-map cpus_named ds k null set.empty lt) ∙ in_k)
    (ap (λ s. set.contains (union_of s) n) (take-map cpus_named k ds) ∙ in_earlier)

first_node_fault-none :
    (ds : List Data) → ((k : ℕ) → k < length ds → is_list (get_or ds k null) ≡ true) → AllPairs IsDisjoint (map cpus_named ds)
    → first_node_fault ds ≡ None
unfolding first_node_fault node_fault
first_node_fault-none ds lists apart =
    first_below-none _ _ (λ k lt.
    rw (list_fault-none Nodes _ (lists k lt), twice_fault-apart _ _ (node_apart ds k apart lt)) refl)

in_range : (n limit : ℕ) → 1 ≤ n → n ≤ limit → ((n == 0) || nat_lt limit n) ≡ false
in_range n limit some few = grind (arith, nat_tests)

nodes_fault-none :
    (ds : List Data) → ((k : ℕ) → k < length ds → is_list (get_or ds k null) ≡ true)
    → 1 ≤ length ds → length ds ≤ NODE_LIMIT → AllPairs IsDisjoint (map cpus_named ds) → nodes_fault ds ≡ None
unfolding nodes_fault
nodes_fault-none ds lists some few apart =
    rw (in_range (length ds) NODE_LIMIT some few, first_node_fault-none ds lists apart) refl

-- ---- distances

each_passes : (p : Data → Bool) (ds : List Data) → ((k : ℕ) → k < length ds → p (get_or ds k null) ≡ true) → list_all p ds ≡ true
each_passes p [] each = refl
each_passes p (d ∷ ds) each = rw (each 0 (omega arith), each_passes p ds (λ k lt. each (suc k) (omega arith))) refl

entry_fault-none : (i j : ℕ) (o : Option ℕ) → is_some o ≡ true → IsEntry i j (unwrap_or o 0) → entry_fault i j o ≡ None
entry_fault-none i j None some is = absurd (false≢true some)
entry_fault-none i j (Some d) some is = grind (arith, common_steps)

shape_fault-none : (n : ℕ) (d : Data) → IsSquare n d → shape_fault n (items_of d) ≡ None
unfolding shape_fault
shape_fault-none n d h =
    let arrays = each_passes (λ row. is_some (as_array row)) (items_of d) (λ k lt. h.arrays k (omega (arith, h.rows))) in
    let columns = each_passes (λ row. length (items_of row) == n) (items_of d) (λ k lt. eq-eqb _ _ (h.columns k (omega (arith, h.rows)))) in
    rw (arrays, eq-eqb _ _ h.rows, columns) refl

columns :
    (n : ℕ) (d : Data) → IsSquare n d → (k : ℕ) → k < length (items_of d) → length (items_of (get_or (items_of d) k null)) ≡ n
columns n d h k lt = let is_row : k < n = omega (arith, h.rows) in h.columns k is_row

rows_fault-none : (n : ℕ) (d : Data) → IsSquare n d → AreEntries n (flat_map row_entries (items_of d)) → rows_fault (items_of d) ≡ None
unfolding rows_fault distance_row_fault
rows_fault-none n d h are =
    let each : (k : ℕ) → k < length (items_of d) → length (items_of (get_or (items_of d) k null)) ≡ n = columns n d h in
    first_below-none _ _ (λ i lt. first_below-none _ _ (λ j long.
    let i_in : i < n = omega (arith, h.rows) in
    let j_in : j < n = omega (arith, h.columns i i_in) in
    entry_fault-none i j _ (h.numbers i j i_in j_in)
    (rw (entry_at (items_of d) n i j each lt j_in) at (are.rows i i_in j j_in))))

distances_fault-none :
    (slit : Option Table) (found : Option Data) (n : ℕ) → HasDistances slit found n → AreEntries n (distances_in slit found)
    → distances_fault slit found n ≡ None
unfolding distances_fault
distances_fault-none (Some t) (Some d) n h are = absurd h
distances_fault-none None None n h are = absurd h
distances_fault-none (Some t) None n h are = rw (eq-eqb t.localities n h) refl
distances_fault-none None (Some d) n h are = rw (h.array, shape_fault-none n d h, rows_fault-none n d h are) refl

-- ---- reserved and offline

required_fault-none : (found : Option Data) (r : Data) → found ≡ Some r → is_list r ≡ true → required_fault Reserved found ≡ None
required_fault-none found r is list = rw is (list_fault-none Reserved r list)

optional_fault-none : (found : Option Data) → ((o : Data) → found ≡ Some o → is_list o ≡ true) → optional_fault Offline found ≡ None
optional_fault-none None lists = refl
optional_fault-none (Some o) lists = list_fault-none Offline o (lists o refl)

offline_fault-none :
    (found : Option Data) (all reserved : Ids) → ((o : Data) → found ≡ Some o → is_list o ≡ true)
    → set.is_subset (listed_in found) (set.difference all reserved) ≡ true → offline_fault found all reserved ≡ None
unfolding offline_fault
offline_fault-none found all reserved lists within = rw (optional_fault-none found lists, within) refl

-- ---- cores

all_listed : (items : List Data) → InRange (union_of (map cpus_named items))
unfolding set_of
all_listed items c has =
    let found = found_in (map cpus_named items) c has in
    let lt : found.0 < length items = omega (arith, found.1, length-map items cpus_named) in
    let d = get_or items found.0 null in
    let in_listed : set.contains (cpus_named d) c ≡ true =
    ap (λ s. set.contains s c) (sym (get_or-map cpus_named items found.0 null set.empty lt)) ∙ found.2 in
    below_of c CPU_LIMIT _ (sym (contains-those (names (unwrap_or (as_str d) [])) CPU_LIMIT c) ∙ in_listed)
  where
    below_of : (c n : ℕ) (b : Bool) → (nat_lt c n && b) ≡ true → c < n
    below_of c n b is = grind (arith, nat_tests)

shared_out : (nodes cores : List Ids) → InRange (union_of nodes) → AreSharedOut (union_of nodes) cores → AreShared nodes cores
shared_out nodes cores in_range out = record {
  in_range = in_range;
  within = λ k lt c has. ap (λ s. set.contains s c) (sym out.all) ∙ union_of-has cores c k lt has;
  apart = out.apart;
  all = λ c there. found_in cores c (ap (λ s. set.contains s c) out.all ∙ there);
}

left_of : (a b : Bool) → a ≡ true → (b ≡ true → ⊥) → (a && not b) ≡ true
left_of a true is f = absurd (f refl)
left_of a false is f = rw is refl

is_subset-split : (core left reserved : Ids) (b : Bool) → ((c : ℕ) → set.contains core c ≡ true → set.contains left c ≡ true)
    → ((c : ℕ) → set.contains core c ≡ true → set.contains reserved c ≡ b)
    → (set.is_subset core (set.difference left reserved) || set.is_subset core (set.intersection left reserved)) ≡ true
is_subset-split core left reserved true within same =
    or_last _ _ (contains-is_subset core _ (λ c has. contains-intersection left reserved c ∙ and_from _ _ (within c has) (same c has)))
  where
    or_last : (a b : Bool) → b ≡ true → (a || b) ≡ true
    or_last true b e = refl
    or_last false b e = e
is_subset-split core left reserved false within same =
    or_first _ _ (contains-is_subset core _ (λ c has. contains-difference left reserved c ∙ left_of _ _ (within c has) (λ e. false≢true (sym (same c has) ∙ e))))
  where
    or_first : (a b : Bool) → a ≡ true → (a || b) ≡ true
    or_first a b e = rw e refl

within_left : (nodes cores : List Ids) (k : ℕ) → AreShared nodes cores → k < length cores → (c : ℕ) → set.contains (get_or cores k set.empty) c ≡ true → set.contains (left_by nodes (take k cores)) c ≡ true
within_left nodes cores k shared lt c has =
    contains-difference (union_of nodes) (union_of (take k cores)) c
    ∙ left_of _ _ (shared.within k lt c has) (λ earlier. later_apart cores k shared.apart lt c has earlier)

-- a set with members has a first one
has_one : (s : Ids) → InRange s → s ≢ set.empty → (c : ℕ) × (set.contains s c ≡ true)
has_one s in_range some = by_least (least_that (set.contains s)) refl
  where
    by_least : (found : Option ℕ) → least_that (set.contains s) ≡ found → (c : ℕ) × (set.contains s c ≡ true)
    by_least (Some c) is = (c, (least-some_says (set.contains s) c is).passes)
    by_least None is =
        absurd (some (empty_of_none s (λ n _. false_from_ne_true _ (λ has.
        true≢false (sym has ∙ least-none_says (set.contains s) is n (in_range n has))))))

core_fault-none :
    (m : Layout) (cores : List Ids) (k : ℕ) → IsSound m → AreShared m.nodes cores → m.lowest ≡ lowest_of cores → m.threads ≡ size_of cores → k < length cores
    → get_or cores k set.empty ≢ set.empty → is_core m.nodes m.reserved (size_of cores) (left_by m.nodes (take k cores)) (get_or cores k set.empty) ≡ true
core_fault-none m cores k sound shared is threads lt some =
    let core = get_or cores k set.empty in
    let one = has_one core (λ q has. shared.in_range q (shared.within k lt q has)) some in
    let at = in_core m cores shared is one.0 k lt one.1 in
    let low = core_of m one.0 in
    let there : (q : ℕ) → set.contains core q ≡ true → IsPresent m q = λ q has. shared.within k lt q has in
    let same : (q : ℕ) → set.contains core q ≡ true → core_of m q ≡ low = λ q has. (in_core m cores shared is q k lt has).lowest ∙ sym at.lowest in
    let of_node = IsPresent-IsOfNode m low (there low at.least) in
    is_core-all m.nodes m.reserved (size_of cores) _ core (is_empty-some core some)
    (and_from _ _ (eq-eqb _ _ (ap set.len (sym (core_is m cores shared is one.0 k at)) ∙ sound.cores.threads one.0 (there one.0 one.1) ∙ threads))
    (is_subset-split core _ m.reserved (set.contains m.reserved low) (within_left m.nodes cores k shared lt)
    (λ q has. sym (sound.cores.reserved q (there q has)) ∙ ap (set.contains m.reserved) (same q has))))
    (list_any_at (λ node. set.is_subset core node) m.nodes of_node.0 set.empty of_node.1.is_node
    (contains-is_subset core _ (λ q has.
    let other = IsPresent-IsOfNode m q (there q has) in
    let its = sound.cores.one_node q other.0 other.1 in
    let lowest_too : IsOfNode m low other.0 = record { is_node = its.is_node; has_cpu = ap (set.contains (get_or m.nodes other.0 set.empty)) (sym (same q has)) ∙ its.has_cpu } in
    let equal : other.0 ≡ of_node.0 = of_one_node m low other.0 of_node.0 sound.apart lowest_too of_node.1 in
    ap (λ i. set.contains (get_or m.nodes i set.empty) q) (sym equal) ∙ other.1.has_cpu)))

and_not_itself : (a b : Bool) → a ≡ b → (a && not b) ≡ false
and_not_itself true b e = rw (← e) refl
and_not_itself false b e = refl

cores_fault-none :
    (m : Layout) (found : Option Data) → IsSound m → InRange (present m) → ((c : Data) → found ≡ Some c → HasCores (present m) c)
    → m.lowest ≡ lowest_of (map cpus_named (items_in found)) → m.threads ≡ size_of (map cpus_named (items_in found)) → cores_fault m.nodes m.reserved found ≡ None
unfolding cores_fault first_core_fault core_fault left_fault
cores_fault-none m None sound in_range has is threads = refl
cores_fault-none m (Some d) sound in_range has is threads =
    let h = has d refl in
    let cores = map cpus_named (items_of d) in
    let shared = shared_out m.nodes cores in_range h.shared_out in
    let each = first_below-none (length cores) _ (λ k lt. ap (λ b. when (not b) (BadCore k)) (core_fault-none m cores k sound shared is threads lt (h.shared_out.some k lt))) in
    let left = ap (option_map NoCore) (least-none (λ q. set.contains (union_of m.nodes) q && not (set.contains (union_of cores) q)) (λ q is_cpu. and_not_itself _ _ (ap (λ s. set.contains s q) (sym h.shared_out.all)))) in
    rw (h.array, h.lists, each, left) refl

-- a value that has its members and says a sound machine is without fault
pub value_fault-none : (slit : Option Table) (d : Data) → HasMembers slit d → IsSound (said_by slit d) → value_fault slit d ≡ None
value_fault-none slit d h sound =
    let items = items_in (nodes_member d) in
    let count : length (map cpus_named items) ≡ length items = length-map items cpus_named in
    let nodes = nodes_fault-none items h.lists (omega (arith, count, sound.some)) (omega (arith, count, sound.few)) sound.apart in
    let distances = distances_fault-none slit (distances_member d) (length items) h.distances (rw count at sound.distances) in
    let reserved = reserved_fault-none (reserved_member d) (listed_in (reserved_member d)) (present (said_by slit d))
    (required_fault-none _ h.reserved.0 h.reserved.1 h.reserved.2) refl
    (is_empty-some _ sound.reserved_some)
    (is_subset-trans _ _ _ sound.reserved_online sound.online_present) in
    let offline = offline_fault-none (offline_member d) (present (said_by slit d)) (listed_in (reserved_member d)) h.offline
    (is_subset-left _ _ _ h.offline_present sound.reserved_online) in
    let cores = cores_fault-none (said_by slit d) (cores_member d) sound (all_listed items) h.cores refl refl in
    rw (h.object, h.nodes, nodes, distances, reserved, offline, cores) refl

not_longer : (n limit : ℕ) → n ≤ limit → nat_lt limit n ≡ false
not_longer n limit le = grind (arith, nat_tests)

pub sound_is_read : SoundIsRead
unfolding machine_of
sound_is_read slit text d short json h sound =
    rw (not_longer (length text) MAX_BYTES short, json, value_fault-none slit d h sound) refl
