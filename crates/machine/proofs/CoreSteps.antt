-- Reading the cores one by one.
use Rattle.std.proofs.Common.{◌≡◌, ℕ, ◌+◌, ◌<◌, inl, inr, true, false, cond, not, ◌&&◌, List, [], ◌∷◌, ◌++◌, length, get_or, map, take, Option, Some, None, refl, sym, ap, ◌∙◌, arith}
use Rattle.std.specs.Prelude.{option_map, is_some}
use Rattle.std.proofs.lemmas.Bool.{cases_lt}
use Rattle.std.proofs.lemmas.List.{take_more, take_all, ext_get_or, get_or-map, length-map}
use Rattle.std.proofs.lemmas.List.Sums.{fold_push}
use Rattle.std.specs.FinSet as set
use Rattle.faults.specs.First.{when}
use Rattle.faults.specs.FirstLaws.{first_below-none, first_below-at}
use Rattle.serde_json.specs.Data.{Data, null}
use Rattle.serde_json.specs.View.{view}
use Rattle.serde_json.specs.declared.value.Value.{Value}
use Rattle.cpu_set.specs.Ids.{Ids}
use Rattle.cpu_set.specs.LeastLaws.{IsFirstOf, least-difference}
use Rattle.cpu_set.specs.PointwiseLaws.{same_members, contains-empty, contains-union, contains-difference}
use Rattle.cpu_set.specs.declared.TheConstants.{CPU_LIMIT}
use Rattle.machine.specs.declared.fault.MachineFault.{MachineFault}
use Rattle.machine.specs.declared.fault.MachineFault.TheVariants.{BadCore, NoCore}
use Rattle.cpu_set.specs.Least.{least_of}
use Rattle.machine.specs.CoresFault.{lowest_in, lowest_of, size_of, is_core, core_fault, left_by, first_core_fault, left_fault}
use Rattle.machine.specs.Listed.{cpus_named}
use Rattle.machine.specs.Present.{union_of}
use Rattle.machine.proofs.CoreLaws.{lowest_of-at, lowest_of-long, lowest_in-none}
use Rattle.machine.proofs.SubsetLaws.{is_subset-difference}
use Rattle.faults.specs.TestLaws.{without_two, without_none}

-- the fault of core i, after the cores before it
abbrev pub fault_at : List Ids → Ids → List Ids → ℕ → Option MachineFault
fault_at nodes reserved cores i =
    core_fault nodes reserved (size_of cores) (left_by nodes (take i cores)) i (get_or cores i set.empty)

-- the cores below i are without fault, this is what they leave, and these are the lowest CPUs
pub record AreCoresRead (nodes : List Ids) (reserved : Ids) (cores : List Ids) (i : ℕ) (left : Ids) (lowest : List ℕ) : Type 0 where
  pub none : (k : ℕ) → k < i → fault_at nodes reserved cores k ≡ None
  pub left_is : left ≡ left_by nodes (take i cores)
  pub room : length lowest ≡ CPU_LIMIT
  pub each : (c : ℕ) → c < CPU_LIMIT → get_or lowest c 0 ≡ lowest_in (take i cores) c

left_by-none : (nodes : List Ids) → union_of nodes ≡ left_by nodes []
left_by-none nodes =
    same_members _ _ (λ q.
    without_none (set.contains (union_of nodes) q)
    ∙ ap (λ b. set.contains (union_of nodes) q && not b) (sym (contains-empty q))
    ∙ sym (contains-difference (union_of nodes) set.empty q))

pub AreCoresRead-none :
    (nodes : List Ids) (reserved : Ids) (cores : List Ids) (left : Ids) (lowest : List ℕ) → left ≡ union_of nodes → length lowest ≡ CPU_LIMIT
    → ((c : ℕ) → c < CPU_LIMIT → get_or lowest c 0 ≡ c) → AreCoresRead nodes reserved cores 0 left lowest
AreCoresRead-none nodes reserved cores left lowest all room own = record {
  none = λ k lt. absurd (omega arith);
  left_is = all ∙ left_by-none nodes;
  room = room;
  each = λ c lt. own c lt ∙ sym (lowest_in-none c);
}

difference-union : (a b c : Ids) → set.difference (set.difference a b) c ≡ set.difference a (set.union b c)
difference-union a b c =
    same_members _ _ (λ q.
    contains-difference (set.difference a b) c q
    ∙ ap (λ x. x && not (set.contains c q)) (contains-difference a b q)
    ∙ without_two (set.contains a q) (set.contains b q) (set.contains c q)
    ∙ ap (λ x. set.contains a q && not x) (sym (contains-union b c q))
    ∙ sym (contains-difference a (set.union b c) q))

lowest_in-push : (cores : List Ids) (core : Ids) (c : ℕ) → lowest_in (cores ++ core ∷ []) c ≡ cond (set.contains core c) (least_of core) (lowest_in cores c)
unfolding lowest_in
lowest_in-push cores core c = fold_push _ c cores core

here : (nodes : List Ids) (reserved : Ids) (cores : List Ids) (i : ℕ) (left core : Ids) → left ≡ left_by nodes (take i cores) → core ≡ get_or cores i set.empty
    → fault_at nodes reserved cores i ≡ core_fault nodes reserved (size_of cores) left i core
here nodes reserved cores i left core is_left is =
    ap (λ l. core_fault nodes reserved (size_of cores) l i (get_or cores i set.empty)) (sym is_left)
    ∙ ap (λ s. core_fault nodes reserved (size_of cores) left i s) (sym is)

pub AreCoresRead-more :
    (nodes : List Ids) (reserved : Ids) (cores : List Ids) (i : ℕ) (left : Ids) (lowest : List ℕ) (core : Ids) (least : ℕ) (left_more : Ids) (lowest_more : List ℕ)
    → AreCoresRead nodes reserved cores i left lowest → i < length cores → core ≡ get_or cores i set.empty
    → core_fault nodes reserved (size_of cores) left i core ≡ None → least ≡ least_of core
    → left_more ≡ set.difference left core → length lowest_more ≡ CPU_LIMIT
    → ((c : ℕ) → get_or lowest_more c 0 ≡ cond (set.contains core c) least (get_or lowest c 0))
    → AreCoresRead nodes reserved cores (i + 1) left_more lowest_more
AreCoresRead-more nodes reserved cores i left lowest core least left_more lowest_more read lt is none is_least is_left room marked =
    let more : take (i + 1) cores ≡ take i cores ++ core ∷ [] = rw is (take_more cores i set.empty lt) in
    record {
      none = λ k below. elim (cases_lt k i) [
        | inl before ↦ read.none k before
        | inr last ↦ let same : k ≡ i = omega arith in rw same (here nodes reserved cores i left core read.left_is is ∙ none)
      ];
      left_is =
          is_left ∙ ap (λ l. set.difference l core) read.left_is ∙ difference-union (union_of nodes) (union_of (take i cores)) core
          ∙ ap (set.difference (union_of nodes)) (sym (fold_push set.union set.empty (take i cores) core))
          ∙ ap (λ l. left_by nodes l) (sym more);
      room = room;
      each = λ c below.
          marked c
          ∙ ap (λ n. cond (set.contains core c) n (get_or lowest c 0)) is_least
          ∙ ap (λ n. cond (set.contains core c) (least_of core) n) (read.each c below)
          ∙ sym (lowest_in-push (take i cores) core c) ∙ ap (λ l. lowest_in l c) (sym more);
    }

pub AreCoresRead-fault :
    (nodes : List Ids) (reserved : Ids) (cores : List Ids) (i : ℕ) (left : Ids) (lowest : List ℕ) (core : Ids) (e : MachineFault)
    → AreCoresRead nodes reserved cores i left lowest → i < length cores → core ≡ get_or cores i set.empty
    → core_fault nodes reserved (size_of cores) left i core ≡ Some e → first_core_fault nodes reserved cores ≡ Some e
unfolding first_core_fault
AreCoresRead-fault nodes reserved cores i left lowest core e read lt is at =
    first_below-at (length cores) i (fault_at nodes reserved cores) e lt read.none (here nodes reserved cores i left core read.left_is is ∙ at)

-- what holds once all cores are read
pub record AllRead (nodes : List Ids) (reserved : Ids) (cores : List Ids) (left : Ids) (lowest : List ℕ) : Type 0 where
  pub none : first_core_fault nodes reserved cores ≡ None
  pub left_is : left ≡ left_by nodes cores
  pub lowest_is : lowest ≡ lowest_of cores

all_lowest : (n : ℕ) (cores : List Ids) (lowest : List ℕ) → n ≡ CPU_LIMIT → length lowest ≡ n
    → ((c : ℕ) → c < n → get_or lowest c 0 ≡ lowest_in cores c) → lowest ≡ lowest_of cores
all_lowest n cores lowest e room each =
    ext_get_or 0 _ _ (room ∙ e ∙ sym (lowest_of-long cores))
    (λ c lt. each c (omega (arith, room)) ∙ sym (lowest_of-at cores c 0 (omega (arith, room, e))))

pub AreCoresRead-all :
    (nodes : List Ids) (reserved : Ids) (cores : List Ids) (i : ℕ) (left : Ids) (lowest : List ℕ) → AreCoresRead nodes reserved cores i left lowest
    → i ≡ length cores → AllRead nodes reserved cores left lowest
unfolding first_core_fault
AreCoresRead-all nodes reserved cores i left lowest read end =
    let whole : take i cores ≡ cores = take_all i cores (omega arith) in
    record {
      none = first_below-none (length cores) (fault_at nodes reserved cores) (λ k lt. read.none k (omega arith));
      left_is = read.left_is ∙ ap (left_by nodes) whole;
      lowest_is = all_lowest CPU_LIMIT cores lowest refl read.room (λ c lt. read.each c lt ∙ ap (λ l. lowest_in l c) whole);
    }

-- the least CPU that is left
pub left_fault-first : (nodes cores : List Ids) (left : Ids) (first : Option ℕ) → left ≡ left_by nodes cores → IsFirstOf left first → left_fault nodes cores ≡ option_map NoCore first
unfolding left_fault
left_fault-first nodes cores left first is first_is =
    ap (option_map NoCore) (least-difference (union_of nodes) (union_of cores) first (rw is at first_is))

-- the CPUs of an item are those of the list of cores
pub listed_at : (vs : List Value) (i : ℕ) → i < length (map view vs) → cpus_named (get_or (map view vs) i null) ≡ get_or (map cpus_named (map view vs)) i set.empty
listed_at vs i lt = sym (get_or-map cpus_named (map view vs) i null set.empty lt)

pub listed_within : (ds : List Data) (i : ℕ) → i < length ds → i < length (map cpus_named ds)
listed_within ds i lt = simp length-map lt

pub listed_last : (ds : List Data) (i : ℕ) → i ≡ length ds → i ≡ length (map cpus_named ds)
listed_last ds i is = is ∙ sym (length-map ds cpus_named)

-- numbers at their own places are the lowest CPUs of no cores
pub all_own : (lowest : List ℕ) → length lowest ≡ CPU_LIMIT → ((c : ℕ) → c < CPU_LIMIT → get_or lowest c 0 ≡ c) → lowest ≡ lowest_of []
all_own lowest room own = all_lowest CPU_LIMIT [] lowest refl room (λ c lt. own c lt ∙ sym (lowest_in-none c))

-- what is left is within all
pub left_within : (nodes : List Ids) (cores : List Ids) (left : Ids) → left ≡ left_by nodes cores → set.is_subset left (union_of nodes) ≡ true
left_within nodes cores left is = rw is (is_subset-difference (union_of nodes) (union_of cores))

pub not_some : (o : Option ℕ) → ((n : ℕ) → o ≡ Some n → ⊥) → is_some o ≡ false
not_some None f = refl
not_some (Some n) f = absurd (f n refl)

-- the fault of a core, by its test
pub fault_none :
    (nodes : List Ids) (reserved : Ids) (cores : List Ids) (size i : ℕ) (left core : Ids) → size ≡ size_of cores → is_core nodes reserved size left core ≡ true
    → core_fault nodes reserved (size_of cores) left i core ≡ None
unfolding core_fault
fault_none nodes reserved cores size i left core same is = ap (λ b. when (not b) (BadCore i)) (ap (λ n. is_core nodes reserved n left core) (sym same) ∙ is)

pub fault_some :
    (nodes : List Ids) (reserved : Ids) (cores : List Ids) (size i : ℕ) (left core : Ids) → size ≡ size_of cores → is_core nodes reserved size left core ≡ false
    → core_fault nodes reserved (size_of cores) left i core ≡ Some (BadCore i)
unfolding core_fault
fault_some nodes reserved cores size i left core same is = ap (λ b. when (not b) (BadCore i)) (ap (λ n. is_core nodes reserved n left core) (sym same) ∙ is)
