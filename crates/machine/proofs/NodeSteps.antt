-- Reading the nodes one by one.
use Rattle.std.proofs.Common.{◌≡◌, ℕ, ◌+◌, ◌<◌, inl, inr, List, [], ◌∷◌, ◌++◌, length, get_or, map, take, Option, Some, None, subst, refl, sym, ap, ◌∙◌, arith}
use Rattle.std.specs.Prelude.{AllPairs}
use Rattle.std.proofs.lemmas.Bool.{cases_lt}
use Rattle.std.proofs.lemmas.List.{take_more, take_all, map-append}
use Rattle.std.proofs.lemmas.List.Quantifiers.{all_pairs_push}
use Rattle.std.proofs.lemmas.List.Sums.{fold_push}
use Rattle.std.specs.FinSet as set
use Rattle.std.proofs.lemmas.Option.{none-some}
use Rattle.faults.specs.First.{first_of}
use Rattle.faults.specs.FirstLaws.{first_below-none, first_below-at}
use Rattle.serde_json.specs.Data.{Data, null}
use Rattle.cpu_set.specs.Ids.{Ids, IsDisjoint}
use Rattle.machine.specs.declared.fault.MachineFault.{MachineFault}
use Rattle.machine.specs.declared.field.Field.TheVariants.{Nodes}
use Rattle.machine.specs.KindFaults.{list_fault, AreLists}
use Rattle.machine.specs.Listed.{cpus_named}
use Rattle.machine.specs.NodesFault.{twice_fault, node_fault, first_node_fault}
use Rattle.machine.specs.Present.{union_of}
use Rattle.machine.specs.NodeLaws.{apart_from_each}

-- the fault of node i, after the nodes before it
abbrev pub fault_at : List Data → ℕ → Option MachineFault
fault_at ds i = node_fault (union_of (map cpus_named (take i ds))) (get_or ds i null)

-- the nodes below i are without fault, and these are their CPUs
pub record AreUnited (ds : List Data) (i : ℕ) (all : Ids) : Type 0 where
  pub none : (k : ℕ) → k < i → fault_at ds k ≡ None
  pub union : all ≡ union_of (map cpus_named (take i ds))
  pub apart : AllPairs IsDisjoint (map cpus_named (take i ds))

pub AreUnited-none : (ds : List Data) (all : Ids) → all ≡ set.empty → AreUnited ds 0 all
AreUnited-none ds all none = record {
  none = λ k lt. absurd (omega arith);
  union = none;
  apart = λ i j d _ lt. absurd (omega arith);
}

here : (ds : List Data) (i : ℕ) (all : Ids) → AreUnited ds i all → fault_at ds i ≡ node_fault all (get_or ds i null)
here ds i all united = ap (λ e. node_fault e (get_or ds i null)) (sym united.union)

pub AreUnited-more :
    (ds : List Data) (i : ℕ) (all s : Ids) → AreUnited ds i all → i < length ds
    → node_fault all (get_or ds i null) ≡ None → s ≡ cpus_named (get_or ds i null) → IsDisjoint all s
    → AreUnited ds (i + 1) (set.union all s)
AreUnited-more ds i all s united lt none is apart =
    let more : map cpus_named (take (i + 1) ds) ≡ map cpus_named (take i ds) ++ s ∷ [] = rw (take_more ds i null lt, map-append, is) refl in
    record {
      none = λ k below. elim (cases_lt k i) [
        | inl before ↦ united.none k before
        | inr last ↦ let same : k ≡ i = omega arith in rw same (here ds i all united ∙ none)
      ];
      union = rw (more, fold_push, united.union) refl;
      apart = rw more (all_pairs_push IsDisjoint (map cpus_named (take i ds)) s united.apart
          (apart_from_each (map cpus_named (take i ds)) s (rw (← united.union) apart)));
    }

pub AreUnited-fault :
    (ds : List Data) (i : ℕ) (all : Ids) (e : MachineFault) → AreUnited ds i all → i < length ds
    → node_fault all (get_or ds i null) ≡ Some e → first_node_fault ds ≡ Some e
unfolding first_node_fault
AreUnited-fault ds i all e united lt at =
    first_below-at (length ds) i (fault_at ds) e lt united.none (here ds i all united ∙ at)

is_list_where_none : (earlier : Ids) (d : Data) → node_fault earlier d ≡ None → list_fault Nodes d ≡ None
unfolding node_fault
is_list_where_none earlier d none = by_list (list_fault Nodes d) refl
  where
    by_list : (f : Option MachineFault) → list_fault Nodes d ≡ f → list_fault Nodes d ≡ None
    by_list None is = is
    by_list (Some e) is = absurd (none-some e (sym none ∙ ap (λ f. first_of (f ∷ twice_fault earlier (cpus_named d) ∷ [])) is))

-- what holds once all nodes are read
pub record AreNodes (ds : List Data) (all : Ids) : Type 0 where
  pub none : first_node_fault ds ≡ None
  pub union : all ≡ union_of (map cpus_named ds)
  pub apart : AllPairs IsDisjoint (map cpus_named ds)
  pub lists : AreLists Nodes ds

pub AreUnited-all : (ds : List Data) (i : ℕ) (all : Ids) → AreUnited ds i all → i ≡ length ds → AreNodes ds all
unfolding first_node_fault
AreUnited-all ds i all united end =
    let whole : take i ds ≡ ds = take_all i ds (omega arith) in
    record {
      none = first_below-none (length ds) (fault_at ds) (λ k lt. united.none k (omega arith));
      union = united.union ∙ ap (λ l. union_of (map cpus_named l)) whole;
      apart = subst (λ l. AllPairs IsDisjoint (map cpus_named l)) whole united.apart;
      lists = λ k lt. is_list_where_none _ _ (united.none k (omega arith));
    }

-- the sets of the items below i, and of one item more
pub are_read_more :
    (ds : List Data) (i : ℕ) (sets : List Ids) (s : Ids) → sets ≡ map cpus_named (take i ds) → i < length ds → s ≡ cpus_named (get_or ds i null)
    → sets ++ s ∷ [] ≡ map cpus_named (take (i + 1) ds)
are_read_more ds i sets s read lt is = rw (take_more ds i null lt, map-append, read, is) refl

pub are_read_all : (ds : List Data) (i : ℕ) (sets : List Ids) → sets ≡ map cpus_named (take i ds) → i ≡ length ds → sets ≡ map cpus_named ds
are_read_all ds i sets read end = read ∙ ap (map cpus_named) (take_all i ds (omega arith))
