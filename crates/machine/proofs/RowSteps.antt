-- Reading the distances entry by entry, and row by row.
use Rattle.std.proofs.Common.{◌≡◌, ℕ, zero, suc, ◌+◌, ◌*◌, ◌<◌, ◌≤◌, inl, inr, true, List, [], ◌∷◌, ◌++◌, length, get_or, map, take, Option, Some, None, Result, Ok, Err, refl, sym, ap, ◌∙◌, append_assoc, length-append, arith}
use Rattle.std.specs.List.{list_all, flat_map}
use Rattle.std.specs.Prelude.{◌==◌, IfOk}
use Rattle.std.proofs.lemmas.Nat.{mul-le}
use Rattle.std.proofs.Math.Nat.{suc-mul}
use Rattle.std.proofs.Math.Seq.{take-suc}
use Rattle.std.proofs.lemmas.Bool.{cases_lt, cases_Bool, false≢true, eqb-true}
use Rattle.std.proofs.lemmas.List.{take_more, take_all, map-append, length-map, get_or-map, flat_map_more}
use Rattle.std.proofs.lemmas.List.Concat.{get_or-flat_map}
use Rattle.std.proofs.lemmas.List.Folds.{list_all_at}
use Rattle.std.proofs.lemmas.Grind.{common_steps}
use Rattle.faults.specs.FirstLaws.{first_below-none, first_below-at}
use Rattle.serde_json.specs.Data.{Data, null}
use Rattle.slit.specs.AreDistances.{IsEntry}
use Rattle.slit.specs.Table.{distance, table}
use Rattle.machine.specs.declared.fault.MachineFault.{MachineFault}
use Rattle.machine.specs.declared.TheConstants.{NODE_LIMIT}
use Rattle.machine.specs.declared.table.TheConstants.{ENTRY_LIMIT}
use Rattle.json_text.specs.Numbers.{unsigned_of}
use Rattle.machine.specs.Distances.{said_distance, row_entries, AreEntries, IsRowAllowed, AreRowsAllowed}
use Rattle.machine.specs.DistancesFault.{entry_fault, distance_row_fault, rows_fault}
use Rattle.machine.specs.Members.{items_of}

-- the fault of the entry in column j of row i
abbrev pub cell_fault : ℕ → List Data → ℕ → Option MachineFault
cell_fault i ds j = entry_fault i j (unsigned_of (get_or ds j null))

-- the entries of row i before column j are without fault, and added to what was there
pub record AreCellsRead (i : ℕ) (ds : List Data) (j : ℕ) (old new : List ℕ) : Type 0 where
  pub none : (k : ℕ) → k < j → cell_fault i ds k ≡ None
  pub allowed : (k : ℕ) → k < j → IsEntry i k (said_distance (get_or ds k null))
  pub added : new ≡ old ++ map said_distance (take j ds)

pub AreCellsRead-none : (i : ℕ) (ds : List Data) (old : List ℕ) → AreCellsRead i ds 0 old old
AreCellsRead-none i ds old = record {
  none = λ k lt. absurd (omega arith);
  allowed = λ k lt. absurd (omega arith);
  added = grind (arith, common_steps);
}

pub AreCellsRead-more :
    (i : ℕ) (ds : List Data) (j : ℕ) (old new more : List ℕ) (d : ℕ) → AreCellsRead i ds j old new → j < length ds
    → cell_fault i ds j ≡ None → d ≡ said_distance (get_or ds j null) → IsEntry i j d → more ≡ new ++ d ∷ []
    → AreCellsRead i ds (j + 1) old more
AreCellsRead-more i ds j old new more d read lt none is allowed pushed = record {
  none = λ k below. elim (cases_lt k j) [
    | inl before ↦ read.none k before
    | inr last ↦ let same : k ≡ j = omega arith in rw same none
  ];
  allowed = λ k below. elim (cases_lt k j) [
    | inl before ↦ read.allowed k before
    | inr last ↦ let same : k ≡ j = omega arith in rw (same, ← is) allowed
  ];
  added = pushed ∙ rw (take_more ds j null lt, map-append, read.added, is, append_assoc) refl;
}

pub AreCellsRead-fault :
    (i : ℕ) (ds : List Data) (j : ℕ) (old new : List ℕ) (e : MachineFault) → AreCellsRead i ds j old new → j < length ds
    → cell_fault i ds j ≡ Some e → distance_row_fault i ds ≡ Some e
unfolding distance_row_fault
AreCellsRead-fault i ds j old new e read lt at = first_below-at (length ds) j (cell_fault i ds) e lt read.none at

pub record IsRowRead (i : ℕ) (ds : List Data) (old new : List ℕ) : Type 0 where
  pub none : distance_row_fault i ds ≡ None
  pub allowed : IsRowAllowed i ds
  pub added : new ≡ old ++ map said_distance ds

pub AreCellsRead-all :
    (i : ℕ) (ds : List Data) (j : ℕ) (old new : List ℕ) → AreCellsRead i ds j old new → j ≡ length ds → IsRowRead i ds old new
unfolding distance_row_fault
AreCellsRead-all i ds j old new read all = record {
  none = first_below-none (length ds) (cell_fault i ds) (λ k lt. read.none k (omega arith));
  allowed = λ k lt. read.allowed k (omega arith);
  added = read.added ∙ ap (λ front. old ++ map said_distance front) (take_all j ds (omega arith));
}

-- the rows before row i are without fault, and their entries read
pub record AreRowsRead (ds : List Data) (i : ℕ) (entries : List ℕ) : Type 0 where
  pub none : (k : ℕ) → k < i → distance_row_fault k (items_of (get_or ds k null)) ≡ None
  pub allowed : (k : ℕ) → k < i → IsRowAllowed k (items_of (get_or ds k null))
  pub read : entries ≡ flat_map row_entries (take i ds)

pub AreRowsRead-none : (ds : List Data) (entries : List ℕ) → entries ≡ [] → AreRowsRead ds 0 entries
AreRowsRead-none ds entries is = record {
  none = λ k lt. absurd (omega arith);
  allowed = λ k lt. absurd (omega arith);
  read = is;
}

pub AreRowsRead-more :
    (ds : List Data) (i : ℕ) (entries more : List ℕ) → AreRowsRead ds i entries → i < length ds
    → distance_row_fault i (items_of (get_or ds i null)) ≡ None → IsRowAllowed i (items_of (get_or ds i null))
    → more ≡ entries ++ row_entries (get_or ds i null) → AreRowsRead ds (i + 1) more
AreRowsRead-more ds i entries more rows lt none allowed added = record {
  none = λ k below. elim (cases_lt k i) [
    | inl before ↦ rows.none k before
    | inr last ↦ let same : k ≡ i = omega arith in rw same none
  ];
  allowed = λ k below. elim (cases_lt k i) [
    | inl before ↦ rows.allowed k before
    | inr last ↦ let same : k ≡ i = omega arith in rw same allowed
  ];
  read = added ∙ ap (λ front. front ++ row_entries (get_or ds i null)) rows.read
      ∙ flat_map_more row_entries [] (take i ds) (get_or ds i null) ∙ ap (flat_map row_entries) (sym (take_more ds i null lt));
}

pub AreRowsRead-fault :
    (ds : List Data) (i : ℕ) (entries : List ℕ) (e : MachineFault) → AreRowsRead ds i entries → i < length ds
    → distance_row_fault i (items_of (get_or ds i null)) ≡ Some e → rows_fault ds ≡ Some e
unfolding rows_fault
AreRowsRead-fault ds i entries e rows lt at =
    first_below-at (length ds) i (λ k. distance_row_fault k (items_of (get_or ds k null))) e lt rows.none at

pub AreRowsRead-all :
    (ds : List Data) (i : ℕ) (entries : List ℕ) → AreRowsRead ds i entries → i ≡ length ds
    → (rows_fault ds ≡ None) × (entries ≡ flat_map row_entries ds) × AreRowsAllowed ds
unfolding rows_fault
AreRowsRead-all ds i entries rows all = (
  first_below-none (length ds) (λ k. distance_row_fault k (items_of (get_or ds k null))) (λ k lt. rows.none k (omega arith)),
  rows.read ∙ ap (flat_map row_entries) (take_all i ds (omega arith)),
  λ k lt. rows.allowed k (omega arith),
)

-- the rows before row i have i times n entries
rows_before :
    (ds : List Data) (n i : ℕ) → ((k : ℕ) → k < length ds → length (items_of (get_or ds k null)) ≡ n) → i ≤ length ds
    → length (flat_map row_entries (take i ds)) ≡ i * n
rows_before ds n zero each within = grind (arith, common_steps)
rows_before ds n (suc i) each within =
    let lt : i < length ds = omega arith in
    let one : length (row_entries (get_or ds i null)) ≡ n = length-map (items_of (get_or ds i null)) said_distance ∙ each i lt in
    let so_far = rows_before ds n i each (omega arith) in
    ap (λ front. length (flat_map row_entries front)) (take-suc ds i null lt)
    ∙ ap length (sym (flat_map_more row_entries [] (take i ds) (get_or ds i null)))
    ∙ length-append (flat_map row_entries (take i ds)) (row_entries (get_or ds i null))
    ∙ rw (so_far, one) (sym (suc-mul i n))

-- rows of n entries each have n entries each
columns :
    (ds : List Data) (n : ℕ) → list_all (λ row. length (items_of row) == n) ds ≡ true
    → (k : ℕ) → k < length ds → length (items_of (get_or ds k null)) ≡ n
columns ds n all k lt =
    elim (cases_Bool (length (items_of (get_or ds k null)) == n)) [
      | inl yes_ ↦ eqb-true _ _ yes_
      | inr no_ ↦ absurd (false≢true (sym (list_all_at (λ row. length (items_of row) == n) ds k null lt no_) ∙ all))
    ]

-- the entry in row i and column j stands after i rows of n entries and j entries more
pub entry_at :
    (ds : List Data) (n i j : ℕ) → ((k : ℕ) → k < length ds → length (items_of (get_or ds k null)) ≡ n)
    → i < length ds → j < n
    → distance (table n (flat_map row_entries ds)) i j ≡ said_distance (get_or (items_of (get_or ds i null)) j null)
entry_at ds n i j each lt in_row =
    let long : j < length (items_of (get_or ds i null)) = omega (arith, each i lt) in
    let there : j < length (row_entries (get_or ds i null)) = simp length-map long in
    ap (λ before. get_or (flat_map row_entries ds) (before + j) 0) (sym (rows_before ds n i each (omega arith)))
    ∙ get_or-flat_map row_entries ds i j null 0 lt there
    ∙ get_or-map said_distance (items_of (get_or ds i null)) j null 0 long

within_limit : (i n : ℕ) → i < n → n ≤ NODE_LIMIT → i * n + n ≤ ENTRY_LIMIT
within_limit i n lt few =
    let all : suc i * n ≤ NODE_LIMIT * NODE_LIMIT = mul-le (suc i) n NODE_LIMIT NODE_LIMIT (omega arith) few in
    omega (arith, suc-mul i n, all)

-- there is room for the entries of row i behind those of the rows before it
pub AreRowsRead-room :
    (ds : List Data) (n i : ℕ) (entries : List ℕ) → AreRowsRead ds i entries → length ds ≡ n
    → list_all (λ row. length (items_of row) == n) ds ≡ true → i < length ds → n ≤ NODE_LIMIT
    → length entries + length (items_of (get_or ds i null)) ≤ ENTRY_LIMIT
AreRowsRead-room ds n i entries rows count all lt few =
    let each = columns ds n all in
    let before : length entries ≡ i * n = ap length rows.read ∙ rows_before ds n i each (omega arith) in
    let more : length (items_of (get_or ds i null)) ≡ n = each i lt in
    let in_rows : i < n = omega arith in
    rw (before, more) (within_limit i n in_rows few)

-- n allowed rows of n entries are the distances between n nodes
pub AreEntries-rows :
    (ds : List Data) (n : ℕ) → length ds ≡ n → list_all (λ row. length (items_of row) == n) ds ≡ true
    → AreRowsAllowed ds → AreEntries n (flat_map row_entries ds)
AreEntries-rows ds n rows all allowed =
    let each = columns ds n all in
    record {
      square =
          ap (λ front. length (flat_map row_entries front)) (sym (take_all (length ds) ds (omega arith)))
          ∙ rows_before ds n (length ds) each (omega arith) ∙ ap (λ m. m * n) rows;
      rows = λ i is_row j is_column.
          let lt : i < length ds = omega arith in
          let long : j < length (items_of (get_or ds i null)) = omega (arith, each i lt) in
          rw (entry_at ds n i j each lt is_column) (allowed i lt j long);
    }

-- what follows from two facts of an answered value
pub IfOk-both :
    {X Y : Type 0} (r : Result X Y) (P Q R : X → Type 0) → ((x : X) → P x → Q x → R x) → IfOk r P → IfOk r Q → IfOk r R
IfOk-both (Ok x) P Q R gives p q = gives x p q
IfOk-both (Err e) P Q R gives p q = tt
