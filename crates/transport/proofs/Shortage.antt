-- Rows that are stuck are a shortage.
use Rattle.std.proofs.Common.{◌≡◌, ℕ, ◌+◌, ◌*◌, ◌≤◌, Bool, true, false, cond, Option, Some, None, refl, List, length, map, slice_get, sym, ap, ◌∙◌, subst, arith}
use Rattle.std.specs.FinSet as set
use Rattle.std.specs.Prelude.{is_some}
use Rattle.std.specs.List.{count_by}
use Rattle.twins.specs.ClassWeight.{class_weight}
use Rattle.std.proofs.lemmas.List.{get_or-map, length-map}
use Rattle.std.proofs.lemmas.Option.{get_or_from_slice_get, slice_get_within}
use Rattle.cpu_set.specs.Ids.{Ids}
use Rattle.certificate.specs.RowView.{RowView}
use Rattle.certificate.specs.IsShortage.{asked, IsShortage}
use Rattle.certificate.specs.Laws.{ShortageLeavesNoPlan}
use Rattle.twins.specs.IsGrouping.{class_at, IsGrouping}
use Rattle.twins.specs.IsClosed.{taken_size, IsClosed, ClosedRowsAreShort}
use Rattle.transport.specs.Numbers.{number, is_marked}
use Rattle.transport.specs.Totals.{total}
use Rattle.transport.specs.Outcomes.{demand_of, IsStuck}
use Rattle.transport.specs.Representatives.{first_of}
use Rattle.transport.specs.Places.{marked_places}
use Rattle.transport.specs.Solved.{is_sought, sought, IsSolvedShortage}
use Rattle.transport.proofs.Sums.{total_same, total_le}
use Rattle.transport.proofs.Totals.{total_of_range_0, places_counted, count_total}
use Rattle.transport.proofs.Members.{places_rise, places_below, places_pass, places_marked_all, any_of_all, asked_by_marks}
use Rattle.transport.proofs.Classes.{weighs_as_class, size_of_class}

pub demand_there : (rows : List RowView) (k : ℕ) (row : RowView) → slice_get rows k ≡ Some row → demand_of rows k ≡ row.demand
demand_there rows k row is =
    get_or-map (λ (r : RowView). r.demand) rows k row 0 (slice_get_within rows k row is)
    ∙ ap (λ (r : RowView). r.demand) (get_or_from_slice_get rows k row row is)

module _
    (rows : List RowView) (classes : List Ids) (reached taken : List Bool) (turns : ℕ) (grouping : IsGrouping rows classes)
    (stuck : IsStuck rows (map first_of classes) (map (λ s. set.len s) classes) reached taken turns) where
  sizes_long : length (map (λ (s : Ids). set.len s) classes) ≡ length classes
  sizes_long = length-map classes (λ (s : Ids). set.len s)

  taken_is : taken_size classes (is_marked taken) ≡ total (λ g. cond (is_marked taken g) (number (map (λ s. set.len s) classes) g) 0) (length (map (λ (s : Ids). set.len s) classes))
  taken_is =
      total_of_range_0 (λ g. cond (is_marked taken g) (set.len (class_at classes g)) 0) (length classes)
      ∙ total_same (λ g. cond (is_marked taken g) (set.len (class_at classes g)) 0) (λ g. cond (is_marked taken g) (number (map (λ s. set.len s) classes) g) 0) (length classes)
      (λ g lt. ap (λ n. cond (is_marked taken g) n 0) (sym (size_of_class rows classes grouping g lt)))
      ∙ ap (total (λ g. cond (is_marked taken g) (number (map (λ s. set.len s) classes) g) 0)) (sym sizes_long)

  pub closed : IsClosed rows classes (marked_places reached) (is_marked taken)
  closed = record {
    rising = places_rise reached;
    there = λ k d lt. (let h = places_below reached k d lt in omega (arith, h, stuck.reached_long));
    only = λ k g w here is. stuck.hall.only k g w (places_pass reached k here) (weighs_as_class rows classes grouping k g ∙ is);
    short =
        let asks = asked_by_marks rows reached (demand_of rows) (demand_there rows) stuck.reached_long in
        omega (arith, taken_is, asks, stuck.hall.short);
  }

  -- a class that a member has a weight for is taken up
  sought_taken : (g : ℕ) → is_sought rows classes (marked_places reached) g ≡ true → is_marked taken g ≡ true
  sought_taken g h =
      let one = any_of_all (λ k. is_marked reached k ≡ true) (λ k. is_some (class_weight rows classes k g)) (marked_places reached) (places_marked_all reached) h in
      by_weight one.0 one.1 (class_weight rows classes one.0 g) refl one.2
    where
      by_weight : (k : ℕ) → is_marked reached k ≡ true → (w : Option ℕ) → class_weight rows classes k g ≡ w → is_some w ≡ true → is_marked taken g ≡ true
      by_weight k on (Some w) is some = stuck.hall.only k g w on (weighs_as_class rows classes grouping k g ∙ is)
      by_weight k on None is some = absurd (grind arith)

  sought_one : (g : ℕ) → cond {A = ℕ} (is_sought rows classes (marked_places reached) g) 1 0 ≤ cond {A = ℕ} (is_marked taken g) 1 0
  sought_one g = by_test (is_sought rows classes (marked_places reached) g) refl
    where
      by_test : (b : Bool) → is_sought rows classes (marked_places reached) g ≡ b → cond {A = ℕ} b 1 0 ≤ cond {A = ℕ} (is_marked taken g) 1 0
      by_test true on = let e : cond {A = ℕ} (is_marked taken g) 1 0 ≡ 1 = ap (λ b. cond {A = ℕ} b 1 0) (sought_taken g on) in omega (arith, e)
      by_test false off = omega arith

  sought_few : sought rows classes (marked_places reached) ≤ count_by (λ b. b) taken
  sought_few =
      let le = total_le (λ g. cond {A = ℕ} (is_sought rows classes (marked_places reached) g) 1 0) (λ g. cond {A = ℕ} (is_marked taken g) 1 0) (length classes) (λ g lt. sought_one g) in
      let long : length taken ≡ length classes = stuck.taken_long ∙ sizes_long in
      let counted = count_total taken in
      let same = ap (total (λ g. cond {A = ℕ} (is_marked taken g) 1 0)) long in
      omega (arith, le, counted, same)

  pub solved_shortage :
      (members : List ℕ) → members ≡ marked_places reached → ClosedRowsAreShort → ShortageLeavesNoPlan → IsSolvedShortage rows members turns
  solved_shortage members its is_short leaves =
      let shortage : IsShortage rows (marked_places reached) = is_short rows classes (marked_places reached) (is_marked taken) grouping closed in
      rw its (record {
        shortage = shortage;
        none = leaves rows (marked_places reached) shortage;
        counted = record {
          classes = classes;
          grouping = grouping;
          at_least = λ k here. omega (arith, places_counted reached, sought_few, stuck.at_least k (places_pass reached k here));
          within = ap_long stuck.at_most;
        };
      })
    where
      ap_long : turns ≤ asked rows * (length rows + length (map (λ (s : Ids). set.len s) classes)) → turns ≤ asked rows * (length rows + length classes)
      ap_long h = subst (λ n. turns ≤ asked rows * (length rows + n)) sizes_long h
