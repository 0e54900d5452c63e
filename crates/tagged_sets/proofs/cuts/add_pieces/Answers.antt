use Rattle.cpu_set.specs.Ids.{Ids}
use Rattle.cpu_set.specs.RangesFrom.{ranges_from}
use Rattle.std.proofs.Common.{List, ap, arith, drop, false, get_or, length, subst, sym, take, true, ℕ, ◌++◌, ◌+◌, ◌-◌, ◌<◌, ◌==◌, ◌∙◌, ◌≡◌, ◌≤◌}
use Rattle.std.proofs.lemmas.Bool.{eqb-false, eqb-true}
use Rattle.std.proofs.lemmas.List.{take_all}
use Rattle.std.specs.FinSet as set
use Rattle.tagged_sets.proofs.Pieces.{IsAt, IsRun-later, after_all, after_gone, after_whole, all_left, all_of, at_place, past-behind, past-first, past-later, rest_first, rest_is, rest_length, there_behind, there_more}
use Rattle.tagged_sets.specs.CutOut.{IsRun}
use Rattle.tagged_sets.specs.Tagged.{IsOfSet, set_of_ranges}
use Rattle.tagged_sets.proofs.cuts.add_pieces.Goals as goal

pub loop-rest-init : goal.loop-rest-init
loop-rest-init c =
    let t : Ids = set.difference (set_of_ranges c.args.more.now) c.args.without.now in
    record {
      place = omega arith;
      run = rw past-first c.run_from-run.ensures.run;
      there = take_all _ _ (omega arith);
      added = ap (λ n. c.args.ranges.now.items ++ ranges_from t n) (past-first c.args.more.now) ∙ ap (λ rs. c.args.ranges.now.items ++ rs) (all_of t);
    }

-- where the rest begins
place_of : (more : List (ℕ × ℕ)) (at k : ℕ) → at ≤ length more → k ≤ length (take (length more - at) (drop at more)) → at + k ≤ length more
place_of more at k place within = omega (arith, rest_length more at)

at_end : (more : List (ℕ × ℕ)) (at : ℕ) → at ≤ length more → true ≡ (length (take (length more - at) (drop at more)) == 0) → at ≡ length more
at_end more at place none = omega (arith, eqb-true (length (take (length more - at) (drop at more))) 0 (sym none), rest_length more at)

before_end : (more : List (ℕ × ℕ)) (at : ℕ) → at ≤ length more → false ≡ (length (take (length more - at) (drop at more)) == 0) → at < length more
before_end more at place some = omega (arith, eqb-false (length (take (length more - at) (drop at more))) 0 (sym some), rest_length more at)

-- the first range of the rest
first_at :
    (more : List (ℕ × ℕ)) (s : Ids) (at k : ℕ) → IsOfSet more → at ≤ length more → k ≤ length (take (length more - at) (drop at more))
    → false ≡ (length (take (length more - (at + k)) (drop (at + k) more)) == 0)
    → IsAt (set.difference (set_of_ranges more) s) s more (at + k) (get_or (take (length more - (at + k)) (drop (at + k) more)) 0 (0, 0))
first_at more s at k of place within some =
    at_place _ _ more (at + k) _ (0, 0) (all_left more s of) (before_end more (at + k) (place_of more at k place within) some) (rest_first more (at + k) (0, 0))

pub returns-then-is_empty-clause-ok : goal.returns-then-is_empty-clause-ok
returns-then-is_empty-clause-ok c =
    let more = c.args.more.now in
    let at = c.loop-rest.at in
    let k = c.count_gone-at.result in
    let left = all_left more c.args.without.now c.requires in
    after_all _ _ more (at + k) _ _ left (at_end more (at + k) (place_of more at k c.loop-rest.invariant.place c.count_gone-at.ensures.within) c.if-is_empty.ensures)
    (after_gone _ _ more _ at k _ _ (rest_is more at) left c.count_gone-at.ensures.gone c.loop-rest.invariant.added)

pub run_at-run-requires-clause-run : goal.run_at-run-requires-clause-run
run_at-run-requires-clause-run c =
    let more = c.args.more.now in
    let left = all_left more c.args.without.now c.requires in
    let here = first_at more c.args.without.now c.loop-rest.at c.count_gone-at.result c.requires c.loop-rest.invariant.place c.count_gone-at.ensures.within c.if-is_empty.ensures in
    IsRun-later _ _ _ _ _ (omega (arith, past-later _ _ more c.loop-rest.at c.count_gone-at.result left, here.before)) c.loop-rest.invariant.run

pub run_at-run-requires-clause-rising : goal.run_at-run-requires-clause-rising
run_at-run-requires-clause-rising c =
    (first_at c.args.more.now c.args.without.now c.loop-rest.at c.count_gone-at.result c.requires c.loop-rest.invariant.place c.count_gone-at.ensures.within c.if-is_empty.ensures).rising

pub run_at-run-requires-clause-below : goal.run_at-run-requires-clause-below
run_at-run-requires-clause-below c =
    (first_at c.args.more.now c.args.without.now c.loop-rest.at c.count_gone-at.result c.requires c.loop-rest.invariant.place c.count_gone-at.ensures.within c.if-is_empty.ensures).below

pub loop-rest-preserved-then-whole-gt0 : goal.loop-rest-preserved-then-whole-gt0
loop-rest-preserved-then-whole-gt0 c =
    let more = c.args.more.now in
    let at = c.loop-rest.at in
    let k = c.count_gone-at.result in
    let left = all_left more c.args.without.now c.requires in
    let place : at + k ≤ length more = place_of more at k c.loop-rest.invariant.place c.count_gone-at.ensures.within in
    let here = first_at more c.args.without.now at k c.requires c.loop-rest.invariant.place c.count_gone-at.ensures.within c.if-is_empty.ensures in
    record {
      place = place_of more (at + k) c.count_below-whole.result place c.count_below-whole.ensures.within;
      run = IsRun-later _ _ _ _ _ (past-behind _ _ more (at + k) c.count_below-whole.result _ left here c.if-whole-gt0.true) c.run_at-run.ensures.run;
      there = rw c.in_ok-extend_from_slice.ensures.items (there_behind _ _ _ c.loop-rest.invariant.there);
      added = after_whole _ _ more _ (at + k) c.count_below-whole.result _ _ _ (0, 0) _ _ _ (rest_is more (at + k)) left (before_end more (at + k) place c.if-is_empty.ensures)
          (rest_first more (at + k) (0, 0)) c.if-whole-gt0.true c.count_below-whole.ensures.within c.run_at-run.ensures.run c.count_below-whole.ensures.below
          (after_gone _ _ more _ at k _ _ (rest_is more at) left c.count_gone-at.ensures.gone c.loop-rest.invariant.added) c.in_ok-extend_from_slice.ensures.items;
    }

pub add_cut-requires-clause-below : goal.add_cut-requires-clause-below
add_cut-requires-clause-below c =
    (first_at c.args.more.now c.args.without.now c.loop-rest.at c.count_gone-at.result c.requires c.loop-rest.invariant.place c.count_gone-at.ensures.within c.if-is_empty.ensures).below

pub add_cut-requires-clause-rising : goal.add_cut-requires-clause-rising
add_cut-requires-clause-rising c =
    (first_at c.args.more.now c.args.without.now c.loop-rest.at c.count_gone-at.result c.requires c.loop-rest.invariant.place c.count_gone-at.ensures.within c.if-is_empty.ensures).rising

pub loop-rest-preserved : goal.loop-rest-preserved
loop-rest-preserved c =
    let more = c.args.more.now in
    let at = c.loop-rest.at in
    let k = c.count_gone-at.result in
    let t : Ids = set.difference (set_of_ranges more) c.args.without.now in
    let left = all_left more c.args.without.now c.requires in
    let place : at + k ≤ length more = place_of more at k c.loop-rest.invariant.place c.count_gone-at.ensures.within in
    let here = first_at more c.args.without.now at k c.requires c.loop-rest.invariant.place c.count_gone-at.ensures.within c.if-is_empty.ensures in
    let lt : at + k < length more = before_end more (at + k) place c.if-is_empty.ensures in
    record {
      place = omega (arith, lt);
      run = subst (λ n. IsRun c.args.without.now n c.add_cut.new.run.first c.add_cut.new.run.end) (sym here.next) c.in_ok-add_cut.ensures.run;
      there = there_more _ _ _ c.loop-rest.invariant.there c.add_cut.ensures.there;
      added = ap (λ n. c.add_cut.new.ranges.items ++ ranges_from t n) here.next ∙ c.in_ok-add_cut.ensures.ok t here.cut
          ∙ ap (λ rs. c.loop-rest.ranges.items ++ rs) (sym here.from)
          ∙ after_gone _ _ more _ at k _ _ (rest_is more at) left c.count_gone-at.ensures.gone c.loop-rest.invariant.added;
    }
