use Rattle.cpu_set.specs.Ranges.{in_ranges}
use Rattle.std.proofs.Common.{ap, get_or, refl, sym, take, ℕ, ◌&&◌, ◌+◌, ◌||◌, ◌∙◌}
use Rattle.std.proofs.lemmas.List.Folds.{list_any_more}
use Rattle.std.specs.Prelude.{nat_le}
use Rattle.twins.proofs.Ends.{off_before}
use Rattle.twins.proofs.edges.add_ends.Goals as goal

pub loop-range-init : goal.loop-range-init
loop-range-init c = record { kept = λ cpu here. here; told = λ cpu fits off. refl }

pub add_ends_of-requires : goal.add_ends_of-requires
add_ends_of-requires c = c.requires c.loop-range.range-index (0, 0) c.loop-range-test.true

pub loop-range-preserved : goal.loop-range-preserved
loop-range-preserved c = record {
  kept = λ cpu here. c.add_ends_of.ensures.kept cpu (c.loop-range.invariant.kept cpu here);
  told = λ cpu fits off.
      list_any_more (λ (p : ℕ × ℕ). nat_le p.0 cpu && nat_le cpu p.1) c.args.ranges.now c.loop-range.range-index (0, 0) c.loop-range-test.true
      ∙ ap (λ b. b || (nat_le (get_or c.args.ranges.now c.loop-range.range-index (0, 0)).0 cpu && nat_le cpu (get_or c.args.ranges.now c.loop-range.range-index (0, 0)).1))
      (c.loop-range.invariant.told cpu fits (off_before _ _ (c.add_ends_of.ensures.kept (cpu + 1)) off))
      ∙ ap (λ b. in_ranges (take c.loop-range.range-index c.args.ranges.now) (cpu + 1) || b) (c.add_ends_of.ensures.told cpu fits off)
      ∙ sym (list_any_more (λ (p : ℕ × ℕ). nat_le p.0 (cpu + 1) && nat_le (cpu + 1) p.1) c.args.ranges.now c.loop-range.range-index (0, 0) c.loop-range-test.true);
}
