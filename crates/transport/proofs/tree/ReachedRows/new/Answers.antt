use Rattle.std.proofs.Common.{◌≡◌, ℕ, inl, inr, false, List, replicate, ap, ◌∙◌, arith, length}
use Rattle.std.proofs.lemmas.Bool.{cases_lt}
use Rattle.std.proofs.lemmas.List.{get_or-replicate, get_or_past, length-replicate}
use Rattle.transport.specs.Numbers.{is_marked}
use Rattle.transport.proofs.tree.ReachedRows.new.Goals as goal

none_marked : (n k : ℕ) → is_marked (replicate n false) k ≡ false
none_marked n k = elim (cases_lt k n) [
  | inl lt ↦ get_or-replicate n k false false lt
  | inr past ↦ get_or_past (replicate n false) k false (omega (arith, length-replicate n false))
]

zeros : (xs : List ℕ) (n : ℕ) → xs ≡ replicate n 0 → length xs ≡ n
zeros xs n is = ap length is ∙ length-replicate n 0

pub returns : goal.returns
returns c =
    let marks = c.in_ok-reached.ensures.items_if_clones_equal (λ y e. e) in
    record {
      reached_long = ap length marks ∙ length-replicate c.args.rows false;
      parent_class_long = zeros _ _ (c.in_ok-parent_class.ensures.items_if_clones_equal (λ y e. e));
      bottleneck_long = zeros _ _ (c.in_ok-bottleneck.ensures.items_if_clones_equal (λ y e. e));
      index_long = zeros _ _ (c.in_ok-index.ensures.items_if_clones_equal (λ y e. e));
      none = λ k. ap (λ xs. is_marked xs k) marks ∙ none_marked c.args.rows k;
      order = c.new.ensures.items;
    }
