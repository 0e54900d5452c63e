-- A text that grows by a separator and an item.
use Rattle.std.proofs.Common.{◌≡◌, ℕ, List, ◌++◌, sym, ap, ◌∙◌, append_assoc}

pub printed_more : (all was between now left separator item rest : List ℕ) → all ≡ was ++ left → left ≡ (separator ++ item) ++ rest
    → between ≡ was ++ separator → now ≡ between ++ item → all ≡ now ++ rest
printed_more all was between now left separator item rest so_far e first second =
    so_far ∙ ap (λ t. was ++ t) (e ∙ append_assoc separator item rest)
    ∙ sym (append_assoc was separator (item ++ rest))
    ∙ ap (λ t. t ++ (item ++ rest)) (sym first)
    ∙ sym (append_assoc between item rest)
    ∙ ap (λ t. t ++ rest) (sym second)
