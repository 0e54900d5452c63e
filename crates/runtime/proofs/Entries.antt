-- Bundles in memory, looked up one after another.
use Rattle.std.proofs.Common.{◌≡◌, ℕ, suc, ◌+◌, ◌<◌, true, false, cond, List, length, get_or, drop, drop-cons, map, Option, Some, Bor, ap, ◌∙◌, arith}
use Rattle.std.specs.Map.{lookup}
use Rattle.std.specs.Str.{bytes_eq}

abbrev pub entry_of : Bor (List ℕ) × Bor (List ℕ) → List ℕ × List ℕ
entry_of entry = (entry.0.now, entry.1.now)

-- what is found from the entry of this number on
abbrev pub found_from : List ℕ → List (Bor (List ℕ) × Bor (List ℕ)) → ℕ → Option (List ℕ)
found_from bundle entries i = lookup (bytes_eq bundle) (map entry_of (drop i entries))

found_at : (bundle : List ℕ) (entries : List (Bor (List ℕ) × Bor (List ℕ))) (i : ℕ) (d : Bor (List ℕ) × Bor (List ℕ)) → i < length entries
    → found_from bundle entries i ≡ cond (bytes_eq bundle (get_or entries i d).0.now) (Some (get_or entries i d).1.now) (found_from bundle entries (i + 1))
found_at bundle entries i d below =
    let next : suc i ≡ i + 1 = omega arith in
    ap (λ rest. lookup (bytes_eq bundle) (map entry_of rest)) (drop-cons entries i d below)
    ∙ ap (λ j. cond (bytes_eq bundle (get_or entries i d).0.now) (Some (get_or entries i d).1.now) (found_from bundle entries j)) next

pub found_here : (bundle : List ℕ) (entries : List (Bor (List ℕ) × Bor (List ℕ))) (i : ℕ) (d : Bor (List ℕ) × Bor (List ℕ)) → i < length entries
    → bytes_eq bundle (get_or entries i d).0.now ≡ true → found_from bundle entries i ≡ Some (get_or entries i d).1.now
found_here bundle entries i d below same =
    found_at bundle entries i d below ∙ ap (λ b. cond b (Some (get_or entries i d).1.now) (found_from bundle entries (i + 1))) same

pub found_later : (bundle : List ℕ) (entries : List (Bor (List ℕ) × Bor (List ℕ))) (i : ℕ) (d : Bor (List ℕ) × Bor (List ℕ)) → i < length entries
    → bytes_eq bundle (get_or entries i d).0.now ≡ false → found_from bundle entries i ≡ found_from bundle entries (i + 1)
found_later bundle entries i d below other =
    found_at bundle entries i d below ∙ ap (λ b. cond b (Some (get_or entries i d).1.now) (found_from bundle entries (i + 1))) other
