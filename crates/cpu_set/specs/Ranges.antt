-- The numbers of a set as rising ranges, as long as possible.
use Rattle.std.specs.Prelude.{ℕ, ◌+◌, ◌≤◌, Bool, ◌&&◌, ◌==◌, nat_le, if◌then◌else◌, List, [], ◌∷◌}
use Rattle.std.specs.List.{list_any}

-- n and the ranges above it: in the first of them, where it touches that
abbrev pub with_number : ℕ → List (ℕ × ℕ) → List (ℕ × ℕ)
with_number n [] = (n, n) ∷ []
with_number n (r ∷ more) = if r.0 == n + 1 then (n, r.1) ∷ more else (n, n) ∷ r ∷ more

-- rising numbers as ranges, each as long as possible
abbrev pub ranges_of : List ℕ → List (ℕ × ℕ)
ranges_of [] = []
ranges_of (n ∷ more) = with_number n (ranges_of more)

-- rising ranges from a number on, none of which touches or overlaps the next
abbrev pub AreRuns : ℕ → List (ℕ × ℕ) → Type 0
AreRuns from [] = Unit {0}
AreRuns from (r ∷ more) = (from ≤ r.0) × (r.0 ≤ r.1) × AreRuns (r.1 + 2) more

-- n is a number of one of the ranges
abbrev pub in_ranges : List (ℕ × ℕ) → ℕ → Bool
in_ranges ranges n = list_any (λ r. nat_le r.0 n && nat_le n r.1) ranges
