-- A small machine to try the definitions on.
use Rattle.std.specs.Prelude.{ℕ, List, [], ◌∷◌}
use Rattle.std.specs.FinSet as set
use Rattle.cpu_set.specs.Ids.{Ids}
use Rattle.machine.specs.Layout.{Layout}

-- the set of these numbers
abbrev pub ids : List ℕ → Ids
ids numbers = set.from_list numbers

-- two nodes of four CPUs
abbrev pub two_nodes : List Ids
two_nodes = ids (0 ∷ 1 ∷ 4 ∷ 5 ∷ []) ∷ ids (2 ∷ 3 ∷ 6 ∷ 7 ∷ []) ∷ []

-- the CPUs 0 and 4 are a core, and so are 1 and 5, 2 and 6, and 3 and 7; the first of them is reserved
abbrev pub two_sockets : Layout
two_sockets = record {
  nodes = two_nodes;
  distances = 10 ∷ 21 ∷ 21 ∷ 10 ∷ [];
  reserved = ids (0 ∷ 4 ∷ []);
  online = ids (0 ∷ 1 ∷ 2 ∷ 3 ∷ 4 ∷ 5 ∷ 6 ∷ 7 ∷ []);
  lowest = 0 ∷ 1 ∷ 2 ∷ 3 ∷ 0 ∷ 1 ∷ 2 ∷ 3 ∷ [];
  threads = 2;
}
