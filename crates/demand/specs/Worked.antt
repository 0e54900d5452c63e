-- A small machine to try the definitions on, and what a config's CPU section may say.
use Rattle.std.specs.Prelude.{ℕ, ℤ, List, [], ◌∷◌, Some, None}
use Rattle.std.specs.FinSet as set
use Rattle.config_json.specs.SectionOf.{Section}
use Rattle.machine.specs.Layout.{Layout}

-- two nodes of two CPUs, 10 and 21 apart; CPU 0 is reserved, and each CPU is a core of its own
abbrev pub two_nodes : Layout
two_nodes = record {
  nodes = set.from_list (0 ∷ 1 ∷ []) ∷ set.from_list (2 ∷ 3 ∷ []) ∷ [];
  distances = 10 ∷ 21 ∷ 21 ∷ 10 ∷ [];
  reserved = set.from_list (0 ∷ []);
  online = set.from_list (0 ∷ 1 ∷ 2 ∷ 3 ∷ []);
  lowest = [];
  threads = 1;
}

-- a section with this quota alone, with these CPUs, and with these memory nodes
abbrev pub with_quota : ℤ → Section
with_quota quota = record { quota = Some quota; period = None; cpus = None; mems = None }

abbrev pub with_cpus : List ℕ → Section
with_cpus cpus = record { quota = None; period = None; cpus = Some cpus; mems = None }

abbrev pub with_mems : List ℕ → Section
with_mems mems = record { quota = None; period = None; cpus = None; mems = Some mems }
