-- From: the order is ours.
use Rattle.std.specs.Prelude.{ℕ, List, [], ◌∷◌, Option}
use Rattle.faults.specs.First.{first_of}
use Rattle.slit.specs.declared.fault.SlitFault.{SlitFault}
use Rattle.slit.specs.HeaderFault.{header_fault}
use Rattle.slit.specs.EntriesFault.{entries_fault}
use Rattle.slit.specs.Describes.{table_of}

-- the first fault of the bytes
abbrev pub slit_fault : List ℕ → Option SlitFault
slit_fault bytes = first_of (header_fault bytes ∷ entries_fault (table_of bytes) ∷ [])
