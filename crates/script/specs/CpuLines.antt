-- The lines by which a CPU goes offline and comes online.
use Rattle.std.specs.Prelude.{◌≡◌, ℕ, ◌<◌, ◌^◌, List, ◌++◌, codes, decimal, Some}
use Rattle.script.specs.Commands as command
use Rattle.script.specs.Lines.{line_kept, words_of}
use Rattle.script.specs.Requests.{Wanted, asks, request_of}

-- the line by which a CPU goes offline
abbrev pub offline_line : ℕ → List ℕ
offline_line cpu = codes "offline " ++ decimal cpu

-- and the one by which it comes online
abbrev pub online_line : ℕ → List ℕ
online_line cpu = codes "online " ++ decimal cpu

-- a line is kept, and asks for this
abbrev pub IsRead : List ℕ → Wanted → Type 0
IsRead line wanted = (line_kept line ≡ Some line) × (request_of (words_of line) ≡ wanted)

-- these lines ask for that
pub record CpuLinesAreRead : Type 0 where
  pub offline : (cpu : ℕ) → cpu < 2 ^ 32 → IsRead (offline_line cpu) (asks (command.offline cpu))
  pub online : (cpu : ℕ) → cpu < 2 ^ 32 → IsRead (online_line cpu) (asks (command.online cpu))
