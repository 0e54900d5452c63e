-- A set of CPUs as a word: a list as cpuset(7) writes it, which names one CPU at least.
use Rattle.std.specs.Prelude.{◌≢◌, List, ℕ}
use Rattle.std.specs.FinSet as set
use Rattle.cpu_set.specs.Ids.{Ids}
use Rattle.cpu_set.specs.declared.TheConstants.{CPU_LIMIT}
use Rattle.cpu_list.specs.ListText.{IsList, IsSetOf}

-- the word names the CPUs of this set, which isn't empty
pub record IsListWord (word : List ℕ) (cpus : Ids) : Type 0 where
  pub is_list : IsList CPU_LIMIT word
  pub names : IsSetOf word cpus
  pub some : cpus ≢ set.empty
