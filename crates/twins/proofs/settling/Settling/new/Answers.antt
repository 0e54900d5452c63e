use Rattle.twins.proofs.SettledCpus.{settling_start, none_once}
use Rattle.twins.proofs.settling.Settling.new.Goals as goal
use Rattle.twins.proofs.settling.Settling.new.Goals.{then-runs-count, else-runs-count}

pub returns : goal.returns
returns c = λ rows once. settling_start rows _ (elim c.if-runs-count.branch [
  | then-runs-count w ↦ rw w.once-is (none_once rows _ w.empty-once.ensures)
  | else-runs-count w ↦ rw w.once-is once
]) c.empty.ensures c.empty-2.ensures
