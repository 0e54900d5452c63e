use Rattle.std.proofs.Common.{refl}
use Rattle.cgroup_tree.proofs.mirror.Mirror.tell.Goals as goal

pub returns : goal.returns
returns g c = record {
  told = c.then-self.ensures;
  inner = refl;
  root = refl;
  memory = refl;
  partition = refl;
  files = refl;
  room = refl;
}
