-- How a kernel of which nothing was asked yet began, by what it has.
use Rattle.std.proofs.Common.{ℕ, refl, sym, ap, ◌∙◌}
use Rattle.cpu_set.specs.Ids.{Ids}
use Rattle.cpuset_tree.specs.TreeState.{TreeState}
use Rattle.cpuset_tree.specs.TreeChanges.{first_tree}
use Rattle.proctable.specs.TableState.{TableState}
use Rattle.proctable.specs.TableChanges.{first_table as table_at}
use Rattle.kernel_model.specs.KernelState.{KernelState, IsFirstKernel}
use Rattle.cgroup_tree.specs.Site.{Beginning, Begins}

-- what it has, as the beginning of a run
abbrev pub beginning_of : KernelState → Beginning
beginning_of k = record { present = k.present; reserved = k.reserved; online = k.tree.online; nodes = k.tree.nodes; first_pid = k.table.next_pid }

pub begins : (present reserved online nodes : Ids) (first_pid : ℕ) (k : KernelState) → IsFirstKernel present reserved online nodes first_pid k → Begins (beginning_of k) k
begins present reserved online nodes first_pid k first = record {
  first_tree = record {
    root = first.first_tree.root;
    serial = first.first_tree.serial;
    is = first.first_tree.is ∙ sym (ap (λ (t : TreeState). first_tree first.first_tree.root t.online t.nodes) first.first_tree.is);
  };
  first_table = first.first_table ∙ sym (ap (λ (t : TableState). table_at t.next_pid) first.first_table);
  all_present = refl;
  some_reserved = refl;
  none_failed = first.none_failed;
  none_written = first.none_written;
}
