use Rattle.kernel_model.specs.KernelLemmas.{events_keep_groups, writes_keep_processes, writes_keep_tree, writes_leave_groups, calls_leave_processes, writes_count, tells_each_write, counts_each_write}
use Rattle.kernel_model.proofs.laws.cases.Goals as goal

pub returns : goal.returns
returns c = record {
  events = events_keep_groups;
  writes = writes_keep_processes;
  tree = writes_keep_tree;
  groups = writes_leave_groups;
  processes = calls_leave_processes;
  count = writes_count;
  told = tells_each_write;
  each = counts_each_write;
}
