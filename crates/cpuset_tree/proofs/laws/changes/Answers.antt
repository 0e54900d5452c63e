use Rattle.cpuset_tree.specs.TreeLemmas.{entry_of-with_cpus, entry_of-with_mems, writes_request, writes_leave_places, added_leaves, removed_leaves, found_is_child, serials_given_once}
use Rattle.cpuset_tree.proofs.laws.changes.Goals as goal

pub returns : goal.returns
returns c = record {
  cpus = entry_of-with_cpus;
  mems = entry_of-with_mems;
  requests = writes_request;
  places = writes_leave_places;
  added = added_leaves;
  removed = removed_leaves;
  found = found_is_child;
  serials = serials_given_once;
}
