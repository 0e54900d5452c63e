use Rattle.cpuset_tree.specs.TreeLemmas.{first_is_well_formed, stays_well_formed, well_formed_runs_up, root_is_there, parent_is_there, no_parent_no_children, serial_is_given, two_below_root}
use Rattle.cpuset_tree.proofs.laws.well_formed.Goals as goal

pub returns : goal.returns
returns c = record {
  first = first_is_well_formed;
  stays = stays_well_formed;
  path = well_formed_runs_up;
  root = root_is_there;
  parents = parent_is_there;
  childless = no_parent_no_children;
  serial = serial_is_given;
  below = two_below_root;
}
